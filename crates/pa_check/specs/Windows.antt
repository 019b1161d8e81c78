-- Windows: the runs of words in which x16 holds a code pointer that is not signed.
use Rattle.std.specs.Prelude.{ℕ, zero, suc, Bool, true, false, not, ◌&&◌, ◌||◌, ◌==◌, nat_le, nat_lt, if◌then◌else◌, List, [], ◌∷◌, Option, Some, None}
use Rattle.pa_num.specs.Arithmetic.{add64}
use Rattle.pa_a64.specs.declared.instr.Instr.{Instr}
use Rattle.pa_a64.specs.declared.instr.Instr.TheVariants as i
use Rattle.pa_a64.specs.declared.instr.SumImmediateOp.TheVariants as immediate
use Rattle.pa_a64.specs.declared.instr.AuthenticateOp.TheVariants.{Autia}
use Rattle.pa_a64.specs.declared.instr.PlainOp.TheVariants.{Autiza}
use Rattle.pa_object.specs.Effects.{immediate_of}
use Rattle.pa_check.specs.declared.word.Word.{Word}
use Rattle.pa_check.specs.declared.window.Opening.{Opening}
use Rattle.pa_check.specs.declared.window.Opening.TheVariants.{Taken, Made}
use Rattle.pa_check.specs.declared.window.Window.{Window}
use Rattle.pa_check.specs.Rows.{is_pair, closes, may_stand}
use Rattle.pa_check.specs.Text.{Text, place, is_entry, page}

-- ---- how a window opens

-- by the word behind an ADRP of x16 that gives this page: an ADD whose sum is a function's first word
abbrev pub made_by : Text → ℕ → Option Instr → Option Opening
made_by text from (Some (i.SumImmediate immediate.Add rd rn imm shifted)) =
    if rd == 16 && (rn == 16 && is_entry text (add64 from (immediate_of imm shifted))) then Some (Made from) else None
made_by text from other = None

-- by a word at this place, and the word behind it in its function
abbrev pub opened_by : Text → (at : ℕ) → Option Instr → Option Instr → Option Opening
opened_by text at (Some (i.Authenticate Autia rd rn)) next = if is_pair rd rn then Some Taken else None
opened_by text at (Some (i.Plain Autiza rd)) next = if rd == 16 then Some Taken else None
opened_by text at (Some (i.Adrp rd pages)) next = if rd == 16 then made_by text (page at pages) next else None
opened_by text at other next = None

-- how many words open it
abbrev pub opening_words : Opening → ℕ
opening_words Taken = 1
opening_words (Made from) = 2

-- ---- how far it reaches

abbrev pub is_zero : ℕ → Bool
is_zero zero = true
is_zero (suc n) = false

-- the word so many behind the first is the ninth, or neither closes the window nor may stand in it
abbrev pub breaks_window : Opening → (behind : ℕ) → Option Instr → Bool
breaks_window opening behind instr =
    nat_le (opening_words opening) behind && (nat_le 8 behind || (not (closes instr) && not (may_stand instr)))

-- it is the last: it closes the window or breaks it
abbrev pub is_last_of : Opening → (behind : ℕ) → Option Instr → Bool
is_last_of opening behind instr =
    nat_le (opening_words opening) behind && (nat_le 8 behind || (closes instr || not (may_stand instr)))

-- no word of this function follows
abbrev pub is_over : List Word → Bool
is_over [] = true
is_over (word ∷ words) = word.marked

abbrev pub next_in : List Word → Option Instr
next_in [] = None
next_in (word ∷ words) = if word.marked then None else word.instr

-- how many words a window has from here on, so many behind its first word
unfoldable pub reach : Opening → (behind : ℕ) → List Word → ℕ
reach opening behind [] = 0
reach opening behind (word ∷ words) =
    if word.marked then 0
    else (if is_last_of opening behind word.instr then 1 else suc (reach opening (suc behind) words))

-- ---- words with the windows round them

-- where a function ends whose words go on from number k: before the next mark, or with the text
abbrev pub end_from : (k : ℕ) → List Word → ℕ
end_from k [] = k
end_from k (word ∷ words) = if word.marked then k else end_from (suc k) words

pub record Spot : Type 0 where
  pub marked : Bool
  pub instr : Option Instr
  -- the next word of its function
  pub next : Option Instr
  pub is_last : Bool
  -- the numbers of its function's first word and of the first word behind it
  pub first : ℕ
  pub end : ℕ
  pub window : Option Window

abbrev pub spot : Word → (k : ℕ) → List Word → (first : ℕ) → Option Window → Spot
spot word k words first window = record {
  marked = word.marked;
  instr = word.instr;
  next = next_in words;
  is_last = is_over words;
  first = first;
  end = end_from (suc k) words;
  window = window;
}

-- a window at its first word
abbrev pub begun : Option Opening → Option Window
begun None = None
begun (Some opening) = Some (record { opening = opening; behind = 0 })

-- its words behind the first
abbrev pub reach_of : Option Opening → List Word → ℕ
reach_of None words = 0
reach_of (Some opening) words = reach opening 1 words

abbrev pub opening_or : Opening → Option Opening → Opening
opening_or before None = before
opening_or before (Some opening) = opening

-- what word k opens where no window is open; nothing does before the first function
abbrev pub opened_at : Text → (k : ℕ) → Word → List Word → Option Opening
opened_at text k word words =
    if nat_lt k text.start then None else opened_by text (place k) word.instr (next_in words)

-- the words from number k on, where `left` more are in an open window
unfoldable pub spots : Text → (k first : ℕ) → Opening → (behind left : ℕ) → List Word → List Spot
spots text k first opening behind left [] = []
spots text k first opening behind (suc left) (word ∷ words) =
    spot word k words (if word.marked then k else first) (Some (record { opening = opening; behind = behind }))
    ∷ spots text (suc k) (if word.marked then k else first) opening (suc behind) left words
spots text k first opening behind zero (word ∷ words) =
    let opens = opened_at text k word words in
    spot word k words (if word.marked then k else first) (begun opens)
    ∷ spots text (suc k) (if word.marked then k else first) (opening_or opening opens) 1 (reach_of opens words) words

abbrev pub all_spots : Text → List Spot
all_spots text = spots text 0 0 Taken 0 0 text.words
