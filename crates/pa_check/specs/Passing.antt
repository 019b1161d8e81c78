-- Windows by one pass with an open window.
use Rattle.std.specs.Prelude.{◌≡◌, ◌≤◌, drop, length, min, slice_get, ℕ, suc, Bool, true, false, not, ◌&&◌, ◌||◌, if◌then◌else◌, List, [], ◌∷◌, Option, Some, None}
use Rattle.pa_a64.specs.declared.instr.Instr.{Instr}
use Rattle.pa_a64.specs.declared.instr.Instr.TheVariants as i
use Rattle.pa_check.specs.declared.word.Word.{Word}
use Rattle.pa_check.specs.declared.window.Window.{Window}
use Rattle.std.specs.Option.{option_map_or}
use Rattle.pa_object.specs.declared.object.Mark.{Mark}
use Rattle.pa_image.specs.declared.image.Image.{Image}
use Rattle.pa_check.specs.declared.rule.CheckRule.{CheckRule}
use Rattle.pa_check.specs.Text.{Text, text_of, word_at, behind}
use Rattle.pa_check.specs.Rules.{function_rule}
use Rattle.pa_check.specs.Windows.{is_zero, is_last_of, is_over, all_spots, Spot, spot, begun, opened_at}

-- the window goes on behind this word
abbrev pub goes_on : Option Window → Option Instr → Bool
goes_on None instr = false
goes_on (Some window) instr = is_zero window.behind || not (is_last_of window.opening window.behind instr)

abbrev pub farther : Option Window → Option Window
farther None = None
farther (Some window) = Some (record { opening = window.opening; behind = suc window.behind })

-- the window that is open before the next word
abbrev pub window_behind : Option Window → Option Instr → List Word → Option Window
window_behind window instr words = if goes_on window instr && not (is_over words) then farther window else None

-- the window round a word, where one may be open before it
abbrev pub window_round : Text → (k : ℕ) → Option Window → Word → List Word → Option Window
window_round text k (Some window) word words = Some window
window_round text k None word words = begun (opened_at text k word words)

unfoldable pub passed : Text → (k first : ℕ) → Option Window → List Word → List Spot
passed text k first current [] = []
passed text k first current (word ∷ words) =
    let here = window_round text k current word words in
    spot word k words (if word.marked then k else first) here
    ∷ passed text (suc k) (if word.marked then k else first) (window_behind here word.instr words) words

-- a word of a function that begins with word `first`, with this window round it
abbrev pub spot_at : Text → (k first : ℕ) → Option Window → Spot
spot_at text k first window = spot (word_at text k) k (behind text k) first window

-- the window round a word of a text
abbrev pub round_at : Text → (k : ℕ) → Option Window → Option Window
round_at text k current = window_round text k current (word_at text k) (behind text k)

-- the window that is open behind a word of a text
abbrev pub open_behind : Text → (k : ℕ) → Option Window → Option Window
open_behind text k here = window_behind here (word_at text k).instr (behind text k)

-- the pass has come to word k of a function that begins with word `first`, and this window is open
abbrev pub IsPassed : Text → (k first : ℕ) → Option Window → Type 0
IsPassed text k first current = passed text k first current (drop k text.words) ≡ drop k (all_spots text)

-- no window is open before word `at` of a function that begins with word `first`
pub record IsSettled (text : Text) (first at : ℕ) : Type 0 where
  pub from : first ≤ at
  pub passed : IsPassed text at first None

-- computes, loads or stores: such a word opens no window, and breaks no rule where
-- none is open and it is neither the first nor the last of its function
abbrev pub is_plain : Option Instr → Bool
is_plain (Some (i.MoveWide op rd imm hw)) = true
is_plain (Some (i.SumImmediate op rd rn imm shifted)) = true
is_plain (Some (i.SubsImmediate rd rn imm shifted)) = true
is_plain (Some (i.Sum op rd rn rm)) = true
is_plain (Some (i.Logical op rd rn rm)) = true
is_plain (Some (i.MultiplyAdd op rd rn rm ra)) = true
is_plain (Some (i.Divide op rd rn rm)) = true
is_plain (Some (i.Shift op rd rn rm)) = true
is_plain (Some (i.Bitfield op rd rn immr imms)) = true
is_plain (Some (i.Csinc rd rn rm condition)) = true
is_plain (Some i.Nop) = true
is_plain (Some (i.LoadStore op rt rn imm)) = true
is_plain (Some (i.LoadStoreWord op rt rn imm)) = true
is_plain (Some (i.LoadStoreHalf op rt rn imm)) = true
is_plain (Some (i.LoadStoreByte op rt rn imm)) = true
is_plain (Some (i.LoadStoreUnscaled op rt rn imm)) = true
is_plain (Some (i.LoadStorePair op rt rt2 rn imm)) = true
is_plain other = false

-- the rule that a word of a function breaks with this window round it
abbrev pub rule_at : Text → (k first : ℕ) → Option Window → Option CheckRule
rule_at text k first window = function_rule text (all_spots text) k (spot_at text k first window)

-- word k of a function, with this window open before it, breaks no rule, and none is open before it and behind it
pub record IsInert (text : Text) (k first : ℕ) (current : Option Window) : Type 0 where
  pub closed : current ≡ None
  pub rule : rule_at text k first (round_at text k current) ≡ None
  pub behind : open_behind text k (round_at text k current) ≡ None

-- where the function of this number begins, or the text ends
abbrev pub function_start : List Mark → (len : ℕ) → (i : ℕ) → ℕ
function_start marks len i = option_map_or (λ mark. mark.at) (slice_get marks i) len

-- the same of an image
abbrev pub start_in : Image → (i : ℕ) → ℕ
start_in image i = function_start image.marks (length image.text) i

-- how many words there are to be before the first function
abbrev pub start_words : Image → ℕ
start_words image = min (text_of image).start (length image.text)
