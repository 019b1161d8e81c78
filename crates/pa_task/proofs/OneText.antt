-- A text that is told: what was read is this text, and what stops its reading follows from it where no reading fails.
use Rattle.std.proofs.Common.{◌≡◌, ℕ, ◌<◌, ◌≤◌, List, length, ◌⊎◌, inl, inr, refl, sym, subst, ap, ◌∙◌, arith}
use Rattle.pa_io.specs.Outside.{Told, Holds, IsFile, IsLonger, Rose, ShelfSeen}
use Rattle.pa_script.specs.Rules.{Says}
use Rattle.pa_object.specs.declared.script.Item.{Item}
use Rattle.pa_script.proofs.Settled.{settled}
use Rattle.pa_straight.specs.declared.source.Straight.{Straight}
use Rattle.pa_straight.specs.Source.{IsTextOf}
use Rattle.pa_task.specs.declared.exit.Exit.{Exit}
use Rattle.pa_task.specs.declared.exit.Exit.TheVariants.{Refused, ReadFault, Memory}
use Rattle.pa_task.specs.declared.exit.Refusal.{Refusal}
use Rattle.pa_task.specs.Refusals.{most_bytes, too_long, bad_line}
use Rattle.pa_task.specs.Reading.{Text, Shelf, FileRead, FileStops, TextStops, IsOtherForm, IsNoScript}
use Rattle.pa_task.specs.Texts.{HasText, TextRefused, IsUnlessMemory}

-- ---- a file

pub text_is : (told : Shelf) (name : Text) (before now : ShelfSeen) (text other : Text) → FileRead told name before now text
    → told name ≡ Holds other → text ≡ other
text_is told name before now text other read holds = subst (λ (t : Told). IsFile t text) holds read.is_file

pub faults_kept : (told : Shelf) (name : Text) (before now : ShelfSeen) (text : Text) → FileRead told name before now text
    → now.faults ≡ before.faults
faults_kept told name before now text read = ap (λ (s : ShelfSeen). s.faults) read.seen

-- it isn't read only where it is too long, or out of memory
pub file_stops : (told : Shelf) (number : ℕ) (name : Text) (before now : ShelfSeen) (answer : Exit) (text : Text)
    → FileStops told number name before now answer → told name ≡ Holds text → ¬ Rose before.faults now.faults → (P : Type 0)
    → (answer ≡ Memory → P) → (most_bytes < length text → answer ≡ Refused (too_long number) → P) → P
file_stops told number name before now (ReadFault file) text stops holds calm P memory long = absurd (calm stops.1.rose)
file_stops told number name before now (Refused refusal) text stops holds calm P memory long =
    long (subst (λ (t : Told). IsLonger t most_bytes) holds stops.1) (ap Refused stops.0)
file_stops told number name before now Memory text stops holds calm P memory long = memory refl
file_stops told number name before now answer text stops holds calm P memory long = absurd stops

-- ---- its text

pub text_stops : (told : Shelf) (number : ℕ) (name : Text) (before now : ShelfSeen) (Stops : Text → Exit → Type 0) (answer : Exit) (text : Text)
    → TextStops told number name before now Stops answer → told name ≡ Holds text → ¬ Rose before.faults now.faults → (P : Type 0)
    → (answer ≡ Memory → P) → (most_bytes < length text → answer ≡ Refused (too_long number) → P)
    → (length text ≤ most_bytes → Stops text answer → P) → P
text_stops told number name before now Stops answer text (inl stops) holds calm P memory long other =
    file_stops told number name before now answer text stops holds calm P memory long
text_stops told number name before now Stops answer text (inr read) holds calm P memory long other =
    let same = text_is told name before now read.0 text read.1 holds in
    other (subst (λ (t : Text). length t ≤ most_bytes) same read.1.within) (subst (λ (t : Text). Stops t answer) same read.2)

-- it has a text that passes
pub passes : (told : Shelf) (number : ℕ) (name : Text) (before now : ShelfSeen) (Stops : Text → Exit → Type 0) (answer : Exit) (text : Text)
    → TextStops told number name before now Stops answer → HasText told name text → ¬ Rose before.faults now.faults
    → (Stops text answer → answer ≡ Memory) → answer ≡ Memory
passes told number name before now Stops answer text stops has calm only =
    text_stops told number name before now Stops answer text stops has.holds calm (answer ≡ Memory) (λ m. m)
    (λ long _. absurd (omega (arith, long, has.within))) (λ _ s. only s)

-- it has a text that doesn't
pub refused : (told : Shelf) (number : ℕ) (name : Text) (before now : ShelfSeen) (Stops : Text → Exit → Type 0) (answer : Exit) (refusal : Refusal)
    → TextStops told number name before now Stops answer → TextRefused told number name Stops refusal → ¬ Rose before.faults now.faults
    → ((t : Text) → Stops t answer → Stops t (Refused refusal) → IsUnlessMemory (Refused refusal) answer)
    → IsUnlessMemory (Refused refusal) answer
refused told number name before now Stops answer refusal stops (text, holds, inl why) calm one =
    text_stops told number name before now Stops answer text stops holds calm (IsUnlessMemory (Refused refusal) answer) (λ m. inr m)
    (λ long is. inl (is ∙ ap Refused (sym why.1))) (λ short _. absurd (omega (arith, short, why.0)))
refused told number name before now Stops answer refusal stops (text, holds, inr why) calm one =
    text_stops told number name before now Stops answer text stops holds calm (IsUnlessMemory (Refused refusal) answer) (λ m. inr m)
    (λ long _. absurd (omega (arith, long, why.0))) (λ _ s. one text s why.1)

pub not_refused : (told : Shelf) (number : ℕ) (name : Text) (before now : ShelfSeen) (Stops : Text → Exit → Type 0) (refusal : Refusal) (text : Text)
    → FileRead told name before now text → TextRefused told number name Stops refusal → (Stops text (Refused refusal) → ⊥) → ⊥
not_refused told number name before now Stops refusal text read (other, holds, inl why) none =
    let same = text_is told name before now text other read holds in
    let within : length other ≤ most_bytes = subst (λ (t : Text). length t ≤ most_bytes) same read.within in
    omega (arith, within, why.0)
not_refused told number name before now Stops refusal text read (other, holds, inr why) none =
    let same = text_is told name before now text other read holds in
    none (subst (λ (t : Text). Stops t (Refused refusal)) (sym same) why.1)

-- ---- programs

pub program_form : (text : Text) (program : Straight) (answer : Exit) → IsTextOf text program → IsOtherForm text answer → answer ≡ Memory
program_form text program (Refused refusal) spells other = absurd (other.1 program spells.source spells.spelled)
program_form text program Memory spells other = refl
program_form text program answer spells other = absurd other

pub one_form : (text : Text) (refusal : Refusal) (answer : Exit) → IsOtherForm text answer → IsOtherForm text (Refused refusal)
    → IsUnlessMemory (Refused refusal) answer
one_form text refusal (Refused other) is due = inl (ap Refused (is.0 ∙ sym due.0))
one_form text refusal Memory is due = inr refl
one_form text refusal answer is due = absurd is

-- ---- scripts

pub script_form : (text : Text) (items : List Item) (answer : Exit) → Says text items → IsNoScript text answer → answer ≡ Memory
script_form text items (Refused refusal) says none = absurd ((settled text).not_both items none.0 none.1 says none.3)
script_form text items Memory says none = refl
script_form text items answer says none = absurd none

pub one_line : (text : Text) (refusal : Refusal) (answer : Exit) → IsNoScript text answer → IsNoScript text (Refused refusal)
    → IsUnlessMemory (Refused refusal) answer
one_line text refusal (Refused other) is due =
    let same = (settled text).one_rule is.0 due.0 is.1 due.1 is.3 due.3 in
    inl (ap Refused (is.2 ∙ ap (λ rule. bad_line rule is.1) same.0 ∙ ap (bad_line due.0) same.1 ∙ sym due.2))
one_line text refusal Memory is due = inr refl
one_line text refusal answer is due = absurd is
