-- Which images are windowed, and where another one is broken first.
use Rattle.std.specs.Prelude.{◌≡◌, drop, ℕ, suc, ◌+◌, ◌*◌, ◌/◌, nat_lt, if◌then◌else◌, List, [], ◌∷◌, length, Option, Some, None}
use Rattle.std.specs.Option.{option_or}
use Rattle.pa_a64.specs.Decoding.{decoded}
use Rattle.pa_macho.specs.Layout.{base_of, places_of}
use Rattle.pa_image.specs.declared.image.Image.{Image}
use Rattle.pa_image.specs.Bytes.{header_of}
use Rattle.pa_check.specs.declared.rule.CheckRule.{CheckRule}
use Rattle.pa_check.specs.declared.rule.CheckRule.TheVariants.{K5, K6}
use Rattle.pa_check.specs.declared.rule.Flaw.{Flaw}
use Rattle.pa_check.specs.declared.rule.Verdict.{Verdict}
use Rattle.pa_check.specs.declared.rule.Verdict.TheVariants as verdict
use Rattle.pa_check.specs.Text.{Text, place, text_of}
use Rattle.pa_check.specs.Windows.{Spot, all_spots}
use Rattle.pa_check.specs.Rules.{word_rule, stub_rule}
use Rattle.pa_check.specs.Slots.{first_no_import, first_unsafe}

abbrev pub flaw_of : (at : ℕ) → Option CheckRule → Option Flaw
flaw_of at None = None
flaw_of at (Some rule) = Some (record { offset = at; rule = rule })

-- the first of the words from number k on that breaks a rule
unfoldable pub first_word : Text → List Spot → (k : ℕ) → List Spot → Option Flaw
first_word text all k [] = None
first_word text all k (s ∷ ss) = option_or (flaw_of (place k) (word_rule text all k s)) (first_word text all (suc k) ss)

-- the same, by number
abbrev pub flaw_from : Text → (k : ℕ) → Option Flaw
flaw_from text k = first_word text (all_spots text) k (drop k (all_spots text))

-- a text that ends inside `start`
abbrev pub cut_start : Text → Option Flaw
cut_start text =
    if nat_lt (length text.words) text.start then Some (record { offset = place (length text.words); rule = K6 }) else None

-- the first of the stubs' words from number n on that breaks a rule
unfoldable pub first_stub : Text → (from slots : ℕ) → (n : ℕ) → List ℕ → Option Flaw
first_stub text from slots n [] = None
first_stub text from slots n (word ∷ words) =
    option_or (flaw_of (text.stubs + 4 * n) (stub_rule text from slots n (decoded word))) (first_stub text from slots (suc n) words)

-- a slot, by its place in __DATA, breaks K5
abbrev pub slot_flaw : (from : ℕ) → Option ℕ → Option Flaw
slot_flaw from None = None
slot_flaw from (Some at) = Some (record { offset = from + at; rule = K5 })

abbrev pub first_slot : Image → Text → (from : ℕ) → Option Flaw
first_slot image text from =
    option_or (slot_flaw from (first_no_import image.fixes 0 (image.got / 8)))
    (slot_flaw from (first_unsafe text (base_of image.role) image.got image.fixes))

-- in the order of `start`, the functions' words, the stubs and the slots, the first that breaks a rule, with the lowest one
unfoldable pub first_flaw : Image → Option Flaw
first_flaw image =
    let text = text_of image in
    let from = (places_of (header_of image)).got in
    option_or (flaw_from text 0)
    (option_or (cut_start text)
    (option_or (first_stub text from (image.got / 8) 0 image.stubs) (first_slot image text from)))

abbrev pub verdict_of : Option Flaw → Verdict
verdict_of None = verdict.Windowed
verdict_of (Some flaw) = verdict.Bad flaw.offset flaw.rule

-- no rule is broken
abbrev pub IsWindowed : Image → Type 0
IsWindowed image = first_flaw image ≡ None
