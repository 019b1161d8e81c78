-- Going through the lines of a text: functions and facts, for the contracts of the parts of `assemble`.
use Rattle.std.specs.Prelude.{◌≡◌, ℕ, ◌+◌, if◌then◌else◌, List, [], length, Option, Some, None, Result, Ok, Err}
use Rattle.std.specs.Borrow.{Bor}
use Rattle.std.specs.Str.{bytes_eq}
use Rattle.indexmap.specs.IndexMap.{get_by}
use Rattle.pa_num.specs.declared.fault.Fault.{Fault}
use Rattle.pa_num.specs.declared.fault.Fault.TheVariants.{Refused, Memory}
use Rattle.pa_asmline.specs.Rows.{Text}
use Rattle.pa_asmline.specs.Lines.{Line}
use Rattle.pa_asm.specs.declared.assembly.Assembly.{Assembly}
use Rattle.pa_asm.specs.declared.labels.Labels.{Labels}
use Rattle.pa_asm.specs.declared.labels.Place.{Place}
use Rattle.pa_asm.specs.declared.rule.AsmRule.{AsmRule}
use Rattle.pa_asm.specs.Labels.{is_label}
use Rattle.pa_asm.specs.Written.{pieces}
use Rattle.pa_asm.specs.Parts.{Parts, joined, Gives, Breaks}

-- what is left of a text: nothing, or a text whose first line comes next
abbrev pub pieces_behind : Option (Bor Text) → List Text
pieces_behind None = []
pieces_behind (Some text) = pieces text.now

-- how many bytes a text has, and one for its end
abbrev pub own_len : Text → ℕ
own_len text = length text + 1

abbrev pub len_behind : Option (Bor Text) → ℕ
len_behind None = 0
len_behind (Some text) = own_len text.now

-- the place that is kept for a name
abbrev pub kept : Labels → Text → Option Place
kept labels name = get_by (λ key. bytes_eq name key.now) labels.places

-- what a line gives to each name
abbrev pub noted_line : Line → Place → Text → Option Place
noted_line line place name = if is_label name line then Some place else None

-- the parts of an object under way
abbrev pub parts_so_far : Assembly → Parts
parts_so_far assembly = record { code = assembly.code; marks = assembly.marks; refs = assembly.refs }

-- the line is added, or breaks a rule
abbrev pub IsAdded : Labels → Line → Assembly → Result (Unit {0}) (Fault AsmRule) → Assembly → Type 0
IsAdded labels line old (Ok done) new =
    (own : Parts) × Gives (kept labels) old.number (length old.code) line own × (parts_so_far new ≡ joined (parts_so_far old) own)
IsAdded labels line old (Err (Refused rule number)) new = Breaks (kept labels) old.number (length old.code) line rule × (number ≡ old.number)
IsAdded labels line old (Err Memory) new = Unit {0}
