-- Labels, and the places that they name.
use Rattle.std.specs.Prelude.{ℕ, ◌+◌, Bool, false, if◌then◌else◌, List, [], ◌∷◌, Option, Some, None}
use Rattle.std.specs.Str.{bytes_eq}
use Rattle.pa_asmline.specs.Rows.{Text}
use Rattle.pa_asmline.specs.Lines.{Line, Blank, Label, Row, Unknown}
use Rattle.pa_asm.specs.declared.labels.Place.{Place}

-- how many words a line gives; one that is broken counts as one
abbrev pub words : Line → ℕ
words Blank = 0
words (Label public name) = 0
words (Row form operands) = 1
words Unknown = 1

abbrev pub is_label : Text → Line → Bool
is_label name (Label public own) = bytes_eq name own
is_label name Blank = false
is_label name (Row form operands) = false
is_label name Unknown = false

-- the first label of this name in lines of which the first has this number, with n words before it
unfoldable pub find_from : Text → (number at : ℕ) → List Line → Option Place
find_from name number at [] = None
find_from name number at (line ∷ lines) =
    if is_label name line then Some (record { line = number; at = at }) else find_from name (number + 1) (at + words line) lines

-- the first label of this name. Lines are numbered from 1.
abbrev pub find : List Line → Text → Option Place
find lines name = find_from name 1 0 lines
