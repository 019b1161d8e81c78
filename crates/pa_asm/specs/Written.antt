-- The lines of a text.
use Rattle.std.specs.Prelude.{ℕ, Bool, ◌==◌, List, [], ◌∷◌, map}
use Rattle.std.specs.List.{slice_split}
use Rattle.pa_asmline.specs.Rows.{Text}
use Rattle.pa_asmline.specs.Lines.{Line, IsLine}
use Rattle.pa_asmline.specs.Reading.{line}

abbrev pub is_line_feed : ℕ → Bool
is_line_feed byte = byte == 10

-- what stands between line feeds
abbrev pub pieces : Text → List Text
pieces text = slice_split is_line_feed text

abbrev pub AreLines : List Line → List Text → Type 0
AreLines [] [] = Unit {0}
AreLines [] (text ∷ texts) = ⊥
AreLines (line ∷ lines) [] = ⊥
AreLines (line ∷ lines) (text ∷ texts) = IsLine line text × AreLines lines texts

-- the text says these lines
abbrev pub Says : Text → List Line → Type 0
Says text lines = AreLines lines (pieces text)

-- the lines that are read of it
abbrev pub read : Text → List Line
read text = map line (pieces text)
