-- A line with a part too many says nothing.
use Rattle.std.proofs.Common.{◌≡◌, ℕ, ◌<◌, true, [], ◌∷◌, List, length, Option, Some, None, refl, arith}
use Rattle.std.specs.Prelude.{is_some}
use Rattle.std.specs.Borrow.{Bor}
use Rattle.pa_script.specs.Pieces.{Text, pieces_behind}
use Rattle.pa_script.specs.Items as items
use Rattle.pa_script.proofs.Cuts.{some_piece}

pub some_behind : (stop : ℕ) (text : Option (Bor Text)) → is_some text ≡ true → 0 < length (pieces_behind stop text)
some_behind stop None h = cc
some_behind stop (Some text) h = some_piece stop text.now

pub write-longer : (at digits : Text) (parts : List Text) → 0 < length parts → items.write (at ∷ digits ∷ parts) ≡ None
write-longer at digits [] h = absurd (omega arith)
write-longer at digits (part ∷ parts) h = refl

pub copy-longer : (to from some : Text) (parts : List Text) → 0 < length parts → items.copy (to ∷ from ∷ some ∷ parts) ≡ None
copy-longer to from some [] h = absurd (omega arith)
copy-longer to from some (part ∷ parts) h = refl
