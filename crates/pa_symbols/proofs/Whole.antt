-- Marks are legal exactly where they pass the tests.
use Rattle.std.proofs.Common.{◌≡◌, Bool, true, false, List, [], ◌∷◌, arith}
use Rattle.std.specs.Prelude.{IsTrue}
use Rattle.std.specs.List.{IsDistinct}
use Rattle.std.specs.Str.{bytes_eq}
use Rattle.pa_object.specs.declared.object.Mark.{Mark}
use Rattle.pa_symbols.specs.declared.places.TextAt.{TextAt}
use Rattle.pa_symbols.specs.Symbols.{public_names, AreLegal}
use Rattle.pa_symbols.specs.Legal.{marks_stand}
use Rattle.pa_symbols.proofs.Placed.{Begins, all_stand, stand_all}

pub are_legal : (text : TextAt) (marks : List Mark) → marks_stand text 1 0 marks ≡ true → IsDistinct bytes_eq (public_names marks) → AreLegal text marks
are_legal text marks e d =
    let s = all_stand marks text 1 0 e in
    record { ascend = s.ascend; in_text = s.in_text; some = s.some; no_zeros = s.no_zeros; distinct = d; fit = s.fit }

from_nothing : (marks : List Mark) → Begins 0 marks
from_nothing [] = tt
from_nothing (mark ∷ marks) = omega arith

pub passes : (text : TextAt) (marks : List Mark) → AreLegal text marks → marks_stand text 1 0 marks ≡ true
passes text marks legal = stand_all marks text 1 0 (from_nothing marks) legal.ascend legal.in_text legal.some legal.no_zeros legal.fit

pub fails : (text : TextAt) (marks : List Mark) (stand : Bool) → stand ≡ marks_stand text 1 0 marks → stand ≡ false → (IsTrue stand → AreLegal text marks) × (AreLegal text marks → IsTrue stand)
fails text marks true e f = absurd cc
fails text marks false e f = (λ t. absurd cc, λ legal. let p = passes text marks legal in absurd cc)
