-- The image is the definition's, and so it is legal and small.
use Rattle.std.proofs.Common.{◌≡◌, ℕ, List, sym, subst, arith}
use Rattle.std.proofs.lemmas.Grind.{common_steps}
use Rattle.pa_macho.specs.declared.header.Role.TheVariants.{Library}
use Rattle.pa_macho.specs.Layout.{base_of}
use Rattle.pa_image.specs.declared.image.Image.{Image}
use Rattle.pa_image.specs.Places.{exported}
use Rattle.pa_image.specs.Small.{IsSmall}
use Rattle.pa_image.specs.Writing.{IsLegal}
use Rattle.pa_image.specs.Pal.{pal, exports}
use Rattle.pa_pal.proofs.Legal.{legal, small, pal_exports}
use Rattle.pa_pal.proofs.runtime.pal.Goals as goal

pub returns-clause-value : goal.returns-clause-value
unfolding pal
returns-clause-value c = grind (arith, common_steps)

pub returns-clause-legal : goal.returns-clause-legal
returns-clause-legal c = subst IsLegal (sym (returns-clause-value c)) legal

pub returns-clause-small : goal.returns-clause-small
returns-clause-small c = subst IsSmall (sym (returns-clause-value c)) small

pub returns-clause-exports : goal.returns-clause-exports
returns-clause-exports c = subst (λ (x : Image). (name : List ℕ) → exported (base_of Library) x.marks name ≡ exports name) (sym (returns-clause-value c)) pal_exports
