use Rattle.std.proofs.Common.{◌≡◌, ℕ, List, length}
use Rattle.std.specs.Option.{option_or}
use Rattle.pa_macho.specs.Layout.{base_of}
use Rattle.pa_macho.specs.declared.header.Role.TheVariants.{Library}
use Rattle.pa_image.specs.Places.{exported}
use Rattle.pa_load.specs.Exports.{kept}
use Rattle.pa_load.proofs.exports.Exports.of.Given as goal

abbrev pub invariant-loop-mark : goal.invariant-loop-mark
invariant-loop-mark l =
    (name : List ℕ) → option_or (kept l.exports name) (exported (base_of Library) l.rest name) ≡ exported (base_of Library) l.marks name

abbrev pub decreases-loop-mark : goal.decreases-loop-mark
decreases-loop-mark l = length l.rest
