use Rattle.std.proofs.Common.{refl}
use Rattle.pa_blocks.specs.Steps.{blocks_of, AreLevelled}
use Rattle.pa_blocks.proofs.declarations.Declarations.new.Goals as goal

pub invariant_of-result : goal.invariant_of-result
unfolding AreLevelled
invariant_of-result c = rw (c.new.ensures.items, c.new-2.ensures) (refl, λ name. refl)

pub returns : goal.returns
unfolding blocks_of
returns c = rw (c.new.ensures.items, c.new-2.ensures) refl
