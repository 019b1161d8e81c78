use Rattle.std.proofs.Common.{refl}
use Rattle.pa_mem.specs.Memory.{all_apart}
use Rattle.pa_mem.proofs.space.Space.new.Goals as goal

pub invariant_of-result : goal.invariant_of-result
unfolding all_apart
invariant_of-result c = rw c.new.ensures.items refl
