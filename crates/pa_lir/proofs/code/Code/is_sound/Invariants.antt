use Rattle.std.proofs.Common.{◌≡◌, ◌<◌, ℕ, Some}
use Rattle.std.specs.List.{slice_get}
use Rattle.pa_lir.specs.declared.op.Op.{Op}
use Rattle.pa_lir.specs.WellFormed.{IsSoundAt}
use Rattle.pa_lir.proofs.code.Code.is_sound.Given as goal

abbrev pub invariant-loop-at : goal.invariant-loop-at
invariant-loop-at l = (k : ℕ) (o : Op) → k < l.at → slice_get l.self.ops.now k ≡ Some o → IsSoundAt l.self.ops.now l.locals k o
