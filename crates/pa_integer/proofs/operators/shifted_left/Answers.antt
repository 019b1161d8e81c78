use Rattle.std.proofs.Common.{◌*◌, ◌^◌, ◌∙◌}
use Rattle.std.specs.Int.{w128}
use Rattle.std.proofs.lemmas.Int.{to_z-of_z, to_z_pos}
use Rattle.std.specs.Int.RustNames.{unsigned_abs}
use Rattle.pa_integer.proofs.Ranges.{shift_bound, shift_is, shift_fits, shifted_is}
use Rattle.pa_integer.proofs.operators.shifted_left.Goals as goal

pub overflow_cast-left-else-left-lt0 : goal.overflow_cast-left-else-left-lt0
overflow_cast-left-else-left-lt0 c =
    rw (to_z-of_z w128 c.args.left c.ranges.left, shift_is c.args.bits c.args.signed c.args.left c.args.by c.requires.width c.requires.left c.requires.by)
    (shift_fits c.args.bits c.args.signed c.args.left c.args.by c.requires.width c.requires.left c.requires.by)

pub returns-else-left-lt0 : goal.returns-else-left-lt0
returns-else-left-lt0 c =
    let small = shift_bound c.args.bits c.args.signed c.args.left c.args.by c.requires.width c.requires.left c.requires.by in
    rw (
      to_z-of_z w128 c.args.left c.ranges.left,
      shift_is c.args.bits c.args.signed c.args.left c.args.by c.requires.width c.requires.left c.requires.by,
      to_z_pos w128 (unsigned_abs c.args.left * 2 ^ c.args.by) small,
    ) at c.settled.ensures
    ∙ shifted_is c.args.bits c.args.signed c.args.left c.args.by (rw (to_z-of_z w128 c.args.left c.ranges.left) at c.if-left-lt0.false)
