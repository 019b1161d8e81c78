use Rattle.std.proofs.Common.{◌*ℤ◌}
use Rattle.std.specs.Int.{w128}
use Rattle.std.proofs.lemmas.Int.{to_z-of_z}
use Rattle.pa_integer.proofs.Ranges.{signed_product_fits}
use Rattle.pa_integer.proofs.operators.product.Goals as goal

pub overflow_mul-left : goal.overflow_mul-left
overflow_mul-left c =
    rw (to_z-of_z w128 c.args.left c.ranges.left, to_z-of_z w128 c.args.right c.ranges.right)
    (signed_product_fits c.args.bits c.args.left c.args.right c.requires.width (rw c.if-signed.true at c.requires.left) (rw c.if-signed.true at c.requires.right))

pub returns-then-signed : goal.returns-then-signed
returns-then-signed c =
    let fits = signed_product_fits c.args.bits c.args.left c.args.right c.requires.width (rw c.if-signed.true at c.requires.left) (rw c.if-signed.true at c.requires.right) in
    rw c.if-signed.true
    (rw (to_z-of_z w128 c.args.left c.ranges.left, to_z-of_z w128 c.args.right c.ranges.right, to_z-of_z w128 (c.args.left *ℤ c.args.right) fits) at c.settled.ensures)
