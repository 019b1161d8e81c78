use Rattle.std.proofs.Common.{◌-◌, ◌∙◌, sym, length, arith}
use Rattle.pa_slots.proofs.Chains.{nonzero_below}
use Rattle.pa_slots.proofs.reading.check_beside.Goals as goal

pub overflow_add-result : goal.overflow_add-result
overflow_add-result c =
    let p = nonzero_below c.args.low (c.args.high - c.args.low) c.args.plain.now c.in-Some.place (sym c.first_nonzero.ensures ∙ c.in-Some.is) in
    omega arith
