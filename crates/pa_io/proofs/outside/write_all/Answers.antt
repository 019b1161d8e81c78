use Rattle.std.proofs.Common.{◌≡◌, ◌<◌, ◌-◌, length, take, drop, arith, rules, length-take, length-drop}
use Rattle.std.proofs.lemmas.Grind.{common_steps}
use Rattle.pa_io.proofs.Growth.{Written-more, Written-stayed, Written-part}
use Rattle.pa_io.proofs.outside.write_all.Goals as goal

pub returns-in_err-taken-clause-prefix : goal.returns-in_err-taken-clause-prefix
returns-in_err-taken-clause-prefix g c =
    let some : 0 < length c.loop-rest.rest.now = grind (arith, common_steps) in
    search (rules, Written-part _ _ _ _ some (Written-stayed _ _ _ _ _ c.loop-rest.invariant.0 c.in_err-taken.ensures.stayed))

pub returns-then-taken-eq0-clause-prefix : goal.returns-then-taken-eq0-clause-prefix
returns-then-taken-eq0-clause-prefix g c =
    let some : 0 < length c.loop-rest.rest.now = grind (arith, common_steps) in
    let zero : c.in_ok-taken.taken ≡ 0 = c.if-taken-eq0.true in
    let left : 0 < length (take (length c.loop-rest.rest.now - c.in_ok-taken.taken) (drop c.in_ok-taken.taken c.loop-rest.rest.now)) = grind (arith, common_steps, length-take, length-drop) in
    Written-part _ _ _ _ left (Written-more _ _ _ _ _ _ c.loop-rest.invariant.0 c.in_ok-taken.ensures.appended)

pub loop-rest-preserved : goal.loop-rest-preserved
loop-rest-preserved g c =
    (Written-more _ _ _ _ _ _ c.loop-rest.invariant.0 c.in_ok-taken.ensures.appended, search (rules, arith))
