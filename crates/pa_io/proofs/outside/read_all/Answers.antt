use Rattle.std.proofs.Common.{◌≡◌, ◌<◌, ◌≤◌, ◌+◌, [], ◌++◌, length, take, arith, rules, refl, length-append, length-take}
use Rattle.std.proofs.lemmas.Grind.{common_steps}
use Rattle.pa_io.specs.declared.outside.ShelfFault.TheVariants.{Memory}
use Rattle.pa_io.specs.Outside.{CamePartly, source_seen}
use Rattle.pa_io.proofs.Came.{Came-more, Came-ended}
use Rattle.pa_io.proofs.outside.read_all.Goals as goal

pub returns-then-count-eq0-clause-ok : goal.returns-then-count-eq0-clause-ok
returns-then-count-eq0-clause-ok g c =
    let read = c.in_ok-count.ensures in
    let none : take c.in_ok-count.count c.read.new.buffer ≡ [] = rw c.if-count-eq0.true refl in
    let room : 0 < length (take (c.min.result + 1) c.loop-bytes.piece) = grind (arith, common_steps, length-take) in
    let within : length c.loop-bytes.bytes.items ≤ c.args.limit = grind (arith, common_steps, c.loop-bytes.invariant.1) in
    Came-ended c.args.limit _ (source_seen g.S.Source.left g.S.Source.given g.S.Source.faults c.loop-bytes.input) _ _ _ c.loop-bytes.invariant.0 read.next read.given read.others none (read.end c.if-count-eq0.true room) within

pub returns-then-count-budget-clause-err : goal.returns-then-count-budget-clause-err
returns-then-count-budget-clause-err g c =
    let read = c.in_ok-count.ensures in
    let count : length (c.loop-bytes.bytes.items ++ take c.in_ok-count.count c.read.new.buffer) ≡ c.args.limit + 1 = grind (arith, common_steps, length-append, length-take, read.within, c.loop-bytes.invariant.1) in
    (_, count, Came-more _ (source_seen g.S.Source.left g.S.Source.given g.S.Source.faults c.loop-bytes.input) _ _ _ c.loop-bytes.invariant.0 read.next read.given read.others)

pub returns-in_err-extend_from_slice-clause-err : goal.returns-in_err-extend_from_slice-clause-err
returns-in_err-extend_from_slice-clause-err g c =
    let read = c.in_ok-count.ensures in
    let within : length (c.loop-bytes.bytes.items ++ take c.in_ok-count.count c.read.new.buffer) ≤ c.args.limit = grind (arith, common_steps, length-append, length-take, read.within, c.loop-bytes.invariant.1) in
    let memory : CamePartly c.args.limit (source_seen g.S.Source.left g.S.Source.given g.S.Source.faults c.args.input.now) (source_seen g.S.Source.left g.S.Source.given g.S.Source.faults c.read.new.self) Memory =
    (_, within, Came-more _ (source_seen g.S.Source.left g.S.Source.given g.S.Source.faults c.loop-bytes.input) _ _ _ c.loop-bytes.invariant.0 read.next read.given read.others) in
    search (rules, memory)
