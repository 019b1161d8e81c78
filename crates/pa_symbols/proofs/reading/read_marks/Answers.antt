use Rattle.std.proofs.Common.{◌/◌, length}
use Rattle.pa_symbols.proofs.Steps.{read_on, read_stops}
use Rattle.pa_symbols.proofs.reading.read_marks.Goals as goal

pub returns-in_default-clause-exact : goal.returns-in_default-clause-exact
returns-in_default-clause-exact c =
    read_stops c.args.text c.args.at c.args.symbols.now c.args.strings.now (length c.args.symbols.now / 16) c.loop-k.k c.loop-k.due c.loop-k.marks c.loop-k.names.keys c.loop-k-test.true c.loop-k.invariant
    (rw c.in_default.is at c.in_ok-read.ensures.value)

pub loop-k-preserved : goal.loop-k-preserved
loop-k-preserved c =
    let value = rw c.in-Some.is at c.in_ok-read.ensures.value in
    let known = rw c.in-Some.is at c.in_ok-read.ensures.known in
    let within = rw c.in-Some.is at c.in_ok-read.ensures.within in
    rw c.len.ensures
    (read_on c.args.text c.args.at c.args.symbols.now c.args.strings.now (length c.args.symbols.now / 16) c.loop-k.k c.loop-k.due c.loop-k.marks c.push.new.self c.in-Some.mark c.loop-k.names.keys c.read_mark.new.names.keys c.loop-k-test.true c.loop-k.invariant value.0
    value.1 c.in_ok-push.ensures.ok known within)
