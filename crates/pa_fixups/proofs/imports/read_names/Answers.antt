use Rattle.pa_fixups.proofs.Cuts.{read_on_at}
use Rattle.pa_fixups.proofs.imports.read_names.Goals as goal

pub loop-k-preserved : goal.loop-k-preserved
loop-k-preserved c =
    read_on_at c.args.count c.args.entries c.loop-k.k c.loop-k.at c.in_ok-len.len c.args.part.now c.args.text.now c.loop-k.rest.now c.in_ok-from_slice.field-0 c.loop-k.names c.push.new.self c.loop-k-test.true c.loop-k.invariant c.in_ok-len.ensures.value c.in_ok-len.ensures.exact c.in_ok-from_slice.ensures c.in_ok-push.ensures.ok
