use Rattle.std.proofs.Common.{arith}
use Rattle.pa_store.proofs.Going.{struct_at_bottom, struct_none}
use Rattle.pa_store.proofs.finding.structure.Goals as goal

pub returns-then-part-eq0-clause-finds : goal.returns-then-part-eq0-clause-finds
returns-then-part-eq0-clause-finds c names = struct_at_bottom names c.args.types.now c.args.part c.args.id c.requires.is c.if-part-eq0.true

pub returns-in-None-clause-finds : goal.returns-in-None-clause-finds
returns-in-None-clause-finds c names =
    let some = c.if-part-eq0.false in
    struct_none names c.args.types.now c.args.part c.args.id c.requires.is (omega arith) c.in-None.ensures.members
