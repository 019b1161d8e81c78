use Rattle.std.proofs.Common.{arith}
use Rattle.indexmap.specs.IndexMap.{keys}
use Rattle.pa_ctype.proofs.Joining.{bodies_more, members_more}
use Rattle.pa_ctype.proofs.joined.raised_bodies.Goals as goal

pub bodies-preserved : goal.bodies-preserved
bodies-preserved c =
    let within = c.bodies-test.true in
    record {
      within = omega (arith, within);
      members = members_more (keys c.args.nodes.now) c.args.bodies.now c.bodies.made c.args.numbers.now c.args.names.now c.bodies.id within _ c.in_ok-raised_body.field-0 c.in_ok-push.ensures.ok c.bodies.invariant.members c.in_ok-raised_body.ensures.members;
      raised = bodies_more (keys c.args.nodes.now) c.args.bodies.now c.bodies.made c.args.numbers.now c.args.names.now c.bodies.id within _ c.in_ok-raised_body.field-0 c.in_ok-push.ensures.ok c.bodies.invariant.raised c.in_ok-raised_body.ensures.raised;
    }
