use Rattle.std.proofs.Common.{sym, arith}
use Rattle.std.proofs.lemmas.Grind.{common_steps}
use Rattle.pa_ctype.specs.Kept.{kept_layout}
use Rattle.pa_ctype.specs.Layouts.{members_from}
use Rattle.pa_ctype.proofs.Laws.{layout_by_fine}
use Rattle.pa_ctype.proofs.structs.laid_members.Goals as goal

pub placed-so_far-requires-clause-positive : goal.placed-so_far-requires-clause-positive
placed-so_far-requires-clause-positive c = (layout_by_fine (kept_layout c.args.bodies.now) c.requires.fine _ c.in_ok-layout.layout (sym c.in_ok-layout.ensures)).positive

pub placed-so_far-requires-clause-align : goal.placed-so_far-requires-clause-align
placed-so_far-requires-clause-align c = (layout_by_fine (kept_layout c.args.bodies.now) c.requires.fine _ c.in_ok-layout.layout (sym c.in_ok-layout.ensures)).align

pub placed-so_far-requires-clause-size : goal.placed-so_far-requires-clause-size
placed-so_far-requires-clause-size c = (layout_by_fine (kept_layout c.args.bodies.now) c.requires.fine _ c.in_ok-layout.layout (sym c.in_ok-layout.ensures)).size

pub members-preserved : goal.members-preserved
unfolding members_from
members-preserved c =
    let fine = layout_by_fine (kept_layout c.args.bodies.now) c.requires.fine _ c.in_ok-layout.layout (sym c.in_ok-layout.ensures) in
    let positive = fine.positive in
    let align = fine.align in
    record {
      known = grind (arith, common_steps);
      same = grind (arith, common_steps);
      bytes = grind (arith, common_steps);
      positive = grind (arith, common_steps);
      align = grind (arith, common_steps);
    }
