use Rattle.std.proofs.Common.{◌+◌, ◌-◌, ◌≤◌, length, take, drop, refl, sym, ◌∙◌, arith, subst}
use Rattle.indexmap.specs.IndexMap.{keys}
use Rattle.pa_ctype.specs.Nodes.{at}
use Rattle.pa_ctype.specs.Kept.{kept_layout, EndsWithin, unnamed, lay}
use Rattle.pa_ctype.specs.Layouts.{layout_by}
use Rattle.pa_ctype.proofs.Laying.{ends_few, ends_tail, known_tail, place_fits, place_more, place_step}
use Rattle.pa_ctype.proofs.Laws.{layout_by_fine}
use Rattle.pa_ctype.proofs.structs.places.Goals as goal

pub next_multiple_of-requires-clause-nonzero : goal.next_multiple_of-requires-clause-nonzero
next_multiple_of-requires-clause-nonzero c = (layout_by_fine (kept_layout c.args.bodies.now) c.requires.fine _ c.in-Some.layout (sym c.type_layout.ensures ∙ c.in-Some.is)).positive

pub next_multiple_of-requires-clause-fits : goal.next_multiple_of-requires-clause-fits
next_multiple_of-requires-clause-fits c =
    let align = (layout_by_fine (kept_layout c.args.bodies.now) c.requires.fine _ c.in-Some.layout (sym c.type_layout.ensures ∙ c.in-Some.is)).align in
    let few = ends_few (layout_by (kept_layout c.args.bodies.now)) c.members.so_far _ c.members.invariant.few in
    omega arith

pub placed-so_far-requires-clause-bytes : goal.placed-so_far-requires-clause-bytes
placed-so_far-requires-clause-bytes c = ends_few (layout_by (kept_layout c.args.bodies.now)) c.members.so_far _ c.members.invariant.few

pub placed-so_far-requires-clause-align : goal.placed-so_far-requires-clause-align
placed-so_far-requires-clause-align c = (layout_by_fine (kept_layout c.args.bodies.now) c.requires.fine _ c.in-Some.layout (sym c.type_layout.ensures ∙ c.in-Some.is)).align

pub placed-so_far-requires-clause-size : goal.placed-so_far-requires-clause-size
placed-so_far-requires-clause-size c = (layout_by_fine (kept_layout c.args.bodies.now) c.requires.fine _ c.in-Some.layout (sym c.type_layout.ensures ∙ c.in-Some.is)).size

pub overflow_add-index : goal.overflow_add-index
overflow_add-index c =
    let fits = place_fits (at (keys c.args.nodes.now)) (layout_by (kept_layout c.args.bodies.now)) (layout_by_fine (kept_layout c.args.bodies.now) c.requires.fine) c.members.so_far c.members.index c.members.rest.now (omega arith) c.members.invariant.few c.members.invariant.count in
    omega arith

pub members-preserved : goal.members-preserved
members-preserved c =
    let laid = sym c.type_layout.ensures ∙ c.in-Some.is in
    let some = c.in-len1-up.len_at_least in
    let fine = layout_by_fine (kept_layout c.args.bodies.now) c.requires.fine _ c.in-Some.layout laid in
    record {
      known = known_tail (length (keys c.args.nodes.now)) c.members.rest.now _ some refl c.members.invariant.known;
      same = λ name.
          place_step (lay (at (keys c.args.nodes.now)) c.args.bodies.now) c.members.rest.now _ _ some refl c.in-Some.layout c.members.so_far _ c.members.index _ laid c.next_multiple_of.ensures.value c.placed-so_far.ensures name _ _ (c.in_ok-note.ensures name)
          ∙ c.members.invariant.same name;
      few = subst (λ l. EndsWithin (layout_by (kept_layout c.args.bodies.now)) l (unnamed (at (keys c.args.nodes.now)) (take (length c.members.rest.now - 1) (drop 1 c.members.rest.now)))) (sym c.placed-so_far.ensures)
          (ends_tail (at (keys c.args.nodes.now)) (layout_by (kept_layout c.args.bodies.now)) c.members.so_far c.in-Some.layout c.members.rest.now _ _ some refl laid c.members.invariant.few);
      count = subst (λ l. c.members.index + 1 ≤ l.size) (sym c.placed-so_far.ensures) (place_more c.members.so_far c.in-Some.layout c.members.index fine c.members.invariant.count);
    }
