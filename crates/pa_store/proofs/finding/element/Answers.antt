use Rattle.std.proofs.Common.{[], Some, None, sym, ◌∙◌, arith}
use Rattle.pa_ctype.specs.Nodes.{at}
use Rattle.pa_ctype.proofs.Laws.{laid_fine}
use Rattle.pa_cmean.specs.Finding.{find_to}
use Rattle.pa_store.specs.Found.{structs_in}
use Rattle.pa_store.proofs.Going.{fits_at, clash, array_layout, array_known, array_part, element_in, element_out}
use Rattle.pa_store.proofs.finding.element.Goals as goal

pub returns-in_default-clause-finds : goal.returns-in_default-clause-finds
returns-in_default-clause-finds c names =
    let t = c.args.types.now in
    let h = array_layout names t c.args.part c.args.of c.args.count c.requires.part c.requires.array in
    absurd (clash _ h.0 h.1 (array_known names t c.args.part c.args.of c.args.count c.requires.part c.requires.array None (c.in_default.ensures.answer names (at t.nodes) (fits_at t.nodes))))

pub nonzero_div-part : goal.nonzero_div-part
nonzero_div-part c =
    let t = c.args.types.now in
    let known = array_known (λ n. []) t c.args.part c.args.of c.args.count c.requires.part c.requires.array (Some c.in-Some.layout) (c.in-Some.ensures.answer (λ n. []) (at t.nodes) (fits_at t.nodes)) in
    let some = (laid_fine c.args.part.depth (structs_in (λ n. []) t) (at t.nodes c.args.of) c.in-Some.layout known).some in
    omega arith

pub nonzero_rem-offset : goal.nonzero_rem-offset
nonzero_rem-offset c =
    let t = c.args.types.now in
    let known = array_known (λ n. []) t c.args.part c.args.of c.args.count c.requires.part c.requires.array (Some c.in-Some.layout) (c.in-Some.ensures.answer (λ n. []) (at t.nodes) (fits_at t.nodes)) in
    let some = (laid_fine c.args.part.depth (structs_in (λ n. []) t) (at t.nodes c.args.of) c.in-Some.layout known).some in
    omega arith

pub returns-then-part-layout-clause-finds : goal.returns-then-part-layout-clause-finds
returns-then-part-layout-clause-finds c names =
    let t = c.args.types.now in
    let known = array_known names t c.args.part c.args.of c.args.count c.requires.part c.requires.array (Some c.in-Some.layout) (c.in-Some.ensures.answer names (at t.nodes) (fits_at t.nodes)) in
    sym (array_part names t c.args.part c.args.of c.args.count c.in-Some.layout c.requires.array known
    ∙ element_in c.args.count c.in-Some.layout.size (find_to c.args.part.depth (structs_in names t) c.args.part.constant (at t.nodes c.args.of)) c.args.part.offset c.if-part-layout.true)

pub returns-then-part-layout-clause-inside : goal.returns-then-part-layout-clause-inside
returns-then-part-layout-clause-inside c =
    let known = c.requires.part.known in
    let before = c.requires.before in (
      record {
        known = omega arith;
        laid = λ names. array_layout names c.args.types.now c.args.part c.args.of c.args.count c.requires.part c.requires.array;
        deep = c.requires.part.deep;
      },
      omega arith,
    )

pub returns-else-part-layout-clause-finds : goal.returns-else-part-layout-clause-finds
returns-else-part-layout-clause-finds c names =
    let t = c.args.types.now in
    let known = array_known names t c.args.part c.args.of c.args.count c.requires.part c.requires.array (Some c.in-Some.layout) (c.in-Some.ensures.answer names (at t.nodes) (fits_at t.nodes)) in
    sym (array_part names t c.args.part c.args.of c.args.count c.in-Some.layout c.requires.array known
    ∙ element_out c.args.count c.in-Some.layout.size (find_to c.args.part.depth (structs_in names t) c.args.part.constant (at t.nodes c.args.of)) c.args.part.offset c.if-part-layout.false)
