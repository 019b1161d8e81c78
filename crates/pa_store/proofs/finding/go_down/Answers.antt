use Rattle.std.proofs.Common.{sym, ◌∙◌, ap, subst, arith}
use Rattle.pa_ctype.specs.Nodes.{at}
use Rattle.pa_cmean.specs.Finding.{find_to}
use Rattle.pa_store.specs.Found.{structs_in}
use Rattle.pa_ctype.specs.Nodes.{tree}
use Rattle.pa_store.specs.Found.{HasLayoutAt, cell_type}
use Rattle.std.specs.Option.{option_map}
use Rattle.pa_store.proofs.Going.{fits_at, scalar_finds, boolean, integer, pointer, bare_finds, void, function, taking_finds, const_finds, const_laid}
use Rattle.pa_store.proofs.finding.go_down.Goals as goal

pub array-requires-clause-array : goal.array-requires-clause-array
array-requires-clause-array c = c.in-Array.ensures.is (at c.args.types.now.nodes) (fits_at c.args.types.now.nodes)

pub structure-requires-clause-is : goal.structure-requires-clause-is
structure-requires-clause-is c = c.in-Struct.ensures.is (at c.args.types.now.nodes) (fits_at c.args.types.now.nodes)

pub returns-in-Bool-clause-finds : goal.returns-in-Bool-clause-finds
returns-in-Bool-clause-finds c names =
    let t = c.args.types.now in
    ap (option_map (cell_type t)) c.scalar_at-only.ensures ∙ scalar_finds names t c.args.part _ boolean (c.node.ensures.is (at t.nodes) (fits_at t.nodes) ∙ ap (tree (at t.nodes)) c.in-Bool.is)

pub returns-in-Int-clause-finds : goal.returns-in-Int-clause-finds
returns-in-Int-clause-finds c names =
    let t = c.args.types.now in
    ap (option_map (cell_type t)) c.scalar_at-only.ensures ∙ scalar_finds names t c.args.part _ integer (c.node.ensures.is (at t.nodes) (fits_at t.nodes) ∙ ap (tree (at t.nodes)) c.in-Int.is)

pub returns-in-Pointer-clause-finds : goal.returns-in-Pointer-clause-finds
returns-in-Pointer-clause-finds c names =
    let t = c.args.types.now in
    ap (option_map (cell_type t)) c.scalar_at-only.ensures ∙ scalar_finds names t c.args.part _ pointer (c.node.ensures.is (at t.nodes) (fits_at t.nodes) ∙ ap (tree (at t.nodes)) c.in-Pointer.is)

pub returns-in-Constant-clause-finds : goal.returns-in-Constant-clause-finds
returns-in-Constant-clause-finds c names =
    let t = c.args.types.now in
    sym (ap (λ x. find_to c.args.part.depth (structs_in names t) c.args.part.constant x c.args.part.offset) (c.in-Constant.ensures.is (at t.nodes) (fits_at t.nodes))
    ∙ const_finds c.args.part.depth (structs_in names t) c.args.part.constant (at t.nodes c.in-Constant.of) c.args.part.offset)

pub returns-in-Constant-clause-inside : goal.returns-in-Constant-clause-inside
returns-in-Constant-clause-inside c =
    let t = c.args.types.now in
    let below = c.in-Constant.ensures.below.0 in
    let known = c.requires.known in (
      record {
        known = omega arith;
        laid = λ names.
            let whole = subst (HasLayoutAt c.args.part.depth (structs_in names t)) (c.in-Constant.ensures.is (at t.nodes) (fits_at t.nodes)) (c.requires.laid names) in
            (whole.0, sym (const_laid c.args.part.depth (structs_in names t) (at t.nodes c.in-Constant.of)) ∙ whole.1);
        deep = c.requires.deep;
      },
      omega arith,
    )

pub returns-in-Void-clause-finds : goal.returns-in-Void-clause-finds
returns-in-Void-clause-finds c names =
    let t = c.args.types.now in
    bare_finds names t c.args.part _ void (c.node.ensures.is (at t.nodes) (fits_at t.nodes) ∙ ap (tree (at t.nodes)) c.in-Void.is)

pub returns-in-Returns-clause-finds : goal.returns-in-Returns-clause-finds
returns-in-Returns-clause-finds c names =
    let t = c.args.types.now in
    bare_finds names t c.args.part _ function (c.node.ensures.is (at t.nodes) (fits_at t.nodes) ∙ ap (tree (at t.nodes)) c.in-Returns.is)

pub returns-in-Takes-clause-finds : goal.returns-in-Takes-clause-finds
returns-in-Takes-clause-finds c names =
    let t = c.args.types.now in
    taking_finds names t c.args.part (at t.nodes c.in-Takes.param) (at t.nodes c.in-Takes.rest) (c.in-Takes.ensures.proper (at t.nodes) (fits_at t.nodes)) (c.in-Takes.ensures.is (at t.nodes) (fits_at t.nodes))
