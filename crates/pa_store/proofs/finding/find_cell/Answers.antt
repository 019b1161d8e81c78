use Rattle.std.proofs.Common.{false, sym, ◌∙◌, ap, subst, arith}
use Rattle.pa_ctype.specs.Nodes.{at}
use Rattle.pa_cmean.specs.Finding.{find_to}
use Rattle.pa_store.specs.Found.{structs_in}
use Rattle.std.proofs.lemmas.List.{length-map}
use Rattle.pa_store.specs.Found.{HasLayoutAt, find_inside}
use Rattle.pa_store.proofs.Going.{inside_well}
use Rattle.pa_store.proofs.finding.find_cell.Goals as goal

pub down-init : goal.down-init
down-init c =
    let t = c.args.types.now in
    record {
      well = record {
        known = c.requires.known;
        laid = λ names. subst (λ d. HasLayoutAt d (structs_in names t) (at t.nodes c.args.of)) (sym c.struct_count.ensures) (c.requires.complete names);
        deep = omega arith;
      };
      same = λ names. ap (λ d. find_to d (structs_in names t) false (at t.nodes c.args.of) c.args.offset) (c.struct_count.ensures ∙ sym (length-map t.structs _));
    }

pub down-preserved : goal.down-preserved
down-preserved c =
    let t = c.args.types.now in
    record {
      well = inside_well t c.in-Part.part c.go_down-now.result c.go_down-now.ensures.inside;
      same = λ names. c.go_down-now.ensures.finds names ∙ ap (find_inside names t) (sym c.in-Part.is) ∙ c.down.invariant.same names;
    }

pub returns-in-Cell-clause-is : goal.returns-in-Cell-clause-is
returns-in-Cell-clause-is c names = ap (find_inside names c.args.types.now) (sym c.in-Cell.is) ∙ c.down.invariant.same names
