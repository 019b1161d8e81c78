use Rattle.std.proofs.Common.{None, Some, sym, subst}
use Rattle.pa_ctype.specs.Types.{array_of}
use Rattle.pa_ctype.specs.Layouts.{IsLayoutOf, table_of}
use Rattle.pa_ctype.proofs.Results.{layout_answer, array_value}
use Rattle.pa_ctype.proofs.types.Types.array_layout.Goals as goal

pub returns-in_err-layout_of-clause-value : goal.returns-in_err-layout_of-clause-value
returns-in_err-layout_of-clause-value c names m fits =
    array_value (table_of names m c.args.self.now.structs) (m c.args.of) c.args.count c.from_residual.result None (c.in_err-layout_of.ensures.value names m fits) c.from_residual.ensures

pub returns-in_err-layout_of-clause-answer : goal.returns-in_err-layout_of-clause-answer
returns-in_err-layout_of-clause-answer c names m fits =
    let table = table_of names m c.args.self.now.structs in
    let t = array_of (m c.args.of) c.args.count in
    subst (IsLayoutOf table t) (sym (returns-in_err-layout_of-clause-value c names m fits)) (layout_answer table t)

pub returns-clause-value : goal.returns-clause-value
returns-clause-value c names m fits =
    array_value (table_of names m c.args.self.now.structs) (m c.args.of) c.args.count c.times.result (Some c.in_ok-layout_of.field-0) (c.in_ok-layout_of.ensures.value names m fits) c.times.ensures

pub returns-clause-answer : goal.returns-clause-answer
returns-clause-answer c names m fits =
    let table = table_of names m c.args.self.now.structs in
    let t = array_of (m c.args.of) c.args.count in
    subst (IsLayoutOf table t) (sym (returns-clause-value c names m fits)) (layout_answer table t)
