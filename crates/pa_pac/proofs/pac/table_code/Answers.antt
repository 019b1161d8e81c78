use Rattle.std.proofs.Common.{◌∙◌, sym, arith}
use Rattle.pa_pac.proofs.Laws.{table_value-first, table_value-other, table_value-none}
use Rattle.pa_pac.proofs.pac.table_code.Goals as goal

pub returns-then-is_for : goal.returns-then-is_for
returns-then-is_for c =
    let first = table_value-first c.in-Some.row.now c.in-Some.tail.now c.args.key c.args.pointer c.args.modifier (omega arith) (cc c.if-is_for.true) in
    let rest = c.in-Some.ensures.cases in
    cc c.loop-row.invariant

pub loop-row-preserved : goal.loop-row-preserved
loop-row-preserved c =
    let other = table_value-other c.in-Some.row.now c.in-Some.tail.now c.args.key c.args.pointer c.args.modifier (cc c.if-is_for.false) in
    let rest = c.in-Some.ensures.cases in
    cc c.loop-row.invariant

pub returns : goal.returns
returns c = sym (c.loop-row.invariant ∙ table_value-none c.loop-row.rest.now c.args.key c.args.pointer c.args.modifier c.in_default.ensures.cases)
