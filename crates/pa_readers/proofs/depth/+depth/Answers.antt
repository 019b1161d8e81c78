use Rattle.std.proofs.Common.{arith}
use Rattle.pa_readers.proofs.Depths.{expr_deeper, opened_deeper, declarator_deeper}
use Rattle.pa_readers.proofs.depth.+depth.Goals as goal

pub read_expr-returns-clause-value : goal.read_expr-returns-clause-value
read_expr-returns-clause-value t c = rw (expr_deeper c.args.names.now c.args.depth (omega arith) c.args.level c.args.r.now) c.expr_level.ensures.value

pub read_opened-returns-clause-value : goal.read_opened-returns-clause-value
read_opened-returns-clause-value t c = rw (opened_deeper c.args.names.now c.args.depth (omega arith) c.args.from c.args.r.now) c.opened_level.ensures.value

pub read_declarator-returns-clause-value : goal.read_declarator-returns-clause-value
read_declarator-returns-clause-value t c = rw (declarator_deeper c.args.names.now c.args.depth (omega arith) c.args.name c.args.r.now) c.declarator_level.ensures.value
