use Rattle.std.proofs.Common.{arith}
use Rattle.pa_file_grammar.proofs.Turns.{stmt_deeper}
use Rattle.pa_pdecl.proofs.statement.+stmt.Goals as goal

pub returns : goal.returns
returns t c = rw (stmt_deeper c.args.names.now c.args.depth c.args.r.now (omega arith)) c.stmt_level.ensures
