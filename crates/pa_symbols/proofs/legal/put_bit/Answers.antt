use Rattle.std.proofs.Common.{arith}
use Rattle.pa_symbols.proofs.Placed.{bit_put, bit_kept}
use Rattle.pa_symbols.proofs.legal.put_bit.Goals as goal

pub returns-clause-put : goal.returns-clause-put
returns-clause-put c = bit_put c.args.table.now c.args.bit (omega arith)

pub returns-clause-kept : goal.returns-clause-kept
returns-clause-kept c = λ other. bit_kept c.args.table.now c.args.bit other (omega arith)
