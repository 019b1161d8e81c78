use Rattle.std.proofs.Common.{arith}
use Rattle.pa_symbols.proofs.Only.{is_found, is_only}
use Rattle.pa_symbols.proofs.reading.read_symbols.Goals as goal

pub returns-clause-found : goal.returns-clause-found
returns-clause-found c =
    is_found c.args.text c.args.at c.args.symbols.now c.args.strings.now c.read_tables.result c.requires.whole (λ i. omega (arith, c.type_inv.symbols i)) c.read_tables.ensures.value c.read_tables.ensures.exact

pub returns-clause-only : goal.returns-clause-only
returns-clause-only c = is_only c.args.text c.args.at c.args.symbols.now c.args.strings.now c.read_tables.result c.read_tables.ensures.value c.read_tables.ensures.exact
