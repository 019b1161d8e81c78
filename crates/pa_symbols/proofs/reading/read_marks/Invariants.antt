use Rattle.std.proofs.Common.{◌/◌, length}
use Rattle.pa_symbols.proofs.Steps.{Read}
use Rattle.pa_symbols.proofs.reading.read_marks.Given as goal

abbrev pub invariant-loop-k : goal.invariant-loop-k
invariant-loop-k l = Read l.text l.at l.symbols l.strings (length l.symbols / 16) l.k l.due l.marks l.names.keys
