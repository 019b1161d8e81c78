use Rattle.pa_fixups.proofs.Cuts.{Read}
use Rattle.pa_fixups.proofs.imports.read_names.Given as goal

abbrev pub invariant-loop-k : goal.invariant-loop-k
invariant-loop-k l = Read l.count l.entries l.k l.at l.part l.text l.rest l.names
