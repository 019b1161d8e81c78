use Rattle.pa_load.proofs.Imports.{Resolved}
use Rattle.pa_load.proofs.loading.addresses_of.Given as goal

abbrev pub invariant-loop-index : goal.invariant-loop-index
invariant-loop-index l = Resolved l.main l.runtime l.name-items l.index l.addresses
