use Rattle.std.proofs.Common.{◌≡◌, ◌++◌, drop}
use Rattle.pa_layout.specs.Names.{ended}
use Rattle.pa_fixups.proofs.fixups.put_names.Given as goal

abbrev pub invariant-loop-name : goal.invariant-loop-name
invariant-loop-name l = l.out.items ++ ended (drop l.name-index l.names) ≡ l.fn.out.items ++ ended l.names
