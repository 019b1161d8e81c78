use Rattle.std.proofs.Common.{◌≡◌, ◌++◌, drop}
use Rattle.pa_layout.specs.Fields.{spelled, AllFit}
use Rattle.pa_fixups.specs.Fixups.{entries}
use Rattle.pa_fixups.proofs.fixups.put_entries.Given as goal

abbrev pub invariant-loop-name : goal.invariant-loop-name
invariant-loop-name l =
    AllFit (entries l.place (drop l.name-index l.names))
    × (l.out.items ++ spelled (entries l.place (drop l.name-index l.names)) ≡ l.fn.out.items ++ spelled (entries 1 l.names))
