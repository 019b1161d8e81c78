use Rattle.std.proofs.Common.{◌≡◌, ◌++◌, drop, map}
use Rattle.pa_layout.specs.Fields.{spelled, AllFit, two}
use Rattle.pa_fixups.proofs.fixups.put_starts.Given as goal

abbrev pub invariant-loop-start : goal.invariant-loop-start
invariant-loop-start l =
    AllFit (map two (drop l.start-index l.starts))
    × (l.out.items ++ spelled (map two (drop l.start-index l.starts)) ≡ l.fn.out.items ++ spelled (map two l.starts))
