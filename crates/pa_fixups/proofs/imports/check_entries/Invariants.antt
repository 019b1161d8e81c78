use Rattle.std.proofs.Common.{◌≡◌, ◌+◌, ◌-◌, ◌*◌}
use Rattle.pa_layout.specs.Flaws.{first}
use Rattle.pa_fixups.specs.Fixups.{entry_checks}
use Rattle.pa_fixups.proofs.imports.check_entries.Given as goal

abbrev pub invariant-loop-k : goal.invariant-loop-k
invariant-loop-k l = first (entry_checks (l.count - l.k) (l.at + 4 * l.k) l.part) l.part ≡ first (entry_checks l.count l.at l.part) l.part
