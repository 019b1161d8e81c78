use Rattle.std.proofs.Common.{◌≡◌, ◌+◌, ◌-◌, ◌*◌, ◌++◌}
use Rattle.pa_layout.specs.Fields.{numbers}
use Rattle.pa_fixups.proofs.imports.read_starts.Given as goal

abbrev pub invariant-loop-page : goal.invariant-loop-page
invariant-loop-page l = l.starts ++ numbers (l.pages - l.page) 2 (l.at + 2 * l.page) l.part ≡ numbers l.pages 2 l.at l.part
