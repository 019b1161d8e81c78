use Rattle.std.proofs.Common.{◌≡◌, ◌++◌, drop, map}
use Rattle.pa_slots.specs.Pages.{of_page}
use Rattle.pa_slots.proofs.writing.lowered.Given as goal

abbrev pub invariant-loop-fix : goal.invariant-loop-fix
invariant-loop-fix l = l.made ++ map (of_page l.page) (drop l.fix-index l.fixes) ≡ map (of_page l.page) l.fixes
