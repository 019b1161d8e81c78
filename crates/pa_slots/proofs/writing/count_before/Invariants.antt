use Rattle.std.proofs.Common.{◌≡◌, ◌+◌, length, drop}
use Rattle.pa_slots.specs.Pages.{before}
use Rattle.pa_slots.proofs.writing.count_before.Given as goal

abbrev pub invariant-loop-fix : goal.invariant-loop-fix
invariant-loop-fix l = record {
  count : l.count ≡ l.fix-index;
  rest : l.count + length (before l.limit (drop l.fix-index l.fixes)) ≡ length (before l.limit l.fixes);
}
