use Rattle.std.proofs.Common.{◌≡◌, ◌++◌, drop, map}
use Rattle.pa_slots.specs.Pages.{Below, page_size, in_page}
use Rattle.pa_slots.proofs.reading.append_slots.Given as goal

abbrev pub invariant-loop-fix : goal.invariant-loop-fix
invariant-loop-fix l = record {
  below : Below page_size (drop l.fix-index l.fixes);
  put : l.out ++ map (in_page l.page) (drop l.fix-index l.fixes) ≡ l.fn.out ++ map (in_page l.page) l.fixes;
}
