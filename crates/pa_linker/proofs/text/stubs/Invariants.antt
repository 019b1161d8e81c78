use Rattle.std.proofs.Common.{◌≡◌, ◌≤◌, ◌+◌, ◌++◌, length}
use Rattle.pa_linker.specs.Linked.{stubs_from}
use Rattle.pa_linker.specs.Tables.{layout_in}
use Rattle.pa_linker.proofs.text.stubs.Given as goal

abbrev pub invariant-loop-behind : goal.invariant-loop-behind
invariant-loop-behind l = record {
  few : l.import + length l.rest ≤ 2;
  words : l.words ++ stubs_from (layout_in l.layout) l.import l.rest ≡ stubs_from (layout_in l.layout) 0 (layout_in l.layout).imports;
}

abbrev pub decreases-loop-behind : goal.decreases-loop-behind
decreases-loop-behind l = length l.rest
