use Rattle.std.proofs.Common.{◌≡◌, ◌≤◌, ◌+◌, ◌++◌, length}
use Rattle.pa_linker.specs.Linked.{import_fixes}
use Rattle.pa_linker.proofs.fixes.put_imports.Given as goal

abbrev pub invariant-loop-behind : goal.invariant-loop-behind
invariant-loop-behind l = record {
  few : l.ordinal + length l.rest ≤ 2;
  fixes : l.out ++ import_fixes l.ordinal l.rest ≡ l.fn.out ++ import_fixes 0 l.imports;
}

abbrev pub decreases-loop-behind : goal.decreases-loop-behind
decreases-loop-behind l = length l.rest
