use Rattle.std.proofs.Common.{◌≡◌, ◌<◌, ◌++◌, length}
use Rattle.std.specs.List.{AllByRecursion}
use Rattle.pa_linker.specs.Layout.{marks_behind}
use Rattle.pa_linker.proofs.linking.put_marks.Given as goal

abbrev pub invariant-loop-mark : goal.invariant-loop-mark
invariant-loop-mark l = record {
  stand : AllByRecursion (λ mark. mark.at < length l.object.code) l.rest;
  marks : l.out ++ marks_behind l.words l.rest ≡ l.fn.out ++ marks_behind l.words l.object.marks;
}

abbrev pub decreases-loop-mark : goal.decreases-loop-mark
decreases-loop-mark l = length l.rest
