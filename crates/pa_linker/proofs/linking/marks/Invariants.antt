use Rattle.std.proofs.Common.{◌≡◌, ◌≤◌, ◌++◌, length}
use Rattle.std.specs.List.{AllByRecursion}
use Rattle.pa_linker.specs.Layout.{marks_from, marks_of, words_after}
use Rattle.pa_linker.specs.Tables.{most_words, MarksStand}
use Rattle.pa_linker.proofs.linking.marks.Given as goal

abbrev pub invariant-loop-object : goal.invariant-loop-object
invariant-loop-object l = record {
  stand : AllByRecursion MarksStand l.rest;
  few : words_after l.words l.rest ≤ most_words;
  marks : l.marks ++ marks_from l.words l.rest ≡ marks_of l.objects;
}

abbrev pub decreases-loop-object : goal.decreases-loop-object
decreases-loop-object l = length l.rest
