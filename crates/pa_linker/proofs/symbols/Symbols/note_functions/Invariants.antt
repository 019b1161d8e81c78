use Rattle.std.proofs.Common.{◌≡◌, ◌≤◌, ℕ, List, length}
use Rattle.std.specs.List.{AllByRecursion}
use Rattle.std.specs.Option.{option_or}
use Rattle.pa_linker.specs.Layout.{find, functions_from, marks_from, marks_of, words_after}
use Rattle.pa_linker.specs.Tables.{kept_place, most_words, MarksStand}
use Rattle.pa_linker.proofs.symbols.Symbols.note_functions.Given as goal

abbrev pub invariant-loop-object : goal.invariant-loop-object
invariant-loop-object l = record {
  stand : AllByRecursion MarksStand l.rest;
  few : words_after l.words l.rest ≤ most_words;
  found : (name : List ℕ) → option_or (kept_place l.self name) (find (functions_from (marks_from l.words l.rest)) name) ≡ option_or (kept_place l.fn.self name) (find (functions_from (marks_of l.objects)) name);
}

abbrev pub decreases-loop-object : goal.decreases-loop-object
decreases-loop-object l = length l.rest
