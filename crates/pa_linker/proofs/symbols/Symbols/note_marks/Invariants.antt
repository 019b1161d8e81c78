use Rattle.std.proofs.Common.{◌≡◌, ◌<◌, ℕ, List, length}
use Rattle.std.specs.List.{AllByRecursion}
use Rattle.std.specs.Option.{option_or}
use Rattle.pa_linker.specs.Layout.{find, functions_from, marks_behind}
use Rattle.pa_linker.specs.Tables.{kept_place}
use Rattle.pa_linker.proofs.symbols.Symbols.note_marks.Given as goal

abbrev pub invariant-loop-mark : goal.invariant-loop-mark
invariant-loop-mark l = record {
  stand : AllByRecursion (λ mark. mark.at < length l.object.code) l.rest;
  found : (name : List ℕ) → option_or (kept_place l.self name) (find (functions_from (marks_behind l.words l.rest)) name) ≡ option_or (kept_place l.fn.self name) (find (functions_from (marks_behind l.words l.object.marks)) name);
}

abbrev pub decreases-loop-mark : goal.decreases-loop-mark
decreases-loop-mark l = length l.rest
