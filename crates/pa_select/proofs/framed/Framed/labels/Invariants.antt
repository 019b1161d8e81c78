use Rattle.std.proofs.Common.{◌≡◌, ◌≤◌, ◌+◌, ℕ, length}
use Rattle.std.specs.List.{sum_by, AllByRecursion}
use Rattle.pa_lir.specs.Placing.{kept, or_else}
use Rattle.pa_lir.specs.Ready.{most_words}
use Rattle.pa_select.specs.Selected.{words_of, label_from, label_at, count_of_words}
use Rattle.pa_select.specs.Selectable.{IsSelectableOp}
use Rattle.pa_select.proofs.framed.Framed.labels.Given as goal

abbrev pub invariant-ops : goal.invariant-ops
invariant-ops l =
    let f = l.self.function.now in
    record {
      placed : (label : ℕ) → or_else (kept l.labels label) (label_from f (length l.code.instrs) l.rest label) ≡ label_at f label;
      count : length l.code.instrs + sum_by (words_of f) l.rest ≡ count_of_words f;
      few : length l.code.instrs ≤ most_words;
      selectable : AllByRecursion (IsSelectableOp f) l.rest;
    }

abbrev pub decreases-ops : goal.decreases-ops
decreases-ops l = length l.rest
