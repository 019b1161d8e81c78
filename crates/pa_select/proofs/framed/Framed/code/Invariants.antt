use Rattle.std.proofs.Common.{◌≡◌, ◌+◌, ◌++◌, length}
use Rattle.std.specs.List.{sum_by, AllByRecursion}
use Rattle.pa_select.specs.Selected.{words_of, body, function_code, count_of_words}
use Rattle.pa_select.specs.Objects.{refs_from, function_refs}
use Rattle.pa_select.specs.Selectable.{IsSelectableOp}
use Rattle.pa_select.proofs.framed.Framed.code.Given as goal

abbrev pub invariant-ops : goal.invariant-ops
invariant-ops l =
    let f = l.self.function.now in
    record {
      instrs : l.code.instrs ++ body f (length l.code.instrs) l.rest ≡ function_code f;
      refs : l.code.refs ++ refs_from f (length l.code.instrs) l.rest ≡ function_refs f;
      count : length l.code.instrs + sum_by (words_of f) l.rest ≡ count_of_words f;
      selectable : AllByRecursion (IsSelectableOp f) l.rest;
    }

abbrev pub decreases-ops : goal.decreases-ops
decreases-ops l = length l.rest
