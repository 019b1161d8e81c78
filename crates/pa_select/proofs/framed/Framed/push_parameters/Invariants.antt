use Rattle.std.proofs.Common.{◌≡◌, ◌+◌, ◌++◌, take, length}
use Rattle.pa_select.specs.Selected.{store_parameters}
use Rattle.pa_select.proofs.framed.Framed.push_parameters.Given as goal

abbrev pub invariant-parameters : goal.invariant-parameters
invariant-parameters l =
    let f = l.self.function.now in
    record {
      code : l.instrs ++ store_parameters f l.number l.rest ≡ l.fn.instrs ++ store_parameters f 0 (take f.parameters f.locals);
      count : l.number + length l.rest ≡ f.parameters;
    }

abbrev pub decreases-parameters : goal.decreases-parameters
decreases-parameters l = length l.rest
