use Rattle.std.proofs.Common.{◌≡◌, ◌≤◌, ◌+◌, ◌++◌, length}
use Rattle.pa_lir.specs.Parts.{above, held}
use Rattle.pa_select.specs.Selected.{load_arguments}
use Rattle.pa_select.proofs.framed.Framed.push_arguments.Given as goal

abbrev pub invariant-arguments : goal.invariant-arguments
invariant-arguments l =
    let f = l.self.function.now in
    record {
      code : l.instrs ++ load_arguments f l.register l.rest ≡ l.fn.instrs ++ load_arguments f 0 l.arguments;
      count : l.register + length l.rest ≡ length l.arguments;
      temps : above l.rest ≤ held f;
    }

abbrev pub decreases-arguments : goal.decreases-arguments
decreases-arguments l = length l.rest
