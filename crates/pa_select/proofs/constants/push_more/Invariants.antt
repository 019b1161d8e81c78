use Rattle.std.proofs.Common.{◌≡◌, ◌<◌, ◌++◌, length}
use Rattle.std.specs.List.{AllByRecursion}
use Rattle.pa_select.specs.Constants.{more_moves}
use Rattle.pa_select.proofs.constants.push_more.Given as goal

abbrev pub invariant-parts : goal.invariant-parts
invariant-parts l = record {
  code : l.code ++ more_moves l.register l.value l.rest ≡ l.fn.code ++ more_moves l.register l.value l.parts;
  small : AllByRecursion (λ k. k < 4) l.rest;
}

abbrev pub decreases-parts : goal.decreases-parts
decreases-parts l = length l.rest
