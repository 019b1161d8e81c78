use Rattle.std.proofs.Common.{◌≡◌, ◌+◌, ◌<◌, ◌^◌, length}
use Rattle.pa_link.specs.Whole.{function_count}
use Rattle.pa_link.proofs.whole.function_count.Given as goal

abbrev pub invariant-parts : goal.invariant-parts
invariant-parts l = record {
  same : l.total + function_count l.rest ≡ function_count l.parts;
  fits : l.total < 2 ^ 64;
}

abbrev pub decreases-parts : goal.decreases-parts
decreases-parts l = length l.rest
