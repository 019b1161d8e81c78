use Rattle.std.proofs.Common.{◌≡◌, ◌+◌, ◌<◌, ◌^◌, length}
use Rattle.pa_link.specs.Whole.{all_globals_bytes}
use Rattle.pa_link.proofs.whole.all_globals_bytes.Given as goal

abbrev pub invariant-parts : goal.invariant-parts
invariant-parts l = record {
  same : l.total + all_globals_bytes l.rest ≡ all_globals_bytes l.parts;
  fits : l.total < 2 ^ 64;
}

abbrev pub decreases-parts : goal.decreases-parts
decreases-parts l = length l.rest
