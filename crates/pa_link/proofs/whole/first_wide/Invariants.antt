use Rattle.std.proofs.Common.{◌≡◌, ◌+◌, length}
use Rattle.pa_link.specs.Whole.{wide_from}
use Rattle.pa_link.proofs.whole.first_wide.Given as goal

abbrev pub invariant-parts : goal.invariant-parts
invariant-parts l = record {
  same : wide_from l.file l.rest ≡ wide_from 1 l.parts;
  count : l.file + length l.rest ≡ 1 + length l.parts;
}

abbrev pub decreases-parts : goal.decreases-parts
decreases-parts l = length l.rest
