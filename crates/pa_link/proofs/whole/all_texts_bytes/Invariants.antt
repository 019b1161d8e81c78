use Rattle.std.proofs.Common.{◌≡◌, ◌+◌, ◌<◌, ◌^◌, length}
use Rattle.pa_link.specs.Whole.{all_texts_bytes}
use Rattle.pa_link.proofs.whole.all_texts_bytes.Given as goal

abbrev pub invariant-units : goal.invariant-units
invariant-units l = record {
  same : l.total + all_texts_bytes l.rest ≡ l.before + all_texts_bytes l.units;
  fits : l.total < 2 ^ 64;
}

abbrev pub decreases-units : goal.decreases-units
decreases-units l = length l.rest
