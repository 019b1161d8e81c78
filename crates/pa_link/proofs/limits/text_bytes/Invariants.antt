use Rattle.std.proofs.Common.{◌≡◌, ◌+◌, ◌<◌, ◌^◌, length}
use Rattle.pa_link.specs.Limits.{texts_bytes}
use Rattle.pa_link.proofs.limits.text_bytes.Given as goal

abbrev pub invariant-texts : goal.invariant-texts
invariant-texts l = record {
  same : l.total + texts_bytes l.rest ≡ l.before + texts_bytes l.texts;
  fits : l.total < 2 ^ 64;
}

abbrev pub decreases-texts : goal.decreases-texts
decreases-texts l = length l.rest
