use Rattle.std.proofs.Common.{◌≡◌, ◌+◌, false, length}
use Rattle.pa_lex.specs.Reading as reading
use Rattle.pa_lex.proofs.Steps.{plus}
use Rattle.pa_lex.proofs.form.body_len.Given as goal

abbrev pub invariant-bytes : goal.invariant-bytes
invariant-bytes l = record {
  same : reading.body_len l.quote false l.text ≡ plus l.n (reading.body_len l.quote l.taken l.rest);
  count : l.n + length l.rest ≡ length l.text;
}

abbrev pub decreases-bytes : goal.decreases-bytes
decreases-bytes l = length l.rest
