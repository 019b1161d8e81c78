use Rattle.std.proofs.Common.{◌≡◌, ◌+◌, length}
use Rattle.pa_lex.specs.Reading as reading
use Rattle.pa_lex.proofs.Steps.{plus}
use Rattle.pa_lex.proofs.reader.close.Given as goal

abbrev pub invariant-bytes : goal.invariant-bytes
invariant-bytes l = record {
  same : reading.close l.text ≡ plus l.n (reading.close l.rest);
  count : l.n + length l.rest ≡ length l.text;
}

abbrev pub decreases-bytes : goal.decreases-bytes
decreases-bytes l = length l.rest
