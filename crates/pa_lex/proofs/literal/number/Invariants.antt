use Rattle.std.proofs.Common.{◌≡◌, Some, length}
use Rattle.std.specs.Str.Parse.{digits_value, digits_value_after}
use Rattle.pa_lex.specs.Reading.{within_u64}
use Rattle.pa_lex.proofs.literal.number.Given as goal

abbrev pub invariant-digits : goal.invariant-digits
invariant-digits l = record {
  same : digits_value_after l.radix l.value l.rest ≡ digits_value l.radix l.digits;
  fits : within_u64 l.value ≡ Some l.value;
}

abbrev pub decreases-digits : goal.decreases-digits
decreases-digits l = length l.rest
