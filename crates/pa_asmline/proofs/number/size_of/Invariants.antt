use Rattle.std.proofs.Common.{◌≡◌, Some, length, true}
use Rattle.std.specs.List.{list_all}
use Rattle.std.specs.Char.{is_ascii_digit}
use Rattle.std.specs.Str.Parse.{digits_value, digits_value_after}
use Rattle.pa_asmline.specs.Reading.{within_u32}
use Rattle.pa_asmline.proofs.number.size_of.Given as goal

abbrev pub invariant-digits : goal.invariant-digits
invariant-digits l = record {
  same : digits_value_after 10 l.number l.rest ≡ digits_value 10 l.digits;
  fits : within_u32 l.number ≡ Some l.number;
  digits : list_all is_ascii_digit l.rest ≡ true;
}

abbrev pub decreases-digits : goal.decreases-digits
decreases-digits l = length l.rest
