-- A number in 64 bits of two's complement.
use Rattle.std.proofs.Common.{◌≡◌, ℤ, pos, negsuc, arith}
use Rattle.std.specs.Prelude.{FitsSigned}
use Rattle.std.specs.Int.{w64, cast_unsigned}
use Rattle.pa_num.specs.Arithmetic.{unsigned64, wrap}

pub word_is : (z : ℤ) → FitsSigned w64 z → cast_unsigned w64 z ≡ unsigned64 z
unfolding unsigned64 wrap
word_is (pos n) fits = omega (arith, fits)
word_is (negsuc n) fits = omega (arith, fits)
