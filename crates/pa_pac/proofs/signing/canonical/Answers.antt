use Rattle.std.proofs.Common.{◌≡◌, arith}
use Rattle.std.proofs.lemmas.Nat.{and_mask}
use Rattle.std.proofs.lemmas.Nat.Bits.{shr_and_one}
use Rattle.std.specs.Int.{bit_at}
use Rattle.pa_pac.specs.Signing.{canonical}
use Rattle.pa_pac.proofs.signing.canonical.Goals as goal

pub returns-then-value-eq1 : goal.returns-then-value-eq1
unfolding canonical
returns-then-value-eq1 c =
    let selector : bit_at c.args.value 55 ≡ 1 = omega (arith, shr_and_one c.args.value 55) in
    rw (and_mask c.args.value 48) (omega arith)

pub returns-else-value-eq1 : goal.returns-else-value-eq1
unfolding canonical
returns-else-value-eq1 c =
    let selector : bit_at c.args.value 55 ≡ 0 = omega (arith, shr_and_one c.args.value 55) in
    rw (and_mask c.args.value 48) (omega arith)
