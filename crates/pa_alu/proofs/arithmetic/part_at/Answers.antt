use Rattle.std.proofs.Common.{◌≡◌, ℕ, ◌+◌, ◌*◌, ◌%◌, ◌^◌, ◌<◌, ◌≤◌, arith}
use Rattle.std.proofs.lemmas.Nat.{shl_below}
use Rattle.std.proofs.Math.Pow.{pow_mono}
use Rattle.std.proofs.Math.Nat.{mod-eq_of_lt}
use Rattle.pa_alu.proofs.arithmetic.part_at.Goals as goal

part_fits : (part at : ℕ) → part < 2 ^ 16 → at < 4 → part * 2 ^ (16 * at) < 2 ^ 64
part_fits part at p q =
    let top : 2 ^ (16 + 16 * at) ≤ 2 ^ 64 = pow_mono {i = 16 + 16 * at} {j = 64} (omega arith) in
    omega (arith, shl_below part 16 (16 * at) p)

pub returns : goal.returns
returns c =
    rw c.from.ensures (mod-eq_of_lt (part_fits c.args.part c.args.at c.ranges.part.fits c.requires))
