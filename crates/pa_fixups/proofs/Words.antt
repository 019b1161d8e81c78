-- The fields of words.
use Rattle.std.proofs.Common.{◌≡◌, ℕ, ◌+◌, ◌*◌, ◌/◌, ◌≤◌, ◌<◌, ◌^◌, ◌%◌, arith}
use Rattle.std.proofs.Math.Nat.{div-eq_of_lt, mod-eq_of_lt, pow-le-pow_right}
use Rattle.pa_num.specs.Bits.{with_field}

-- a field above all the bits that a word has
pub with_field-above : (low width word value : ℕ) → word < 2 ^ low → with_field low width word value ≡ word + value * 2 ^ low
with_field-above low width word value h =
    let more : 2 ^ low ≤ 2 ^ (low + width) = pow-le-pow_right (omega arith) (omega arith) in
    let none : word / 2 ^ (low + width) ≡ 0 = div-eq_of_lt (omega arith) in
    let all : word % 2 ^ low ≡ word = mod-eq_of_lt h in
    rw (none, all) (omega arith)
