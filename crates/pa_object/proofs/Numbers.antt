-- What rows compute are numbers of 64 bits.
use Rattle.std.proofs.Common.{◌≡◌, ℕ, zero, suc, ◌+◌, ◌-◌, ◌*◌, ◌/◌, ◌%◌, ◌^◌, ◌<◌, ◌≤◌, ℤ, pos, negsuc, neg_ℤ, eqb, leb, sym, ap, subst, ◌∙◌, ◌⊎◌, inl, inr, arith, lit<}
use Rattle.std.specs.Prelude.{int_div}
use Rattle.std.specs.Int.{w64, cast_signed, cast_unsigned, bit_at}
use Rattle.std.specs.Int.Signed.{mag}
use Rattle.std.specs.Int.Bits.{and_lt}
use Rattle.std.proofs.lemmas.Bool.{cond_both, cases_lt, lt-ltb, le-ltb}
use Rattle.std.proofs.lemmas.Nat.{xor_lt, or_lt, shl_below, mul-add-lt, pow_pos, pow-add}
use Rattle.std.proofs.Math.Nat.{div-le_self, mod-lt, div-lt_iff_lt-mul}
use Rattle.pa_num.specs.Arithmetic.{wrap, add64, sub64, mul64, not64, udiv64, sdiv64, lsl64, lsr64, asr64, with_part, is_negative64}
use Rattle.pa_num.specs.Bits.{sign_extended}
use Rattle.pa_num.proofs.Bits.{value_fits, within_64}
use Rattle.pa_a64.specs.declared.instr.MoveWideOp.{MoveWideOp}
use Rattle.pa_a64.specs.declared.instr.MoveWideOp.TheVariants.{Movz, Movn, Movk}
use Rattle.pa_a64.specs.declared.instr.SumImmediateOp.{SumImmediateOp}
use Rattle.pa_a64.specs.declared.instr.SumImmediateOp.TheVariants as immediate
use Rattle.pa_a64.specs.declared.instr.LogicalOp.{LogicalOp}
use Rattle.pa_a64.specs.declared.instr.LogicalOp.TheVariants.{And, Orr, Eor, Orn}
use Rattle.pa_a64.specs.declared.instr.MultiplyAddOp.{MultiplyAddOp}
use Rattle.pa_a64.specs.declared.instr.MultiplyAddOp.TheVariants.{Madd, Msub}
use Rattle.pa_a64.specs.declared.instr.DivideOp.{DivideOp}
use Rattle.pa_a64.specs.declared.instr.DivideOp.TheVariants.{Udiv, Sdiv}
use Rattle.pa_a64.specs.declared.instr.ShiftOp.{ShiftOp}
use Rattle.pa_a64.specs.declared.instr.ShiftOp.TheVariants.{Lslv, Lsrv, Asrv}
use Rattle.pa_a64.specs.declared.instr.BitfieldOp.{BitfieldOp}
use Rattle.pa_a64.specs.declared.instr.BitfieldOp.TheVariants.{Sbfm, Ubfm}
use Rattle.pa_object.specs.Effects.{moved, immediate_sum, logical, multiplied, quotient, shifted_by, extended, bitfield}

pub wrap-lt : (x : ℕ) → wrap x < 2 ^ 64
unfolding wrap
wrap-lt x = omega arith

pub add64-lt : (x y : ℕ) → add64 x y < 2 ^ 64
unfolding add64
add64-lt x y = wrap-lt (x + y)

pub sub64-lt : (x y : ℕ) → sub64 x y < 2 ^ 64
unfolding sub64
sub64-lt x y = wrap-lt (x + (2 ^ 64 - y))

pub not64-lt : (x : ℕ) → not64 x < 2 ^ 64
unfolding not64
not64-lt x = omega arith

quotient_below : (x k bound : ℕ) → x < bound → x / k < bound
quotient_below x k bound h = omega (arith, div-le_self x k)

-- ---- moves

shifted_below : (imm hw : ℕ) → imm < 2 ^ 16 → hw < 4 → imm * 2 ^ (16 * hw) < 2 ^ 64
shifted_below imm hw fits low =
    let wide : 16 + 16 * hw ≤ 64 = omega arith in
    omega (arith, shl_below imm 16 (16 * hw) fits, within_64 (16 + 16 * hw) wide)

-- a part that ends at bit 64 or below
joined_below : (x k y : ℕ) → k ≤ 64 → x < 2 ^ 64 → y < 2 ^ k → x / 2 ^ k * 2 ^ k + y < 2 ^ 64
joined_below x k y le xh yh =
    let whole : 64 - k + k ≡ 64 = omega arith in
    let power : 2 ^ 64 ≡ 2 ^ (64 - k) * 2 ^ k = ap (λ z. 2 ^ z) (sym whole) ∙ pow-add 2 (64 - k) k in
    let above : x / 2 ^ k < 2 ^ (64 - k) = (div-lt_iff_lt-mul (pow_pos k)).1 (subst (λ z. x < z) power xh) in
    let joined = mul-add-lt (x / 2 ^ k) (2 ^ k) y (2 ^ (64 - k)) above yh in
    omega (arith, joined, power)

with_part-lt : (x hw part : ℕ) → hw < 4 → x < 2 ^ 64 → part < 2 ^ 16 → with_part x hw part < 2 ^ 64
unfolding with_part
with_part-lt x hw part low xh fits =
    joined_below x (16 * hw + 16) (part * 2 ^ (16 * hw) + x % 2 ^ (16 * hw)) (omega arith) xh (value_fits (16 * hw) 16 x part fits)

pub moved-lt : (op : MoveWideOp) (old imm hw : ℕ) → imm < 2 ^ 16 → hw < 4 → old < 2 ^ 64 → moved op old imm hw < 2 ^ 64
moved-lt Movz old imm hw fits low h = shifted_below imm hw fits low
moved-lt Movn old imm hw fits low h = not64-lt (imm * 2 ^ (16 * hw))
moved-lt Movk old imm hw fits low h = with_part-lt old hw imm low h fits

-- ---- arithmetic

pub immediate_sum-lt : (op : SumImmediateOp) (x y : ℕ) → immediate_sum op x y < 2 ^ 64
immediate_sum-lt immediate.Add x y = add64-lt x y
immediate_sum-lt immediate.Sub x y = sub64-lt x y

pub logical-lt : (op : LogicalOp) (x y : ℕ) → x < 2 ^ 64 → y < 2 ^ 64 → logical op x y < 2 ^ 64
logical-lt And x y xh yh = and_lt 64 x y xh yh
logical-lt Orr x y xh yh = or_lt 64 x y xh yh
logical-lt Eor x y xh yh = xor_lt 64 x y xh yh
logical-lt Orn x y xh yh = or_lt 64 x (not64 y) xh (not64-lt y)

pub multiplied-lt : (op : MultiplyAddOp) (x y z : ℕ) → multiplied op x y z < 2 ^ 64
multiplied-lt Madd x y z = add64-lt z (mul64 x y)
multiplied-lt Msub x y z = sub64-lt z (mul64 x y)

udiv64-lt : (x y : ℕ) → x < 2 ^ 64 → udiv64 x y < 2 ^ 64
unfolding udiv64
udiv64-lt x y h = cond_both (eqb y 0) 0 (x / y) (λ v. v < 2 ^ 64) (λ _. lit< tt) (λ _. quotient_below x y (2 ^ 64) h)

signed-small : (x : ℕ) → x < 2 ^ 64 → mag (cast_signed w64 x) < 2 ^ 63
signed-small x h = at (cases_lt x (2 ^ 63))
  where
    at : ((x < 2 ^ 63) ⊎ (2 ^ 63 ≤ x)) → mag (cast_signed w64 x) < 2 ^ 63
    at (inl lt) = rw (lt-ltb x (2 ^ 63) lt) lt
    at (inr le) = rw (le-ltb x (2 ^ 63) le) (omega arith)

negated-lt : (n : ℕ) → cast_unsigned w64 (neg_ℤ (pos n)) < 2 ^ 64
negated-lt zero = lit< tt
negated-lt (suc n) = omega arith

divided-lt : (x y : ℤ) → mag x < 2 ^ 63 → mag y < 2 ^ 63 → cast_unsigned w64 (int_div x y) < 2 ^ 64
divided-lt (pos a) (pos b) p q = omega (arith, div-le_self a b)
divided-lt (pos a) (negsuc b) p q = negated-lt (a / suc b)
divided-lt (negsuc a) (pos b) p q = negated-lt (suc a / b)
divided-lt (negsuc a) (negsuc b) p q = omega (arith, div-le_self (suc a) (suc b))

sdiv64-lt : (x y : ℕ) → x < 2 ^ 64 → y < 2 ^ 64 → sdiv64 x y < 2 ^ 64
unfolding sdiv64
sdiv64-lt x y xh yh =
    cond_both (eqb y 0) 0 (cast_unsigned w64 (int_div (cast_signed w64 x) (cast_signed w64 y))) (λ v. v < 2 ^ 64) (λ _. lit< tt)
    (λ _. divided-lt (cast_signed w64 x) (cast_signed w64 y) (signed-small x xh) (signed-small y yh))

pub quotient-lt : (op : DivideOp) (x y : ℕ) → x < 2 ^ 64 → y < 2 ^ 64 → quotient op x y < 2 ^ 64
quotient-lt Udiv x y xh yh = udiv64-lt x y xh
quotient-lt Sdiv x y xh yh = sdiv64-lt x y xh yh

-- ---- shifts and bit fields

pub shifted_by-lt : (op : ShiftOp) (x amount : ℕ) → x < 2 ^ 64 → shifted_by op x amount < 2 ^ 64
unfolding lsl64 lsr64 asr64
shifted_by-lt Lslv x amount h = wrap-lt (x * 2 ^ (amount % 64))
shifted_by-lt Lsrv x amount h = quotient_below x (2 ^ (amount % 64)) (2 ^ 64) h
shifted_by-lt Asrv x amount h =
    cond_both (is_negative64 x) (not64 (not64 x / 2 ^ (amount % 64))) (x / 2 ^ (amount % 64)) (λ v. v < 2 ^ 64)
    (λ _. not64-lt (not64 x / 2 ^ (amount % 64))) (λ _. quotient_below x (2 ^ (amount % 64)) (2 ^ 64) h)

pub sign_extended-lt : (value bits : ℕ) → bits ≤ 64 → sign_extended value bits < 2 ^ 64
sign_extended-lt value bits le =
    let wide = within_64 bits le in
    let low = mod-lt value (pow_pos bits) in
    cond_both (eqb (bit_at value (bits - 1)) 1) (value % 2 ^ bits + (2 ^ 64 - 2 ^ bits)) (value % 2 ^ bits) (λ v. v < 2 ^ 64) (λ _. omega arith) (λ _. omega arith)

pub bitfield-lt : (op : BitfieldOp) (value immr imms : ℕ) → immr < 64 → imms < 64 → bitfield op value immr imms < 2 ^ 64
unfolding bitfield
bitfield-lt op value immr imms rh sh =
    cond_both (leb immr imms) (extended op (imms - immr + 1) (value / 2 ^ immr)) (wrap (extended op (imms + 1) value * 2 ^ (64 - immr))) (λ v. v < 2 ^ 64)
    (λ _. field op (imms - immr + 1) (value / 2 ^ immr) (omega arith)) (λ _. wrap-lt (extended op (imms + 1) value * 2 ^ (64 - immr)))
  where
    field : (op : BitfieldOp) (bits value : ℕ) → bits ≤ 64 → extended op bits value < 2 ^ 64
    field Sbfm bits value le = sign_extended-lt value bits le
    field Ubfm bits value le = omega (arith, mod-lt value (pow_pos bits), within_64 bits le)
