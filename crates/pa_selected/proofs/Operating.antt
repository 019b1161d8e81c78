-- What the instructions of operators and of extensions do.
use Rattle.std.proofs.Common.{◌≡◌, ℕ, suc, ◌+◌, ◌-◌, ◌*◌, ◌%◌, ◌^◌, ◌≤◌, ◌<◌, ◌⊎◌, inl, inr, Bool, true, false, cond, eqb, ltb, leb, [], ◌∷◌, length, get_or, set, Some, None, refl, sym, ap, subst, ◌∙◌, arith, zero-add}
use Rattle.std.specs.Prelude.{◌||◌, ◌&&◌, not, bit_and, bit_or, bit_xor, unwrap_or}
use Rattle.std.proofs.lemmas.Bool.{cases_eq, cases_lt, eq-eqb, ne_eqb, lt-ltb, le-ltb, le-leb, lt-leb}
use Rattle.std.proofs.lemmas.List.{set_past}
use Rattle.std.specs.Int.{bit_at}
use Rattle.std.specs.Int.Bits.{or_zero_l}
use Rattle.std.proofs.Math.ListN.{get_or-eq_default}
use Rattle.pa_num.specs.Arithmetic.{wrap, add64, sub64, mul64, not64, udiv64, sdiv64, lsl64, lsr64, asr64}
use Rattle.pa_num.specs.Bits.{sign_extended, truncated}
use Rattle.pa_pac.specs.Signing.{Code}
use Rattle.pa_a64.specs.declared.instr.Instr.TheVariants as i
use Rattle.pa_a64.specs.declared.instr.SumOp.TheVariants as sum
use Rattle.pa_a64.specs.declared.instr.LogicalOp.TheVariants as logic
use Rattle.pa_a64.specs.declared.instr.MultiplyAddOp.TheVariants.{Madd, Msub}
use Rattle.pa_a64.specs.declared.instr.DivideOp.{DivideOp}
use Rattle.pa_a64.specs.declared.instr.DivideOp.TheVariants.{Udiv, Sdiv}
use Rattle.pa_a64.specs.declared.instr.ShiftOp.TheVariants.{Lslv, Lsrv, Asrv}
use Rattle.pa_a64.specs.declared.instr.BitfieldOp.TheVariants.{Sbfm, Ubfm}
use Rattle.pa_a64.specs.declared.instr.LoadStoreOp.TheVariants.{Ldr}
use Rattle.pa_a64.specs.declared.instr.LoadStoreWordOp.TheVariants.{Ldrw, Ldrsw}
use Rattle.pa_a64.specs.declared.instr.LoadStoreHalfOp.TheVariants.{Ldrh, Ldrsh}
use Rattle.pa_a64.specs.declared.instr.LoadStoreByteOp.TheVariants.{Ldrb, Ldrsb}
use Rattle.pa_mem.specs.Memory.{Read, allowed, load}
use Rattle.pa_mem.proofs.Ranges.{load-lt}
use Rattle.pa_object.specs.Machine.{Machine, register, with_register, next, flags_of_difference, condition_holds}
use Rattle.pa_object.specs.Effects.{summed, quotient}
use Rattle.pa_object.specs.Run.{step}
use Rattle.pa_object.specs.Placed.{HasCode}
use Rattle.pa_object.proofs.Steps.{add64_small}
use Rattle.pa_object.proofs.Numbers.{wrap-lt}
use Rattle.pa_object.proofs.StepsComputing.{sum_step, logical_step, multiply_add_step, divide_step, shift_step, bitfield_step, csinc_step}
use Rattle.pa_object.proofs.StepsMemory.{load_store_step, load_store_word_step, load_store_half_step, load_store_byte_step}
use Rattle.pa_object.proofs.Comparing.{less_signed, cast_low, cast_high, holds_eq, holds_ne, holds_cs, holds_hi, holds_ge, holds_gt}
use Rattle.pa_object.proofs.Rounding.{extended_by_zeros, extended_by_sign}
use Rattle.pa_lir.specs.declared.op.BinOp.{BinOp}
use Rattle.pa_lir.specs.declared.op.BinOp.TheVariants as bin
use Rattle.pa_lir.specs.declared.op.UnOp.{UnOp}
use Rattle.pa_lir.specs.declared.op.UnOp.TheVariants as un
use Rattle.pa_lir.specs.Operators.{truth, biased, remainder, of_numbers, of_number, unless_zero}
use Rattle.pa_lir.specs.Values as value
use Rattle.pa_lir.specs.WellFormed.{IsWidth}
use Rattle.pa_select.specs.Computing as code
use Rattle.pa_selected.specs.Calls.{IsRunning}
use Rattle.pa_selected.proofs.Straight.{Goes, goes_then, goes_more, no_touch, one, fine_later, code_later, sets}
use Rattle.pa_selected.proofs.Accessing.{Makes, set_value}

-- ---- numbers

-- what the instructions of an operator give of two numbers
abbrev pub computed_by : BinOp → ℕ → ℕ → ℕ
computed_by bin.Add x y = add64 x y
computed_by bin.Sub x y = sub64 x y
computed_by bin.Mul x y = mul64 x y
computed_by bin.SDiv x y = sdiv64 x y
computed_by bin.UDiv x y = udiv64 x y
computed_by bin.SRem x y = remainder (sdiv64 x y) x y
computed_by bin.URem x y = remainder (udiv64 x y) x y
computed_by bin.And x y = bit_and x y
computed_by bin.Or x y = bit_or x y
computed_by bin.Xor x y = bit_xor x y
computed_by bin.Shl x y = lsl64 x y
computed_by bin.Lsr x y = lsr64 x y
computed_by bin.Asr x y = asr64 x y
computed_by bin.Eq x y = truth (eqb x y)
computed_by bin.Ne x y = truth (not (eqb x y))
computed_by bin.SLt x y = truth (ltb (biased x) (biased y))
computed_by bin.SLe x y = truth (leb (biased x) (biased y))
computed_by bin.ULt x y = truth (ltb x y)
computed_by bin.ULe x y = truth (leb x y)

some_is : (x y : ℕ) → Some x ≡ Some y → y ≡ x
some_is x y e = sym (ap (λ o. unwrap_or o x) e)

divided : (y x z : ℕ) → unless_zero y x ≡ Some z → z ≡ x
divided y x z e = go (eqb y 0) e
  where
    go : (b : Bool) → cond b None (Some x) ≡ Some z → z ≡ x
    go true e = cc
    go false e = some_is x z e

-- and it is what the operator means, where that is defined
pub computed_means : (operator : BinOp) (x y z : ℕ) → of_numbers operator x y ≡ Some z → z ≡ computed_by operator x y
computed_means bin.Add x y z e = some_is _ z e
computed_means bin.Sub x y z e = some_is _ z e
computed_means bin.Mul x y z e = some_is _ z e
computed_means bin.SDiv x y z e = divided y _ z e
computed_means bin.UDiv x y z e = divided y _ z e
computed_means bin.SRem x y z e = divided y _ z e
computed_means bin.URem x y z e = divided y _ z e
computed_means bin.And x y z e = some_is _ z e
computed_means bin.Or x y z e = some_is _ z e
computed_means bin.Xor x y z e = some_is _ z e
computed_means bin.Shl x y z e = some_is _ z e
computed_means bin.Lsr x y z e = some_is _ z e
computed_means bin.Asr x y z e = some_is _ z e
computed_means bin.Eq x y z e = some_is _ z e
computed_means bin.Ne x y z e = some_is _ z e
computed_means bin.SLt x y z e = some_is _ z e
computed_means bin.SLe x y z e = some_is _ z e
computed_means bin.ULt x y z e = some_is _ z e
computed_means bin.ULe x y z e = some_is _ z e

-- ---- comparisons

-- the order of signed numbers is that of the biased ones
biased_low : (x : ℕ) → x < 2 ^ 63 → biased x ≡ x + 2 ^ 63
unfolding add64 wrap
biased_low x h = omega arith

biased_high : (x : ℕ) → 2 ^ 63 ≤ x → x < 2 ^ 64 → biased x ≡ x - 2 ^ 63
unfolding add64 wrap
biased_high x h k = omega arith

ltb_same : (a b c d : ℕ) → (a < b → c < d) → (b ≤ a → d ≤ c) → ltb a b ≡ ltb c d
ltb_same a b c d f g = go (cases_lt a b)
  where
    go : ((a < b) ⊎ (b ≤ a)) → ltb a b ≡ ltb c d
    go (inl h) = lt-ltb a b h ∙ sym (lt-ltb c d (f h))
    go (inr h) = le-ltb a b h ∙ sym (le-ltb c d (g h))

less_biased : (x y : ℕ) → x < 2 ^ 64 → y < 2 ^ 64 → less_signed x y ≡ ltb (biased x) (biased y)
less_biased x y xh yh = go (cases_lt x (2 ^ 63)) (cases_lt y (2 ^ 63))
  where
    go : ((x < 2 ^ 63) ⊎ (2 ^ 63 ≤ x)) → ((y < 2 ^ 63) ⊎ (2 ^ 63 ≤ y)) → less_signed x y ≡ ltb (biased x) (biased y)
    go (inl a) (inl b) = rw (cast_low x a, cast_low y b, biased_low x a, biased_low y b) (ltb_same x y (x + 2 ^ 63) (y + 2 ^ 63) (λ h. omega arith) (λ h. omega arith))
    go (inl a) (inr b) = rw (cast_low x a, cast_high y b, biased_low x a, biased_high y b yh) (sym (le-ltb (x + 2 ^ 63) (y - 2 ^ 63) (omega arith)))
    go (inr a) (inl b) = rw (cast_high x a, cast_low y b, biased_high x a xh, biased_low y b) (sym (lt-ltb (x - 2 ^ 63) (y + 2 ^ 63) (omega arith)))
    go (inr a) (inr b) = rw (cast_high x a, cast_high y b, biased_high x a xh, biased_high y b yh) (ltb_same (2 ^ 64 - suc y) (2 ^ 64 - suc x) (x - 2 ^ 63) (y - 2 ^ 63) (λ h. omega arith) (λ h. omega arith))

below_or_not : (x y : ℕ) → leb y x ≡ not (ltb x y)
below_or_not x y = go (cases_lt x y)
  where
    go : ((x < y) ⊎ (y ≤ x)) → leb y x ≡ not (ltb x y)
    go (inl h) = rw (lt-leb y x h, lt-ltb x y h) refl
    go (inr h) = rw (le-leb y x h, le-ltb x y h) refl

above_or_not : (x y : ℕ) → ltb y x ≡ not (leb x y)
above_or_not x y = go (cases_lt y x)
  where
    go : ((y < x) ⊎ (x ≤ y)) → ltb y x ≡ not (leb x y)
    go (inl h) = rw (lt-leb x y h, lt-ltb y x h) refl
    go (inr h) = rw (le-leb x y h, le-ltb y x h) refl

biased_same : (x y : ℕ) → x < 2 ^ 64 → y < 2 ^ 64 → biased x ≡ biased y → x ≡ y
unfolding add64 wrap
biased_same x y xh yh e = omega arith

greater_biased : (x y : ℕ) → x < 2 ^ 64 → y < 2 ^ 64 → (not (eqb x y) && not (less_signed x y)) ≡ not (leb (biased x) (biased y))
greater_biased x y xh yh = ap (λ b. not (eqb x y) && not b) (less_biased x y xh yh) ∙ go (cases_eq x y) (cases_lt (biased x) (biased y))
  where
    go : ((x ≡ y) ⊎ (x ≡ y → ⊥)) → ((biased x < biased y) ⊎ (biased y ≤ biased x)) → (not (eqb x y) && not (ltb (biased x) (biased y))) ≡ not (leb (biased x) (biased y))
    go (inl e) h = let same : biased x ≡ biased y = ap biased e in rw (eq-eqb x y e, le-leb (biased x) (biased y) (omega arith)) refl
    go (inr n) (inl h) = rw (ne_eqb x y n, lt-ltb (biased x) (biased y) h, le-leb (biased x) (biased y) (omega arith)) refl
    go (inr n) (inr h) =
        let other : biased x ≡ biased y → ⊥ = λ e. n (biased_same x y xh yh e) in
        rw (ne_eqb x y n, le-ltb (biased x) (biased y) h, lt-leb (biased x) (biased y) (omega arith)) refl

-- 1 unless the condition holds
unless : (holds b : Bool) → holds ≡ not b → cond holds 0 1 ≡ truth b
unless holds true e = ap (λ h. cond h 0 1) e
unless holds false e = ap (λ h. cond h 0 1) e

product-lt : (x y : ℕ) → mul64 x y < 2 ^ 64
unfolding mul64
product-lt x y = wrap-lt (x * y)

-- a word is its own extension
pub whole_signed : (x : ℕ) → x < 2 ^ 64 → sign_extended x 64 ≡ x
whole_signed x h = go (eqb (bit_at x 63) 1)
  where
    go : (b : Bool) → cond b (x % 2 ^ 64 + (2 ^ 64 - 2 ^ 64)) (x % 2 ^ 64) ≡ x
    go true = omega arith
    go false = omega arith

-- ---- instructions

module _ (pac : Code) (m : Machine) (fine : IsRunning m) (room : m.pc + 8 < 2 ^ 64) where
  zero_register : register 31 m ≡ 0
  zero_register = get_or-eq_default m.registers 0 (omega (arith, fine.wide))

  sets_9 : (v w : ℕ) → step pac m ≡ next (with_register 9 v m) → v ≡ w → Makes pac 1 m 9 w (λ k. eqb k 11 || eqb k 9)
  sets_9 v w done e = record {
    later = next (with_register 9 v m);
    goes = goes_more pac 1 m _ m.memory _ _ (λ k h. (no_touch (eqb k 11) (eqb k 9) h).1) (sets pac m 9 v fine.going (omega arith) done);
    value = set_value pac m 9 v fine (omega arith) ∙ e;
  }

  remainder_makes : (op : DivideOp) → HasCode m.memory m.pc (code.remainder op) → Makes pac 2 m 9 (remainder (quotient op (register 9 m) (register 10 m)) (register 9 m) (register 10 m)) (λ k. eqb k 11 || eqb k 9)
  remainder_makes op c =
      let q = quotient op (register 9 m) (register 10 m) in
      let k = next (with_register 11 q m) in
      let first : Goes pac 1 m k m.memory (λ i. eqb i 11) = sets pac m 11 q fine.going (omega arith) (divide_step pac m op 11 9 10 c.0) in
      let fine1 = fine_later pac 1 m k m.memory _ fine first in
      let rest = code_later pac 1 m k m.memory _ (i.MultiplyAdd Msub 9 11 10 9 ∷ []) fine first c.1 in
      let divisor : register 10 k ≡ register 10 m = first.others 10 refl in
      let dividend : register 9 k ≡ register 9 m = first.others 9 refl in
      let quotient_in : register 11 k ≡ q = set_value pac m 11 q fine (omega arith) in
      let v = remainder q (register 9 m) (register 10 m) in
      let done : step pac k ≡ next (with_register 9 v k) = multiply_add_step pac k Msub 9 11 10 9 rest.0 ∙ rw (divisor, dividend, quotient_in) refl in
      let second : Goes pac 1 k (next (with_register 9 v k)) m.memory (λ i. eqb i 9) = sets pac k 9 v fine1.going (omega (arith, first.pc)) done in
      record { later = next (with_register 9 v k); goes = goes_then pac 1 1 m k _ m.memory m.memory _ _ first second; value = set_value pac k 9 v fine1 (omega arith) }

  comparison_makes : (condition : ℕ) (b : Bool) → condition_holds condition (flags_of_difference (register 9 m) (register 10 m)) ≡ not b → HasCode m.memory m.pc (code.comparison condition)
      → Makes pac 2 m 9 (truth b) (λ k. eqb k 11 || eqb k 9)
  comparison_makes condition b holds c =
      let k = next (summed sum.Subs 31 (register 9 m) (register 10 m) m) in
      let past : set m.registers 31 (sub64 (register 9 m) (register 10 m)) ≡ m.registers = set_past m.registers 31 _ (omega (arith, fine.wide)) in
      let first : Goes pac 1 m k m.memory (λ i. eqb i 11) = record {
        runs = one pac m k fine.going (sum_step pac m sum.Subs 31 9 10 c.0);
        pc = add64_small m.pc 4 (omega arith);
        count = omega arith;
        sp = refl;
        memory = refl;
        input = refl;
        output = refl;
        log = refl;
        ended = fine.going;
        others = λ i h. ap (λ l. get_or l i 0) past;
      } in
      let fine1 = fine_later pac 1 m k m.memory _ fine first in
      let rest = code_later pac 1 m k m.memory _ (i.Csinc 9 31 31 condition ∷ []) fine first c.1 in
      let none : register 31 k ≡ 0 = ap (λ l. get_or l 31 0) past ∙ zero_register in
      let sum : add64 0 1 ≡ 1 = add64_small 0 1 (omega arith) in
      let done : step pac k ≡ next (with_register 9 (truth b) k) =
      csinc_step pac k 9 31 31 condition rest.0
      ∙ ap (λ v. next (with_register 9 v k)) (rw (none, sum) (unless (condition_holds condition k.flags) b holds)) in
      let second : Goes pac 1 k (next (with_register 9 (truth b) k)) m.memory (λ i. eqb i 9) = sets pac k 9 (truth b) fine1.going (omega (arith, first.pc)) done in
      record { later = next (with_register 9 (truth b) k); goes = goes_then pac 1 1 m k _ m.memory m.memory _ _ first second; value = set_value pac k 9 (truth b) fine1 (omega arith) }

  -- x9 becomes what the operator gives of x9 and x10
  pub binary_makes : (operator : BinOp) → HasCode m.memory m.pc (code.binary operator) → Makes pac (length (code.binary operator)) m 9 (computed_by operator (register 9 m) (register 10 m)) (λ k. eqb k 11 || eqb k 9)
  binary_makes bin.Add c = sets_9 _ _ (sum_step pac m sum.Add 9 9 10 c.0) refl
  binary_makes bin.Sub c = sets_9 _ _ (sum_step pac m sum.Sub 9 9 10 c.0) refl
  binary_makes bin.Mul c = sets_9 _ _ (multiply_add_step pac m Madd 9 9 10 31 c.0) (ap (λ z. add64 z (mul64 (register 9 m) (register 10 m))) zero_register ∙ (add64_small 0 (mul64 (register 9 m) (register 10 m)) (omega (arith, product-lt (register 9 m) (register 10 m))) ∙ zero-add (mul64 (register 9 m) (register 10 m))))
  binary_makes bin.SDiv c = sets_9 _ _ (divide_step pac m Sdiv 9 9 10 c.0) refl
  binary_makes bin.UDiv c = sets_9 _ _ (divide_step pac m Udiv 9 9 10 c.0) refl
  binary_makes bin.SRem c = remainder_makes Sdiv c
  binary_makes bin.URem c = remainder_makes Udiv c
  binary_makes bin.And c = sets_9 _ _ (logical_step pac m logic.And 9 9 10 c.0) refl
  binary_makes bin.Or c = sets_9 _ _ (logical_step pac m logic.Orr 9 9 10 c.0) refl
  binary_makes bin.Xor c = sets_9 _ _ (logical_step pac m logic.Eor 9 9 10 c.0) refl
  binary_makes bin.Shl c = sets_9 _ _ (shift_step pac m Lslv 9 9 10 c.0) refl
  binary_makes bin.Lsr c = sets_9 _ _ (shift_step pac m Lsrv 9 9 10 c.0) refl
  binary_makes bin.Asr c = sets_9 _ _ (shift_step pac m Asrv 9 9 10 c.0) refl
  binary_makes bin.Eq c = comparison_makes 1 (eqb (register 9 m) (register 10 m)) (holds_ne (register 9 m) (register 10 m) (fine.widths.registers 9) (fine.widths.registers 10)) c
  binary_makes bin.Ne c = comparison_makes 0 (not (eqb (register 9 m) (register 10 m))) (holds_eq (register 9 m) (register 10 m) (fine.widths.registers 9) (fine.widths.registers 10) ∙ twice (eqb (register 9 m) (register 10 m))) c
    where
      twice : (b : Bool) → b ≡ not (not b)
      twice true = refl
      twice false = refl
  binary_makes bin.SLt c =
      comparison_makes 10 (ltb (biased (register 9 m)) (biased (register 10 m)))
      (holds_ge (register 9 m) (register 10 m) (fine.widths.registers 9) (fine.widths.registers 10) ∙ ap not (less_biased (register 9 m) (register 10 m) (fine.widths.registers 9) (fine.widths.registers 10))) c
  binary_makes bin.SLe c =
      comparison_makes 12 (leb (biased (register 9 m)) (biased (register 10 m)))
      (holds_gt (register 9 m) (register 10 m) (fine.widths.registers 9) (fine.widths.registers 10) ∙ greater_biased (register 9 m) (register 10 m) (fine.widths.registers 9) (fine.widths.registers 10)) c
  binary_makes bin.ULt c =
      comparison_makes 2 (ltb (register 9 m) (register 10 m))
      (holds_cs (register 9 m) (register 10 m) (fine.widths.registers 9) (fine.widths.registers 10) ∙ below_or_not (register 9 m) (register 10 m)) c
  binary_makes bin.ULe c =
      comparison_makes 8 (leb (register 9 m) (register 10 m))
      (holds_hi (register 9 m) (register 10 m) (fine.widths.registers 9) (fine.widths.registers 10) ∙ above_or_not (register 9 m) (register 10 m)) c

  -- x9 becomes what the operator gives of it
  pub unary_makes : (operator : UnOp) → HasCode m.memory m.pc (code.unary operator ∷ []) → Makes pac 1 m 9 (of_number operator (register 9 m)) (λ k. eqb k 11 || eqb k 9)
  unary_makes un.Neg c = sets_9 _ _ (sum_step pac m sum.Sub 9 31 9 c.0) (ap (λ z. sub64 z (register 9 m)) zero_register)
  unary_makes un.Not c = sets_9 _ _ (logical_step pac m logic.Orn 9 31 9 c.0) (ap (λ z. bit_or z (not64 (register 9 m))) zero_register ∙ or_zero_l (not64 (register 9 m)))

  -- the low bits of x9, extended
  pub extension_makes : (bits : ℕ) (signed : Bool) → 1 ≤ bits → HasCode m.memory m.pc (code.extended bits signed ∷ []) → Makes pac 1 m 9 (value.extended bits signed (register 9 m)) (λ k. eqb k 11 || eqb k 9)
  extension_makes bits true some c =
      let same : bits - 1 + 1 ≡ bits = omega arith in
      sets_9 _ _ (bitfield_step pac m Sbfm 9 9 0 (bits - 1) c.0) (extended_by_sign (register 9 m) (bits - 1) ∙ ap (sign_extended (register 9 m)) same)
  extension_makes bits false some c =
      let same : bits - 1 + 1 ≡ bits = omega arith in
      sets_9 _ _ (bitfield_step pac m Ubfm 9 9 0 (bits - 1) c.0) (extended_by_zeros (register 9 m) (bits - 1) ∙ ap (truncated (register 9 m)) same)

  -- ---- loads at the address in x9

  base : (n : ℕ) → n ≡ 0 → add64 (register 9 m) n ≡ register 9 m
  base n e = let fits = fine.widths.registers 9 in ap (add64 (register 9 m)) e ∙ (add64_small (register 9 m) 0 (omega arith) ∙ omega arith)

  loaded_lt : (n : ℕ) → load n m.memory (register 9 m) < 256 ^ n
  loaded_lt n = load-lt n m.memory (register 9 m) fine.widths.memory

  -- x9 becomes the number that so many bytes at its address stand for, extended
  pub load_makes : (bytes : ℕ) (signed : Bool) → IsWidth bytes → allowed Read m.memory (register 9 m) bytes ≡ true → HasCode m.memory m.pc (code.load_sized bytes signed ∷ [])
      → Makes pac 1 m 9 (value.extended (8 * bytes) signed (load bytes m.memory (register 9 m))) (λ k. eqb k 11 || eqb k 9)
  load_makes bytes signed (inl e) may c = subst (λ n. Makes pac 1 m 9 (value.extended (8 * n) signed (load n m.memory (register 9 m))) (λ k. eqb k 11 || eqb k 9)) (sym e) (one_byte signed (subst (λ n. allowed Read m.memory (register 9 m) n ≡ true) e may) (subst (λ n. HasCode m.memory m.pc (code.load_sized n signed ∷ [])) e c))
    where
      one_byte : (signed : Bool) → allowed Read m.memory (register 9 m) 1 ≡ true → HasCode m.memory m.pc (code.load_sized 1 signed ∷ []) → Makes pac 1 m 9 (value.extended 8 signed (load 1 m.memory (register 9 m))) (λ k. eqb k 11 || eqb k 9)
      one_byte true may c = sets_9 _ _ (load_store_byte_step pac m Ldrsb 9 9 0 c.0 (ap (λ a. allowed Read m.memory a 1) (base 0 refl) ∙ may)) (ap (λ a. sign_extended (load 1 m.memory a) 8) (base 0 refl))
      one_byte false may c =
          let low = loaded_lt 1 in
          sets_9 _ _ (load_store_byte_step pac m Ldrb 9 9 0 c.0 (ap (λ a. allowed Read m.memory a 1) (base 0 refl) ∙ may)) (ap (λ a. load 1 m.memory a) (base 0 refl) ∙ omega arith)
  load_makes bytes signed (inr (inl e)) may c = subst (λ n. Makes pac 1 m 9 (value.extended (8 * n) signed (load n m.memory (register 9 m))) (λ k. eqb k 11 || eqb k 9)) (sym e) (two_bytes signed (subst (λ n. allowed Read m.memory (register 9 m) n ≡ true) e may) (subst (λ n. HasCode m.memory m.pc (code.load_sized n signed ∷ [])) e c))
    where
      two_bytes : (signed : Bool) → allowed Read m.memory (register 9 m) 2 ≡ true → HasCode m.memory m.pc (code.load_sized 2 signed ∷ []) → Makes pac 1 m 9 (value.extended 16 signed (load 2 m.memory (register 9 m))) (λ k. eqb k 11 || eqb k 9)
      two_bytes true may c = sets_9 _ _ (load_store_half_step pac m Ldrsh 9 9 0 c.0 (ap (λ a. allowed Read m.memory a 2) (base 0 refl) ∙ may)) (ap (λ a. sign_extended (load 2 m.memory a) 16) (base 0 refl))
      two_bytes false may c =
          let low = loaded_lt 2 in
          sets_9 _ _ (load_store_half_step pac m Ldrh 9 9 0 c.0 (ap (λ a. allowed Read m.memory a 2) (base 0 refl) ∙ may)) (ap (λ a. load 2 m.memory a) (base 0 refl) ∙ omega arith)
  load_makes bytes signed (inr (inr (inl e))) may c = subst (λ n. Makes pac 1 m 9 (value.extended (8 * n) signed (load n m.memory (register 9 m))) (λ k. eqb k 11 || eqb k 9)) (sym e) (four_bytes signed (subst (λ n. allowed Read m.memory (register 9 m) n ≡ true) e may) (subst (λ n. HasCode m.memory m.pc (code.load_sized n signed ∷ [])) e c))
    where
      four_bytes : (signed : Bool) → allowed Read m.memory (register 9 m) 4 ≡ true → HasCode m.memory m.pc (code.load_sized 4 signed ∷ []) → Makes pac 1 m 9 (value.extended 32 signed (load 4 m.memory (register 9 m))) (λ k. eqb k 11 || eqb k 9)
      four_bytes true may c = sets_9 _ _ (load_store_word_step pac m Ldrsw 9 9 0 c.0 (ap (λ a. allowed Read m.memory a 4) (base 0 refl) ∙ may)) (ap (λ a. sign_extended (load 4 m.memory a) 32) (base 0 refl))
      four_bytes false may c =
          let low = loaded_lt 4 in
          sets_9 _ _ (load_store_word_step pac m Ldrw 9 9 0 c.0 (ap (λ a. allowed Read m.memory a 4) (base 0 refl) ∙ may)) (ap (λ a. load 4 m.memory a) (base 0 refl) ∙ omega arith)
  load_makes bytes signed (inr (inr (inr e))) may c = subst (λ n. Makes pac 1 m 9 (value.extended (8 * n) signed (load n m.memory (register 9 m))) (λ k. eqb k 11 || eqb k 9)) (sym e) (eight_bytes signed (subst (λ n. allowed Read m.memory (register 9 m) n ≡ true) e may) (subst (λ n. HasCode m.memory m.pc (code.load_sized n signed ∷ [])) e c))
    where
      eight_bytes : (signed : Bool) → allowed Read m.memory (register 9 m) 8 ≡ true → HasCode m.memory m.pc (code.load_sized 8 signed ∷ []) → Makes pac 1 m 9 (value.extended 64 signed (load 8 m.memory (register 9 m))) (λ k. eqb k 11 || eqb k 9)
      eight_bytes true may c =
          let low = loaded_lt 8 in
          sets_9 _ _ (load_store_step pac m Ldr 9 9 0 c.0 (ap (λ a. allowed Read m.memory a 8) (base 0 refl) ∙ may)) (ap (λ a. load 8 m.memory a) (base 0 refl) ∙ sym (whole_signed (load 8 m.memory (register 9 m)) (omega arith)))
      eight_bytes false may c =
          let low = loaded_lt 8 in
          sets_9 _ _ (load_store_step pac m Ldr 9 9 0 c.0 (ap (λ a. allowed Read m.memory a 8) (base 0 refl) ∙ may)) (ap (λ a. load 8 m.memory a) (base 0 refl) ∙ omega arith)
