-- Each arm gives the one row that is left, or none is left.
use Rattle.std.proofs.Common.{◌≡◌, ◌≢◌, ℕ, ◌<◌, ◌^◌, eqb, false, List, [], ◌∷◌, Some, None, refl, sym, ap, bit_and, arith, rules, w8, w16, lit≤}
use Rattle.pa_num.specs.Bits.{field}
use Rattle.pa_a64.specs.declared.instr.Instr.{Instr}
use Rattle.pa_a64.specs.declared.instr.LoadStoreByteOp.{LoadStoreByteOp}
use Rattle.pa_a64.specs.declared.instr.LoadStoreHalfOp.{LoadStoreHalfOp}
use Rattle.pa_a64.specs.declared.instr.LoadStoreOp.{LoadStoreOp}
use Rattle.pa_a64.specs.declared.instr.LoadStorePairOp.{LoadStorePairOp}
use Rattle.pa_a64.specs.declared.instr.LoadStoreUnscaledOp.{LoadStoreUnscaledOp}
use Rattle.pa_a64.specs.declared.instr.LoadStoreWordOp.{LoadStoreWordOp}
use Rattle.pa_a64.specs.Decoding.{decoded_among, instruction}
use Rattle.pa_a64.specs.Parts.{fixed}
use Rattle.pa_a64.specs.Table.{Row, parts, memory_rows}
use Rattle.pa_a64.proofs.Rows.{found, Outside, row_at, line_places, next, memory_distinct, none_left, none_listed, not_by_row, not_ldp}
use Rattle.pa_a64.proofs.TwosComplement.{signed-narrowed}
use Rattle.pa_a64.proofs.Words.{mask, gets}
use Rattle.pa_a64.proofs.decoding.memory.Goals as goal

here : (k : ℕ) (r : Row) → row_at memory_rows k ≡ Some r → {w : ℕ} {xs : List ℕ} {i : Instr} → w < 2 ^ 32 → bit_and w (mask (parts r)) ≡ fixed (parts r) → xs ≡ gets (line_places r) w → instruction r xs ≡ Some i → Some i ≡ decoded_among memory_rows w
here = found memory_rows memory_distinct

nothing : (w : ℕ) {x : ℕ} → x ≡ field 24 8 w → Outside ((0xf9 ∷ []) ∷ (0xb9 ∷ []) ∷ (0x79 ∷ []) ∷ (0x39 ∷ []) ∷ (0xf8 ∷ []) ∷ (0xa9 ∷ []) ∷ []) x → None ≡ decoded_among memory_rows w
nothing = none_listed memory_rows 24 8 ((0xf9 ∷ []) ∷ (0xb9 ∷ []) ∷ (0x79 ∷ []) ∷ (0x39 ∷ []) ∷ (0xf8 ∷ []) ∷ (0xa9 ∷ []) ∷ []) refl

pub returns-in_default-2 : goal.returns-in_default-2
returns-in_default-2 c =
    let ldr : bit_and c.args.word 0xffc0_0000 ≢ 0xf940_0000 = omega arith in
    let str : bit_and c.args.word 0xffc0_0000 ≢ 0xf900_0000 = omega arith in
    none_left memory_rows 24 8 (0xf9 ∷ []) c.args.word c.get.ensures.value c.in-249.is
    (not_by_row _ _ ldr, (not_by_row _ _ str, tt))

pub returns-in_default-3 : goal.returns-in_default-3
returns-in_default-3 c =
    let ldrw : bit_and c.args.word 0xffc0_0000 ≢ 0xb940_0000 = omega arith in
    let strw : bit_and c.args.word 0xffc0_0000 ≢ 0xb900_0000 = omega arith in
    let ldrsw : bit_and c.args.word 0xffc0_0000 ≢ 0xb980_0000 = omega arith in
    none_left memory_rows 24 8 (0xb9 ∷ []) c.args.word c.get.ensures.value c.in-185.is
    (not_by_row _ _ ldrw, (not_by_row _ _ strw, (not_by_row _ _ ldrsw, tt)))

pub returns-in_default-4 : goal.returns-in_default-4
returns-in_default-4 c =
    let ldrh : bit_and c.args.word 0xffc0_0000 ≢ 0x7940_0000 = omega arith in
    let strh : bit_and c.args.word 0xffc0_0000 ≢ 0x7900_0000 = omega arith in
    let ldrsh : bit_and c.args.word 0xffc0_0000 ≢ 0x7980_0000 = omega arith in
    none_left memory_rows 24 8 (0x79 ∷ []) c.args.word c.get.ensures.value c.in-121.is
    (not_by_row _ _ ldrh, (not_by_row _ _ strh, (not_by_row _ _ ldrsh, tt)))

pub returns-in_default-5 : goal.returns-in_default-5
returns-in_default-5 c =
    let ldrb : bit_and c.args.word 0xffc0_0000 ≢ 0x3940_0000 = omega arith in
    let strb : bit_and c.args.word 0xffc0_0000 ≢ 0x3900_0000 = omega arith in
    let ldrsb : bit_and c.args.word 0xffc0_0000 ≢ 0x3980_0000 = omega arith in
    none_left memory_rows 24 8 (0x39 ∷ []) c.args.word c.get.ensures.value c.in-57.is
    (not_by_row _ _ ldrb, (not_by_row _ _ strb, (not_by_row _ _ ldrsb, tt)))

pub returns-in_default-6 : goal.returns-in_default-6
returns-in_default-6 c =
    let ldur : bit_and c.args.word 0xffe0_0c00 ≢ 0xf840_0000 = omega arith in
    let stur : bit_and c.args.word 0xffe0_0c00 ≢ 0xf800_0000 = omega arith in
    none_left memory_rows 24 8 (0xf8 ∷ []) c.args.word c.get.ensures.value c.in-248.is
    (not_by_row _ _ ldur, (not_by_row _ _ stur, tt))

pub returns-in_default-7 : goal.returns-in_default-7
returns-in_default-7 c =
    let stp : bit_and c.args.word 0xffc0_0000 ≢ 0xa900_0000 = omega arith in
    none_left memory_rows 24 8 (0xa9 ∷ []) c.args.word c.get.ensures.value c.in-169.is
    (not_ldp _ c.requires c.in-2839543808.is c.get-rt-in-169.ensures.value c.get-rt2.ensures.value c.if-rt-rt2.false, (not_by_row _ _ stp, tt))

pub returns-in_default-7-2 : goal.returns-in_default-7-2
returns-in_default-7-2 c =
    let ldp : bit_and c.args.word 0xffc0_0000 ≢ 0xa940_0000 = omega arith in
    let stp : bit_and c.args.word 0xffc0_0000 ≢ 0xa900_0000 = omega arith in
    none_left memory_rows 24 8 (0xa9 ∷ []) c.args.word c.get.ensures.value c.in-169.is
    (not_by_row _ _ ldp, (not_by_row _ _ stp, tt))

pub returns-in-4181721088 : goal.returns-in-4181721088
returns-in-4181721088 c = here 0 (Row.LoadStore LoadStoreOp.Ldr) refl c.requires c.in-4181721088.is (next c.get-rt.ensures.value (next c.get-rn.ensures.value (next c.get-imm.ensures.value refl))) refl

pub returns-in-4177526784 : goal.returns-in-4177526784
returns-in-4177526784 c = here 1 (Row.LoadStore LoadStoreOp.Str) refl c.requires c.in-4177526784.is (next c.get-rt.ensures.value (next c.get-rn.ensures.value (next c.get-imm.ensures.value refl))) refl

pub returns-in-3107979264 : goal.returns-in-3107979264
returns-in-3107979264 c = here 2 (Row.LoadStoreWord LoadStoreWordOp.Ldrw) refl c.requires c.in-3107979264.is (next c.get-rt-in-185.ensures.value (next c.get-rn-in-185.ensures.value (next c.get-imm-in-185.ensures.value refl))) refl

pub returns-in-3103784960 : goal.returns-in-3103784960
returns-in-3103784960 c = here 3 (Row.LoadStoreWord LoadStoreWordOp.Strw) refl c.requires c.in-3103784960.is (next c.get-rt-in-185.ensures.value (next c.get-rn-in-185.ensures.value (next c.get-imm-in-185.ensures.value refl))) refl

pub returns-in-3112173568 : goal.returns-in-3112173568
returns-in-3112173568 c = here 4 (Row.LoadStoreWord LoadStoreWordOp.Ldrsw) refl c.requires c.in-3112173568.is (next c.get-rt-in-185.ensures.value (next c.get-rn-in-185.ensures.value (next c.get-imm-in-185.ensures.value refl))) refl

pub returns-in-2034237440 : goal.returns-in-2034237440
returns-in-2034237440 c = here 5 (Row.LoadStoreHalf LoadStoreHalfOp.Ldrh) refl c.requires c.in-2034237440.is (next c.get-rt-in-121.ensures.value (next c.get-rn-in-121.ensures.value (next c.get-imm-in-121.ensures.value refl))) refl

pub returns-in-2030043136 : goal.returns-in-2030043136
returns-in-2030043136 c = here 6 (Row.LoadStoreHalf LoadStoreHalfOp.Strh) refl c.requires c.in-2030043136.is (next c.get-rt-in-121.ensures.value (next c.get-rn-in-121.ensures.value (next c.get-imm-in-121.ensures.value refl))) refl

pub returns-in-2038431744 : goal.returns-in-2038431744
returns-in-2038431744 c = here 7 (Row.LoadStoreHalf LoadStoreHalfOp.Ldrsh) refl c.requires c.in-2038431744.is (next c.get-rt-in-121.ensures.value (next c.get-rn-in-121.ensures.value (next c.get-imm-in-121.ensures.value refl))) refl

pub returns-in-960495616 : goal.returns-in-960495616
returns-in-960495616 c = here 8 (Row.LoadStoreByte LoadStoreByteOp.Ldrb) refl c.requires c.in-960495616.is (next c.get-rt-in-57.ensures.value (next c.get-rn-in-57.ensures.value (next c.get-imm-in-57.ensures.value refl))) refl

pub returns-in-956301312 : goal.returns-in-956301312
returns-in-956301312 c = here 9 (Row.LoadStoreByte LoadStoreByteOp.Strb) refl c.requires c.in-956301312.is (next c.get-rt-in-57.ensures.value (next c.get-rn-in-57.ensures.value (next c.get-imm-in-57.ensures.value refl))) refl

pub returns-in-964689920 : goal.returns-in-964689920
returns-in-964689920 c = here 10 (Row.LoadStoreByte LoadStoreByteOp.Ldrsb) refl c.requires c.in-964689920.is (next c.get-rt-in-57.ensures.value (next c.get-rn-in-57.ensures.value (next c.get-imm-in-57.ensures.value refl))) refl

pub returns-in-4164943872 : goal.returns-in-4164943872
returns-in-4164943872 c =
    let value = signed-narrowed w16 9 _ _ (lit≤ tt) (lit≤ tt) (lit≤ tt) c.from_bits-imm.ensures.value c.get-in-248.ensures.fits in
    here 11 (Row.LoadStoreUnscaled LoadStoreUnscaledOp.Ldur) refl c.requires c.in-4164943872.is (next c.get-rt-in-248.ensures.value (next c.get-rn-in-248.ensures.value (next c.get-in-248.ensures.value refl))) (ap (λ z. Some (Instr.LoadStoreUnscaled LoadStoreUnscaledOp.Ldur c.get-rt-in-248.result c.get-rn-in-248.result z)) (sym value))

pub returns-in-4160749568 : goal.returns-in-4160749568
returns-in-4160749568 c =
    let value = signed-narrowed w16 9 _ _ (lit≤ tt) (lit≤ tt) (lit≤ tt) c.from_bits-imm.ensures.value c.get-in-248.ensures.fits in
    here 12 (Row.LoadStoreUnscaled LoadStoreUnscaledOp.Stur) refl c.requires c.in-4160749568.is (next c.get-rt-in-248.ensures.value (next c.get-rn-in-248.ensures.value (next c.get-in-248.ensures.value refl))) (ap (λ z. Some (Instr.LoadStoreUnscaled LoadStoreUnscaledOp.Stur c.get-rt-in-248.result c.get-rn-in-248.result z)) (sym value))

pub returns-in-2839543808 : goal.returns-in-2839543808
returns-in-2839543808 c =
    let value = signed-narrowed w8 7 _ _ (lit≤ tt) (lit≤ tt) (lit≤ tt) c.from_bits-imm-in-169.ensures.value c.get-in-169.ensures.fits in
    let pair : eqb c.get-rt-in-169.result c.get-rt2.result ≡ false = search rules in
    here 13 (Row.LoadStorePair LoadStorePairOp.Ldp) refl c.requires c.in-2839543808.is (next c.get-rt-in-169.ensures.value (next c.get-rn-in-169.ensures.value (next c.get-rt2.ensures.value (next c.get-in-169.ensures.value refl)))) (rw pair (ap (λ z. Some (Instr.LoadStorePair LoadStorePairOp.Ldp c.get-rt-in-169.result c.get-rt2.result c.get-rn-in-169.result z)) (sym value)))

pub returns-in-2835349504 : goal.returns-in-2835349504
returns-in-2835349504 c =
    let value = signed-narrowed w8 7 _ _ (lit≤ tt) (lit≤ tt) (lit≤ tt) c.from_bits-imm-in-169.ensures.value c.get-in-169.ensures.fits in
    here 14 (Row.LoadStorePair LoadStorePairOp.Stp) refl c.requires c.in-2835349504.is (next c.get-rt-in-169.ensures.value (next c.get-rn-in-169.ensures.value (next c.get-rt2.ensures.value (next c.get-in-169.ensures.value refl)))) (ap (λ z. Some (Instr.LoadStorePair LoadStorePairOp.Stp c.get-rt-in-169.result c.get-rt2.result c.get-rn-in-169.result z)) (sym value))

pub returns-in_default : goal.returns-in_default
returns-in_default c = nothing c.args.word c.get.ensures.value (assumption c, (assumption c, (assumption c, (assumption c, (assumption c, (assumption c, tt))))))
