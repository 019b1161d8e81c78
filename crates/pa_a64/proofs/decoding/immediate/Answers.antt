-- Each arm gives the one row that is left, or none is left.
use Rattle.std.proofs.Common.{◌≡◌, ◌≢◌, ℕ, ◌+◌, ◌*◌, ◌%◌, ◌<◌, ◌^◌, ◌∙◌, List, [], ◌∷◌, Some, None, refl, sym, ap, bit_and, arith, w32, lit≤}
use Rattle.pa_num.specs.Bits.{field}
use Rattle.pa_a64.specs.declared.instr.Instr.{Instr}
use Rattle.pa_a64.specs.declared.instr.BitfieldOp.{BitfieldOp}
use Rattle.pa_a64.specs.declared.instr.MoveWideOp.{MoveWideOp}
use Rattle.pa_a64.specs.declared.instr.SumImmediateOp.{SumImmediateOp}
use Rattle.pa_a64.specs.Decoding.{decoded_among, instruction, signed_of_bits}
use Rattle.pa_a64.specs.Parts.{fixed}
use Rattle.pa_a64.specs.Table.{Row, parts, immediate_rows}
use Rattle.pa_a64.proofs.Rows.{found, Outside, row_at, line_places, next, immediate_distinct, none_left, none_listed, not_by_row}
use Rattle.pa_a64.proofs.TwosComplement.{signed-got}
use Rattle.pa_a64.proofs.Words.{mask, gets}
use Rattle.pa_a64.proofs.decoding.immediate.Goals as goal

here : (k : ℕ) (r : Row) → row_at immediate_rows k ≡ Some r → {w : ℕ} {xs : List ℕ} {i : Instr} → w < 2 ^ 32 → bit_and w (mask (parts r)) ≡ fixed (parts r) → xs ≡ gets (line_places r) w → instruction r xs ≡ Some i → Some i ≡ decoded_among immediate_rows w
here = found immediate_rows immediate_distinct

nothing : (w : ℕ) {x : ℕ} → x ≡ field 24 8 w → Outside ((0x90 ∷ 0xb0 ∷ 0xd0 ∷ 0xf0 ∷ []) ∷ (0x91 ∷ 0xd1 ∷ []) ∷ (0xf1 ∷ []) ∷ (0x92 ∷ 0xd2 ∷ 0xf2 ∷ []) ∷ (0x93 ∷ 0xd3 ∷ []) ∷ []) x → None ≡ decoded_among immediate_rows w
nothing = none_listed immediate_rows 24 8 ((0x90 ∷ 0xb0 ∷ 0xd0 ∷ 0xf0 ∷ []) ∷ (0x91 ∷ 0xd1 ∷ []) ∷ (0xf1 ∷ []) ∷ (0x92 ∷ 0xd2 ∷ 0xf2 ∷ []) ∷ (0x93 ∷ 0xd3 ∷ []) ∷ []) refl

pub returns-in_default-2 : goal.returns-in_default-2
returns-in_default-2 c =
    let add : bit_and c.args.word 0xff80_0000 ≢ 0x9100_0000 = omega arith in
    let sub : bit_and c.args.word 0xff80_0000 ≢ 0xd100_0000 = omega arith in
    none_left immediate_rows 24 8 (0x91 ∷ 0xd1 ∷ []) c.args.word c.get.ensures.value c.in-145.is
    (not_by_row _ _ add, (not_by_row _ _ sub, tt))

pub returns-in_default-3 : goal.returns-in_default-3
returns-in_default-3 c =
    let movz : bit_and c.args.word 0xff80_0000 ≢ 0xd280_0000 = omega arith in
    let movn : bit_and c.args.word 0xff80_0000 ≢ 0x9280_0000 = omega arith in
    let movk : bit_and c.args.word 0xff80_0000 ≢ 0xf280_0000 = omega arith in
    none_left immediate_rows 24 8 (0x92 ∷ 0xd2 ∷ 0xf2 ∷ []) c.args.word c.get.ensures.value c.in-146.is
    (not_by_row _ _ movz, (not_by_row _ _ movn, (not_by_row _ _ movk, tt)))

pub returns-in_default-4 : goal.returns-in_default-4
returns-in_default-4 c =
    let sbfm : bit_and c.args.word 0xffc0_0000 ≢ 0x9340_0000 = omega arith in
    let ubfm : bit_and c.args.word 0xffc0_0000 ≢ 0xd340_0000 = omega arith in
    none_left immediate_rows 24 8 (0x93 ∷ 0xd3 ∷ []) c.args.word c.get.ensures.value c.in-147.is
    (not_by_row _ _ sbfm, (not_by_row _ _ ubfm, tt))

pub returns-then-word-eq2415919104 : goal.returns-then-word-eq2415919104
returns-then-word-eq2415919104 c =
    let high = c.get-then-word-eq2415919104.result in
    let low = c.get-then-word-eq2415919104-2.result in
    let joined : high * 4 % 2 ^ 64 + low ≡ high * 4 + low = omega (arith, c.get-then-word-eq2415919104.ensures.fits) in
    let fits : high * 4 % 2 ^ 64 + low < 2 ^ 21 = omega (arith, c.get-then-word-eq2415919104.ensures.fits, c.get-then-word-eq2415919104-2.ensures.fits) in
    let value = signed-got w32 21 _ (high * 4 % 2 ^ 64 + low) (lit≤ tt) (lit≤ tt) c.from_bits-pages.ensures.value fits ∙ ap (signed_of_bits 21) joined in
    here 0 Row.Adrp refl c.requires c.if-word-eq2415919104.true
    (next c.get-rd.ensures.value (next c.get-then-word-eq2415919104.ensures.value (next c.get-then-word-eq2415919104-2.ensures.value refl)))
    (ap (λ z. Some (Instr.Adrp c.get-rd.result z)) (sym value))

pub returns-else-word-eq2415919104 : goal.returns-else-word-eq2415919104
returns-else-word-eq2415919104 c =
    let adrp : bit_and c.args.word 0x9f00_0000 ≢ 0x9000_0000 = omega arith in
    none_left immediate_rows 24 8 (0x90 ∷ 0xb0 ∷ 0xd0 ∷ 0xf0 ∷ []) c.args.word c.get.ensures.value c.in-144.is
    (not_by_row _ _ adrp, tt)

pub returns-in-2432696320 : goal.returns-in-2432696320
returns-in-2432696320 c = here 1 (Row.SumImmediate SumImmediateOp.Add) refl c.requires c.in-2432696320.is (next c.get-rd-in-145.ensures.value (next c.get-rn.ensures.value (next c.get-imm.ensures.value (next c.get-shifted.ensures.value refl)))) refl

pub returns-in-3506438144 : goal.returns-in-3506438144
returns-in-3506438144 c = here 2 (Row.SumImmediate SumImmediateOp.Sub) refl c.requires c.in-3506438144.is (next c.get-rd-in-145.ensures.value (next c.get-rn.ensures.value (next c.get-imm.ensures.value (next c.get-shifted.ensures.value refl)))) refl

pub returns-then-word-eq4043309056 : goal.returns-then-word-eq4043309056
returns-then-word-eq4043309056 c = here 3 Row.SubsImmediate refl c.requires c.if-word-eq4043309056.true (next c.get-rd-then-word-eq4043309056.ensures.value (next c.get-rn-then-word-eq4043309056.ensures.value (next c.get-imm-then-word-eq4043309056.ensures.value (next c.get-shifted-then-word-eq4043309056.ensures.value refl)))) refl

pub returns-else-word-eq4043309056 : goal.returns-else-word-eq4043309056
returns-else-word-eq4043309056 c =
    let subsimmediate : bit_and c.args.word 0xff80_0000 ≢ 0xf100_0000 = omega arith in
    none_left immediate_rows 24 8 (0xf1 ∷ []) c.args.word c.get.ensures.value c.in-241.is
    (not_by_row _ _ subsimmediate, tt)

pub returns-in-3531603968 : goal.returns-in-3531603968
returns-in-3531603968 c = here 4 (Row.MoveWide MoveWideOp.Movz) refl c.requires c.in-3531603968.is (next c.get-rd-in-146.ensures.value (next c.get-imm-in-146.ensures.value (next c.get-hw.ensures.value refl))) refl

pub returns-in-2457862144 : goal.returns-in-2457862144
returns-in-2457862144 c = here 5 (Row.MoveWide MoveWideOp.Movn) refl c.requires c.in-2457862144.is (next c.get-rd-in-146.ensures.value (next c.get-imm-in-146.ensures.value (next c.get-hw.ensures.value refl))) refl

pub returns-in-4068474880 : goal.returns-in-4068474880
returns-in-4068474880 c = here 6 (Row.MoveWide MoveWideOp.Movk) refl c.requires c.in-4068474880.is (next c.get-rd-in-146.ensures.value (next c.get-imm-in-146.ensures.value (next c.get-hw.ensures.value refl))) refl

pub returns-in-2470445056 : goal.returns-in-2470445056
returns-in-2470445056 c = here 7 (Row.Bitfield BitfieldOp.Sbfm) refl c.requires c.in-2470445056.is (next c.get-rd-in-147.ensures.value (next c.get-rn-in-147.ensures.value (next c.get-imms.ensures.value (next c.get-immr.ensures.value refl)))) refl

pub returns-in-3544186880 : goal.returns-in-3544186880
returns-in-3544186880 c = here 8 (Row.Bitfield BitfieldOp.Ubfm) refl c.requires c.in-3544186880.is (next c.get-rd-in-147.ensures.value (next c.get-rn-in-147.ensures.value (next c.get-imms.ensures.value (next c.get-immr.ensures.value refl)))) refl

pub returns-in_default : goal.returns-in_default
returns-in_default c = nothing c.args.word c.get.ensures.value (assumption c, (assumption c, (assumption c, (assumption c, (assumption c, tt)))))
