-- Each arm gives the one row that is left, or none is left.
use Rattle.std.proofs.Common.{◌≡◌, ◌≢◌, ℕ, ◌<◌, ◌^◌, List, [], ◌∷◌, Some, None, refl, bit_and, arith}
use Rattle.pa_num.specs.Bits.{field}
use Rattle.pa_a64.specs.declared.instr.Instr.{Instr}
use Rattle.pa_a64.specs.declared.instr.AuthenticateOp.{AuthenticateOp}
use Rattle.pa_a64.specs.declared.instr.DivideOp.{DivideOp}
use Rattle.pa_a64.specs.declared.instr.LogicalOp.{LogicalOp}
use Rattle.pa_a64.specs.declared.instr.MultiplyAddOp.{MultiplyAddOp}
use Rattle.pa_a64.specs.declared.instr.PlainOp.{PlainOp}
use Rattle.pa_a64.specs.declared.instr.ShiftOp.{ShiftOp}
use Rattle.pa_a64.specs.declared.instr.SignOp.{SignOp}
use Rattle.pa_a64.specs.declared.instr.SumOp.{SumOp}
use Rattle.pa_a64.specs.Decoding.{decoded_among, instruction}
use Rattle.pa_a64.specs.Parts.{fixed}
use Rattle.pa_a64.specs.Table.{Row, parts, register_rows}
use Rattle.pa_a64.proofs.Rows.{found, Outside, row_at, line_places, next, register_distinct, none_left, none_listed, not_by_row}
use Rattle.pa_a64.proofs.Words.{mask, gets}
use Rattle.pa_a64.proofs.decoding.register.Goals as goal

here : (k : ℕ) (r : Row) → row_at register_rows k ≡ Some r → {w : ℕ} {xs : List ℕ} {i : Instr} → w < 2 ^ 32 → bit_and w (mask (parts r)) ≡ fixed (parts r) → xs ≡ gets (line_places r) w → instruction r xs ≡ Some i → Some i ≡ decoded_among register_rows w
here = found register_rows register_distinct

nothing : (w : ℕ) {x : ℕ} → x ≡ field 24 8 w → Outside ((0x8a ∷ 0xaa ∷ 0xca ∷ []) ∷ (0x8b ∷ 0xcb ∷ 0xeb ∷ []) ∷ (0x9b ∷ []) ∷ (0x9a ∷ []) ∷ (0xda ∷ []) ∷ []) x → None ≡ decoded_among register_rows w
nothing = none_listed register_rows 24 8 ((0x8a ∷ 0xaa ∷ 0xca ∷ []) ∷ (0x8b ∷ 0xcb ∷ 0xeb ∷ []) ∷ (0x9b ∷ []) ∷ (0x9a ∷ []) ∷ (0xda ∷ []) ∷ []) refl

pub returns-in_default-2 : goal.returns-in_default-2
returns-in_default-2 c =
    let and : bit_and c.args.word 0xffe0_fc00 ≢ 0x8a00_0000 = omega arith in
    let orr : bit_and c.args.word 0xffe0_fc00 ≢ 0xaa00_0000 = omega arith in
    let eor : bit_and c.args.word 0xffe0_fc00 ≢ 0xca00_0000 = omega arith in
    let orn : bit_and c.args.word 0xffe0_fc00 ≢ 0xaa20_0000 = omega arith in
    none_left register_rows 24 8 (0x8a ∷ 0xaa ∷ 0xca ∷ []) c.args.word c.get.ensures.value c.in-138.is
    (not_by_row _ _ and, (not_by_row _ _ orr, (not_by_row _ _ eor, (not_by_row _ _ orn, tt))))

pub returns-in_default-3 : goal.returns-in_default-3
returns-in_default-3 c =
    let add : bit_and c.args.word 0xffe0_fc00 ≢ 0x8b00_0000 = omega arith in
    let sub : bit_and c.args.word 0xffe0_fc00 ≢ 0xcb00_0000 = omega arith in
    let subs : bit_and c.args.word 0xffe0_fc00 ≢ 0xeb00_0000 = omega arith in
    none_left register_rows 24 8 (0x8b ∷ 0xcb ∷ 0xeb ∷ []) c.args.word c.get.ensures.value c.in-139.is
    (not_by_row _ _ add, (not_by_row _ _ sub, (not_by_row _ _ subs, tt)))

pub returns-in_default-4 : goal.returns-in_default-4
returns-in_default-4 c =
    let madd : bit_and c.args.word 0xffe0_8000 ≢ 0x9b00_0000 = omega arith in
    let msub : bit_and c.args.word 0xffe0_8000 ≢ 0x9b00_8000 = omega arith in
    none_left register_rows 24 8 (0x9b ∷ []) c.args.word c.get.ensures.value c.in-155.is
    (not_by_row _ _ madd, (not_by_row _ _ msub, tt))

pub returns-then-word-eq2592080896 : goal.returns-then-word-eq2592080896
returns-then-word-eq2592080896 c = here 14 Row.Csinc refl c.requires c.if-word-eq2592080896.true (next c.get-rd-then-word-eq2592080896.ensures.value (next c.get-rn-then-word-eq2592080896.ensures.value (next c.get-condition.ensures.value (next c.get-rm-then-word-eq2592080896.ensures.value refl)))) refl

pub returns-then-word-eq2596286464 : goal.returns-then-word-eq2596286464
returns-then-word-eq2596286464 c = here 15 Row.Pacga refl c.requires c.if-word-eq2596286464.true (next c.get-rd-then-word-eq2596286464.ensures.value (next c.get-rn-then-word-eq2596286464.ensures.value (next c.get-rm-then-word-eq2596286464.ensures.value refl))) refl

pub returns-else-word-eq2596286464 : goal.returns-else-word-eq2596286464
returns-else-word-eq2596286464 c =
    let udiv : bit_and c.args.word 0xffe0_fc00 ≢ 0x9ac0_0800 = omega arith in
    let sdiv : bit_and c.args.word 0xffe0_fc00 ≢ 0x9ac0_0c00 = omega arith in
    let lslv : bit_and c.args.word 0xffe0_fc00 ≢ 0x9ac0_2000 = omega arith in
    let lsrv : bit_and c.args.word 0xffe0_fc00 ≢ 0x9ac0_2400 = omega arith in
    let asrv : bit_and c.args.word 0xffe0_fc00 ≢ 0x9ac0_2800 = omega arith in
    let csinc : bit_and c.args.word 0xffe0_0c00 ≢ 0x9a80_0400 = omega arith in
    let pacga : bit_and c.args.word 0xffe0_fc00 ≢ 0x9ac0_3000 = omega arith in
    none_left register_rows 24 8 (0x9a ∷ []) c.args.word c.get.ensures.value c.in-154.is
    (not_by_row _ _ udiv, (not_by_row _ _ sdiv, (not_by_row _ _ lslv, (not_by_row _ _ lsrv, (not_by_row _ _ asrv, (not_by_row _ _ csinc, (not_by_row _ _ pacga, tt)))))))

pub returns-in-2596282368 : goal.returns-in-2596282368
returns-in-2596282368 c = here 11 (Row.Shift ShiftOp.Lslv) refl c.requires c.in-2596282368.is (next c.get-rd-in_default-5.ensures.value (next c.get-rn-in_default-5.ensures.value (next c.get-rm-in_default-5.ensures.value refl))) refl

pub returns-in-2596283392 : goal.returns-in-2596283392
returns-in-2596283392 c = here 12 (Row.Shift ShiftOp.Lsrv) refl c.requires c.in-2596283392.is (next c.get-rd-in_default-5.ensures.value (next c.get-rn-in_default-5.ensures.value (next c.get-rm-in_default-5.ensures.value refl))) refl

pub returns-in-2596284416 : goal.returns-in-2596284416
returns-in-2596284416 c = here 13 (Row.Shift ShiftOp.Asrv) refl c.requires c.in-2596284416.is (next c.get-rd-in_default-5.ensures.value (next c.get-rn-in_default-5.ensures.value (next c.get-rm-in_default-5.ensures.value refl))) refl

pub returns-in_default-9 : goal.returns-in_default-9
returns-in_default-9 c =
    let pacia : bit_and c.args.word 0xffff_fc00 ≢ 0xdac1_0000 = omega arith in
    let pacib : bit_and c.args.word 0xffff_fc00 ≢ 0xdac1_0400 = omega arith in
    let pacda : bit_and c.args.word 0xffff_fc00 ≢ 0xdac1_0800 = omega arith in
    let pacdb : bit_and c.args.word 0xffff_fc00 ≢ 0xdac1_0c00 = omega arith in
    let autia : bit_and c.args.word 0xffff_fc00 ≢ 0xdac1_1000 = omega arith in
    let autib : bit_and c.args.word 0xffff_fc00 ≢ 0xdac1_1400 = omega arith in
    let autda : bit_and c.args.word 0xffff_fc00 ≢ 0xdac1_1800 = omega arith in
    let autdb : bit_and c.args.word 0xffff_fc00 ≢ 0xdac1_1c00 = omega arith in
    let paciza : bit_and c.args.word 0xffff_ffe0 ≢ 0xdac1_23e0 = omega arith in
    let autiza : bit_and c.args.word 0xffff_ffe0 ≢ 0xdac1_33e0 = omega arith in
    let xpaci : bit_and c.args.word 0xffff_ffe0 ≢ 0xdac1_43e0 = omega arith in
    none_left register_rows 24 8 (0xda ∷ []) c.args.word c.get.ensures.value c.in-218.is
    (not_by_row _ _ pacia, (not_by_row _ _ pacib, (not_by_row _ _ pacda, (not_by_row _ _ pacdb, (not_by_row _ _ autia, (not_by_row _ _ autib, (not_by_row _ _ autda, (not_by_row _ _ autdb, (not_by_row _ _ paciza, (not_by_row _ _ autiza, (not_by_row _ _ xpaci, tt)))))))))))

pub returns-in-3670090720 : goal.returns-in-3670090720
returns-in-3670090720 c = here 24 (Row.Plain PlainOp.Paciza) refl c.requires c.in-3670090720.is (next c.get-rd-in_default-8.ensures.value refl) refl

pub returns-in-3670094816 : goal.returns-in-3670094816
returns-in-3670094816 c = here 25 (Row.Plain PlainOp.Autiza) refl c.requires c.in-3670094816.is (next c.get-rd-in_default-8.ensures.value refl) refl

pub returns-in-3670098912 : goal.returns-in-3670098912
returns-in-3670098912 c = here 26 (Row.Plain PlainOp.Xpaci) refl c.requires c.in-3670098912.is (next c.get-rd-in_default-8.ensures.value refl) refl

pub returns-in-3670085632 : goal.returns-in-3670085632
returns-in-3670085632 c = here 20 (Row.Authenticate AuthenticateOp.Autia) refl c.requires c.in-3670085632.is (next c.get-rd-in_default-7.ensures.value (next c.get-rn-in_default-7.ensures.value refl)) refl

pub returns-in-3670086656 : goal.returns-in-3670086656
returns-in-3670086656 c = here 21 (Row.Authenticate AuthenticateOp.Autib) refl c.requires c.in-3670086656.is (next c.get-rd-in_default-7.ensures.value (next c.get-rn-in_default-7.ensures.value refl)) refl

pub returns-in-3670087680 : goal.returns-in-3670087680
returns-in-3670087680 c = here 22 (Row.Authenticate AuthenticateOp.Autda) refl c.requires c.in-3670087680.is (next c.get-rd-in_default-7.ensures.value (next c.get-rn-in_default-7.ensures.value refl)) refl

pub returns-in-3670088704 : goal.returns-in-3670088704
returns-in-3670088704 c = here 23 (Row.Authenticate AuthenticateOp.Autdb) refl c.requires c.in-3670088704.is (next c.get-rd-in_default-7.ensures.value (next c.get-rn-in_default-7.ensures.value refl)) refl

pub returns-in-2315255808 : goal.returns-in-2315255808
returns-in-2315255808 c = here 0 (Row.Logical LogicalOp.And) refl c.requires c.in-2315255808.is (next c.get-rd.ensures.value (next c.get-rn.ensures.value (next c.get-rm.ensures.value refl))) refl

pub returns-in-2852126720 : goal.returns-in-2852126720
returns-in-2852126720 c = here 1 (Row.Logical LogicalOp.Orr) refl c.requires c.in-2852126720.is (next c.get-rd.ensures.value (next c.get-rn.ensures.value (next c.get-rm.ensures.value refl))) refl

pub returns-in-3388997632 : goal.returns-in-3388997632
returns-in-3388997632 c = here 2 (Row.Logical LogicalOp.Eor) refl c.requires c.in-3388997632.is (next c.get-rd.ensures.value (next c.get-rn.ensures.value (next c.get-rm.ensures.value refl))) refl

pub returns-in-2854223872 : goal.returns-in-2854223872
returns-in-2854223872 c = here 3 (Row.Logical LogicalOp.Orn) refl c.requires c.in-2854223872.is (next c.get-rd.ensures.value (next c.get-rn.ensures.value (next c.get-rm.ensures.value refl))) refl

pub returns-in-2332033024 : goal.returns-in-2332033024
returns-in-2332033024 c = here 4 (Row.Sum SumOp.Add) refl c.requires c.in-2332033024.is (next c.get-rd-in-139.ensures.value (next c.get-rn-in-139.ensures.value (next c.get-rm-in-139.ensures.value refl))) refl

pub returns-in-3405774848 : goal.returns-in-3405774848
returns-in-3405774848 c = here 5 (Row.Sum SumOp.Sub) refl c.requires c.in-3405774848.is (next c.get-rd-in-139.ensures.value (next c.get-rn-in-139.ensures.value (next c.get-rm-in-139.ensures.value refl))) refl

pub returns-in-3942645760 : goal.returns-in-3942645760
returns-in-3942645760 c = here 6 (Row.Sum SumOp.Subs) refl c.requires c.in-3942645760.is (next c.get-rd-in-139.ensures.value (next c.get-rn-in-139.ensures.value (next c.get-rm-in-139.ensures.value refl))) refl

pub returns-in-2600468480 : goal.returns-in-2600468480
returns-in-2600468480 c = here 7 (Row.MultiplyAdd MultiplyAddOp.Madd) refl c.requires c.in-2600468480.is (next c.get-rd-in-155.ensures.value (next c.get-rn-in-155.ensures.value (next c.get-ra.ensures.value (next c.get-rm-in-155.ensures.value refl)))) refl

pub returns-in-2600501248 : goal.returns-in-2600501248
returns-in-2600501248 c = here 8 (Row.MultiplyAdd MultiplyAddOp.Msub) refl c.requires c.in-2600501248.is (next c.get-rd-in-155.ensures.value (next c.get-rn-in-155.ensures.value (next c.get-ra.ensures.value (next c.get-rm-in-155.ensures.value refl)))) refl

pub returns-in-2596276224 : goal.returns-in-2596276224
returns-in-2596276224 c = here 9 (Row.Divide DivideOp.Udiv) refl c.requires c.in-2596276224.is (next c.get-rd-in-154.ensures.value (next c.get-rn-in-154.ensures.value (next c.get-rm-in-154.ensures.value refl))) refl

pub returns-in-2596277248 : goal.returns-in-2596277248
returns-in-2596277248 c = here 10 (Row.Divide DivideOp.Sdiv) refl c.requires c.in-2596277248.is (next c.get-rd-in-154.ensures.value (next c.get-rn-in-154.ensures.value (next c.get-rm-in-154.ensures.value refl))) refl

pub returns-in-3670081536 : goal.returns-in-3670081536
returns-in-3670081536 c = here 16 (Row.Sign SignOp.Pacia) refl c.requires c.in-3670081536.is (next c.get-rd-in-218.ensures.value (next c.get-rn-in-218.ensures.value refl)) refl

pub returns-in-3670082560 : goal.returns-in-3670082560
returns-in-3670082560 c = here 17 (Row.Sign SignOp.Pacib) refl c.requires c.in-3670082560.is (next c.get-rd-in-218.ensures.value (next c.get-rn-in-218.ensures.value refl)) refl

pub returns-in-3670083584 : goal.returns-in-3670083584
returns-in-3670083584 c = here 18 (Row.Sign SignOp.Pacda) refl c.requires c.in-3670083584.is (next c.get-rd-in-218.ensures.value (next c.get-rn-in-218.ensures.value refl)) refl

pub returns-in-3670084608 : goal.returns-in-3670084608
returns-in-3670084608 c = here 19 (Row.Sign SignOp.Pacdb) refl c.requires c.in-3670084608.is (next c.get-rd-in-218.ensures.value (next c.get-rn-in-218.ensures.value refl)) refl

pub returns-in_default : goal.returns-in_default
returns-in_default c = nothing c.args.word c.get.ensures.value (assumption c, (assumption c, (assumption c, (assumption c, (assumption c, tt)))))
