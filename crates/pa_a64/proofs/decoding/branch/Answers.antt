-- Each arm gives the one row that is left, or none is left.
use Rattle.std.proofs.Common.{◌≡◌, ◌≢◌, ℕ, ◌<◌, ◌^◌, List, [], ◌∷◌, Some, None, refl, sym, ap, bit_and, arith, w32, lit≤}
use Rattle.pa_num.specs.Bits.{field}
use Rattle.pa_a64.specs.declared.instr.Instr.{Instr}
use Rattle.pa_a64.specs.declared.instr.BranchAuthenticatedOp.{BranchAuthenticatedOp}
use Rattle.pa_a64.specs.declared.instr.BranchOp.{BranchOp}
use Rattle.pa_a64.specs.declared.instr.BranchRegisterOp.{BranchRegisterOp}
use Rattle.pa_a64.specs.declared.instr.CompareBranchOp.{CompareBranchOp}
use Rattle.pa_a64.specs.declared.instr.ExceptionOp.{ExceptionOp}
use Rattle.pa_a64.specs.declared.instr.StackOp.{StackOp}
use Rattle.pa_a64.specs.Decoding.{decoded_among, instruction}
use Rattle.pa_a64.specs.Parts.{fixed}
use Rattle.pa_a64.specs.Table.{Row, parts, branch_rows}
use Rattle.pa_a64.proofs.Rows.{found, Outside, row_at, line_places, next, branch_distinct, none_left, none_listed, not_by_row}
use Rattle.pa_a64.proofs.TwosComplement.{signed-got}
use Rattle.pa_a64.proofs.Words.{mask, gets}
use Rattle.pa_a64.proofs.decoding.branch.Goals as goal

here : (k : ℕ) (r : Row) → row_at branch_rows k ≡ Some r → {w : ℕ} {xs : List ℕ} {i : Instr} → w < 2 ^ 32 → bit_and w (mask (parts r)) ≡ fixed (parts r) → xs ≡ gets (line_places r) w → instruction r xs ≡ Some i → Some i ≡ decoded_among branch_rows w
here = found branch_rows branch_distinct

nothing : (w : ℕ) {x : ℕ} → x ≡ field 24 8 w → Outside ((0x14 ∷ 0x15 ∷ 0x16 ∷ 0x17 ∷ 0x94 ∷ 0x95 ∷ 0x96 ∷ 0x97 ∷ []) ∷ (0x54 ∷ []) ∷ (0xb4 ∷ 0xb5 ∷ []) ∷ (0xd4 ∷ []) ∷ (0xd5 ∷ 0xd6 ∷ []) ∷ (0xd7 ∷ []) ∷ []) x → None ≡ decoded_among branch_rows w
nothing = none_listed branch_rows 24 8 ((0x14 ∷ 0x15 ∷ 0x16 ∷ 0x17 ∷ 0x94 ∷ 0x95 ∷ 0x96 ∷ 0x97 ∷ []) ∷ (0x54 ∷ []) ∷ (0xb4 ∷ 0xb5 ∷ []) ∷ (0xd4 ∷ []) ∷ (0xd5 ∷ 0xd6 ∷ []) ∷ (0xd7 ∷ []) ∷ []) refl

pub returns-in_default-2 : goal.returns-in_default-2
returns-in_default-2 c =
    let svc : bit_and c.args.word 0xffe0_001f ≢ 0xd400_0001 = omega arith in
    let brk : bit_and c.args.word 0xffe0_001f ≢ 0xd420_0000 = omega arith in
    none_left branch_rows 24 8 (0xd4 ∷ []) c.args.word c.get.ensures.value c.in-212.is
    (not_by_row _ _ svc, (not_by_row _ _ brk, tt))

pub returns-in_default-3 : goal.returns-in_default-3
returns-in_default-3 c =
    let braa : bit_and c.args.word 0xffff_fc00 ≢ 0xd71f_0800 = omega arith in
    let blraa : bit_and c.args.word 0xffff_fc00 ≢ 0xd73f_0800 = omega arith in
    let blrab : bit_and c.args.word 0xffff_fc00 ≢ 0xd73f_0c00 = omega arith in
    none_left branch_rows 24 8 (0xd7 ∷ []) c.args.word c.get.ensures.value c.in-215.is
    (not_by_row _ _ braa, (not_by_row _ _ blraa, (not_by_row _ _ blrab, tt)))

pub returns-then-word-eq3594455071 : goal.returns-then-word-eq3594455071
returns-then-word-eq3594455071 c = here 14 Row.Blraaz refl c.requires c.if-word-eq3594455071.true (next c.get-rn-then-word-eq3594455071.ensures.value refl) refl

pub returns-else-word-eq3594455071 : goal.returns-else-word-eq3594455071
returns-else-word-eq3594455071 c =
    let nop : bit_and c.args.word 0xffff_ffff ≢ 0xd503_201f = omega arith in
    let retab : bit_and c.args.word 0xffff_ffff ≢ 0xd65f_0fff = omega arith in
    let pacibsp : bit_and c.args.word 0xffff_ffff ≢ 0xd503_237f = omega arith in
    let autibsp : bit_and c.args.word 0xffff_ffff ≢ 0xd503_23ff = omega arith in
    let br : bit_and c.args.word 0xffff_fc1f ≢ 0xd61f_0000 = omega arith in
    let blr : bit_and c.args.word 0xffff_fc1f ≢ 0xd63f_0000 = omega arith in
    let ret : bit_and c.args.word 0xffff_fc1f ≢ 0xd65f_0000 = omega arith in
    let blraaz : bit_and c.args.word 0xffff_fc1f ≢ 0xd63f_081f = omega arith in
    none_left branch_rows 24 8 (0xd5 ∷ 0xd6 ∷ []) c.args.word c.get.ensures.value (grind arith)
    (not_by_row _ _ nop, (not_by_row _ _ retab, (not_by_row _ _ pacibsp, (not_by_row _ _ autibsp, (not_by_row _ _ br, (not_by_row _ _ blr, (not_by_row _ _ ret, (not_by_row _ _ blraaz, tt))))))))

pub returns-in-3592355840 : goal.returns-in-3592355840
returns-in-3592355840 c = here 11 (Row.BranchRegister BranchRegisterOp.Br) refl c.requires c.in-3592355840.is (next c.get-rn-in_default-5.ensures.value refl) refl

pub returns-in-3594452992 : goal.returns-in-3594452992
returns-in-3594452992 c = here 12 (Row.BranchRegister BranchRegisterOp.Blr) refl c.requires c.in-3594452992.is (next c.get-rn-in_default-5.ensures.value refl) refl

pub returns-in-3596550144 : goal.returns-in-3596550144
returns-in-3596550144 c = here 13 (Row.BranchRegister BranchRegisterOp.Ret) refl c.requires c.in-3596550144.is (next c.get-rn-in_default-5.ensures.value refl) refl

pub returns-then-word-eq1409286144 : goal.returns-then-word-eq1409286144
returns-then-word-eq1409286144 c =
    let value = signed-got w32 19 _ _ (lit≤ tt) (lit≤ tt) c.from_bits-words.ensures.value c.get-then-word-eq1409286144.ensures.fits in
    here 2 Row.BranchConditional refl c.requires c.if-word-eq1409286144.true (next c.get-condition.ensures.value (next c.get-then-word-eq1409286144.ensures.value refl)) (ap (λ z. Some (Instr.BranchConditional c.get-condition.result z)) (sym value))

pub returns-else-word-eq1409286144 : goal.returns-else-word-eq1409286144
returns-else-word-eq1409286144 c =
    let branchconditional : bit_and c.args.word 0xff00_0010 ≢ 0x5400_0000 = omega arith in
    none_left branch_rows 24 8 (0x54 ∷ []) c.args.word c.get.ensures.value c.in-84.is
    (not_by_row _ _ branchconditional, tt)

pub returns-in-3556769793 : goal.returns-in-3556769793
returns-in-3556769793 c = here 5 (Row.Exception ExceptionOp.Svc) refl c.requires c.in-3556769793.is (next c.get-imm.ensures.value refl) refl

pub returns-in-3558866944 : goal.returns-in-3558866944
returns-in-3558866944 c = here 6 (Row.Exception ExceptionOp.Brk) refl c.requires c.in-3558866944.is (next c.get-imm.ensures.value refl) refl

pub returns-in-3609135104 : goal.returns-in-3609135104
returns-in-3609135104 c = here 15 (Row.BranchAuthenticated BranchAuthenticatedOp.Braa) refl c.requires c.in-3609135104.is (next c.get-rm.ensures.value (next c.get-rn.ensures.value refl)) refl

pub returns-in-3611232256 : goal.returns-in-3611232256
returns-in-3611232256 c = here 16 (Row.BranchAuthenticated BranchAuthenticatedOp.Blraa) refl c.requires c.in-3611232256.is (next c.get-rm.ensures.value (next c.get-rn.ensures.value refl)) refl

pub returns-in-3611233280 : goal.returns-in-3611233280
returns-in-3611233280 c = here 17 (Row.BranchAuthenticated BranchAuthenticatedOp.Blrab) refl c.requires c.in-3611233280.is (next c.get-rm.ensures.value (next c.get-rn.ensures.value refl)) refl

pub returns-in-3019898880 : goal.returns-in-3019898880
returns-in-3019898880 c =
    let value = signed-got w32 19 _ _ (lit≤ tt) (lit≤ tt) c.from_bits-words-in-180.ensures.value c.get-in-180.ensures.fits in
    here 3 (Row.CompareBranch CompareBranchOp.Cbz) refl c.requires c.in-3019898880.is (next c.get-rt.ensures.value (next c.get-in-180.ensures.value refl)) (ap (λ z. Some (Instr.CompareBranch CompareBranchOp.Cbz c.get-rt.result z)) (sym value))

pub returns-in-3036676096 : goal.returns-in-3036676096
returns-in-3036676096 c =
    let value = signed-got w32 19 _ _ (lit≤ tt) (lit≤ tt) c.from_bits-words-in-180.ensures.value c.get-in-180.ensures.fits in
    here 4 (Row.CompareBranch CompareBranchOp.Cbnz) refl c.requires c.in-3036676096.is (next c.get-rt.ensures.value (next c.get-in-180.ensures.value refl)) (ap (λ z. Some (Instr.CompareBranch CompareBranchOp.Cbnz c.get-rt.result z)) (sym value))

pub returns-then-word-eq3573751839 : goal.returns-then-word-eq3573751839
returns-then-word-eq3573751839 c = here 7 Row.Nop refl c.requires c.if-word-eq3573751839.true refl refl

pub returns-in-3596554239 : goal.returns-in-3596554239
returns-in-3596554239 c = here 8 (Row.Stack StackOp.Retab) refl c.requires c.in-3596554239.is refl refl

pub returns-in-3573752703 : goal.returns-in-3573752703
returns-in-3573752703 c = here 9 (Row.Stack StackOp.Pacibsp) refl c.requires c.in-3573752703.is refl refl

pub returns-in-3573752831 : goal.returns-in-3573752831
returns-in-3573752831 c = here 10 (Row.Stack StackOp.Autibsp) refl c.requires c.in-3573752831.is refl refl

pub returns-in-335544320 : goal.returns-in-335544320
returns-in-335544320 c =
    let value = signed-got w32 26 _ _ (lit≤ tt) (lit≤ tt) c.from_bits-words-in-20.ensures.value c.get-in-20.ensures.fits in
    here 0 (Row.Branch BranchOp.B) refl c.requires c.in-335544320.is (next c.get-in-20.ensures.value refl) (ap (λ z. Some (Instr.Branch BranchOp.B z)) (sym value))

pub returns-in-2483027968 : goal.returns-in-2483027968
returns-in-2483027968 c =
    let value = signed-got w32 26 _ _ (lit≤ tt) (lit≤ tt) c.from_bits-words-in-20.ensures.value c.get-in-20.ensures.fits in
    here 1 (Row.Branch BranchOp.Bl) refl c.requires c.in-2483027968.is (next c.get-in-20.ensures.value refl) (ap (λ z. Some (Instr.Branch BranchOp.Bl z)) (sym value))

pub returns-in_default : goal.returns-in_default
returns-in_default c = nothing c.args.word c.get.ensures.value (grind arith, (grind arith, (grind arith, (grind arith, (grind arith, (grind arith, tt))))))

pub returns-in_default-6 : goal.returns-in_default-6
returns-in_default-6 c = nothing c.args.word c.get.ensures.value (grind arith, (grind arith, (grind arith, (grind arith, (grind arith, (grind arith, tt))))))

pub returns-in_default-8 : goal.returns-in_default-8
returns-in_default-8 c = nothing c.args.word c.get.ensures.value (grind arith, (grind arith, (grind arith, (grind arith, (grind arith, (grind arith, tt))))))

pub returns-in_default-9 : goal.returns-in_default-9
returns-in_default-9 c = nothing c.args.word c.get.ensures.value (grind arith, (grind arith, (grind arith, (grind arith, (grind arith, (grind arith, tt))))))

pub returns-in_default-5 : goal.returns-in_default-5
returns-in_default-5 c = nothing c.args.word c.get.ensures.value (grind arith, (grind arith, (grind arith, (grind arith, (grind arith, (grind arith, tt))))))
