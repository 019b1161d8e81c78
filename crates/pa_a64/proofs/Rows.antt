-- Rows and words: each word is of one row at most, and a row that a word is of is found.
use Rattle.std.proofs.Common.{◌≡◌, ◌≢◌, ℕ, zero, suc, ◌+◌, ◌*◌, ◌/◌, ◌%◌, ◌^◌, ◌<◌, ◌⊎◌, inl, inr, List, [], ◌∷◌, refl, sym, ap, subst, ◌∙◌, arith, Option, Some, None, lit<, bit_and}
use Rattle.std.specs.Prelude.{Bool, true, false, cond, not, ◌&&◌, ◌||◌, eqb}
use Rattle.std.proofs.lemmas.Bool.{and_parts, eqb-true, eq-eqb, ne_eqb, true≢false}
use Rattle.std.proofs.Math.Nat.{pow-suc, pow-succ', div-div-eq-div-mul}
use Rattle.std.proofs.Math.Arith.{mod-mul}
use Rattle.std.proofs.lemmas.Nat.{pow_pos, mod_below}
use Rattle.pa_num.specs.Bits.{field}
use Rattle.pa_a64.specs.declared.instr.Instr.{Instr}
use Rattle.pa_a64.specs.declared.instr.AuthenticateOp.{AuthenticateOp}
use Rattle.pa_a64.specs.declared.instr.BitfieldOp.{BitfieldOp}
use Rattle.pa_a64.specs.declared.instr.BranchAuthenticatedOp.{BranchAuthenticatedOp}
use Rattle.pa_a64.specs.declared.instr.BranchOp.{BranchOp}
use Rattle.pa_a64.specs.declared.instr.BranchRegisterOp.{BranchRegisterOp}
use Rattle.pa_a64.specs.declared.instr.CompareBranchOp.{CompareBranchOp}
use Rattle.pa_a64.specs.declared.instr.DivideOp.{DivideOp}
use Rattle.pa_a64.specs.declared.instr.ExceptionOp.{ExceptionOp}
use Rattle.pa_a64.specs.declared.instr.LoadStoreByteOp.{LoadStoreByteOp}
use Rattle.pa_a64.specs.declared.instr.LoadStoreHalfOp.{LoadStoreHalfOp}
use Rattle.pa_a64.specs.declared.instr.LoadStoreOp.{LoadStoreOp}
use Rattle.pa_a64.specs.declared.instr.LoadStorePairOp.{LoadStorePairOp}
use Rattle.pa_a64.specs.declared.instr.LoadStoreUnscaledOp.{LoadStoreUnscaledOp}
use Rattle.pa_a64.specs.declared.instr.LoadStoreWordOp.{LoadStoreWordOp}
use Rattle.pa_a64.specs.declared.instr.LogicalOp.{LogicalOp}
use Rattle.pa_a64.specs.declared.instr.MoveWideOp.{MoveWideOp}
use Rattle.pa_a64.specs.declared.instr.MultiplyAddOp.{MultiplyAddOp}
use Rattle.pa_a64.specs.declared.instr.PlainOp.{PlainOp}
use Rattle.pa_a64.specs.declared.instr.ShiftOp.{ShiftOp}
use Rattle.pa_a64.specs.declared.instr.SignOp.{SignOp}
use Rattle.pa_a64.specs.declared.instr.StackOp.{StackOp}
use Rattle.pa_a64.specs.declared.instr.SumImmediateOp.{SumImmediateOp}
use Rattle.pa_a64.specs.declared.instr.SumOp.{SumOp}
use Rattle.pa_a64.specs.Decoding.{decoded, decoded_among, decoded_by, instruction, instruction_of, or_else}
use Rattle.pa_a64.specs.Parts.{Part, Fixed, Field, fields, fixed, after}
use Rattle.pa_a64.specs.Table.{Row, Adrp, SumImmediate, SubsImmediate, MoveWide, Bitfield, Logical, Sum, MultiplyAdd, Divide, Shift, Csinc, Pacga, Sign, Authenticate, Plain, LoadStore, LoadStoreWord, LoadStoreHalf, LoadStoreByte, LoadStoreUnscaled, LoadStorePair, Branch, BranchConditional, CompareBranch, Exception, Nop, Stack, BranchRegister, Blraaz, BranchAuthenticated, parts, rows, immediate_rows, register_rows, memory_rows, branch_rows}
use Rattle.pa_a64.proofs.Words.{Place, At, places_of, gets, fixed_fit, mask, total, fields-masked, masked-fields}

-- a bit of a pattern
pub data Bit : Type 0 where
  Is : ℕ → Bit
  Any : Bit

abbrev fixed_bits : ℕ → ℕ → List Bit → List Bit
fixed_bits zero v bs = bs
fixed_bits (suc n) v bs = Is (v % 2) ∷ fixed_bits n (v / 2) bs

abbrev any_bits : ℕ → List Bit → List Bit
any_bits zero bs = bs
any_bits (suc n) bs = Any ∷ any_bits n bs

abbrev pattern_of : List Part → List Bit
pattern_of [] = []
pattern_of (Fixed n v ∷ ps) = fixed_bits n v (pattern_of ps)
pattern_of (Field n ∷ ps) = any_bits n (pattern_of ps)

abbrev bits_clash : Bit → Bit → Bool
bits_clash (Is a) (Is b) = not (eqb a b)
bits_clash _ _ = false

abbrev clash : List Bit → List Bit → Bool
clash [] bs = false
clash (a ∷ xs) [] = false
clash (a ∷ xs) (b ∷ bs) = bits_clash a b || clash xs bs

-- the bits of a word
abbrev Matches : List Bit → ℕ → Type 0
Matches [] w = Unit {0}
Matches (Is b ∷ bs) w = (w % 2 ≡ b) × Matches bs (w / 2)
Matches (Any ∷ bs) w = Matches bs (w / 2)

half_next : (w n : ℕ) → w / 2 ^ suc n ≡ w / 2 / 2 ^ n
half_next w n = ap (λ z. w / z) (pow-succ' 2 n) ∙ sym (div-div-eq-div-mul w 2 (2 ^ n))

low_next : (w n : ℕ) → w % 2 ^ suc n ≡ w / 2 % 2 ^ n * 2 + w % 2
low_next w n = ap (λ z. w % z) (pow-suc 2 n) ∙ mod-mul w {m = 2 ^ n} {c = 2} (pow_pos n) (lit< tt)

fixed_match : (n v w : ℕ) (bs : List Bit) → w % 2 ^ n ≡ v → Matches bs (w / 2 ^ n) → Matches (fixed_bits n v bs) w
fixed_match zero v w bs e h = let q : w / 1 ≡ w = omega arith in subst (λ z. Matches bs z) q h
fixed_match (suc n) v w bs e h =
    let a : w / 2 % 2 ^ n * 2 + w % 2 ≡ v = sym (low_next w n) ∙ e in
    let x : w % 2 ≡ v % 2 = omega arith in
    let z : w / 2 % 2 ^ n ≡ v / 2 = omega arith in
    (x, fixed_match n (v / 2) (w / 2) bs z (subst (λ z. Matches bs z) (half_next w n) h))

any_match : (n w : ℕ) (bs : List Bit) → Matches bs (w / 2 ^ n) → Matches (any_bits n bs) w
any_match zero w bs h = let q : w / 1 ≡ w = omega arith in subst (λ z. Matches bs z) q h
any_match (suc n) w bs h = any_match n (w / 2) bs (subst (λ z. Matches bs z) (half_next w n) h)

fields_match : (ps : List Part) (w : ℕ) (xs : List ℕ) → fields ps w ≡ Some xs → Matches (pattern_of ps) w
unfolding fields
fields_match [] w xs e = tt
fields_match (Fixed n v ∷ ps) w xs e = go (λ f. fields_match ps (w / 2 ^ n) xs f) (eqb (w % 2 ^ n) v) refl e
  where
    go : (fields ps (w / 2 ^ n) ≡ Some xs → Matches (pattern_of ps) (w / 2 ^ n)) → (b : Bool) → eqb (w % 2 ^ n) v ≡ b → cond b (fields ps (w / 2 ^ n)) None ≡ Some xs → Matches (fixed_bits n v (pattern_of ps)) w
    go ih true f g = fixed_match n v w (pattern_of ps) (eqb-true _ _ f) (ih g)
    go ih false f g = cc
fields_match (Field n ∷ ps) w xs e = go (λ ys f. fields_match ps (w / 2 ^ n) ys f) (fields ps (w / 2 ^ n)) refl e
  where
    go : ((ys : List ℕ) → fields ps (w / 2 ^ n) ≡ Some ys → Matches (pattern_of ps) (w / 2 ^ n)) → (o : Option (List ℕ)) → fields ps (w / 2 ^ n) ≡ o → after (w % 2 ^ n) o ≡ Some xs → Matches (any_bits n (pattern_of ps)) w
    go ih None f g = cc
    go ih (Some ys) f g = any_match n w (pattern_of ps) (ih ys f)

no_clash : (xs ys : List Bit) (w : ℕ) → Matches xs w → Matches ys w → clash xs ys ≡ true → ⊥
no_clash [] ys w m n c = cc
no_clash (x ∷ xs) [] w m n c = cc
no_clash (Is a ∷ xs) (Is b ∷ ys) w m n c = go (λ f. no_clash xs ys (w / 2) m.1 n.1 f) (eqb a b) refl c
  where
    go : (clash xs ys ≡ true → ⊥) → (t : Bool) → eqb a b ≡ t → (not t || clash xs ys) ≡ true → ⊥
    go ih true e f = ih f
    go ih false e f = true≢false (sym (eq-eqb a b (sym m.0 ∙ n.0)) ∙ e)
no_clash (Is a ∷ xs) (Any ∷ ys) w m n c = no_clash xs ys (w / 2) m.1 n c
no_clash (Any ∷ xs) (Is b ∷ ys) w m n c = no_clash xs ys (w / 2) m n.1 c
no_clash (Any ∷ xs) (Any ∷ ys) w m n c = no_clash xs ys (w / 2) m n c

-- Lists of rows.

abbrev clash_with_all : Row → List Row → Bool
clash_with_all r [] = true
clash_with_all r (q ∷ qs) = clash (pattern_of (parts r)) (pattern_of (parts q)) && clash_with_all r qs

abbrev pub distinct : List Row → Bool
distinct [] = true
distinct (r ∷ rs) = clash_with_all r rs && distinct rs

abbrev all_fit : List Row → Bool
all_fit [] = true
all_fit (r ∷ rs) = fixed_fit (parts r) && all_fit rs

abbrev pub row_at : List Row → ℕ → Option Row
row_at [] i = None
row_at (r ∷ rs) zero = Some r
row_at (r ∷ rs) (suc i) = row_at rs i

rows_distinct : distinct rows ≡ true
rows_distinct = refl

rows_fit : all_fit rows ≡ true
rows_fit = refl

pub immediate_distinct : distinct immediate_rows ≡ true
immediate_distinct = refl

pub register_distinct : distinct register_rows ≡ true
register_distinct = refl

pub memory_distinct : distinct memory_rows ≡ true
memory_distinct = refl

pub branch_distinct : distinct branch_rows ≡ true
branch_distinct = refl

abbrev place : Row → ℕ
place Adrp = 0
place (SumImmediate SumImmediateOp.Add) = 1
place (SumImmediate SumImmediateOp.Sub) = 2
place SubsImmediate = 3
place (MoveWide MoveWideOp.Movz) = 4
place (MoveWide MoveWideOp.Movn) = 5
place (MoveWide MoveWideOp.Movk) = 6
place (Bitfield BitfieldOp.Sbfm) = 7
place (Bitfield BitfieldOp.Ubfm) = 8
place (Logical LogicalOp.And) = 9
place (Logical LogicalOp.Orr) = 10
place (Logical LogicalOp.Eor) = 11
place (Logical LogicalOp.Orn) = 12
place (Sum SumOp.Add) = 13
place (Sum SumOp.Sub) = 14
place (Sum SumOp.Subs) = 15
place (MultiplyAdd MultiplyAddOp.Madd) = 16
place (MultiplyAdd MultiplyAddOp.Msub) = 17
place (Divide DivideOp.Udiv) = 18
place (Divide DivideOp.Sdiv) = 19
place (Shift ShiftOp.Lslv) = 20
place (Shift ShiftOp.Lsrv) = 21
place (Shift ShiftOp.Asrv) = 22
place Csinc = 23
place Pacga = 24
place (Sign SignOp.Pacia) = 25
place (Sign SignOp.Pacib) = 26
place (Sign SignOp.Pacda) = 27
place (Sign SignOp.Pacdb) = 28
place (Authenticate AuthenticateOp.Autia) = 29
place (Authenticate AuthenticateOp.Autib) = 30
place (Authenticate AuthenticateOp.Autda) = 31
place (Authenticate AuthenticateOp.Autdb) = 32
place (Plain PlainOp.Paciza) = 33
place (Plain PlainOp.Autiza) = 34
place (Plain PlainOp.Xpaci) = 35
place (LoadStore LoadStoreOp.Ldr) = 36
place (LoadStore LoadStoreOp.Str) = 37
place (LoadStoreWord LoadStoreWordOp.Ldrw) = 38
place (LoadStoreWord LoadStoreWordOp.Strw) = 39
place (LoadStoreWord LoadStoreWordOp.Ldrsw) = 40
place (LoadStoreHalf LoadStoreHalfOp.Ldrh) = 41
place (LoadStoreHalf LoadStoreHalfOp.Strh) = 42
place (LoadStoreHalf LoadStoreHalfOp.Ldrsh) = 43
place (LoadStoreByte LoadStoreByteOp.Ldrb) = 44
place (LoadStoreByte LoadStoreByteOp.Strb) = 45
place (LoadStoreByte LoadStoreByteOp.Ldrsb) = 46
place (LoadStoreUnscaled LoadStoreUnscaledOp.Ldur) = 47
place (LoadStoreUnscaled LoadStoreUnscaledOp.Stur) = 48
place (LoadStorePair LoadStorePairOp.Ldp) = 49
place (LoadStorePair LoadStorePairOp.Stp) = 50
place (Branch BranchOp.B) = 51
place (Branch BranchOp.Bl) = 52
place BranchConditional = 53
place (CompareBranch CompareBranchOp.Cbz) = 54
place (CompareBranch CompareBranchOp.Cbnz) = 55
place (Exception ExceptionOp.Svc) = 56
place (Exception ExceptionOp.Brk) = 57
place Nop = 58
place (Stack StackOp.Retab) = 59
place (Stack StackOp.Pacibsp) = 60
place (Stack StackOp.Autibsp) = 61
place (BranchRegister BranchRegisterOp.Br) = 62
place (BranchRegister BranchRegisterOp.Blr) = 63
place (BranchRegister BranchRegisterOp.Ret) = 64
place Blraaz = 65
place (BranchAuthenticated BranchAuthenticatedOp.Braa) = 66
place (BranchAuthenticated BranchAuthenticatedOp.Blraa) = 67
place (BranchAuthenticated BranchAuthenticatedOp.Blrab) = 68

at_place : (r : Row) → row_at rows (place r) ≡ Some r
at_place (SumImmediate SumImmediateOp.Add) = refl
at_place (MoveWide MoveWideOp.Movz) = refl
at_place (Bitfield BitfieldOp.Sbfm) = refl
at_place (Logical LogicalOp.And) = refl
at_place (Sum SumOp.Add) = refl
at_place (MultiplyAdd MultiplyAddOp.Madd) = refl
at_place (Divide DivideOp.Udiv) = refl
at_place (Shift ShiftOp.Lslv) = refl
at_place (Sign SignOp.Pacia) = refl
at_place (Authenticate AuthenticateOp.Autia) = refl
at_place (Plain PlainOp.Paciza) = refl
at_place (LoadStore LoadStoreOp.Ldr) = refl
at_place (LoadStoreWord LoadStoreWordOp.Ldrw) = refl
at_place (LoadStoreHalf LoadStoreHalfOp.Ldrh) = refl
at_place (LoadStoreByte LoadStoreByteOp.Ldrb) = refl
at_place (LoadStoreUnscaled LoadStoreUnscaledOp.Ldur) = refl
at_place (LoadStorePair LoadStorePairOp.Ldp) = refl
at_place (Branch BranchOp.B) = refl
at_place (CompareBranch CompareBranchOp.Cbz) = refl
at_place (Exception ExceptionOp.Svc) = refl
at_place (Stack StackOp.Retab) = refl
at_place (BranchRegister BranchRegisterOp.Br) = refl
at_place (BranchAuthenticated BranchAuthenticatedOp.Braa) = refl
at_place _ = refl

fits_at : (rs : List Row) (i : ℕ) (r : Row) → all_fit rs ≡ true → row_at rs i ≡ Some r → fixed_fit (parts r) ≡ true
fits_at [] i r f e = cc
fits_at (q ∷ rs) zero r f e = let same : q ≡ r = cc in subst (λ z. fixed_fit (parts z) ≡ true) same (and_parts _ _ f).0
fits_at (q ∷ rs) (suc i) r f e = fits_at rs i r (and_parts _ _ f).1 e

pub row_fits : (r : Row) → fixed_fit (parts r) ≡ true
row_fits r = fits_at rows (place r) r rows_fit (at_place r)

pub total-parts : (r : Row) → total (parts r) ≡ 32
total-parts (MoveWide MoveWideOp.Movz) = refl
total-parts (SumImmediate SumImmediateOp.Add) = refl
total-parts (Sum SumOp.Add) = refl
total-parts (Logical LogicalOp.And) = refl
total-parts (MultiplyAdd MultiplyAddOp.Madd) = refl
total-parts (Divide DivideOp.Udiv) = refl
total-parts (Shift ShiftOp.Lslv) = refl
total-parts (Bitfield BitfieldOp.Sbfm) = refl
total-parts (LoadStore LoadStoreOp.Ldr) = refl
total-parts (LoadStoreWord LoadStoreWordOp.Ldrw) = refl
total-parts (LoadStoreHalf LoadStoreHalfOp.Ldrh) = refl
total-parts (LoadStoreByte LoadStoreByteOp.Ldrb) = refl
total-parts (LoadStoreUnscaled LoadStoreUnscaledOp.Ldur) = refl
total-parts (LoadStorePair LoadStorePairOp.Ldp) = refl
total-parts (Branch BranchOp.B) = refl
total-parts (CompareBranch CompareBranchOp.Cbz) = refl
total-parts (BranchRegister BranchRegisterOp.Br) = refl
total-parts (BranchAuthenticated BranchAuthenticatedOp.Braa) = refl
total-parts (Stack StackOp.Retab) = refl
total-parts (Sign SignOp.Pacia) = refl
total-parts (Authenticate AuthenticateOp.Autia) = refl
total-parts (Plain PlainOp.Paciza) = refl
total-parts (Exception ExceptionOp.Svc) = refl
total-parts _ = refl

clash_at : (q : Row) (rs : List Row) (i : ℕ) (r : Row) → clash_with_all q rs ≡ true → row_at rs i ≡ Some r → clash (pattern_of (parts q)) (pattern_of (parts r)) ≡ true
clash_at q [] i r f e = cc
clash_at q (p ∷ rs) zero r f e = let same : p ≡ r = cc in subst (λ z. clash (pattern_of (parts q)) (pattern_of (parts z)) ≡ true) same (and_parts _ _ f).0
clash_at q (p ∷ rs) (suc i) r f e = clash_at q rs i r (and_parts _ _ f).1 e

-- The word is of a row.

-- the fields of a row, which don't hang on its operation
abbrev pub line_places : Row → List Place
line_places (MoveWide op) = At 0 5 ∷ At 5 16 ∷ At 21 2 ∷ []
line_places (SumImmediate op) = At 0 5 ∷ At 5 5 ∷ At 10 12 ∷ At 22 1 ∷ []
line_places SubsImmediate = At 0 5 ∷ At 5 5 ∷ At 10 12 ∷ At 22 1 ∷ []
line_places (Sum op) = At 0 5 ∷ At 5 5 ∷ At 16 5 ∷ []
line_places (Logical op) = At 0 5 ∷ At 5 5 ∷ At 16 5 ∷ []
line_places (MultiplyAdd op) = At 0 5 ∷ At 5 5 ∷ At 10 5 ∷ At 16 5 ∷ []
line_places (Divide op) = At 0 5 ∷ At 5 5 ∷ At 16 5 ∷ []
line_places (Shift op) = At 0 5 ∷ At 5 5 ∷ At 16 5 ∷ []
line_places (Bitfield op) = At 0 5 ∷ At 5 5 ∷ At 10 6 ∷ At 16 6 ∷ []
line_places Csinc = At 0 5 ∷ At 5 5 ∷ At 12 4 ∷ At 16 5 ∷ []
line_places Adrp = At 0 5 ∷ At 5 19 ∷ At 29 2 ∷ []
line_places Nop = []
line_places (LoadStore op) = At 0 5 ∷ At 5 5 ∷ At 10 12 ∷ []
line_places (LoadStoreWord op) = At 0 5 ∷ At 5 5 ∷ At 10 12 ∷ []
line_places (LoadStoreHalf op) = At 0 5 ∷ At 5 5 ∷ At 10 12 ∷ []
line_places (LoadStoreByte op) = At 0 5 ∷ At 5 5 ∷ At 10 12 ∷ []
line_places (LoadStoreUnscaled op) = At 0 5 ∷ At 5 5 ∷ At 12 9 ∷ []
line_places (LoadStorePair op) = At 0 5 ∷ At 5 5 ∷ At 10 5 ∷ At 15 7 ∷ []
line_places (Branch op) = At 0 26 ∷ []
line_places BranchConditional = At 0 4 ∷ At 5 19 ∷ []
line_places (CompareBranch op) = At 0 5 ∷ At 5 19 ∷ []
line_places (BranchRegister op) = At 5 5 ∷ []
line_places (BranchAuthenticated op) = At 0 5 ∷ At 5 5 ∷ []
line_places Blraaz = At 5 5 ∷ []
line_places (Stack op) = []
line_places (Sign op) = At 0 5 ∷ At 5 5 ∷ []
line_places (Authenticate op) = At 0 5 ∷ At 5 5 ∷ []
line_places (Plain op) = At 0 5 ∷ []
line_places Pacga = At 0 5 ∷ At 5 5 ∷ At 16 5 ∷ []
line_places (Exception op) = At 5 16 ∷ []

pub places_of-parts : (r : Row) → places_of 0 (parts r) ≡ line_places r
places_of-parts (MoveWide MoveWideOp.Movz) = refl
places_of-parts (SumImmediate SumImmediateOp.Add) = refl
places_of-parts (Sum SumOp.Add) = refl
places_of-parts (Logical LogicalOp.And) = refl
places_of-parts (MultiplyAdd MultiplyAddOp.Madd) = refl
places_of-parts (Divide DivideOp.Udiv) = refl
places_of-parts (Shift ShiftOp.Lslv) = refl
places_of-parts (Bitfield BitfieldOp.Sbfm) = refl
places_of-parts (LoadStore LoadStoreOp.Ldr) = refl
places_of-parts (LoadStoreWord LoadStoreWordOp.Ldrw) = refl
places_of-parts (LoadStoreHalf LoadStoreHalfOp.Ldrh) = refl
places_of-parts (LoadStoreByte LoadStoreByteOp.Ldrb) = refl
places_of-parts (LoadStoreUnscaled LoadStoreUnscaledOp.Ldur) = refl
places_of-parts (LoadStorePair LoadStorePairOp.Ldp) = refl
places_of-parts (Branch BranchOp.B) = refl
places_of-parts (CompareBranch CompareBranchOp.Cbz) = refl
places_of-parts (BranchRegister BranchRegisterOp.Br) = refl
places_of-parts (BranchAuthenticated BranchAuthenticatedOp.Braa) = refl
places_of-parts (Stack StackOp.Retab) = refl
places_of-parts (Sign SignOp.Pacia) = refl
places_of-parts (Authenticate AuthenticateOp.Autia) = refl
places_of-parts (Plain PlainOp.Paciza) = refl
places_of-parts (Exception ExceptionOp.Svc) = refl
places_of-parts _ = refl

-- a word with a row's fixed bits is of that row
pub by_row : (r : Row) (w : ℕ) → w < 2 ^ 32 → bit_and w (mask (parts r)) ≡ fixed (parts r) → decoded_by r w ≡ instruction r (gets (line_places r) w)
unfolding decoded_by
by_row r w l e = ap (instruction_of r) (fields-masked (parts r) w (row_fits r) (subst (λ n. w < 2 ^ n) (sym (total-parts r)) l) e)
    ∙ ap (λ z. instruction r (gets z w)) (places_of-parts r)

-- and another word isn't
pub not_by_row : (r : Row) (w : ℕ) → bit_and w (mask (parts r)) ≢ fixed (parts r) → decoded_by r w ≡ None
unfolding decoded_by
not_by_row r w ne = go (fields (parts r) w) refl
  where
    go : (o : Option (List ℕ)) → fields (parts r) w ≡ o → instruction_of r o ≡ None
    go None e = refl
    go (Some xs) e = absurd (ne (masked-fields (parts r) w xs e))

-- `ldp` of one register twice is of no row
pub not_ldp : (w : ℕ) {x y : ℕ} → w < 2 ^ 32 → bit_and w (mask (parts (LoadStorePair LoadStorePairOp.Ldp))) ≡ fixed (parts (LoadStorePair LoadStorePairOp.Ldp)) → x ≡ field 0 5 w → y ≡ field 10 5 w → x ≡ y → decoded_by (LoadStorePair LoadStorePairOp.Ldp) w ≡ None
not_ldp w {x} {y} l e f g h =
    let same : eqb (field 0 5 w) (field 10 5 w) ≡ true = eq-eqb _ _ (sym f ∙ (h ∙ g)) in
    by_row (LoadStorePair LoadStorePairOp.Ldp) w l e ∙ rw same refl

row_matches : (r : Row) (w : ℕ) (i : Instr) → decoded_by r w ≡ Some i → Matches (pattern_of (parts r)) w
unfolding decoded_by
row_matches r w i e = go (fields (parts r) w) refl e
  where
    go : (o : Option (List ℕ)) → fields (parts r) w ≡ o → instruction_of r o ≡ Some i → Matches (pattern_of (parts r)) w
    go None f g = cc
    go (Some xs) f g = fields_match (parts r) w xs f

clash_none : (r : Row) (w : ℕ) (bs : List Bit) → Matches bs w → clash (pattern_of (parts r)) bs ≡ true → decoded_by r w ≡ None
clash_none r w bs m c = go (decoded_by r w) refl
  where
    go : (o : Option Instr) → decoded_by r w ≡ o → decoded_by r w ≡ None
    go None e = e
    go (Some i) e = absurd (no_clash (pattern_of (parts r)) bs w (row_matches r w i e) m c)

-- no word is of two rows
among_finds : (rs : List Row) (k : ℕ) (r : Row) (w : ℕ) (i : Instr) → distinct rs ≡ true → row_at rs k ≡ Some r → decoded_by r w ≡ Some i → decoded_among rs w ≡ Some i
unfolding decoded_among
among_finds [] k r w i d e h = cc
among_finds (q ∷ rs) zero r w i d e h =
    let same : q ≡ r = cc in
    ap (λ (z : Row). or_else (decoded_by z w) (decoded_among rs w)) same ∙ ap (λ (o : Option Instr). or_else o (decoded_among rs w)) h
among_finds (q ∷ rs) (suc k) r w i d e h =
    let a = and_parts _ _ d in
    ap (λ (o : Option Instr). or_else o (decoded_among rs w)) (missed a.0) ∙ among_finds rs k r w i a.1 e h
  where
    turned : (xs ys : List Bit) → clash xs ys ≡ true → Matches xs w → Matches ys w → ⊥
    turned xs ys c m n = no_clash xs ys w m n c

    missed : clash_with_all q rs ≡ true → decoded_by q w ≡ None
    missed c = clash_none q w (pattern_of (parts r)) (row_matches r w i h) (clash_at q rs k r c e)

-- what the code finds: the k-th row of a list, whose fields it has got
pub found : (rs : List Row) → distinct rs ≡ true → (k : ℕ) (r : Row) → row_at rs k ≡ Some r → {w : ℕ} {xs : List ℕ} {i : Instr} → w < 2 ^ 32 → bit_and w (mask (parts r)) ≡ fixed (parts r) → xs ≡ gets (line_places r) w → instruction r xs ≡ Some i → Some i ≡ decoded_among rs w
found rs d k r at {w} {xs} {i} l e f g = sym (among_finds rs k r w i d at (by_row r w l e ∙ (ap (instruction r) (sym f) ∙ g)))

pub next : {x y : ℕ} {xs ys : List ℕ} → x ≡ y → xs ≡ ys → (x ∷ xs) ≡ (y ∷ ys)
next {x} {y} {xs} {ys} e f = ap (λ z. z ∷ xs) e ∙ ap (λ zs. y ∷ zs) f

pub found_in_table : (r : Row) (w : ℕ) (i : Instr) → decoded_by r w ≡ Some i → decoded w ≡ Some i
unfolding decoded
found_in_table r w i h = among_finds rows (place r) r w i rows_distinct (at_place r) h

-- Only some rows of a list are left where some bits of the word are known.

abbrev pub known : (low length value : ℕ) → List Bit
known low length value = any_bits low (fixed_bits length value [])

known-Matches : (low length w : ℕ) → Matches (known low length (field low length w)) w
known-Matches low length w = any_match low w (fixed_bits length (field low length w) []) (fixed_match length (field low length w) (w / 2 ^ low) [] refl tt)

-- the row has another value in these bits than each of the list
abbrev pub excludes : (low length : ℕ) → List ℕ → Row → Bool
excludes low length [] r = true
excludes low length (v ∷ vs) r = clash (pattern_of (parts r)) (known low length v) && excludes low length vs r

abbrev pub narrowed : (low length : ℕ) → List ℕ → List Row → List Row
narrowed low length vs [] = []
narrowed low length vs (r ∷ rs) = cond (excludes low length vs r) (narrowed low length vs rs) (r ∷ narrowed low length vs rs)

-- a number is one of the list
abbrev pub OneOf : List ℕ → ℕ → Type 0
OneOf [] x = ⊥
OneOf (a ∷ []) x = x ≡ a
OneOf (a ∷ (b ∷ vs)) x = (x ≡ a) ⊎ OneOf (b ∷ vs) x

excluded : (low length : ℕ) (vs : List ℕ) (r : Row) (w : ℕ) → OneOf vs (field low length w) → excludes low length vs r ≡ true → decoded_by r w ≡ None
excluded low length [] r w h e = absurd h
excluded low length (a ∷ []) r w h e =
    clash_none r w (known low length a) (subst (λ z. Matches (known low length z) w) h (known-Matches low length w)) (and_parts _ _ e).0
excluded low length (a ∷ (b ∷ vs)) r w (inl h) e =
    clash_none r w (known low length a) (subst (λ z. Matches (known low length z) w) h (known-Matches low length w)) (and_parts _ _ e).0
excluded low length (a ∷ (b ∷ vs)) r w (inr h) e = excluded low length (b ∷ vs) r w h (and_parts _ _ e).1

pub among-narrowed : (low length : ℕ) (vs : List ℕ) (rs : List Row) (w : ℕ) → OneOf vs (field low length w) → decoded_among rs w ≡ decoded_among (narrowed low length vs rs) w
unfolding decoded_among
among-narrowed low length vs [] w h = refl
among-narrowed low length vs (r ∷ rs) w h = go (among-narrowed low length vs rs w h) (excludes low length vs r) refl
  where
    go : decoded_among rs w ≡ decoded_among (narrowed low length vs rs) w → (b : Bool) → excludes low length vs r ≡ b → or_else (decoded_by r w) (decoded_among rs w) ≡ decoded_among (cond b (narrowed low length vs rs) (r ∷ narrowed low length vs rs)) w
    go ih true e = ap (λ (o : Option Instr). or_else o (decoded_among rs w)) (excluded low length vs r w h e) ∙ ih
    go ih false e = ap (or_else (decoded_by r w)) ih

abbrev pub NoneBy : List Row → ℕ → Type 0
NoneBy [] w = Unit {0}
NoneBy (r ∷ rs) w = (decoded_by r w ≡ None) × NoneBy rs w

pub among-none : (rs : List Row) (w : ℕ) → NoneBy rs w → decoded_among rs w ≡ None
unfolding decoded_among
among-none [] w h = refl
among-none (r ∷ rs) w h = ap (λ (o : Option Instr). or_else o (decoded_among rs w)) h.0 ∙ among-none rs w h.1

-- these bits leave some rows, of which none is the word's
pub none_left : (rs : List Row) (low length : ℕ) (vs : List ℕ) (w : ℕ) {x : ℕ} → x ≡ field low length w → OneOf vs x → NoneBy (narrowed low length vs rs) w → None ≡ decoded_among rs w
none_left rs low length vs w {x} e h n = sym (among-narrowed low length vs rs w (subst (OneOf vs) e h) ∙ among-none (narrowed low length vs rs) w n)

-- No row of a list is left where these bits have a value that the lists of values lack.

-- a number is in none of the lists
abbrev pub Outside : List (List ℕ) → ℕ → Type 0
Outside [] x = Unit {0}
Outside (vs ∷ vss) x = (OneOf vs x → ⊥) × Outside vss x

abbrev pub lists : List ℕ → ℕ → Bool
lists [] x = false
lists (v ∷ vs) x = eqb x v || lists vs x

abbrev pub some_lists : List (List ℕ) → ℕ → Bool
some_lists [] x = false
some_lists (vs ∷ vss) x = lists vs x || some_lists vss x

abbrev pub is_nil : List Row → Bool
is_nil [] = true
is_nil (r ∷ rs) = false

-- each value below n is in a list, or leaves no row
abbrev pub all_listed : (low length : ℕ) → List (List ℕ) → List Row → ℕ → Bool
all_listed low length vss rs zero = true
all_listed low length vss rs (suc n) = (some_lists vss n || is_nil (narrowed low length (n ∷ []) rs)) && all_listed low length vss rs n

not_lists : (vs : List ℕ) (x : ℕ) → (OneOf vs x → ⊥) → lists vs x ≡ false
not_lists [] x h = refl
not_lists (a ∷ []) x h = rw (ne_eqb x a h) refl
not_lists (a ∷ (b ∷ vs)) x h = rw (ne_eqb x a (λ e. h (inl e))) (not_lists (b ∷ vs) x (λ o. h (inr o)))

not_some_lists : (vss : List (List ℕ)) (x : ℕ) → Outside vss x → some_lists vss x ≡ false
not_some_lists [] x h = refl
not_some_lists (vs ∷ vss) x h = rw (not_lists vs x h.0) (not_some_lists vss x h.1)

listed_at : (low length : ℕ) (vss : List (List ℕ)) (rs : List Row) (n x : ℕ) → x < n → all_listed low length vss rs n ≡ true → (some_lists vss x || is_nil (narrowed low length (x ∷ []) rs)) ≡ true
listed_at low length vss rs zero x lt e = absurd (omega arith)
listed_at low length vss rs (suc n) x lt e = go (λ l. listed_at low length vss rs n x l (and_parts _ _ e).1) (eqb x n) refl
  where
    go : (x < n → (some_lists vss x || is_nil (narrowed low length (x ∷ []) rs)) ≡ true) → (b : Bool) → eqb x n ≡ b → (some_lists vss x || is_nil (narrowed low length (x ∷ []) rs)) ≡ true
    go ih true t = subst (λ z. (some_lists vss z || is_nil (narrowed low length (z ∷ []) rs)) ≡ true) (sym (eqb-true x n t)) (and_parts _ _ e).0
    go ih false t = let ne : x ≢ n = λ q. true≢false (sym (eq-eqb x n q) ∙ t) in ih (omega arith)

among-unlisted : (low length : ℕ) (vss : List (List ℕ)) (rs : List Row) (w : ℕ) → all_listed low length vss rs (2 ^ length) ≡ true → Outside vss (field low length w) → decoded_among rs w ≡ None
unfolding decoded_among
among-unlisted low length vss rs w all h = among-narrowed low length (field low length w ∷ []) rs w refl ∙ go (narrowed low length (field low length w ∷ []) rs) nil
  where
    nil : is_nil (narrowed low length (field low length w ∷ []) rs) ≡ true
    nil =
        let e = listed_at low length vss rs (2 ^ length) (field low length w) (mod_below (w / 2 ^ low) (2 ^ length) (pow_pos length)) all in
        subst (λ z. (z || is_nil (narrowed low length (field low length w ∷ []) rs)) ≡ true) (not_some_lists vss (field low length w) h) e

    go : (qs : List Row) → is_nil qs ≡ true → decoded_among qs w ≡ None
    go [] e = refl
    go (q ∷ qs) e = cc

pub none_listed : (rs : List Row) (low length : ℕ) (vss : List (List ℕ)) → all_listed low length vss rs (2 ^ length) ≡ true → (w : ℕ) {x : ℕ} → x ≡ field low length w → Outside vss x → None ≡ decoded_among rs w
none_listed rs low length vss all w {x} e h = sym (among-unlisted low length vss rs w all (subst (Outside vss) e h))

-- these bits leave the same rows of a part as of the whole table
pub whole_table : (qs : List Row) (low length : ℕ) (vs : List ℕ) → narrowed low length vs qs ≡ narrowed low length vs rows → (w : ℕ) {x : ℕ} → x ≡ field low length w → OneOf vs x → decoded_among qs w ≡ decoded w
unfolding decoded
whole_table qs low length vs same w {x} e h =
    let at = subst (OneOf vs) e h in
    among-narrowed low length vs qs w at ∙ (ap (λ z. decoded_among z w) same ∙ sym (among-narrowed low length vs rows w at))

pub none_in_table : (low length : ℕ) (vss : List (List ℕ)) → all_listed low length vss rows (2 ^ length) ≡ true → (w : ℕ) {x : ℕ} → x ≡ field low length w → Outside vss x → None ≡ decoded w
unfolding decoded
none_in_table low length vss all w {x} e h = none_listed rows low length vss all w {x = x} e h
