-- Instructions and their words.
use Rattle.std.specs.Prelude.{ℕ, suc, ◌+◌, ◌-◌, ◌*◌, ◌/◌, ◌%◌, ◌^◌, ◌<◌, ℤ, pos, negsuc, Bool, true, false, not, IsTrue, ◌==◌, nat_lt, if◌then◌else◌, List, [], ◌∷◌, Option, Some, None}
use Rattle.pa_a64.specs.declared.instr.Instr.{Instr}
use Rattle.pa_a64.specs.declared.instr.LoadStorePairOp.{LoadStorePairOp}
use Rattle.pa_a64.specs.Parts.{word, fields}
use Rattle.pa_a64.specs.Table.{Row, parts, rows}

-- Signed fields are two's complement of their width.

abbrev pub IsSigned : (width : ℕ) → ℤ → Type 0
IsSigned width (pos n) = n < 2 ^ (width - 1)
IsSigned width (negsuc n) = n < 2 ^ (width - 1)

abbrev pub bits_of_signed : (width : ℕ) → ℤ → ℕ
bits_of_signed width (pos n) = n
bits_of_signed width (negsuc n) = 2 ^ width - suc n

abbrev pub signed_of_bits : (width bits : ℕ) → ℤ
signed_of_bits width bits = if nat_lt bits (2 ^ (width - 1)) then pos bits else negsuc (2 ^ width - suc bits)

abbrev pub bit_of : Bool → ℕ
bit_of false = 0
bit_of true = 1

-- `ldp` loads two different registers
abbrev pub is_pair : LoadStorePairOp → (rt rt2 : ℕ) → Bool
is_pair LoadStorePairOp.Ldp rt rt2 = not (rt == rt2)
is_pair LoadStorePairOp.Stp rt rt2 = true

-- The fields of an instruction fit their places.
abbrev pub InRange : Instr → Type 0
InRange (Instr.MoveWide op rd imm hw) = (rd < 32) × (imm < 2 ^ 16) × (hw < 4)
InRange (Instr.SumImmediate op rd rn imm shifted) = (rd < 32) × (rn < 32) × (imm < 2 ^ 12)
InRange (Instr.SubsImmediate rd rn imm shifted) = (rd < 32) × (rn < 32) × (imm < 2 ^ 12)
InRange (Instr.Sum op rd rn rm) = (rd < 32) × (rn < 32) × (rm < 32)
InRange (Instr.Logical op rd rn rm) = (rd < 32) × (rn < 32) × (rm < 32)
InRange (Instr.MultiplyAdd op rd rn rm ra) = (rd < 32) × (rn < 32) × (rm < 32) × (ra < 32)
InRange (Instr.Divide op rd rn rm) = (rd < 32) × (rn < 32) × (rm < 32)
InRange (Instr.Shift op rd rn rm) = (rd < 32) × (rn < 32) × (rm < 32)
InRange (Instr.Bitfield op rd rn immr imms) = (rd < 32) × (rn < 32) × (immr < 64) × (imms < 64)
InRange (Instr.Csinc rd rn rm condition) = (rd < 32) × (rn < 32) × (rm < 32) × (condition < 16)
InRange (Instr.Adrp rd pages) = (rd < 32) × IsSigned 21 pages
InRange Instr.Nop = Unit {0}
InRange (Instr.LoadStore op rt rn imm) = (rt < 32) × (rn < 32) × (imm < 2 ^ 12)
InRange (Instr.LoadStoreWord op rt rn imm) = (rt < 32) × (rn < 32) × (imm < 2 ^ 12)
InRange (Instr.LoadStoreHalf op rt rn imm) = (rt < 32) × (rn < 32) × (imm < 2 ^ 12)
InRange (Instr.LoadStoreByte op rt rn imm) = (rt < 32) × (rn < 32) × (imm < 2 ^ 12)
InRange (Instr.LoadStoreUnscaled op rt rn imm) = (rt < 32) × (rn < 32) × IsSigned 9 imm
InRange (Instr.LoadStorePair op rt rt2 rn imm) = (rt < 32) × (rt2 < 32) × (rn < 32) × IsSigned 7 imm × IsTrue (is_pair op rt rt2)
InRange (Instr.Branch op words) = IsSigned 26 words
InRange (Instr.BranchConditional condition words) = (condition < 16) × IsSigned 19 words
InRange (Instr.CompareBranch op rt words) = (rt < 32) × IsSigned 19 words
InRange (Instr.BranchRegister op rn) = rn < 32
InRange (Instr.BranchAuthenticated op rn rm) = (rn < 32) × (rm < 32)
InRange (Instr.Blraaz rn) = rn < 32
InRange (Instr.Stack op) = Unit {0}
InRange (Instr.Sign op rd rn) = (rd < 32) × (rn < 32)
InRange (Instr.Authenticate op rd rn) = (rd < 32) × (rn < 32)
InRange (Instr.Plain op rd) = rd < 32
InRange (Instr.Pacga rd rn rm) = (rd < 32) × (rn < 32) × (rm < 32)
InRange (Instr.Exception op imm) = imm < 2 ^ 16

abbrev pub row : Instr → Row
row (Instr.MoveWide op rd imm hw) = Row.MoveWide op
row (Instr.SumImmediate op rd rn imm shifted) = Row.SumImmediate op
row (Instr.SubsImmediate rd rn imm shifted) = Row.SubsImmediate
row (Instr.Sum op rd rn rm) = Row.Sum op
row (Instr.Logical op rd rn rm) = Row.Logical op
row (Instr.MultiplyAdd op rd rn rm ra) = Row.MultiplyAdd op
row (Instr.Divide op rd rn rm) = Row.Divide op
row (Instr.Shift op rd rn rm) = Row.Shift op
row (Instr.Bitfield op rd rn immr imms) = Row.Bitfield op
row (Instr.Csinc rd rn rm condition) = Row.Csinc
row (Instr.Adrp rd pages) = Row.Adrp
row Instr.Nop = Row.Nop
row (Instr.LoadStore op rt rn imm) = Row.LoadStore op
row (Instr.LoadStoreWord op rt rn imm) = Row.LoadStoreWord op
row (Instr.LoadStoreHalf op rt rn imm) = Row.LoadStoreHalf op
row (Instr.LoadStoreByte op rt rn imm) = Row.LoadStoreByte op
row (Instr.LoadStoreUnscaled op rt rn imm) = Row.LoadStoreUnscaled op
row (Instr.LoadStorePair op rt rt2 rn imm) = Row.LoadStorePair op
row (Instr.Branch op words) = Row.Branch op
row (Instr.BranchConditional condition words) = Row.BranchConditional
row (Instr.CompareBranch op rt words) = Row.CompareBranch op
row (Instr.BranchRegister op rn) = Row.BranchRegister op
row (Instr.BranchAuthenticated op rn rm) = Row.BranchAuthenticated op
row (Instr.Blraaz rn) = Row.Blraaz
row (Instr.Stack op) = Row.Stack op
row (Instr.Sign op rd rn) = Row.Sign op
row (Instr.Authenticate op rd rn) = Row.Authenticate op
row (Instr.Plain op rd) = Row.Plain op
row (Instr.Pacga rd rn rm) = Row.Pacga
row (Instr.Exception op imm) = Row.Exception op

-- what stands in the fields of an instruction's word, from bit 0 up
abbrev pub values : Instr → List ℕ
values (Instr.MoveWide op rd imm hw) = rd ∷ imm ∷ hw ∷ []
values (Instr.SumImmediate op rd rn imm shifted) = rd ∷ rn ∷ imm ∷ bit_of shifted ∷ []
values (Instr.SubsImmediate rd rn imm shifted) = rd ∷ rn ∷ imm ∷ bit_of shifted ∷ []
values (Instr.Sum op rd rn rm) = rd ∷ rn ∷ rm ∷ []
values (Instr.Logical op rd rn rm) = rd ∷ rn ∷ rm ∷ []
values (Instr.MultiplyAdd op rd rn rm ra) = rd ∷ rn ∷ ra ∷ rm ∷ []
values (Instr.Divide op rd rn rm) = rd ∷ rn ∷ rm ∷ []
values (Instr.Shift op rd rn rm) = rd ∷ rn ∷ rm ∷ []
values (Instr.Bitfield op rd rn immr imms) = rd ∷ rn ∷ imms ∷ immr ∷ []
values (Instr.Csinc rd rn rm condition) = rd ∷ rn ∷ condition ∷ rm ∷ []
values (Instr.Adrp rd pages) = rd ∷ bits_of_signed 21 pages / 4 ∷ bits_of_signed 21 pages % 4 ∷ []
values Instr.Nop = []
values (Instr.LoadStore op rt rn imm) = rt ∷ rn ∷ imm ∷ []
values (Instr.LoadStoreWord op rt rn imm) = rt ∷ rn ∷ imm ∷ []
values (Instr.LoadStoreHalf op rt rn imm) = rt ∷ rn ∷ imm ∷ []
values (Instr.LoadStoreByte op rt rn imm) = rt ∷ rn ∷ imm ∷ []
values (Instr.LoadStoreUnscaled op rt rn imm) = rt ∷ rn ∷ bits_of_signed 9 imm ∷ []
values (Instr.LoadStorePair op rt rt2 rn imm) = rt ∷ rn ∷ rt2 ∷ bits_of_signed 7 imm ∷ []
values (Instr.Branch op words) = bits_of_signed 26 words ∷ []
values (Instr.BranchConditional condition words) = condition ∷ bits_of_signed 19 words ∷ []
values (Instr.CompareBranch op rt words) = rt ∷ bits_of_signed 19 words ∷ []
values (Instr.BranchRegister op rn) = rn ∷ []
values (Instr.BranchAuthenticated op rn rm) = rm ∷ rn ∷ []
values (Instr.Blraaz rn) = rn ∷ []
values (Instr.Stack op) = []
values (Instr.Sign op rd rn) = rd ∷ rn ∷ []
values (Instr.Authenticate op rd rn) = rd ∷ rn ∷ []
values (Instr.Plain op rd) = rd ∷ []
values (Instr.Pacga rd rn rm) = rd ∷ rn ∷ rm ∷ []
values (Instr.Exception op imm) = imm ∷ []

-- the instruction of a row with these values in its fields
abbrev pub instruction : Row → List ℕ → Option Instr
instruction (Row.MoveWide op) (rd ∷ imm ∷ hw ∷ []) = Some (Instr.MoveWide op rd imm hw)
instruction (Row.SumImmediate op) (rd ∷ rn ∷ imm ∷ sh ∷ []) = Some (Instr.SumImmediate op rd rn imm (sh == 1))
instruction Row.SubsImmediate (rd ∷ rn ∷ imm ∷ sh ∷ []) = Some (Instr.SubsImmediate rd rn imm (sh == 1))
instruction (Row.Sum op) (rd ∷ rn ∷ rm ∷ []) = Some (Instr.Sum op rd rn rm)
instruction (Row.Logical op) (rd ∷ rn ∷ rm ∷ []) = Some (Instr.Logical op rd rn rm)
instruction (Row.MultiplyAdd op) (rd ∷ rn ∷ ra ∷ rm ∷ []) = Some (Instr.MultiplyAdd op rd rn rm ra)
instruction (Row.Divide op) (rd ∷ rn ∷ rm ∷ []) = Some (Instr.Divide op rd rn rm)
instruction (Row.Shift op) (rd ∷ rn ∷ rm ∷ []) = Some (Instr.Shift op rd rn rm)
instruction (Row.Bitfield op) (rd ∷ rn ∷ imms ∷ immr ∷ []) = Some (Instr.Bitfield op rd rn immr imms)
instruction Row.Csinc (rd ∷ rn ∷ condition ∷ rm ∷ []) = Some (Instr.Csinc rd rn rm condition)
instruction Row.Adrp (rd ∷ high ∷ low ∷ []) = Some (Instr.Adrp rd (signed_of_bits 21 (high * 4 + low)))
instruction Row.Nop [] = Some Instr.Nop
instruction (Row.LoadStore op) (rt ∷ rn ∷ imm ∷ []) = Some (Instr.LoadStore op rt rn imm)
instruction (Row.LoadStoreWord op) (rt ∷ rn ∷ imm ∷ []) = Some (Instr.LoadStoreWord op rt rn imm)
instruction (Row.LoadStoreHalf op) (rt ∷ rn ∷ imm ∷ []) = Some (Instr.LoadStoreHalf op rt rn imm)
instruction (Row.LoadStoreByte op) (rt ∷ rn ∷ imm ∷ []) = Some (Instr.LoadStoreByte op rt rn imm)
instruction (Row.LoadStoreUnscaled op) (rt ∷ rn ∷ imm ∷ []) = Some (Instr.LoadStoreUnscaled op rt rn (signed_of_bits 9 imm))
instruction (Row.LoadStorePair op) (rt ∷ rn ∷ rt2 ∷ imm ∷ []) = if is_pair op rt rt2 then Some (Instr.LoadStorePair op rt rt2 rn (signed_of_bits 7 imm)) else None
instruction (Row.Branch op) (words ∷ []) = Some (Instr.Branch op (signed_of_bits 26 words))
instruction Row.BranchConditional (condition ∷ words ∷ []) = Some (Instr.BranchConditional condition (signed_of_bits 19 words))
instruction (Row.CompareBranch op) (rt ∷ words ∷ []) = Some (Instr.CompareBranch op rt (signed_of_bits 19 words))
instruction (Row.BranchRegister op) (rn ∷ []) = Some (Instr.BranchRegister op rn)
instruction (Row.BranchAuthenticated op) (rm ∷ rn ∷ []) = Some (Instr.BranchAuthenticated op rn rm)
instruction Row.Blraaz (rn ∷ []) = Some (Instr.Blraaz rn)
instruction (Row.Stack op) [] = Some (Instr.Stack op)
instruction (Row.Sign op) (rd ∷ rn ∷ []) = Some (Instr.Sign op rd rn)
instruction (Row.Authenticate op) (rd ∷ rn ∷ []) = Some (Instr.Authenticate op rd rn)
instruction (Row.Plain op) (rd ∷ []) = Some (Instr.Plain op rd)
instruction Row.Pacga (rd ∷ rn ∷ rm ∷ []) = Some (Instr.Pacga rd rn rm)
instruction (Row.Exception op) (imm ∷ []) = Some (Instr.Exception op imm)
instruction _ _ = None

-- the word of an instruction
unfoldable pub encoded : Instr → ℕ
encoded i = word (parts (row i)) (values i)

abbrev pub instruction_of : Row → Option (List ℕ) → Option Instr
instruction_of r None = None
instruction_of r (Some xs) = instruction r xs

-- the instruction of a word by one row: None where the word isn't of that row
unfoldable pub decoded_by : Row → ℕ → Option Instr
decoded_by r number = instruction_of r (fields (parts r) number)

abbrev pub or_else : Option Instr → Option Instr → Option Instr
or_else None other = other
or_else (Some i) other = Some i

unfoldable pub decoded_among : List Row → ℕ → Option Instr
decoded_among [] number = None
decoded_among (r ∷ rs) number = or_else (decoded_by r number) (decoded_among rs number)

-- the instruction of a word: None where the word is of no row
unfoldable pub decoded : ℕ → Option Instr
decoded = decoded_among rows
