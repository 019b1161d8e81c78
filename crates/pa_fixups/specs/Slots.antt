-- The words of slots in pointer format 1 (mach-o/fixup-chains.h: dyld_chained_ptr_arm64e_rebase, .._bind, .._auth_rebase
-- and .._auth_bind).
use Rattle.std.specs.Prelude.{◌≡◌, ℕ, ◌+◌, ◌-◌, ◌*◌, ◌^◌, ◌<◌, Bool, true, false, not, ◌&&◌, ◌==◌, nat_lt, if◌then◌else◌, List, [], ◌∷◌, ℤ, pos, negsuc, ◌≤ℤ◌, ◌<ℤ◌, ◌-ℤ◌, Result, Ok, Err}
use Rattle.pa_num.specs.declared.fault.ImageRule.{ImageRule}
use Rattle.pa_num.specs.declared.fault.ImageRule.TheVariants.{F3}
use Rattle.pa_num.specs.Bits.{field}
use Rattle.pa_pac.specs.declared.key.Key.{Key}
use Rattle.pa_pac.specs.declared.key.Key.TheVariants.{IA, IB, DA, DB}
use Rattle.pa_pac.specs.Key.{key_number}
use Rattle.pa_fixups.specs.declared.kind.Sig.{Sig}
use Rattle.pa_fixups.specs.declared.kind.FixKind.{FixKind}
use Rattle.pa_fixups.specs.declared.kind.FixKind.TheVariants.{Rebase, Bind, AuthRebase, AuthBind}

-- ---- the fields of a slot

abbrev pub bit : Bool → ℕ
bit false = 0
bit true = 1

-- an integer in n bits of two's complement
abbrev pub low_bits : ℕ → ℤ → ℕ
low_bits n (pos k) = k
low_bits n (negsuc k) = 2 ^ n - (k + 1)

-- the fields of a slot from bit 0 up, as widths and values
abbrev pub parts_of : FixKind → ℕ → List (ℕ × ℕ)
parts_of (Rebase target high8) next = (43, target) ∷ (8, high8) ∷ (11, next) ∷ (1, 0) ∷ (1, 0) ∷ []
parts_of (Bind ordinal addend) next = (16, ordinal) ∷ (16, 0) ∷ (19, low_bits 19 addend) ∷ (11, next) ∷ (1, 1) ∷ (1, 0) ∷ []
parts_of (AuthRebase target sig) next =
    (32, target) ∷ (16, sig.disc) ∷ (1, bit sig.addr) ∷ (2, key_number sig.key) ∷ (11, next) ∷ (1, 0) ∷ (1, 1) ∷ []
parts_of (AuthBind ordinal sig) next =
    (16, ordinal) ∷ (16, 0) ∷ (16, sig.disc) ∷ (1, bit sig.addr) ∷ (2, key_number sig.key) ∷ (11, next) ∷ (1, 1) ∷ (1, 1) ∷ []

abbrev pub packed : List (ℕ × ℕ) → ℕ
packed [] = 0
packed (part ∷ parts) = part.1 + 2 ^ part.0 * packed parts

-- a signature that a slot can hold: its key isn't the generic one
abbrev pub SigFits : Sig → Type 0
SigFits sig = (sig.disc < 2 ^ 16) × (key_number sig.key < 4)

-- each value has room in its field
abbrev pub FieldsFit : FixKind → Type 0
FieldsFit (Rebase target high8) = (target < 2 ^ 43) × (high8 < 2 ^ 8)
FieldsFit (Bind ordinal addend) = (ordinal < 2 ^ 16) × (negsuc 262143 ≤ℤ addend) × (addend <ℤ pos 262144)
FieldsFit (AuthRebase target sig) = (target < 2 ^ 32) × SigFits sig
FieldsFit (AuthBind ordinal sig) = (ordinal < 2 ^ 16) × SigFits sig

-- ---- what a word says

abbrev pub key_of : ℕ → Key
key_of n = if n == 0 then IA else if n == 1 then IB else if n == 2 then DA else DB

-- the integer that n bits of two's complement stand for
abbrev pub signed_bits : ℕ → ℕ → ℤ
signed_bits n low = if nat_lt low (2 ^ (n - 1)) then pos low else pos low -ℤ pos (2 ^ n)

-- the signature whose fields begin at a bit
abbrev pub sig_at : ℕ → ℕ → Sig
sig_at low word = record { key = key_of (field (low + 17) 2 word); addr = field (low + 16) 1 word == 1; disc = field low 16 word }

abbrev pub is_bind : ℕ → Bool
is_bind word = field 62 1 word == 1

abbrev pub is_auth : ℕ → Bool
is_auth word = field 63 1 word == 1

abbrev pub kind_in : (bind auth : Bool) → ℕ → FixKind
kind_in false false word = Rebase (field 0 43 word) (field 43 8 word)
kind_in true false word = Bind (field 0 16 word) (signed_bits 19 (field 32 19 word))
kind_in false true word = AuthRebase (field 0 32 word) (sig_at 32 word)
kind_in true true word = AuthBind (field 0 16 word) (sig_at 32 word)

-- the kind of a word, whatever its zero bits are
abbrev pub kind_of : ℕ → FixKind
kind_of word = kind_in (is_bind word) (is_auth word) word

-- the link to the next slot, in steps of 8 bytes
abbrev pub next_of : ℕ → ℕ
next_of word = field 51 11 word

-- the bits that no field of the kind has are zero
abbrev pub zeros_hold : ℕ → Bool
zeros_hold word = not (is_bind word && not (field 16 16 word == 0))

-- the kind and the link of a word
abbrev pub slot_of : ℕ → Result (FixKind × ℕ) ImageRule
slot_of word = if zeros_hold word then Ok (kind_of word, next_of word) else Err F3

-- the word is the one that the kind and the link make, and their values have room in it
pub record IsWordOf (word : ℕ) (slot : FixKind × ℕ) : Type 0 where
  pub packs : packed (parts_of slot.0 slot.1) ≡ word
  pub fields : FieldsFit slot.0
  pub link : slot.1 < 2 ^ 11
