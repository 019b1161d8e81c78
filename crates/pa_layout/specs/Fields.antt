-- Numbers in the bytes of a file, the lowest byte of each first.
use Rattle.std.specs.Prelude.{◌≡◌, ℕ, zero, suc, ◌+◌, ◌*◌, ◌^◌, ◌<◌, ◌≤◌, Bool, true, ◌==◌, ◌&&◌, nat_le, nat_lt, if◌then◌else◌, List, [], ◌∷◌, ◌++◌, length, drop, slice_index, Option, Some, None}
use Rattle.byteorder.specs.Endian.{little_number, little_bytes}
use Rattle.pa_layout.specs.declared.field.Width.{Width}
use Rattle.pa_layout.specs.declared.field.Width.TheVariants.{Two, Four, Eight, Sixteen}
use Rattle.pa_layout.specs.declared.field.FileField.{FileField}

abbrev pub bytes_in : Width → ℕ
bytes_in Two = 2
bytes_in Four = 4
bytes_in Eight = 8
bytes_in Sixteen = 16

-- the number in the n bytes from a place on; a byte after the end counts 0
abbrev pub number : ℕ → ℕ → List ℕ → ℕ
number n at bytes = little_number n (drop at bytes)

-- the first count numbers of n bytes each from a place on
abbrev pub numbers : ℕ → ℕ → ℕ → List ℕ → List ℕ
numbers zero n at bytes = []
numbers (suc count) n at bytes = number n at bytes ∷ numbers count n (at + n) bytes

-- the number that a text is, as a field: its first byte is the lowest
abbrev pub text_number : List ℕ → ℕ
text_number [] = 0
text_number (byte ∷ bytes) = byte + 256 * text_number bytes

-- ---- fields

abbrev pub two : ℕ → FileField
two value = record { width = Two; value = value; allowed = true }

abbrev pub four : ℕ → FileField
four value = record { width = Four; value = value; allowed = true }

abbrev pub eight : ℕ → FileField
eight value = record { width = Eight; value = value; allowed = true }

abbrev pub sixteen : ℕ → FileField
sixteen value = record { width = Sixteen; value = value; allowed = true }

-- the field, which may only stand there where the test holds
abbrev pub only_if : Bool → FileField → FileField
only_if test field = record field { allowed = test }

-- the field stands at the place: it is inside the bytes, has its value there, and may stand there
abbrev pub stands : FileField → ℕ → List ℕ → Bool
stands field at bytes =
    nat_le (at + bytes_in field.width) (length bytes) && ((number (bytes_in field.width) at bytes == field.value) && field.allowed)

-- the place of the first field that doesn't stand where it should, the fields standing one after another from a place on
abbrev pub wrong_from : ℕ → List FileField → List ℕ → Option ℕ
wrong_from at [] bytes = None
wrong_from at (field ∷ fields) bytes =
    if stands field at bytes then wrong_from (at + bytes_in field.width) fields bytes else Some at

-- the bytes of fields
abbrev pub spelled : List FileField → List ℕ
spelled [] = []
spelled (field ∷ fields) = little_bytes (bytes_in field.width) field.value ++ spelled fields

-- how many bytes fields have
abbrev pub size_of : List FileField → ℕ
size_of [] = 0
size_of (field ∷ fields) = bytes_in field.width + size_of fields

-- each value has room in its bytes and may stand there
abbrev pub AllFit : List FileField → Type 0
AllFit [] = Unit {0}
AllFit (field ∷ fields) = (field.value < 256 ^ bytes_in field.width) × (field.allowed ≡ true) × AllFit fields

abbrev pub has_room : FileField → Bool
has_room field = field.allowed && nat_lt field.value (256 ^ bytes_in field.width)

-- the test of the same
abbrev pub all_have_room : List FileField → Bool
all_have_room [] = true
all_have_room (field ∷ fields) = has_room field && all_have_room fields

-- ---- parts

-- the first place among count ones from a place on whose byte isn't zero
abbrev pub nonzero_in : ℕ → ℕ → List ℕ → Option ℕ
nonzero_in at zero bytes = None
nonzero_in at (suc count) bytes = if slice_index bytes at == 0 then nonzero_in (at + 1) count bytes else Some at

-- the part stands in the bytes at the place
pub record IsAt (bytes : List ℕ) (at : ℕ) (part : List ℕ) : Type 0 where
  pub inside : at + length part ≤ length bytes
  pub reads : drop at bytes ≡ part ++ drop (at + length part) bytes
