-- Words as runs of bits from bit 0 up: some are fixed, the others are fields.
use Rattle.std.specs.Prelude.{ℕ, ◌+◌, ◌*◌, ◌/◌, ◌%◌, ◌^◌, List, [], ◌∷◌, ◌==◌, if◌then◌else◌, Option, Some, None}

pub data Part : Type 0 where
  Fixed : (width value : ℕ) → Part
  Field : (width : ℕ) → Part

-- the word with these values in its fields
unfoldable pub word : List Part → List ℕ → ℕ
word [] values = 0
word (Fixed width value ∷ parts) values = value + 2 ^ width * word parts values
word (Field width ∷ parts) [] = 0
word (Field width ∷ parts) (value ∷ values) = value + 2 ^ width * word parts values

-- the word with zeros in its fields
abbrev pub fixed : List Part → ℕ
fixed [] = 0
fixed (Fixed width value ∷ parts) = value + 2 ^ width * fixed parts
fixed (Field width ∷ parts) = 2 ^ width * fixed parts

abbrev pub after : ℕ → Option (List ℕ) → Option (List ℕ)
after value None = None
after value (Some values) = Some (value ∷ values)

-- the values in the fields of a word, where its other bits are the fixed ones
unfoldable pub fields : List Part → ℕ → Option (List ℕ)
fields [] number = if number == 0 then Some [] else None
fields (Fixed width value ∷ parts) number = if number % 2 ^ width == value then fields parts (number / 2 ^ width) else None
fields (Field width ∷ parts) number = after (number % 2 ^ width) (fields parts (number / 2 ^ width))
