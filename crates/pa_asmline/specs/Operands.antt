-- How operands are spelled.
use Rattle.std.specs.Prelude.{◌≡◌, ℕ, ◌+◌, ◌/◌, ◌%◌, ◌<◌, Bool, true, false, not, ◌&&◌, ◌||◌, ◌==◌, nat_lt, nat_le, if◌then◌else◌, [], ◌∷◌, ◌++◌, length, codes}
use Rattle.std.specs.List.{list_all}
use Rattle.std.specs.Char.{is_ascii_alphabetic, is_ascii_digit}
use Rattle.std.specs.Str.Parse.{digits_value}
use Rattle.pa_asmline.specs.declared.kind.Kind.{Kind}
use Rattle.pa_asmline.specs.declared.kind.Kind.TheVariants as kind
use Rattle.pa_asmline.specs.declared.kind.Range.{Range}
use Rattle.pa_asmline.specs.declared.value.Value.{Value}
use Rattle.pa_asmline.specs.declared.value.Value.TheVariants.{Number, Out}
use Rattle.pa_asmline.specs.Rows.{Text, size}

-- ---- names

-- a letter, `_` or `.`
abbrev pub may_begin : ℕ → Bool
may_begin byte = is_ascii_alphabetic byte || (byte == 95 || byte == 46)

abbrev pub may_follow : ℕ → Bool
may_follow byte = may_begin byte || is_ascii_digit byte

-- at most 255 bytes, of which the first is no digit
abbrev pub is_name : Text → Bool
is_name [] = false
is_name (byte ∷ bytes) = may_begin byte && (list_all may_follow bytes && nat_lt (length bytes) 255)

-- ---- registers

-- x0 to x30, and another name for 31
abbrev pub register_text : (last : Text) (number : ℕ) → Text
register_text last number =
    if nat_lt number 10 then 120 ∷ (48 + number) ∷ [] else
    (if nat_lt number 31 then 120 ∷ (48 + number / 10) ∷ (48 + number % 10) ∷ [] else last)

-- ---- numbers

abbrev pub sign : Bool → Text
sign false = []
sign true = codes "-"

abbrev pub is_empty : Text → Bool
is_empty [] = true
is_empty (byte ∷ bytes) = false

-- decimal digits without a leading zero; 0 has no sign
abbrev pub is_numeral : (negative : Bool) (digits : Text) → Bool
is_numeral negative [] = false
is_numeral negative (digit ∷ digits) =
    if digit == 48 then is_empty digits && not negative else is_ascii_digit digit && list_all is_ascii_digit digits

abbrev pub bound : Range → (negative : Bool) → ℕ
bound range false = range.most
bound range true = range.below

-- how many steps of its range a number has
abbrev pub value : Range → (negative : Bool) (number : ℕ) → Value
value range negative number =
    if nat_le number (bound range negative) && (number % size range.step == 0) then Number negative (number / size range.step) else Out

-- ---- operands

-- what an operand says: a value, or a name as an operand of this kind
pub data Operand : Type 0 where
  Given : Value → Operand
  Named : (kind : Kind) (name : Text) → Operand

abbrev pub IsRegister : (last : Text) → Operand → Text → Type 0
IsRegister last operand text = (number : ℕ) × (number < 32) × (text ≡ register_text last number) × (operand ≡ Given (Number false number))

abbrev pub IsNumber : Range → Operand → Text → Type 0
IsNumber range operand text =
    (negative : Bool) × (digits : Text) × (is_numeral negative digits ≡ true) × (text ≡ sign negative ++ digits)
    × (operand ≡ Given (value range negative (digits_value 10 digits)))

abbrev pub IsNamed : Kind → Operand → Text → Type 0
IsNamed kind operand text = (is_name text ≡ true) × (operand ≡ Named kind text)

-- an operand of this kind says that in this text
abbrev pub Spells : Kind → Operand → Text → Type 0
Spells kind.Register operand text = IsRegister (codes "xzr") operand text
Spells kind.RegisterOrStack operand text = IsRegister (codes "sp") operand text
Spells kind.Base operand text = (inner : Text) × (text ≡ codes "[" ++ inner) × IsRegister (codes "sp") operand inner
Spells (kind.Number range) operand text = (inner : Text) × (text ≡ codes "#" ++ inner) × IsNumber range operand inner
Spells (kind.Offset range) operand text = (inner : Text) × (text ≡ codes "#" ++ (inner ++ codes "]")) × IsNumber range operand inner
Spells (kind.Shift range) operand text = (inner : Text) × (text ≡ codes "lsl #" ++ inner) × IsNumber range operand inner
Spells kind.Shift12 operand text = (text ≡ codes "lsl #12") × (operand ≡ Given (Number false 12))
Spells (kind.Target range) operand text = IsNamed (kind.Target range) operand text
Spells (kind.Callee range) operand text = IsNamed (kind.Callee range) operand text
Spells kind.Page operand text = (inner : Text) × (text ≡ inner ++ codes "@PAGE") × IsNamed kind.Page operand inner
Spells kind.PageOffset operand text = (inner : Text) × (text ≡ inner ++ codes "@PAGEOFF") × IsNamed kind.PageOffset operand inner
