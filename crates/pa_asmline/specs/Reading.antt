-- Reading a line: functions, for the contracts of the parts of `read_line`.
use Rattle.std.specs.Prelude.{ℕ, ◌+◌, ◌-◌, ◌*◌, ◌^◌, Bool, true, false, not, ◌&&◌, ◌==◌, nat_lt, nat_le, if◌then◌else◌, List, [], ◌∷◌, ◌++◌, length, take, drop, codes, Option, Some, None, option_and_then}
use Rattle.std.specs.List.{prefix_len}
use Rattle.std.specs.Char.{is_ascii_digit}
use Rattle.std.specs.Str.{bytes_eq}
use Rattle.std.specs.Str.Parse.{digits_value}
use Rattle.pa_asmline.specs.declared.form.Form.{Form}
use Rattle.pa_asmline.specs.declared.kind.Kind.{Kind}
use Rattle.pa_asmline.specs.declared.kind.Kind.TheVariants as kind
use Rattle.pa_asmline.specs.declared.kind.Range.{Range}
use Rattle.pa_asmline.specs.declared.value.Value.TheVariants.{Number}
use Rattle.pa_asmline.specs.Rows.{Text, name, kinds, forms_at}
use Rattle.pa_asmline.specs.Operands.{Operand, Given, Named, is_name, is_empty, is_numeral, value}
use Rattle.pa_asmline.specs.Lines.{Line, Blank, Label, Row, Unknown}

-- ---- parts of a text

-- what stands behind a front
abbrev pub behind : (front text : Text) → Option Text
behind front text = if bytes_eq (take (length front) text) front then Some (drop (length front) text) else None

-- what stands before a back
abbrev pub before : (back text : Text) → Option Text
before back text =
    if bytes_eq (drop (length text - length back) text) back then Some (take (length text - length back) text) else None

-- ---- operands

abbrev pub last_register : (last text : Text) → Option ℕ
last_register last text = if bytes_eq text last then Some 31 else None

abbrev pub tens : ℕ → ℕ → Option ℕ
tens ten one = if nat_lt (10 * (ten - 48) + (one - 48)) 31 then Some (10 * (ten - 48) + (one - 48)) else None

abbrev pub is_ten : ℕ → Bool
is_ten byte = nat_le 49 byte && nat_le byte 51

abbrev pub register : (last text : Text) → Option ℕ
register last [] = last_register last []
register last (x ∷ []) = last_register last (x ∷ [])
register last (x ∷ one ∷ []) = if (x == 120) && is_ascii_digit one then Some (one - 48) else last_register last (x ∷ one ∷ [])
register last (x ∷ ten ∷ one ∷ []) =
    if (x == 120) && (is_ten ten && is_ascii_digit one) then tens ten one else last_register last (x ∷ ten ∷ one ∷ [])
register last (x ∷ ten ∷ one ∷ more ∷ text) = last_register last (x ∷ ten ∷ one ∷ more ∷ text)

abbrev pub given_register : Option ℕ → Option Operand
given_register None = None
given_register (Some number) = Some (Given (Number false number))

abbrev pub register_operand : (last text : Text) → Option Operand
register_operand last text = given_register (register last text)

abbrev pub number_of : Range → (negative : Bool) (digits : Text) → Option Operand
number_of range negative digits =
    if is_numeral negative digits then Some (Given (value range negative (digits_value 10 digits))) else None

abbrev pub number_operand : Range → Text → Option Operand
number_operand range [] = number_of range false []
number_operand range (byte ∷ text) = if byte == 45 then number_of range true text else number_of range false (byte ∷ text)

-- a number, where it has 32 bits
abbrev pub within_u32 : ℕ → Option ℕ
within_u32 number = if nat_lt number (2 ^ 32) then Some number else None

abbrev pub shift_12 : Text → Option Operand
shift_12 text = if bytes_eq text (codes "lsl #12") then Some (Given (Number false 12)) else None

abbrev pub named_operand : Kind → Text → Option Operand
named_operand kind text = if is_name text then Some (Named kind text) else None

abbrev pub operand : Kind → Text → Option Operand
operand kind.Register text = register_operand (codes "xzr") text
operand kind.RegisterOrStack text = register_operand (codes "sp") text
operand kind.Base text = option_and_then (register_operand (codes "sp")) (behind (codes "[") text)
operand (kind.Number range) text = option_and_then (number_operand range) (behind (codes "#") text)
operand (kind.Offset range) text = option_and_then (λ inner. option_and_then (number_operand range) (before (codes "]") inner)) (behind (codes "#") text)
operand (kind.Shift range) text = option_and_then (number_operand range) (behind (codes "lsl #") text)
operand kind.Shift12 text = shift_12 text
operand (kind.Target range) text = named_operand (kind.Target range) text
operand (kind.Callee range) text = named_operand (kind.Callee range) text
operand kind.Page text = option_and_then (named_operand kind.Page) (before (codes "@PAGE") text)
operand kind.PageOffset text = option_and_then (named_operand kind.PageOffset) (before (codes "@PAGEOFF") text)

-- ---- rows

-- how many bytes stand before the first of this kind
abbrev pub len_before : (stop : ℕ) → Text → ℕ
len_before stop text = prefix_len (λ byte. not (byte == stop)) text

abbrev pub front : (stop : ℕ) → Text → Text
front stop text = take (len_before stop text) text

abbrev pub back : (stop : ℕ) → Text → Text
back stop text = drop (len_before stop text) text

abbrev pub onto : List Operand → Option (List Operand) → Option (List Operand)
onto read None = None
onto read (Some operands) = Some (read ++ operands)

abbrev pub in_front : Option Operand → Option (List Operand) → Option (List Operand)
in_front None operands = None
in_front (Some operand) operands = onto (operand ∷ []) operands

-- each operand reaches to the next comma
unfoldable pub operands : (separator : Text) → List Kind → Text → Option (List Operand)
operands separator [] text = if is_empty text then Some [] else None
operands separator (kind ∷ kinds) text =
    option_and_then (λ own. in_front (operand kind (front 44 own)) (operands (codes ", ") kinds (back 44 own))) (behind separator text)

abbrev pub row_of : Form → Option (List Operand) → Option Line
row_of form None = None
row_of form (Some operands) = Some (Row form operands)

-- the row of a form, where the name reaches to the first space
abbrev pub row_by : Form → Text → Option Line
row_by form text = if bytes_eq (front 32 text) (name form) then row_of form (operands (codes " ") (kinds form) (back 32 text)) else None

abbrev pub or_else : Option Line → Option Line → Option Line
or_else None other = other
or_else (Some line) other = Some line

unfoldable pub row_among : List Form → Text → Option Line
row_among [] text = None
row_among (form ∷ forms) text = or_else (row_by form text) (row_among forms text)

abbrev pub row : Text → Option Line
row [] = None
row (byte ∷ text) = row_among (forms_at byte) (byte ∷ text)

-- ---- lines

abbrev pub is_blank : Text → Bool
is_blank [] = true
is_blank (a ∷ []) = false
is_blank (a ∷ b ∷ text) = a == 47 && b == 47

abbrev pub named : Option Text → Option Text
named None = None
named (Some text) = if is_name text then Some text else None

abbrev pub label : Text → Option Text
label text = named (before (codes ":") text)

abbrev pub mark : Text → Option Text
mark text = named (behind (codes ".globl ") text)

abbrev pub or_unknown : Option Line → Line
or_unknown None = Unknown
or_unknown (Some line) = line

abbrev pub label_or : (public : Bool) → Option Text → Line → Line
label_or public None other = other
label_or public (Some name) other = Label public name

unfoldable pub line : Text → Line
line text =
    if is_blank text then Blank else label_or false (label text) (label_or true (mark text) (or_unknown (row text)))
