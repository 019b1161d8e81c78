-- Values of flat code, and the bytes that hold them (C11 6.2.6.1).
use Rattle.std.specs.Prelude.{ℕ, zero, suc, ◌+◌, ◌-◌, ◌*◌, ◌/◌, ◌%◌, ◌^◌, Bool, true, false, not, ◌&&◌, ◌==◌, nat_le, if◌then◌else◌, List, [], ◌∷◌, ◌++◌, length, take, drop, Option, Some, None, option_and_then}
use Rattle.std.specs.Str.{bytes_eq}
use Rattle.pa_num.specs.Bits.{sign_extended}
use Rattle.pa_pac.specs.Key.{same_key}
use Rattle.pa_pac.specs.declared.key.Key.TheVariants.{IA}
use Rattle.pa_pac.specs.declared.schema.Schema.{Schema}

-- A number below 2^64, which is null where it is 0. A place, so many bytes behind an object's first one, or at the object's end;
-- objects are numbered from 0, the globals first, and then in the order in which they come to life. Or a pointer to a function,
-- with the schema that it is signed under.
pub data FlatValue : Type 0 where
  Number : (number : ℕ) → FlatValue
  At : (object : ℕ) (offset : ℕ) → FlatValue
  Code : (name : List ℕ) (schema : Schema) → FlatValue

abbrev pub same_bool : Bool → Bool → Bool
same_bool true b = b
same_bool false b = not b

abbrev pub same_schema : Schema → Schema → Bool
same_schema a b = same_key a.key b.key && (same_bool a.addr b.addr && a.disc == b.disc)

-- the schema of plain pointers to functions
abbrev pub plain : Schema
plain = record { key = IA; addr = false; disc = 0 }

-- under the key IA, wherever the pointer is stored
abbrev pub is_movable : Schema → Bool
is_movable schema = same_key schema.key IA && not schema.addr

abbrev pub same_value : FlatValue → FlatValue → Bool
same_value (Number x) (Number y) = x == y
same_value (At o i) (At p j) = o == p && i == j
same_value (Code f s) (Code g t) = bytes_eq f g && same_schema s t
same_value _ _ = false

-- a byte without a value, one of a number, or one of the eight of a pointer
pub data Byte : Type 0 where
  Unset : Byte
  Octet : (number : ℕ) → Byte
  Part : (pointer : FlatValue) (index : ℕ) → Byte

-- the n low bytes of a number, the lowest first
unfoldable pub octets : ℕ → ℕ → List Byte
octets zero x = []
octets (suc n) x = Octet (x % 256) ∷ octets n (x / 256)

-- the last n bytes of a pointer
unfoldable pub parts : ℕ → FlatValue → List Byte
parts zero pointer = []
parts (suc n) pointer = Part pointer (8 - suc n) ∷ parts n pointer

abbrev pub whole : ℕ → FlatValue → Option (List Byte)
whole n pointer = if n == 8 then Some (parts 8 pointer) else None

-- the n bytes that a value is stored as: the low ones of a number; a pointer has eight
abbrev pub bytes_of : ℕ → FlatValue → Option (List Byte)
bytes_of n (Number x) = Some (octets n x)
bytes_of n (At object offset) = whole n (At object offset)
bytes_of n (Code name schema) = whole n (Code name schema)

abbrev pub octet_before : Byte → Option ℕ → Option ℕ
octet_before (Octet n) (Some x) = Some (n + 256 * x)
octet_before _ _ = None

-- the number that bytes hold, each of which is one of a number
unfoldable pub number_in : List Byte → Option ℕ
number_in [] = Some 0
number_in (b ∷ bs) = octet_before b (number_in bs)

-- the last bytes of that pointer, and no others
unfoldable pub are_parts : FlatValue → List Byte → Bool
are_parts pointer [] = true
are_parts pointer (Part p index ∷ bs) = (same_value pointer p && index == 8 - suc (length bs)) && are_parts pointer bs
are_parts pointer (Unset ∷ bs) = false
are_parts pointer (Octet n ∷ bs) = false

abbrev pub pointer_if : FlatValue → List Byte → Option FlatValue
pointer_if pointer bs = if length bs == 8 && are_parts pointer bs then Some pointer else None

-- the pointer that bytes hold
abbrev pub pointer_in : List Byte → Option FlatValue
pointer_in (Part pointer index ∷ bs) = pointer_if pointer (Part pointer index ∷ bs)
pointer_in _ = None

-- the low bits of a number, extended to 64
abbrev pub extended : ℕ → Bool → ℕ → ℕ
extended bits signed x = if signed then sign_extended x bits else x % 2 ^ bits

-- a pointer that a temporary can have: to an object, or to a function under a movable schema
abbrev pub if_movable : FlatValue → Option FlatValue
if_movable (Code name schema) = if is_movable schema then Some (Code name schema) else None
if_movable value = Some value

abbrev pub value_or : Option ℕ → Bool → List Byte → Option FlatValue
value_or (Some x) signed bs = Some (Number (extended (8 * length bs) signed x))
value_or None signed bs = option_and_then if_movable (pointer_in bs)

-- what bytes hold, a number of them extended
abbrev pub value_in : Bool → List Byte → Option FlatValue
value_in signed bs = value_or (number_in bs) signed bs

abbrev pub if_null : ℕ → Option FlatValue
if_null zero = Some (Number 0)
if_null (suc n) = None

abbrev pub if_under : Schema → FlatValue → Option FlatValue
if_under schema (Code name s) = if same_schema schema s then Some (Code name plain) else None
if_under schema _ = None

abbrev pub signed_or : Option ℕ → Schema → List Byte → Option FlatValue
signed_or (Some x) schema bs = if_null x
signed_or None schema bs = option_and_then (if_under schema) (pointer_in bs)

-- the pointer to a function that bytes hold under the schema, made plain, or null
abbrev pub signed_in : Schema → List Byte → Option FlatValue
signed_in schema bs = signed_or (number_in bs) schema bs

-- the bytes of a plain pointer to a function, or of null, stored under the schema
abbrev pub sealed : Schema → FlatValue → Option (List Byte)
sealed schema (Number zero) = Some (octets 8 0)
sealed schema (Number (suc n)) = None
sealed schema (At object offset) = None
sealed schema (Code name s) = if same_schema plain s then Some (parts 8 (Code name schema)) else None

-- an object of so many bytes
pub record Object : Type 0 where
  pub alive : Bool
  pub constant : Bool
  pub bytes : List Byte

-- all of a run, by their numbers, dead ones too
abbrev pub Objects : Type 0
Objects = List Object

-- n bytes of a living object from an offset on
abbrev pub bytes_at : ℕ → ℕ → Object → Option (List Byte)
bytes_at n offset object =
    if object.alive && nat_le (offset + n) (length object.bytes) then Some (take n (drop offset object.bytes)) else None

-- the bytes with others written over them from an offset on
abbrev pub overwritten : List Byte → ℕ → List Byte → List Byte
overwritten old offset new = take offset old ++ (new ++ drop (offset + length new) old)

-- a living object with these bytes written from an offset on, unless it is constant
abbrev pub written : ℕ → List Byte → Object → Option Object
written offset new object =
    if object.alive && (not object.constant && nat_le (offset + length new) (length object.bytes))
    then Some (record object { bytes = overwritten object.bytes offset new }) else None
