-- What is done to values (C11 6.3 and 6.5). None: the behaviour is undefined.
use Rattle.std.specs.Prelude.{ℕ, ℤ, pos, negsuc, ◌+ℤ◌, ◌-ℤ◌, ◌*ℤ◌, neg_ℤ, int_div, Bool, true, false, not, ◌&&◌, ◌==◌, if◌then◌else◌, Option, Some, None, option_map, option_and_then}
use Rattle.std.specs.Str.{bytes_eq}
use Rattle.pa_typed.specs.declared.expr.UnaryOperation.{UnaryOperation}
use Rattle.pa_typed.specs.declared.expr.UnaryOperation.TheVariants.{Minus, Complement, Not}
use Rattle.pa_typed.specs.declared.expr.BinaryOperation.{BinaryOperation}
use Rattle.pa_typed.specs.declared.expr.Comparison.{Comparison}
use Rattle.pa_typed.specs.declared.expr.Comparison.TheVariants.{Equal, NotEqual}
use Rattle.pa_ctype.specs.Types.{TypeTree, Of, FormTree, Void, Boolean, Integer, Pointer}
use Rattle.pa_ctype.specs.Equality.{same_bool}
use Rattle.pa_ctype.specs.Layouts.{Table, layout_in}
use Rattle.pa_ctype.specs.Values.{Place, CValue, Number, At, Code, Null, Object, Objects, same_owner, object_of, is_in_object}
use Rattle.pa_integer.specs.Integers.{is_zero, is_width, wrapped, arithmetic, negated, complemented, compares}

-- a value that isn't 0 or null (6.3.1.2, 6.5.3.3, 6.5.13, 6.8.4.1); the place of a dead object too
abbrev pub truth : CValue → Bool
truth (Number n) = not (is_zero n)
truth (At place) = true
truth (Code name) = true
truth Null = false

abbrev pub of_truth : Bool → CValue
of_truth true = Number (pos 1)
of_truth false = Number (pos 0)

-- what a void expression gives, which no rule of types lets anyone use (6.3.2.2)
abbrev pub nothing : CValue
nothing = Number (pos 0)

-- conversion to a type (6.3.1.2, 6.3.1.3, 6.3.2.2, 6.3.2.3); of numbers only 0 becomes a pointer
abbrev pub converted_to : FormTree → CValue → Option CValue
converted_to Void v = Some nothing
converted_to Boolean v = Some (of_truth (truth v))
converted_to (Integer bits signed) (Number n) = if is_width bits then Some (Number (wrapped bits signed n)) else None
converted_to (Pointer to schema) (Number n) = if is_zero n then Some Null else None
converted_to (Pointer to schema) v = Some v
converted_to _ v = None

abbrev pub converted : TypeTree → CValue → Option CValue
converted (Of constant form) v = converted_to form v

-- the value that 64 bits of two's complement stand for in an integer type
abbrev pub literal : TypeTree → ℕ → Option CValue
literal of value = converted of (Number (pos value))

-- by the bits and the sign of an integer type
abbrev pub in_integer : TypeTree → (ℕ → Bool → Option ℤ) → Option CValue
in_integer (Of constant (Integer bits signed)) result = if is_width bits then option_map (λ n. Number n) (result bits signed) else None
in_integer _ result = None

-- `op v` (6.5.3.3)
abbrev pub unary : UnaryOperation → TypeTree → CValue → Option CValue
unary Not of v = Some (of_truth (not (truth v)))
unary Minus of (Number n) = in_integer of (λ bits signed. negated bits signed n)
unary Complement of (Number n) = in_integer of (λ bits signed. complemented bits signed n)
unary _ of v = None

-- `a op b` of numbers
abbrev pub binary : BinaryOperation → TypeTree → CValue → CValue → Option CValue
binary op of (Number a) (Number b) = in_integer of (λ bits signed. arithmetic op bits signed a b)
binary op of _ _ = None

-- so many bytes further on; the place may not leave its object, whose end counts as inside (6.5.6p8)
abbrev pub moved_to : Objects → Place → ℤ → Option CValue
moved_to objects place (pos offset) = let there : Place = record place { offset = offset } in if is_in_object objects there then Some (At there) else None
moved_to objects place (negsuc n) = None

abbrev pub moved : Objects → ℤ → CValue → Option CValue
moved objects bytes (At place) = moved_to objects place (pos place.offset +ℤ bytes)
moved objects bytes _ = None

-- how many bytes the type has
abbrev pub bytes_of : Table → TypeTree → Option ℕ
bytes_of table of = option_map (λ layout. layout.size) (layout_in table of)

-- a pointer to elements of a type plus a number (6.5.6p8)
abbrev pub stepped : Table → Objects → TypeTree → CValue → CValue → Option CValue
stepped table objects element pointer (Number n) = option_and_then (λ size. moved objects (n *ℤ pos size) pointer) (bytes_of table element)
stepped table objects element pointer _ = None

abbrev pub opposite : Bool → CValue → CValue
opposite true (Number n) = Number (neg_ℤ n)
opposite _ v = v

-- what a pointer points to
abbrev pub pointee : TypeTree → Option TypeTree
pointee (Of constant (Pointer to schema)) = Some to
pointee _ = None

-- `*v` of a pointer to an object: its place (6.5.3.2p4); that of null is undefined, under `&` too
abbrev pub pointed : CValue → Option CValue
pointed (At place) = Some (At place)
pointed _ = None

-- 6.5.6p9, in elements of so many bytes, cut towards zero
abbrev pub difference : ℕ → CValue → CValue → Option CValue
difference size (At a) (At b) = if same_owner a.owner b.owner then Some (Number (int_div (pos a.offset -ℤ pos b.offset) (pos size))) else None
difference size _ _ = None

-- Equality of pointers into two objects (6.5.9p6): both live, and either both places are at the end or none is.
abbrev pub apart : Place → Place → Option Object → Option Object → Option Bool
apart a b (Some x) (Some y) = if (x.alive && y.alive) && same_bool (a.offset == x.size) (b.offset == y.size) then Some false else None
apart a b _ _ = None

abbrev pub same_place : Objects → Place → Place → Option Bool
same_place objects a b = if same_owner a.owner b.owner then Some (a.offset == b.offset) else apart a b (object_of objects a.owner) (object_of objects b.owner)

-- equality (6.5.9); null goes with every pointer
abbrev pub same_value : Objects → CValue → CValue → Option Bool
same_value objects (At a) (At b) = same_place objects a b
same_value objects (Code f) (Code g) = Some (bytes_eq f g)
same_value objects Null Null = Some true
same_value objects Null (At b) = Some false
same_value objects Null (Code g) = Some false
same_value objects (At a) Null = Some false
same_value objects (Code f) Null = Some false
same_value objects _ _ = None

-- order (6.5.8p5), inside one object
abbrev pub ordered : Comparison → CValue → CValue → Option Bool
ordered op (At a) (At b) = if same_owner a.owner b.owner then Some (compares op (pos a.offset) (pos b.offset)) else None
ordered op _ _ = None

abbrev pub compared_pointers : Objects → Comparison → CValue → CValue → Option Bool
compared_pointers objects Equal a b = same_value objects a b
compared_pointers objects NotEqual a b = option_map (λ same. not same) (same_value objects a b)
compared_pointers objects op a b = ordered op a b

-- `a op b` (6.5.8, 6.5.9), an `int`
abbrev pub compared : Objects → Comparison → CValue → CValue → Option CValue
compared objects op (Number a) (Number b) = Some (of_truth (compares op a b))
compared objects op a b = option_map of_truth (compared_pointers objects op a b)
