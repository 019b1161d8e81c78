-- Types of values (C11 6.2.5), the promotions and usual conversions (6.3.1), and which types go together. All arithmetic types are
-- integer types here; enumerated types are `int`.
use Rattle.std.specs.Prelude.{ℕ, Bool, true, false, not, ◌&&◌, ◌||◌, ◌==◌, nat_lt, if◌then◌else◌, Option, Some, None, is_some}
use Rattle.pa_pac.specs.declared.schema.Schema.{Schema}
use Rattle.pa_ctype.specs.Types.{TypeTree, Of, Void, Boolean, Integer, Pointer, Array, Struct, Function, type_depth}
use Rattle.pa_ctype.specs.Equality.{same_but_const}
use Rattle.pa_ctype.specs.Qualifiers.{is_constant, with_const}
use Rattle.pa_ctype.specs.Layouts.{Table, layout_in}
use Rattle.pa_ctype.specs.Bounds.{fits}

abbrev pub integer : ℕ → Bool → TypeTree
integer bits signed = Of false (Integer bits signed)

abbrev pub char : TypeTree
char = integer 8 true

abbrev pub int : TypeTree
int = integer 32 true

abbrev pub unsigned_int : TypeTree
unsigned_int = integer 32 false

abbrev pub long : TypeTree
long = integer 64 true

abbrev pub unsigned_long : TypeTree
unsigned_long = integer 64 false

abbrev pub void : TypeTree
void = Of false Void

abbrev pub pointer_to : TypeTree → TypeTree
pointer_to t = Of false (Pointer t None)

-- ---- kinds of types (C11 6.2.5)

abbrev pub is_integer : TypeTree → Bool
is_integer (Of c Boolean) = true
is_integer (Of c (Integer bits signed)) = true
is_integer _ = false

abbrev pub is_boolean : TypeTree → Bool
is_boolean (Of c Boolean) = true
is_boolean _ = false

abbrev pub is_pointer : TypeTree → Bool
is_pointer (Of c (Pointer to schema)) = true
is_pointer _ = false

abbrev pub is_void : TypeTree → Bool
is_void (Of c Void) = true
is_void _ = false

abbrev pub is_array : TypeTree → Bool
is_array (Of c (Array of count)) = true
is_array _ = false

abbrev pub is_struct : TypeTree → Bool
is_struct (Of c (Struct id)) = true
is_struct _ = false

abbrev pub is_function : TypeTree → Bool
is_function (Of c (Function params result)) = true
is_function _ = false

abbrev pub is_scalar : TypeTree → Bool
is_scalar t = is_integer t || is_pointer t

-- what a pointer points to
abbrev pub target : TypeTree → Option TypeTree
target (Of c (Pointer to schema)) = Some to
target _ = None

abbrev pub and_is : (TypeTree → Bool) → Option TypeTree → Bool
and_is test None = false
and_is test (Some t) = test t

abbrev pub is_function_pointer : TypeTree → Bool
is_function_pointer t = and_is is_function (target t)

-- a complete object type (6.2.5p1)
abbrev pub is_complete : Table → TypeTree → Bool
is_complete table t = is_some (layout_in table t)

-- a pointer that may be moved by elements (6.5.6p2)
abbrev pub is_movable : Table → TypeTree → Bool
is_movable table t = and_is (is_complete table) (target t)

-- ---- qualifiers

-- the qualifier of a pointer to a function (Clang's Pointer Authentication page)
abbrev pub schema_of : TypeTree → Option Schema
schema_of (Of c (Pointer to schema)) = schema
schema_of _ = None

-- the type of a value: without qualifiers of its own (6.3.2.1p2)
abbrev pub value_type : TypeTree → TypeTree
value_type (Of c (Pointer to schema)) = Of false (Pointer to None)
value_type (Of c form) = Of false form

-- ---- arithmetic types (6.3.1)

-- 6.3.1.1p2
abbrev pub promoted : TypeTree → TypeTree
promoted (Of c Boolean) = int
promoted (Of c (Integer bits signed)) = if nat_lt bits 32 then int else integer bits signed
promoted t = value_type t

-- 6.3.1.8, of promoted types: the wider one, or of two alike the unsigned one
abbrev pub common_by : TypeTree → TypeTree → TypeTree
common_by (Of c (Integer m s)) (Of d (Integer n r)) = if m == n then integer m (s && r) else if nat_lt n m then integer m s else integer n r
common_by a b = a

abbrev pub common : TypeTree → TypeTree → TypeTree
common a b = common_by (promoted a) (promoted b)

-- ---- pointers (6.3.2.3, 6.5.9, 6.5.15, 6.5.16.1)

-- types of what two pointers point to that go together, `const` aside: they are the same, or one is void and the other is no
-- function
abbrev pub go_together : TypeTree → TypeTree → Bool
go_together a b = same_but_const a b || ((is_void a && not (is_function b)) || (is_void b && not (is_function a)))

-- a pointer to the second may be given to one to the first: `const` may be added
abbrev pub takes_target : TypeTree → TypeTree → Bool
takes_target wanted given = go_together wanted given && (is_constant wanted || not (is_constant given))

abbrev pub takes_by : Option TypeTree → Option TypeTree → Bool
takes_by (Some wanted) (Some given) = takes_target wanted given
takes_by _ _ = false

abbrev pub takes : TypeTree → TypeTree → Bool
takes wanted given = takes_by (target wanted) (target given)

-- the type that two pointers are brought to: `void` counts, and `const` of either
abbrev pub common_target : TypeTree → TypeTree → Option TypeTree
common_target a b =
    if go_together a b then Some (with_const (is_constant a || is_constant b) (if is_void b then b else a)) else None

abbrev pub common_pointer_by : Option TypeTree → Option TypeTree → Option TypeTree
common_pointer_by (Some a) (Some b) = common_target a b
common_pointer_by _ _ = None

abbrev pub pointer_option : Option TypeTree → Option TypeTree
pointer_option None = None
pointer_option (Some t) = Some (pointer_to t)

abbrev pub common_pointer : TypeTree → TypeTree → Option TypeTree
common_pointer a b = pointer_option (common_pointer_by (target a) (target b))

-- ---- parameters (6.7.6.3p7, p8)

-- an array is a pointer to its elements, a function a pointer to it
abbrev pub adjusted : TypeTree → TypeTree
adjusted (Of c (Array of count)) = pointer_to of
adjusted (Of c (Function params result)) = pointer_to (Of c (Function params result))
adjusted t = t

-- the most pointers, arrays and functions on a way down in a type
abbrev pub most_levels : ℕ
most_levels = 200

-- the type of a declarator or a type name is neither too deep nor, with what is in it, too large
abbrev pub is_bounded : Table → TypeTree → Bool
is_bounded table t = not (nat_lt most_levels (type_depth t)) && fits table t
