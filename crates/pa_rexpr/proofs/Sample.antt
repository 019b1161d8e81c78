-- A scope for rows, with the places of its names.
use Rattle.std.specs.Prelude.{ℕ, pos, negsuc, true, false, List, [], ◌∷◌, Some, codes}
use Rattle.pa_pac.specs.declared.schema.Schema.{Schema}
use Rattle.pa_pac.specs.declared.key.Key.TheVariants.{IA}
use Rattle.pa_ctype.specs.Types.{TypeTree, Of, Boolean, Pointer, Array, Struct, Function, Nil, Cons}
use Rattle.pa_ctype.specs.Layouts.{Body}
use Rattle.pa_typed.specs.Typed.{TypedExpr, LocalPlace, Number}
use Rattle.pa_convert.specs.Conversions.{char, int, long, pointer_to}
use Rattle.pa_scope.specs.Scope.{Scope, Meaning, Local, Global, Constant, Discriminator, Declaration}

-- ---- the names: `char c; int x; long l; int *p; int a[3]; _Bool b; struct pair s; struct pair *t; q` qualified, and at file level
-- `int g; int f(int);` and what the headers bring in

abbrev pub array : TypeTree → ℕ → TypeTree
array of count = Of false (Array of (Some count))

abbrev pub int_pointer : TypeTree
int_pointer = pointer_to int

abbrev pub pair : TypeTree
pair = Of false (Struct 0)

abbrev pub pair_pointer : TypeTree
pair_pointer = pointer_to pair

-- `struct pair { char c; long n; };`
abbrev pub pair_body : Body
pair_body = record { name = codes "c"; of = char } ∷ record { name = codes "n"; of = long } ∷ []

abbrev pub f_type : TypeTree
f_type = Of false (Function (Cons int Nil) int)

abbrev pub f_pointer : TypeTree
f_pointer = pointer_to f_type

-- `int (* __ptrauth(0, 1, 7) q)(int);`
abbrev pub seven : Schema
seven = record { key = IA; addr = true; disc = 7 }

abbrev pub q_type : TypeTree
q_type = Of false (Pointer f_type (Some seven))

abbrev pub name : List ℕ → Meaning → Declaration
name text means = record { name = text; means = means }

abbrev pub locals : List Declaration
locals =
    name (codes "c") (Local 0 char) ∷ name (codes "x") (Local 1 int) ∷ name (codes "l") (Local 2 long) ∷ name (codes "p") (Local 3 int_pointer)
    ∷ name (codes "a") (Local 4 (array int 3)) ∷ name (codes "b") (Local 5 (Of false Boolean)) ∷ name (codes "s") (Local 6 pair) ∷ name (codes "t") (Local 7 pair_pointer)
    ∷ name (codes "q") (Local 8 q_type) ∷ []

abbrev pub globals : List Declaration
globals =
    name (codes "f") (Global f_type) ∷ name (codes "g") (Global int) ∷ name (codes "EOF") (Constant (negsuc 0) true) ∷ name (codes "NULL") (Constant (pos 0) true)
    ∷ name (codes "ptrauth_key_return_address") (Constant (pos 1) true) ∷ name (codes "ptrauth_string_discriminator") Discriminator ∷ []

abbrev pub scope : Scope
scope = record { block = locals; around = globals ∷ []; struct_tags = record { name = codes "pair"; id = 0 } ∷ []; enum_tags = []; structs = Some pair_body ∷ [] }

abbrev pub c_place : TypedExpr
c_place = LocalPlace 0 char

abbrev pub x_place : TypedExpr
x_place = LocalPlace 1 int

abbrev pub l_place : TypedExpr
l_place = LocalPlace 2 long

abbrev pub p_place : TypedExpr
p_place = LocalPlace 3 int_pointer

abbrev pub a_place : TypedExpr
a_place = LocalPlace 4 (array int 3)

abbrev pub b_place : TypedExpr
b_place = LocalPlace 5 (Of false Boolean)

abbrev pub s_place : TypedExpr
s_place = LocalPlace 6 pair

abbrev pub t_place : TypedExpr
t_place = LocalPlace 7 pair_pointer

abbrev pub q_place : TypedExpr
q_place = LocalPlace 8 q_type

abbrev pub one : TypedExpr
one = Number 1 int
