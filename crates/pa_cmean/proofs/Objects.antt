-- What small programs do with objects and pointers, by hand.
use Rattle.std.proofs.Common.{◌≡◌, ℕ, Bool, true, false, List, [], ◌∷◌, Some, None, refl, codes}
use Rattle.std.specs.Prelude.{pos, negsuc}
use Rattle.pa_ctype.specs.Types.{TypeTree, Of, Integer}
use Rattle.pa_ctype.specs.Traces as seen
use Rattle.pa_ctype.specs.Traces.{Seen, Enter}
use Rattle.pa_ctype.specs.Values.{Place, Global}
use Rattle.pa_typed.specs.declared.expr.Comparison.TheVariants.{Less, Equal}
use Rattle.pa_typed.specs.Typed.{TypedExpr, LocalPlace, GlobalPlace, StringPlace, Index, Deref, Load, LoadSigned, Store, StoreSigned, AddressOf, FunctionValue, Convert, PointerAdd, PointerSub, Compare, CallDirect, CallPointer, GivenValue, GivenText, InitLocal}
use Rattle.pa_cmean.specs.Results.{Meaning, End, Done, Undefined}
use Rattle.pa_typed.specs.Units.{FunctionTree, CellTree, GlobalTree, ProgramTree}
use Rattle.pa_cmean.proofs.Runs.{result}
use Rattle.pa_cmean.proofs.Trees.{char, int, long, to, array, function, schema, qualified, number, negative, assign, sum, exprs, print, block, run, give, declare, local_tree, defined, main, program}

abbrev gives : ProgramTree → List ℕ → End × List ℕ
gives p input = let m : Meaning = result p input 600 in (m.end, m.output)

abbrev equals : TypedExpr → TypedExpr → TypedExpr
equals a b = Compare Equal a b int

-- `int *f(void) { int x; int *p; x = 1; p = &x; return p; } int main(void) { return f() == f(); }`: both objects are dead
abbrev returns_local : FunctionTree
returns_local = defined (codes "f") (function [] (to int)) 0 (local_tree int 4 ∷ local_tree (to int) 8 ∷ [])
    (declare 0 ∷ declare 1 ∷ run (assign (LocalPlace 0 int) (number 1)) ∷ run (Store (LocalPlace 1 (to int)) (AddressOf (LocalPlace 0 int) (to int)) false (to int)) ∷ give (Load (LocalPlace 1 (to int)) (to int)) ∷ [])

abbrev call_pointer_to_int : TypedExpr
call_pointer_to_int = CallDirect (codes "f") 0 (exprs []) (to int)

dead_places : gives (program (returns_local ∷ main [] (give (equals call_pointer_to_int call_pointer_to_int) ∷ []) ∷ [])) [] ≡ (Undefined, [])
unfolding result
dead_places = refl

-- `return f() == 0;`: null goes with every pointer
dead_place_and_null : gives (program (returns_local ∷ main [] (give (equals call_pointer_to_int (Convert (number 0) (to int))) ∷ []) ∷ [])) [] ≡ (Done (pos 0), [])
unfolding result
dead_place_and_null = refl

-- `return *f();`
dead_read : gives (program (returns_local ∷ main [] (give (Load (Deref call_pointer_to_int int) int) ∷ []) ∷ [])) [] ≡ (Undefined, [])
unfolding result
dead_read = refl

-- `int a[3] = {7}; ..`
abbrev with_array : TypedExpr → ProgramTree
with_array e = program (main (local_tree (array 3 int) 12 ∷ [])
    (InitLocal (record { local = 0; initials = Some (record { at = 0; of = int; given = GivenValue (number 7) } ∷ []) }) ∷ give e ∷ []) ∷ [])

abbrev the_array : TypedExpr
the_array = AddressOf (LocalPlace 0 (array 3 int)) (to int)

abbrev element : TypedExpr → TypedExpr
element i = Index the_array i true int

-- what isn't named is zero: `return a[0] + a[2];`
zero_elements : gives (with_array (sum (Load (element (number 0)) int) (Load (element (number 2)) int))) [] ≡ (Done (pos 7), [])
unfolding result
zero_elements = refl

-- main, compound, name, the value and three cells; return, sum, and two loads of five each
cells_are_work : (result (with_array (sum (Load (element (number 0)) int) (Load (element (number 2)) int))) [] 600).work ≡ 19
unfolding result
cells_are_work = refl

-- `2[a]`, and `&a[3] - a`
index_left : gives (with_array (Load (Index (number 2) the_array false int) int)) [] ≡ (Done (pos 0), [])
unfolding result
index_left = refl

end_of_array : gives (with_array (Convert (PointerSub (AddressOf (element (number 3)) (to int)) the_array long) int)) [] ≡ (Done (pos 3), [])
unfolding result
end_of_array = refl

-- `a[3]`, `&a[4]` and `a - 1`
read_past_end : gives (with_array (Load (element (number 3)) int)) [] ≡ (Undefined, [])
unfolding result
read_past_end = refl

place_past_end : gives (with_array (equals (AddressOf (element (number 4)) (to int)) the_array)) [] ≡ (Undefined, [])
unfolding result
place_past_end = refl

place_before_start : gives (with_array (equals (PointerAdd the_array (number 1) true true (to int)) the_array)) [] ≡ (Undefined, [])
unfolding result
place_before_start = refl

-- `a < &a[1]`
order_inside : gives (with_array (Compare Less the_array (AddressOf (element (number 1)) (to int)) int)) [] ≡ (Done (pos 1), [])
unfolding result
order_inside = refl

-- `int x; int y; ..`: order and difference of two objects, and equality at an end
abbrev two : TypedExpr → ProgramTree
two e = program (main (local_tree int 4 ∷ local_tree int 4 ∷ []) (declare 0 ∷ declare 1 ∷ give e ∷ []) ∷ [])

abbrev address : ℕ → TypedExpr
address l = AddressOf (LocalPlace l int) (to int)

abbrev after : ℕ → TypedExpr
after l = PointerAdd (address l) (number 1) true false (to int)

order_of_two : gives (two (Compare Less (address 0) (address 1) int)) [] ≡ (Undefined, [])
unfolding result
order_of_two = refl

difference_of_two : gives (two (Convert (PointerSub (address 0) (address 1) long) int)) [] ≡ (Undefined, [])
unfolding result
difference_of_two = refl

two_objects : gives (two (equals (address 0) (address 1))) [] ≡ (Done (pos 0), [])
unfolding result
two_objects = refl

end_and_object : gives (two (equals (after 0) (address 1))) [] ≡ (Undefined, [])
unfolding result
end_and_object = refl

two_ends : gives (two (equals (after 0) (after 1))) [] ≡ (Done (pos 0), [])
unfolding result
two_ends = refl

-- `*(long *)(void *)&x`, an `int` through another type
other_type : gives (two (Convert (Load (Deref (Convert (address 0) (to long)) long) long) int)) [] ≡ (Undefined, [])
unfolding result
other_type = refl

-- an object lives in its block: `int *p; { int x = 1; p = &x; } return *p;`
left_block : gives (program (main (local_tree (to int) 8 ∷ local_tree int 4 ∷ [])
    (declare 0
    ∷ block (InitLocal (record { local = 1; initials = Some (record { at = 0; of = int; given = GivenValue (number 1) } ∷ []) }) ∷ run (Store (LocalPlace 0 (to int)) (address 1) false (to int)) ∷ [])
    ∷ give (Load (Deref (Load (LocalPlace 0 (to int)) (to int)) int) int) ∷ []) ∷ [])) [] ≡ (Undefined, [])
unfolding result
left_block = refl

-- `char s[3] = "h"; return s[0];`: three cells, no expression
text_in_array : result (record (program (main (local_tree (array 3 char) 3 ∷ [])
    (InitLocal (record { local = 0; initials = Some (record { at = 0; of = array 3 char; given = GivenText 0 } ∷ []) })
    ∷ give (Convert (Load (Index (AddressOf (LocalPlace 0 (array 3 char)) (to char)) (number 0) true char) char) int) ∷ []) ∷ [])) { texts = codes "h" ∷ [] }) [] 600
    ≡ record { end = Done (pos 104); output = []; trace = Enter (codes "main") ∷ []; work = 13; turns = 1; deep = 304 }
unfolding result
text_in_array = refl

-- a write of a string literal
abbrev literal_place : TypedExpr
literal_place = Deref (AddressOf (StringPlace 0 (array 2 char)) (to char)) char

write_of_literal : gives (record (program (main [] (run (Store literal_place (Convert (number 1) char) false char) ∷ []) ∷ [])) { texts = codes "h" ∷ [] }) [] ≡ (Undefined, [])
unfolding result
write_of_literal = refl

read_of_literal : gives (record (program (main [] (give (Convert (Load literal_place char) int) ∷ []) ∷ [])) { texts = codes "h" ∷ [] }) [] ≡ (Done (pos 104), [])
unfolding result
read_of_literal = refl

-- ---- globals

abbrev global_tree : List ℕ → TypeTree → ℕ → List CellTree → GlobalTree
global_tree name of size cells = record { name = name; place = 0; public = true; of = of; size = size; align = 1; cells = cells }

-- `long g[1]; int main(void) { g[-2] = 0; putchar(65); return 0; }`
abbrev g : TypedExpr
g = GlobalPlace (codes "g") 0 (array 1 long)

outside_global : gives (record (program (main [] (run (Store (Index (AddressOf g (to long)) (negative 2) true long) (Convert (number 0) long) false long) ∷ run (print (number 65)) ∷ give (number 0) ∷ []) ∷ [])) { globals = global_tree (codes "g") (array 1 long) 8 [] ∷ [] }) [] ≡ (Undefined, [])
unfolding result
outside_global = refl

-- globals begin with zeros: `return g[0] == 0;`
zero_global : gives (record (program (main [] (give (equals (Load (Index (AddressOf g (to long)) (number 0) true long) long) (Convert (number 0) long)) ∷ []) ∷ [])) { globals = global_tree (codes "g") (array 1 long) 8 [] ∷ [] }) [] ≡ (Done (pos 1), [])
unfolding result
zero_global = refl

-- `long g[1]; long *p = g + 2;` costs no work and is undefined
wild_initializer : result (record (program (main [] [] ∷ [])) { globals = global_tree (codes "g") (array 1 long) 8 [] ∷ global_tree (codes "p") (to long) 8 (record { at = 0; of = to long; value = PointerAdd (AddressOf g (to long)) (number 2) true false (to long) } ∷ []) ∷ [] }) [] 600
    ≡ record { end = Undefined; output = []; trace = []; work = 0; turns = 0; deep = 0 }
unfolding result
wild_initializer = refl

-- `const int c = 1; int main(void) { *(int *)&c = 2; }`
abbrev const_int : TypeTree
const_int = Of true (Integer 32 true)

write_of_const : gives (record (program (main [] (run (Store (Deref (Convert (AddressOf (GlobalPlace (codes "c") 0 const_int) (to const_int)) (to int)) int) (number 2) false int) ∷ []) ∷ [])) { globals = global_tree (codes "c") const_int 4 (record { at = 0; of = const_int; value = number 1 } ∷ []) ∷ [] }) [] ≡ (Undefined, [])
unfolding result
write_of_const = refl

-- ---- pointers to functions

abbrev no_arguments : TypeTree
no_arguments = function [] int

abbrev gives_zero : List ℕ → FunctionTree
gives_zero name = defined name no_arguments 0 [] (give (number 0) ∷ [])

-- `int (* __ptrauth(0, addr, disc) name)(void) = value;`
abbrev pointer_global : List ℕ → Bool → ℕ → List CellTree → GlobalTree
pointer_global name addr disc cells = global_tree name (qualified no_arguments addr disc) 8 cells

abbrev function_cell : Bool → ℕ → List ℕ → List CellTree
function_cell addr disc name = record { at = 0; of = qualified no_arguments addr disc; value = FunctionValue name 0 (to no_arguments) } ∷ []

abbrev load_pointer : List ℕ → Bool → ℕ → TypedExpr
load_pointer name addr disc = LoadSigned (GlobalPlace name 0 (qualified no_arguments addr disc)) (schema addr disc) (to no_arguments)

abbrev of_p : Place
of_p = record { owner = Global (codes "p"); offset = 0 }

-- `int f(void) { return 0; } int (* __ptrauth(0,1,9) p)(void) = f; int main(void) { return p(); }`
signed_call : result (record (program (gives_zero (codes "f") ∷ main [] (give (CallPointer (exprs []) (load_pointer (codes "p") true 9) int) ∷ []) ∷ [])) { globals = pointer_global (codes "p") true 9 (function_cell true 9 (codes "f")) ∷ [] }) [] 600
    ≡ record {
      end = Done (pos 0);
      output = [];
      trace = Enter (codes "main") ∷ seen.Load (schema true 9) of_p (codes "f") ∷ seen.Call (codes "f") (Some (record { schema = schema true 9; place = of_p })) ∷ Enter (codes "f") ∷ [];
      work = 10;
      turns = 2;
      deep = 544;
    }
unfolding result
signed_call = refl

-- under the plain schema the load doesn't show, the call's place does; `int (*q)(void) = p; q()` names no place
plain_call : (result (record (program (gives_zero (codes "f") ∷ main [] (give (CallPointer (exprs []) (load_pointer (codes "p") false 0) int) ∷ []) ∷ [])) { globals = pointer_global (codes "p") false 0 (function_cell false 0 (codes "f")) ∷ [] }) [] 600).trace
    ≡ Enter (codes "main") ∷ seen.Call (codes "f") (Some (record { schema = schema false 0; place = of_p })) ∷ Enter (codes "f") ∷ []
unfolding result
plain_call = refl

-- a function's name that is called by pointer
called_name : (result (program (gives_zero (codes "f") ∷ main [] (give (CallPointer (exprs []) (FunctionValue (codes "f") 0 (to no_arguments)) int) ∷ []) ∷ [])) [] 600).trace
    ≡ Enter (codes "main") ∷ seen.Call (codes "f") None ∷ Enter (codes "f") ∷ []
unfolding result
called_name = refl

-- `int (* __ptrauth(0,1,9) p)(void); int main(void) { p = 0; return p == 0; }`
null_pointer : gives (record (program (main [] (run (StoreSigned (GlobalPlace (codes "p") 0 (qualified no_arguments true 9)) (Convert (number 0) (to no_arguments)) false (schema true 9) (to no_arguments))
    ∷ give (equals (load_pointer (codes "p") true 9) (Convert (number 0) (to no_arguments))) ∷ []) ∷ [])) { globals = pointer_global (codes "p") true 9 [] ∷ [] }) [] ≡ (Done (pos 1), [])
unfolding result
null_pointer = refl

-- two pointers to `f` under different schemas: `return p == q;`
two_schemas : gives (record (program (gives_zero (codes "f") ∷ main [] (give (equals (load_pointer (codes "p") true 1) (load_pointer (codes "q") false 2)) ∷ []) ∷ [])) { globals = pointer_global (codes "p") true 1 (function_cell true 1 (codes "f")) ∷ pointer_global (codes "q") false 2 (function_cell false 2 (codes "f")) ∷ [] }) [] ≡ (Done (pos 1), [])
unfolding result
two_schemas = refl

-- a call of null
null_call : gives (record (program (main [] (give (CallPointer (exprs []) (load_pointer (codes "p") true 9) int) ∷ []) ∷ [])) { globals = pointer_global (codes "p") true 9 [] ∷ [] }) [] ≡ (Undefined, [])
unfolding result
null_call = refl

-- `int (*q)(int) = putchar; return q(65);`, and `getchar` by pointer
runtime_by_pointer : result (program (main [] (give (CallPointer (exprs (number 65 ∷ [])) (FunctionValue (codes "putchar") 0 (to (function (int ∷ []) int))) int) ∷ []) ∷ [])) [] 600
    ≡ record { end = Done (pos 65); output = 65 ∷ []; trace = Enter (codes "main") ∷ seen.Call (codes "putchar") None ∷ Enter (codes "putchar") ∷ []; work = 7; turns = 2; deep = 288 }
unfolding result
runtime_by_pointer = refl

-- a call through another type doesn't show
other_function_type : (result (program (main [] (give (CallPointer (exprs []) (FunctionValue (codes "putchar") 0 (to no_arguments)) int) ∷ []) ∷ [])) [] 600).trace ≡ Enter (codes "main") ∷ []
unfolding result
other_function_type = refl

-- a load of null doesn't show: `return p == 0;`
null_load : (result (record (program (main [] (give (equals (load_pointer (codes "p") true 9) (Convert (number 0) (to no_arguments))) ∷ []) ∷ [])) { globals = pointer_global (codes "p") true 9 [] ∷ [] }) [] 600).trace ≡ Enter (codes "main") ∷ []
unfolding result
null_load = refl

-- the difference of `long` elements by `int` offsets is cut towards zero: `(long *)a - (long *)&a[1]` is 0, `(long *)a - (long *)&a[3]` -1
abbrev longs : TypedExpr → TypedExpr
longs p = Convert p (to long)

cut_difference : gives (with_array (Convert (PointerSub (longs the_array) (longs (AddressOf (element (number 1)) (to int))) long) int)) [] ≡ (Done (pos 0), [])
unfolding result
cut_difference = refl

cut_difference_of_three : gives (with_array (Convert (PointerSub (longs the_array) (longs (AddressOf (element (number 3)) (to int))) long) int)) [] ≡ (Done (negsuc 0), [])
unfolding result
cut_difference_of_three = refl
