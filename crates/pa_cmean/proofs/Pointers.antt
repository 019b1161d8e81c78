-- What small programs do with null, with pointers to dead objects, and with qualified pointers, by hand.
use Rattle.std.proofs.Common.{◌≡◌, ℕ, Bool, true, false, List, [], ◌∷◌, Option, Some, None, refl, codes}
use Rattle.std.specs.Prelude.{ℤ, pos, negsuc}
use Rattle.pa_ctype.specs.Types.{TypeTree, Of, Integer, Struct}
use Rattle.pa_ctype.specs.Layouts.{Body}
use Rattle.pa_ctype.specs.Traces as seen
use Rattle.pa_ctype.specs.Traces.{Seen, Enter}
use Rattle.pa_ctype.specs.Values.{Place, Global, Local}
use Rattle.pa_typed.specs.declared.expr.Comparison.{Comparison}
use Rattle.pa_typed.specs.declared.expr.Comparison.TheVariants.{Less, LessEqual, Equal}
use Rattle.pa_typed.specs.Typed.{TypedExpr, LocalPlace, GlobalPlace, StringPlace, Member, Index, Deref, Load, LoadSigned, Store, AddressOf, FunctionValue, Convert, PointerAdd, PointerSub, Compare, Choose, CallPointer, GivenValue, TypedStmt, InitLocal}
use Rattle.pa_typed.specs.Units.{FunctionTree, CellTree, GlobalTree, ProgramTree}
use Rattle.pa_cmean.specs.Results.{Meaning, End, Done, Stop, Undefined}
use Rattle.pa_cmean.proofs.Runs.{result}
use Rattle.pa_cmean.proofs.Trees.{char, int, long, to, array, function, schema, qualified, number, exprs, print, block, run, give, declare, local_tree, defined, main, program}

abbrev gives : ProgramTree → End × List ℕ
gives p = let m : Meaning = result p [] 600 in (m.end, m.output)

abbrev pointer : TypedExpr
pointer = Load (LocalPlace 1 (to int)) (to int)

abbrev address : ℕ → TypedExpr
address l = AddressOf (LocalPlace l int) (to int)

abbrev compare : Comparison → TypedExpr → TypedExpr → TypedExpr
compare op a b = Compare op a b int

abbrev plus : ℕ → TypedExpr
plus n = PointerAdd pointer (number n) true false (to int)

abbrev minus_itself : TypedExpr
minus_itself = Convert (PointerSub pointer pointer long) int

-- ---- `int x; int *p; { int y; p = &y; } return ..`

abbrev with_dead : TypedExpr → ProgramTree
with_dead e = program (main (local_tree int 4 ∷ local_tree (to int) 8 ∷ local_tree int 4 ∷ [])
    (declare 0 ∷ declare 1 ∷ block (declare 2 ∷ run (Store (LocalPlace 1 (to int)) (address 2) false (to int)) ∷ []) ∷ give e ∷ []) ∷ [])

-- another object
dead_and_living : gives (with_dead (compare Equal pointer (address 0))) ≡ (Undefined, [])
unfolding result
dead_and_living = refl

-- the same dead object: moved, compared and subtracted
dead_itself : gives (with_dead (compare Equal pointer (plus 0))) ≡ (Done (pos 1), [])
unfolding result
dead_itself = refl

dead_order : gives (with_dead (compare LessEqual pointer (plus 1))) ≡ (Done (pos 1), [])
unfolding result
dead_order = refl

dead_difference : gives (with_dead minus_itself) ≡ (Done (pos 0), [])
unfolding result
dead_difference = refl

-- ---- `int x; int *p = 0; return ..`

abbrev with_null : TypedExpr → ProgramTree
with_null e = program (main (local_tree int 4 ∷ local_tree (to int) 8 ∷ [])
    (declare 0 ∷ InitLocal (record { local = 1; initials = Some (record { at = 0; of = to int; given = GivenValue (Convert (number 0) (to int)) } ∷ []) }) ∷ give e ∷ []) ∷ [])

null_and_place : gives (with_null (compare Equal pointer (address 0))) ≡ (Done (pos 0), [])
unfolding result
null_and_place = refl

null_itself : gives (with_null (compare Equal pointer pointer)) ≡ (Done (pos 1), [])
unfolding result
null_itself = refl

null_test : gives (with_null (Choose pointer (number 3) (number 4) int)) ≡ (Done (pos 4), [])
unfolding result
null_test = refl

null_moved : gives (with_null (compare Equal (plus 0) pointer)) ≡ (Undefined, [])
unfolding result
null_moved = refl

null_order : gives (with_null (compare Less pointer pointer)) ≡ (Undefined, [])
unfolding result
null_order = refl

null_difference : gives (with_null minus_itself) ≡ (Undefined, [])
unfolding result
null_difference = refl

-- `&*p == p`, and `&p->m == p`
null_place : gives (with_null (compare Equal (AddressOf (Deref pointer int) (to int)) pointer)) ≡ (Undefined, [])
unfolding result
null_place = refl

null_member : gives (with_null (compare Equal (AddressOf (Member (Deref pointer int) 0 0 int) (to int)) pointer)) ≡ (Undefined, [])
unfolding result
null_member = refl

-- ---- string literals: `return "a" == "a";`, and a write of `"ab"[1]` behind `s + 1`

abbrev text : ℕ → TypedExpr
text n = AddressOf (StringPlace n (array 2 char)) (to char)

two_literals : gives (record (program (main [] (give (compare Equal (text 0) (text 1)) ∷ []) ∷ [])) { texts = codes "a" ∷ codes "a" ∷ [] }) ≡ (Done (pos 0), [])
unfolding result
two_literals = refl

write_behind : gives (record (program (main [] (run (Store (Deref (PointerAdd (text 0) (number 1) true false (to char)) char) (Convert (number 1) char) false char) ∷ []) ∷ [])) { texts = codes "ab" ∷ [] }) ≡ (Undefined, [])
unfolding result
write_behind = refl

-- `struct { const int c; int d; } s;` in a global: `*(int *)&s.c = 1`, and `*(int *)&s.d = 1`
abbrev const_int : TypeTree
const_int = Of true (Integer 32 true)

abbrev partly_const : Body
partly_const = record { name = codes "c"; of = const_int } ∷ record { name = codes "d"; of = int } ∷ []

abbrev write_member : ℕ → TypeTree → ProgramTree
write_member offset of = record (program (main [] (run (Store (Deref (Convert (AddressOf (Member (GlobalPlace (codes "s") 0 (Of false (Struct 0))) 0 offset of) (to of)) (to int)) int) (number 1) false int) ∷ []) ∷ [])) {
  globals = record { name = codes "s"; place = 0; public = true; of = Of false (Struct 0); size = 8; align = 4; cells = [] } ∷ [];
  structs = Some partly_const ∷ [];
}

write_of_const_member : gives (write_member 0 const_int) ≡ (Undefined, [])
unfolding result
write_of_const_member = refl

write_of_other_member : gives (write_member 4 int) ≡ (Done (pos 0), [])
unfolding result
write_of_other_member = refl

-- ---- qualified pointers

abbrev callback : TypeTree
callback = function (int ∷ []) int

abbrev a_schema : TypeTree
a_schema = qualified callback true 9

abbrev same_number : List ℕ → FunctionTree
same_number name = defined name callback 1 (local_tree int 4 ∷ []) (give (Load (LocalPlace 0 int) int) ∷ [])

abbrev pointer_global : List ℕ → List ℕ → GlobalTree
pointer_global name value = record { name = name; place = 0; public = true; of = a_schema; size = 8; align = 8; cells = record { at = 0; of = a_schema; value = FunctionValue value 0 (to callback) } ∷ [] }

abbrev loaded : List ℕ → TypedExpr
loaded name = LoadSigned (GlobalPlace name 0 a_schema) (schema true 9) (to callback)

abbrev place_of : List ℕ → Place
place_of name = record { owner = Global name; offset = 0 }

abbrev with_pointers : List TypedStmt → ProgramTree
with_pointers items = record (program (same_number (codes "f") ∷ main [] items ∷ [])) { globals = pointer_global (codes "p") (codes "f") ∷ pointer_global (codes "q") (codes "f") ∷ [] }

-- `return (1 ? p : q)(65);`: the load shows, the call names no place, since the called expression is no load
chosen_pointer : (result (with_pointers (give (CallPointer (exprs (number 65 ∷ [])) (Choose (number 1) (loaded (codes "p")) (loaded (codes "q")) (to callback)) int) ∷ [])) [] 600).trace
    ≡ Enter (codes "main") ∷ seen.Load (schema true 9) (place_of (codes "p")) (codes "f") ∷ seen.Call (codes "f") None ∷ Enter (codes "f") ∷ []
unfolding result
chosen_pointer = refl

-- `return p(putchar(97));`: the argument comes first, the call before the callee's unit
abbrev calls_with_print : ProgramTree
calls_with_print = with_pointers (give (CallPointer (exprs (print (number 97) ∷ [])) (loaded (codes "p")) int) ∷ [])

abbrev call_of_p : List Seen
call_of_p = seen.Load (schema true 9) (place_of (codes "p")) (codes "f") ∷ seen.Call (codes "f") (Some (record { schema = schema true 9; place = place_of (codes "p") })) ∷ []

argument_first : (result calls_with_print [] 10).trace ≡ Enter (codes "main") ∷ Enter (codes "putchar") ∷ seen.Load (schema true 9) (place_of (codes "p")) (codes "f") ∷ seen.Call (codes "f") (Some (record { schema = schema true 9; place = place_of (codes "p") })) ∷ Enter (codes "f") ∷ []
unfolding result
argument_first = refl

-- with a unit less it stops behind the call, before the function is entered
before_entry : result calls_with_print [] 9 ≡ record { end = Stop; output = 97 ∷ []; trace = Enter (codes "main") ∷ Enter (codes "putchar") ∷ call_of_p; work = 9; turns = 2; deep = 288 }
unfolding result
before_entry = refl

-- in front of the unit of a cell: `int x = putchar(97);`
before_cell : result (program (main (local_tree int 4 ∷ []) (InitLocal (record { local = 0; initials = Some (record { at = 0; of = int; given = GivenValue (print (number 97)) } ∷ []) }) ∷ []) ∷ [])) [] 6
    ≡ record { end = Stop; output = 97 ∷ []; trace = Enter (codes "main") ∷ Enter (codes "putchar") ∷ []; work = 6; turns = 2; deep = 288 }
unfolding result
before_cell = refl

-- a qualified pointer in a local array, behind two globals and a string literal: object 3
local_pointer : (result (record (program (same_number (codes "f") ∷ main (local_tree (array 2 a_schema) 16 ∷ [])
    (InitLocal (record { local = 0; initials = Some (record { at = 8; of = a_schema; given = GivenValue (FunctionValue (codes "f") 0 (to callback)) } ∷ []) })
    ∷ give (CallPointer (exprs (number 65 ∷ [])) (LoadSigned (Index (AddressOf (LocalPlace 0 (array 2 a_schema)) (to a_schema)) (number 1) true a_schema) (schema true 9) (to callback)) int) ∷ []) ∷ []))
    { globals = pointer_global (codes "p") (codes "f") ∷ pointer_global (codes "q") (codes "f") ∷ []; texts = codes "a" ∷ [] }) [] 600).trace
    ≡ Enter (codes "main") ∷ seen.Load (schema true 9) (record { owner = Local 3; offset = 8 }) (codes "f") ∷ seen.Call (codes "f") (Some (record { schema = schema true 9; place = record { owner = Local 3; offset = 8 } })) ∷ Enter (codes "f") ∷ []
unfolding result
local_pointer = refl
