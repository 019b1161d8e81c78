-- What small programs do with blocks, loops and switches, by hand.
use Rattle.std.proofs.Common.{◌≡◌, ℕ, true, false, List, [], ◌∷◌, Some, None, refl, codes}
use Rattle.std.specs.Prelude.{pos, negsuc}
use Rattle.pa_ctype.specs.Types.{Of, Boolean, Integer}
use Rattle.pa_typed.specs.declared.expr.UnaryOperation.TheVariants.{Minus, Complement, Not}
use Rattle.pa_typed.specs.declared.expr.BinaryOperation.TheVariants.{Multiply, Subtract}
use Rattle.pa_typed.specs.declared.expr.Comparison.TheVariants.{Less, Equal}
use Rattle.pa_typed.specs.Typed.{TypedExpr, LocalPlace, Load, Store, AddressOf, Deref, Convert, Unary, Binary, Compare, GivenValue, InitLocal, Expression, Declares, If, IfElse, DoWhile, For, Switch, Case, Default, Break, Continue}
use Rattle.pa_cmean.specs.Results.{Meaning, End, Done, Undefined}
use Rattle.pa_typed.specs.Units.{ProgramTree}
use Rattle.pa_cmean.proofs.Runs.{result}
use Rattle.pa_cmean.proofs.Trees.{void, int, to, function, number, negative, local, assign, sum, increment, call, print, block, run, give, declare, initial, local_tree, defined, main, program}

abbrev gives : ProgramTree → List ℕ → End × List ℕ
gives p input = let m : Meaning = result p input 600 in (m.end, m.output)

abbrev is_one : TypedExpr
is_one = Compare Equal (local 0) (number 1) int

-- `for (int i = 0; i < 3; i++) { int x; if (i == 1) x = 7; if (i < 2) putchar(i); else return x; }`: each turn has a new `x`
new_object_each_turn : gives (program (main (local_tree int 4 ∷ local_tree int 4 ∷ [])
    (For (Declares (initial 0 (number 0) ∷ [])) (Some (Compare Less (local 0) (number 3) int)) (Some (increment (LocalPlace 0 int)))
    (block (declare 1 ∷ If is_one (run (assign (LocalPlace 1 int) (number 7))) ∷ IfElse (Compare Less (local 0) (number 2) int) (run (print (local 0))) (give (local 1)) ∷ []))
    ∷ []) ∷ [])) [] ≡ (Undefined, 0 ∷ 1 ∷ [])
unfolding result
new_object_each_turn = refl

-- the object of a `for` lives over all turns: `for (int i = 0; ; i++) { if (i == 3) return i; }`
without_test : gives (program (main (local_tree int 4 ∷ [])
    (For (Declares (initial 0 (number 0) ∷ [])) None (Some (increment (LocalPlace 0 int))) (block (If (Compare Equal (local 0) (number 3) int) (give (local 0)) ∷ [])) ∷ []) ∷ [])) [] ≡ (Done (pos 3), [])
unfolding result
without_test = refl

-- and no longer: `int *p; for (int i = 0; i < 1; i++) p = &i; return *p;`
for_object_dies : gives (program (main (local_tree int 4 ∷ local_tree (to int) 8 ∷ [])
    (declare 1
    ∷ For (Declares (initial 0 (number 0) ∷ [])) (Some (Compare Less (local 0) (number 1) int)) (Some (increment (LocalPlace 0 int))) (run (Store (LocalPlace 1 (to int)) (AddressOf (LocalPlace 0 int) (to int)) false (to int)))
    ∷ give (Load (Deref (Load (LocalPlace 1 (to int)) (to int)) int) int) ∷ []) ∷ [])) [] ≡ (Undefined, [])
unfolding result
for_object_dies = refl

-- `int i = 0; do { i++; if (i == 1) continue; putchar(i); } while (i < 3);`
do_continue : gives (program (main (local_tree int 4 ∷ [])
    (InitLocal (initial 0 (number 0))
    ∷ DoWhile (block (run (increment (LocalPlace 0 int)) ∷ If is_one Continue ∷ run (print (local 0)) ∷ [])) (Compare Less (local 0) (number 3) int)
    ∷ []) ∷ [])) [] ≡ (Done (pos 0), 2 ∷ 3 ∷ [])
unfolding result
do_continue = refl

-- `for (int i = 0; i < 3; i++) { switch (i) { case 1: continue; default: break; } putchar(i); }`
continue_in_switch : gives (program (main (local_tree int 4 ∷ [])
    (For (Declares (initial 0 (number 0) ∷ [])) (Some (Compare Less (local 0) (number 3) int)) (Some (increment (LocalPlace 0 int)))
    (block (Switch (local 0) (block (Case 1 int Continue ∷ Default Break ∷ [])) ∷ run (print (local 0)) ∷ []))
    ∷ []) ∷ [])) [] ≡ (Done (pos 0), 0 ∷ 2 ∷ [])
unfolding result
continue_in_switch = refl

-- `switch (2) { default: putchar(97); case 2: putchar(98); }`: a case behind the default label counts, in either direction
abbrev default_first : ℕ → ProgramTree
default_first n = program (main [] (Switch (number n) (block (Default (run (print (number 97))) ∷ Case 2 int (run (print (number 98))) ∷ [])) ∷ []) ∷ [])

case_behind_default : gives (default_first 2) [] ≡ (Done (pos 0), 98 ∷ [])
unfolding result
case_behind_default = refl

default_falls_through : gives (default_first 3) [] ≡ (Done (pos 0), 97 ∷ 98 ∷ [])
unfolding result
default_falls_through = refl

-- `switch (1) { int x; case 1: x = 5; return x; }`: the object lives where its declaration is jumped over
jump_over_declaration : gives (program (main (local_tree int 4 ∷ []) (Switch (number 1) (block (declare 0 ∷ Case 1 int (run (assign (LocalPlace 0 int) (number 5))) ∷ give (local 0) ∷ [])) ∷ []) ∷ [])) [] ≡ (Done (pos 5), [])
unfolding result
jump_over_declaration = refl

-- `switch (1) { int x = 5; case 1: return x; }`: and its initializer isn't run
jump_over_initializer : gives (program (main (local_tree int 4 ∷ []) (Switch (number 1) (block (InitLocal (initial 0 (number 5)) ∷ Case 1 int (give (local 0)) ∷ [])) ∷ []) ∷ [])) [] ≡ (Undefined, [])
unfolding result
jump_over_initializer = refl

-- a body that is no compound never runs: `switch (1) putchar(97);`
no_compound : gives (program (main [] (Switch (number 1) (run (print (number 97))) ∷ []) ∷ [])) [] ≡ (Done (pos 0), [])
unfolding result
no_compound = refl

-- `case -1`, in 64 bits of two's complement
negative_case : gives (program (main [] (Switch (negative 1) (block (Case 18446744073709551615 int (give (number 6)) ∷ [])) ∷ []) ∷ [])) [] ≡ (Done (pos 6), [])
unfolding result
negative_case = refl

-- `const int c = 3; return -c * !0;`
constant_local : gives (program (main (local_tree (Of true (Integer 32 true)) 4 ∷ [])
    (InitLocal (record { local = 0; initials = Some (record { at = 0; of = Of true (Integer 32 true); given = GivenValue (number 3) } ∷ []) })
    ∷ give (Binary Multiply (Unary Minus (Load (LocalPlace 0 (Of true (Integer 32 true))) int) int) (Unary Not (number 0) int) int) ∷ []) ∷ [])) [] ≡ (Done (negsuc 2), [])
unfolding result
constant_local = refl

-- `_Bool b = 256; return b + ~0;`
bool_local : gives (program (main (local_tree (Of false Boolean) 1 ∷ [])
    (InitLocal (record { local = 0; initials = Some (record { at = 0; of = Of false Boolean; given = GivenValue (Convert (number 256) (Of false Boolean)) } ∷ []) })
    ∷ give (sum (Convert (Load (LocalPlace 0 (Of false Boolean)) (Of false Boolean)) int) (Unary Complement (number 0) int)) ∷ []) ∷ [])) [] ≡ (Done (pos 0), [])
unfolding result
bool_local = refl

-- `void f(int n) { if (n) f(n - 1); } int main(void) { f(2); f(1); }`: the largest sum, not the sum of all; `f` weighs 256 + 2 * 8 + 16 * 2
depth_of_calls : (result (program
    (defined (codes "f") (function (int ∷ []) void) 1 (local_tree int 4 ∷ []) (If (local 0) (run (call (codes "f") (Binary Subtract (local 0) (number 1) int ∷ []))) ∷ [])
    ∷ main [] (run (call (codes "f") (number 2 ∷ [])) ∷ run (call (codes "f") (number 1 ∷ [])) ∷ []) ∷ [])) [] 600).deep ≡ 1184
unfolding result
depth_of_calls = refl

-- a `main` that the program calls gives 0 at its end too: `if (getchar() == 97) return main() + 4;`
main_called : gives (program (main [] (If (Compare Equal (call (codes "getchar") []) (number 97) int) (give (sum (call (codes "main") []) (number 4))) ∷ []) ∷ [])) (codes "ab") ≡ (Done (pos 4), [])
unfolding result
main_called = refl

-- `switch (n) { case 1: default: case 2: ; }`: labels in front of one statement, entered at each
abbrev one_statement : ℕ → Meaning
one_statement n = result (program (main [] (Switch (number n) (block (Case 1 int (Default (Case 2 int (Expression None))) ∷ [])) ∷ []) ∷ [])) [] 600

at_first_label : (one_statement 1).work ≡ 10
unfolding result
at_first_label = refl

at_last_label : (one_statement 2).work ≡ 9
unfolding result
at_last_label = refl

at_default_label : (one_statement 5).work ≡ 10
unfolding result
at_default_label = refl
