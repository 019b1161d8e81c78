-- What small programs do, by their trees and by their flat code: one and the same.
use Rattle.std.proofs.Common.{◌≡◌, ℕ, false, [], ◌∷◌, Some, None, refl, codes}
use Rattle.std.specs.Prelude.{pos, negsuc}
use Rattle.pa_ctype.specs.Types.{TypeTree, Of, Boolean, Integer}
use Rattle.pa_typed.specs.declared.expr.BinaryOperation.TheVariants.{Multiply, Divide, Remainder, Add, Subtract, ShiftLeft, ShiftRight}
use Rattle.pa_typed.specs.declared.expr.UnaryOperation.TheVariants.{Minus, Complement, Not}
use Rattle.pa_typed.specs.declared.expr.Comparison.TheVariants.{Less, Greater, Equal}
use Rattle.pa_typed.specs.Typed.{TypedExpr, Number, LocalPlace, Load, Same, Convert, Unary, Binary, Compare, And, Or, Choose, Comma, CallDirect, TypedLocalInit, InitLocal, GivenValue, Declares, If, IfElse, While, DoWhile, For, Switch, Case, Default, Break, Continue}
use Rattle.pa_typed.specs.Units.{ProgramTree}
use Rattle.pa_cmean.proofs.Runs.{result}
use Rattle.pa_cmean.proofs.Trees.{void, int, char, function, number, negative, local, assign, sum, increment, exprs, call, print, block, run, give, declare, initial, local_tree, defined, main, program}
use Rattle.pa_lower.proofs.Computing.{flat_result, both, agree, IsWithin}

abbrev unsigned : TypeTree
unsigned = Of false (Integer 32 false)

abbrev bool : TypeTree
bool = Of false Boolean

-- a local of a type that an expression initializes
abbrev given : ℕ → TypeTree → TypedExpr → TypedLocalInit
given l of e = record { local = l; initials = Some (record { at = 0; of = of; given = GivenValue e } ∷ []) }

-- `int main(void) { return 0; }`
returns : both (program (main [] (give (number 0) ∷ []) ∷ [])) [] ≡ agree (pos 0) []
unfolding result flat_result
returns = refl

-- `int main(void) { }`
runs_out : both (program (main [] [] ∷ [])) [] ≡ agree (pos 0) []
unfolding result flat_result
runs_out = refl

-- `return (-7/2)*10 + -7%2;`
quotients : both (program (main [] (give (sum (Binary Multiply (Binary Divide (negative 7) (number 2) int) (number 10) int) (Binary Remainder (negative 7) (number 2) int)) ∷ []) ∷ [])) [] ≡ agree (negsuc 30) []
unfolding result flat_result
quotients = refl

-- `return putchar(97) - putchar(354);`: from left to right
order : both (program (main [] (give (Binary Subtract (print (number 97)) (print (number 354)) int) ∷ []) ∷ [])) [] ≡ agree (negsuc 0) (97 ∷ 98 ∷ [])
unfolding result flat_result
order = refl

-- `return (putchar(97), 0) && putchar(98) || putchar(99) ? putchar(100) : putchar(101);`
choices : both (program (main [] (give (Choose (Or (And (Comma (print (number 97)) (number 0) int) (print (number 98)) int) (print (number 99)) int) (print (number 100)) (print (number 101)) int) ∷ []) ∷ [])) [] ≡ agree (pos 100) (97 ∷ 99 ∷ 100 ∷ [])
unfolding result flat_result
choices = refl

-- `return (2 && 3) + (0 || 5) * 2 + (0 && 1);`: what isn't 0 counts as 1
truths : both (program (main [] (give (sum (sum (And (number 2) (number 3) int) (Binary Multiply (Or (number 0) (number 5) int) (number 2) int)) (And (number 0) (number 1) int)) ∷ []) ∷ [])) [] ≡ agree (pos 3) []
unfolding result flat_result
truths = refl

-- `return (4294967295u > 1u) * 2 + (-1 > 1) + (4294967295u + 2u == 1u);`: by the type of the operands
unsigned_order : both (program (main [] (give (sum (sum (Binary Multiply (Compare Greater (Number 4294967295 unsigned) (Number 1 unsigned) int) (number 2) int) (Compare Greater (negative 1) (number 1) int)) (Compare Equal (Binary Add (Number 4294967295 unsigned) (Number 2 unsigned) unsigned) (Number 1 unsigned) int)) ∷ []) ∷ [])) [] ≡ agree (pos 3) []
unfolding result flat_result
unsigned_order = refl

-- `return (-8 >> 1) + (int)(4294967295u >> 31) + (3 << 4);`
shifts : both (program (main [] (give (sum (sum (Binary ShiftRight (negative 8) (number 1) int) (Convert (Binary ShiftRight (Number 4294967295 unsigned) (number 31) unsigned) int)) (Binary ShiftLeft (number 3) (number 4) int)) ∷ []) ∷ [])) [] ≡ agree (pos 45) []
unfolding result flat_result
shifts = refl

-- `char c = 200; _Bool b = 256; return c + b * 100;`
conversions : both (program (main (local_tree char 1 ∷ local_tree bool 1 ∷ []) (InitLocal (given 0 char (Convert (number 200) char)) ∷ InitLocal (given 1 bool (Convert (number 256) bool)) ∷ give (sum (Convert (Load (LocalPlace 0 char) char) int) (Binary Multiply (Convert (Load (LocalPlace 1 bool) bool) int) (number 100) int)) ∷ []) ∷ [])) [] ≡ agree (pos 44) []
unfolding result flat_result
conversions = refl

-- `return -5 + ~2 + !0 * 10 + !7;`
one_value : both (program (main [] (give (sum (sum (Unary Minus (number 5) int) (Unary Complement (number 2) int)) (sum (Binary Multiply (Unary Not (number 0) int) (number 10) int) (Unary Not (number 7) int))) ∷ []) ∷ [])) [] ≡ agree (pos 2) []
unfolding result flat_result
one_value = refl

-- `int x = 5; return x++ * 10 + x;`
postfix : both (program (main (local_tree int 4 ∷ []) (InitLocal (initial 0 (number 5)) ∷ give (sum (Binary Multiply (increment (LocalPlace 0 int)) (number 10) int) (local 0)) ∷ []) ∷ [])) [] ≡ agree (pos 56) []
unfolding result flat_result
postfix = refl

-- `int x = 1; int y = 2; return x += (y += 3) * (x + 1);`
nested_stores : both (program (main (local_tree int 4 ∷ local_tree int 4 ∷ []) (InitLocal (initial 0 (number 1)) ∷ InitLocal (initial 1 (number 2)) ∷ give (assign (LocalPlace 0 int) (sum (Load (Same int) int) (Binary Multiply (assign (LocalPlace 1 int) (sum (Load (Same int) int) (number 3))) (sum (local 0) (number 1)) int))) ∷ []) ∷ [])) [] ≡ agree (pos 11) []
unfolding result flat_result
nested_stores = refl

-- `int c; while (-1 < (c = getchar())) putchar(c); return c;`
echo : both (program (main (local_tree int 4 ∷ []) (declare 0 ∷ While (Compare Less (negative 1) (assign (LocalPlace 0 int) (call (codes "getchar") [])) int) (run (print (local 0))) ∷ give (local 0) ∷ []) ∷ [])) (codes "hi") ≡ agree (negsuc 0) (codes "hi")
unfolding result flat_result
echo = refl

-- `for (int i = 0; i < 4; i++) { if (i == 1) continue; if (i == 3) break; putchar(i); }`
loop : both (program (main (local_tree int 4 ∷ []) (For (Declares (initial 0 (number 0) ∷ [])) (Some (Compare Less (local 0) (number 4) int)) (Some (increment (LocalPlace 0 int))) (block (If (Compare Equal (local 0) (number 1) int) Continue ∷ If (Compare Equal (local 0) (number 3) int) Break ∷ run (print (local 0)) ∷ [])) ∷ []) ∷ [])) [] ≡ agree (pos 0) (0 ∷ 2 ∷ [])
unfolding result flat_result
loop = refl

-- `for (int i = 0; ; i++) { if (i == 3) return i; }`
without_test : both (program (main (local_tree int 4 ∷ []) (For (Declares (initial 0 (number 0) ∷ [])) None (Some (increment (LocalPlace 0 int))) (block (If (Compare Equal (local 0) (number 3) int) (give (local 0)) ∷ [])) ∷ []) ∷ [])) [] ≡ agree (pos 3) []
unfolding result flat_result
without_test = refl

-- `int i = 0; do { i++; if (i == 1) continue; putchar(i); } while (i < 3);`
do_continue : both (program (main (local_tree int 4 ∷ []) (InitLocal (initial 0 (number 0)) ∷ DoWhile (block (run (increment (LocalPlace 0 int)) ∷ If (Compare Equal (local 0) (number 1) int) Continue ∷ run (print (local 0)) ∷ [])) (Compare Less (local 0) (number 3) int) ∷ []) ∷ [])) [] ≡ agree (pos 0) (2 ∷ 3 ∷ [])
unfolding result flat_result
do_continue = refl

-- `for (int i = 0; i < 3; i++) { switch (i) { case 1: continue; default: break; } putchar(i); }`
continue_in_switch : both (program (main (local_tree int 4 ∷ []) (For (Declares (initial 0 (number 0) ∷ [])) (Some (Compare Less (local 0) (number 3) int)) (Some (increment (LocalPlace 0 int))) (block (Switch (local 0) (block (Case 1 int Continue ∷ Default Break ∷ [])) ∷ run (print (local 0)) ∷ [])) ∷ []) ∷ [])) [] ≡ agree (pos 0) (0 ∷ 2 ∷ [])
unfolding result flat_result
continue_in_switch = refl

-- `if (getchar()) putchar(97); else putchar(98);`, at a zero byte
either : both (program (main [] (IfElse (call (codes "getchar") []) (run (print (number 97))) (run (print (number 98))) ∷ []) ∷ [])) (0 ∷ []) ≡ agree (pos 0) (98 ∷ [])
unfolding result flat_result
either = refl

-- `switch (1) { int x; case 1: x = 5; return x; }`
jump_over_declaration : both (program (main (local_tree int 4 ∷ []) (Switch (number 1) (block (declare 0 ∷ Case 1 int (run (assign (LocalPlace 0 int) (number 5))) ∷ give (local 0) ∷ [])) ∷ []) ∷ [])) [] ≡ agree (pos 5) []
unfolding result flat_result
jump_over_declaration = refl

-- `switch (-1) { case -1: return 6; }`
negative_case : both (program (main [] (Switch (negative 1) (block (Case 18446744073709551615 int (give (number 6)) ∷ [])) ∷ []) ∷ [])) [] ≡ agree (pos 6) []
unfolding result flat_result
negative_case = refl

-- `switch (1) putchar(97);`: a body that is no compound never runs
no_compound : both (program (main [] (Switch (number 1) (run (print (number 97))) ∷ []) ∷ [])) [] ≡ agree (pos 0) []
unfolding result flat_result
no_compound = refl

-- `switch (n) { case 1: putchar(97); case 2: case 3: putchar(98); break; default: putchar(99); }`
abbrev switches : ℕ → ProgramTree
switches n = program (main []
    (Switch (number n) (block (Case 1 int (run (print (number 97))) ∷ Case 2 int (Case 3 int (run (print (number 98)))) ∷ Break ∷ Default (run (print (number 99))) ∷ [])) ∷ []) ∷ [])

falls_through : both (switches 1) [] ≡ agree (pos 0) (97 ∷ 98 ∷ [])
unfolding result flat_result
falls_through = refl

inner_label : both (switches 3) [] ≡ agree (pos 0) (98 ∷ [])
unfolding result flat_result
inner_label = refl

default_label : both (switches 4) [] ≡ agree (pos 0) (99 ∷ [])
unfolding result flat_result
default_label = refl

switches_within : IsWithin (switches 3) []
unfolding result flat_result
switches_within = record { trace = refl; cost = refl; turns = refl; deep = refl }

-- `void f(int n) { if (n) f(n - 1); putchar(n); } int main(void) { f(2); }`: a call that gives nothing
abbrev nothing_given : ProgramTree
nothing_given = let f : TypedExpr → TypedExpr = λ e. CallDirect (codes "f") 0 (exprs (e ∷ [])) void in program
    (defined (codes "f") (function (int ∷ []) void) 1 (local_tree int 4 ∷ []) (If (local 0) (run (f (Binary Subtract (local 0) (number 1) int))) ∷ run (print (local 0)) ∷ [])
    ∷ main [] (run (f (number 2)) ∷ []) ∷ [])

calls_for_nothing : both nothing_given [] ≡ agree (pos 0) (0 ∷ 1 ∷ 2 ∷ [])
unfolding result flat_result
calls_for_nothing = refl

-- `int f(int n) { if (n < 2) return n; return f(n - 1) + f(n - 2); } int main(void) { return f(4); }`
abbrev fibonacci : ProgramTree
fibonacci = program
    (defined (codes "f") (function (int ∷ []) int) 1 (local_tree int 4 ∷ [])
    (If (Compare Less (local 0) (number 2) int) (give (local 0))
    ∷ give (sum (call (codes "f") (Binary Subtract (local 0) (number 1) int ∷ [])) (call (codes "f") (Binary Subtract (local 0) (number 2) int ∷ [])))
    ∷ [])
    ∷ main [] (give (call (codes "f") (number 4 ∷ [])) ∷ [])
    ∷ [])

recursion : both fibonacci [] ≡ agree (pos 3) []
unfolding result flat_result
recursion = refl

recursion_within : IsWithin fibonacci []
unfolding result flat_result
recursion_within = record { trace = refl; cost = refl; turns = refl; deep = refl }

-- `int g(int a, int b, int c) { return a * 100 + b * 10 + c; } return g(1, g(2, 3, 4) - 230, 5);`: arguments in their places
abbrev arguments : ProgramTree
arguments = program
    (defined (codes "g") (function (int ∷ int ∷ int ∷ []) int) 3 (local_tree int 4 ∷ local_tree int 4 ∷ local_tree int 4 ∷ [])
    (give (sum (sum (Binary Multiply (local 0) (number 100) int) (Binary Multiply (local 1) (number 10) int)) (local 2)) ∷ [])
    ∷ main [] (give (call (codes "g") (number 1 ∷ Binary Subtract (call (codes "g") (number 2 ∷ number 3 ∷ number 4 ∷ [])) (number 230) int ∷ number 5 ∷ [])) ∷ [])
    ∷ [])

arguments_in_order : both arguments [] ≡ agree (pos 145) []
unfolding result flat_result
arguments_in_order = refl
