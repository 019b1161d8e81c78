-- What small programs do, by hand: values, order, control flow and the counts.
use Rattle.std.proofs.Common.{◌≡◌, ℕ, List, [], ◌∷◌, Some, None, refl, codes}
use Rattle.std.specs.Prelude.{pos, negsuc}
use Rattle.pa_ctype.specs.Traces.{Enter}
use Rattle.pa_typed.specs.declared.expr.BinaryOperation.TheVariants.{Multiply, Divide, Remainder, Subtract}
use Rattle.pa_typed.specs.declared.expr.Comparison.TheVariants.{Less, Equal}
use Rattle.pa_typed.specs.Typed.{LocalPlace, Binary, Compare, And, Or, Choose, Comma, TypedStmt, Declares, If, While, DoWhile, For, Switch, Case, Default, Break, Continue}
use Rattle.pa_cmean.specs.Results.{Meaning, End, Done, Stop, Undefined}
use Rattle.pa_typed.specs.Units.{ProgramTree}
use Rattle.pa_cmean.proofs.Runs.{result}
use Rattle.pa_cmean.proofs.Trees.{int, function, number, negative, local, assign, sum, increment, call, print, block, run, give, declare, initial, local_tree, defined, main, program}

-- so a run ends, with this output
abbrev gives : ProgramTree → List ℕ → End × List ℕ
gives p input = let m : Meaning = result p input 400 in (m.end, m.output)

-- `int main(void) { return 0; }`
abbrev returns : ProgramTree
returns = program (main [] (give (number 0) ∷ []) ∷ [])

returns_zero : result returns [] 1000 ≡ record { end = Done (pos 0); output = []; trace = Enter (codes "main") ∷ []; work = 4; turns = 1; deep = 272 }
unfolding result
returns_zero = refl

-- with less fuel than work
stops : result returns [] 3 ≡ record { end = Stop; output = []; trace = Enter (codes "main") ∷ []; work = 3; turns = 1; deep = 272 }
unfolding result
stops = refl

stops_at_once : result returns [] 0 ≡ record { end = Stop; output = []; trace = []; work = 0; turns = 0; deep = 0 }
unfolding result
stops_at_once = refl

-- `int main(void) { }`
runs_out : gives (program (main [] [] ∷ [])) [] ≡ (Done (pos 0), [])
unfolding result
runs_out = refl

-- `int f(void) { } int main(void) { f(); }`: the end of a function that has to give a value
no_value : gives (program (defined (codes "f") (function [] int) 0 [] [] ∷ main [] (run (call (codes "f") []) ∷ []) ∷ [])) [] ≡ (Undefined, [])
unfolding result
no_value = refl

-- `int main(void) { int x; return x; }`
unset : gives (program (main (local_tree int 4 ∷ []) (declare 0 ∷ give (local 0) ∷ []) ∷ [])) [] ≡ (Undefined, [])
unfolding result
unset = refl

-- `return 2147483647 + 1;` and `return 1 / 0;`
overflow : gives (program (main [] (give (sum (number 2147483647) (number 1)) ∷ []) ∷ [])) [] ≡ (Undefined, [])
unfolding result
overflow = refl

zero_divisor : gives (program (main [] (give (Binary Divide (number 1) (number 0) int) ∷ []) ∷ [])) [] ≡ (Undefined, [])
unfolding result
zero_divisor = refl

-- `return (-7/2)*10 + -7%2;`
quotients : gives (program (main [] (give (sum (Binary Multiply (Binary Divide (negative 7) (number 2) int) (number 10) int) (Binary Remainder (negative 7) (number 2) int)) ∷ []) ∷ [])) [] ≡ (Done (negsuc 30), [])
unfolding result
quotients = refl

-- `return putchar(97) - putchar(354);`: from left to right; of 354 the low byte, 98, is printed and given
order : gives (program (main [] (give (Binary Subtract (print (number 97)) (print (number 354)) int) ∷ []) ∷ [])) [] ≡ (Done (negsuc 0), 97 ∷ 98 ∷ [])
unfolding result
order = refl

-- `return (putchar(97), 0) && putchar(98) || putchar(99) ? putchar(100) : putchar(101);`
choices : gives (program (main [] (give (Choose (Or (And (Comma (print (number 97)) (number 0) int) (print (number 98)) int) (print (number 99)) int) (print (number 100)) (print (number 101)) int) ∷ []) ∷ [])) [] ≡ (Done (pos 100), 97 ∷ 99 ∷ 100 ∷ [])
unfolding result
choices = refl

-- the bytes `hi`, and then EOF, -1
abbrev echoes : ProgramTree
echoes = program (main (local_tree int 4 ∷ []) (declare 0 ∷ While (Compare Less (negative 1) (assign (LocalPlace 0 int) (call (codes "getchar") [])) int) (run (print (local 0))) ∷ give (local 0) ∷ []) ∷ [])

echo : gives echoes (codes "hi") ≡ (Done (negsuc 0), codes "hi")
unfolding result
echo = refl

-- `int x = 5; return x++ * 10 + x;`
postfix : gives (program (main (local_tree int 4 ∷ []) (TypedStmt.InitLocal (initial 0 (number 5)) ∷ give (sum (Binary Multiply (increment (LocalPlace 0 int)) (number 10) int) (local 0)) ∷ []) ∷ [])) [] ≡ (Done (pos 56), [])
unfolding result
postfix = refl

-- `for (int i = 0; i < 4; i++) { if (i == 1) continue; if (i == 3) break; putchar(i); }`
abbrev loops : ProgramTree
loops = program (main (local_tree int 4 ∷ [])
    (For (Declares (initial 0 (number 0) ∷ [])) (Some (Compare Less (local 0) (number 4) int)) (Some (increment (LocalPlace 0 int)))
    (block (If (Compare Equal (local 0) (number 1) int) Continue ∷ If (Compare Equal (local 0) (number 3) int) Break ∷ run (print (local 0)) ∷ []))
    ∷ []) ∷ [])

loop : gives loops [] ≡ (Done (pos 0), 0 ∷ 2 ∷ [])
unfolding result
loop = refl

-- `do putchar(97); while (0);`: main, compound, do; the body's statement, call, number and entry; the test
do_once : result (program (main [] (DoWhile (run (print (number 97))) (number 0) ∷ []) ∷ [])) [] 400 ≡ record { end = Done (pos 0); output = 97 ∷ []; trace = Enter (codes "main") ∷ Enter (codes "putchar") ∷ []; work = 8; turns = 3; deep = 272 }
unfolding result
do_once = refl

-- `while (1) ;` with fuel for the test, and with one unit more for its body: the turn counts with that unit
abbrev forever : ProgramTree
forever = program (main [] (While (number 1) (TypedStmt.Expression None) ∷ []) ∷ [])

before_turn : result forever [] 4 ≡ record { end = Stop; output = []; trace = Enter (codes "main") ∷ []; work = 4; turns = 1; deep = 272 }
unfolding result
before_turn = refl

with_turn : result forever [] 5 ≡ record { end = Stop; output = []; trace = Enter (codes "main") ∷ []; work = 5; turns = 2; deep = 272 }
unfolding result
with_turn = refl

-- `switch (n) { case 1: putchar(97); case 2: case 3: putchar(98); break; default: putchar(99); }`
abbrev switches : ℕ → ProgramTree
switches n = program (main []
    (Switch (number n) (block (Case 1 int (run (print (number 97))) ∷ Case 2 int (Case 3 int (run (print (number 98)))) ∷ Break ∷ Default (run (print (number 99))) ∷ [])) ∷ []) ∷ [])

falls_through : gives (switches 1) [] ≡ (Done (pos 0), 97 ∷ 98 ∷ [])
unfolding result
falls_through = refl

second_label : gives (switches 3) [] ≡ (Done (pos 0), 98 ∷ [])
unfolding result
second_label = refl

default_label : gives (switches 4) [] ≡ (Done (pos 0), 99 ∷ [])
unfolding result
default_label = refl

-- main, compound, switch, value, three constants, compound of the switch, label 3, its statement, call, number, entry, break
switch_work : (result (switches 3) [] 400).work ≡ 14
unfolding result
switch_work = refl

-- no label is taken: the constants alone
no_label : result (program (main [] (Switch (number 4) (block (Case 1 int Break ∷ Case 2 int Break ∷ [])) ∷ []) ∷ [])) [] 400 ≡ record { end = Done (pos 0); output = []; trace = Enter (codes "main") ∷ []; work = 6; turns = 1; deep = 272 }
unfolding result
no_label = refl

-- `int f(int n) { if (n < 2) return n; return f(n - 1) + f(n - 2); } int main(void) { return f(5); }`
abbrev fibonacci : ProgramTree
fibonacci = program
    (defined (codes "f") (function (int ∷ []) int) 1 (local_tree int 4 ∷ [])
    (If (Compare Less (local 0) (number 2) int) (give (local 0))
    ∷ give (sum (call (codes "f") (Binary Subtract (local 0) (number 1) int ∷ [])) (call (codes "f") (Binary Subtract (local 0) (number 2) int ∷ [])))
    ∷ [])
    ∷ main [] (give (call (codes "f") (number 5 ∷ [])) ∷ [])
    ∷ [])

recursion : gives fibonacci [] ≡ (Done (pos 5), [])
unfolding result
recursion = refl

-- `putchar(65); return 1 / 0;`: what was made so far
undefined_later : result (program (main [] (run (print (number 65)) ∷ give (Binary Divide (number 1) (number 0) int) ∷ []) ∷ [])) [] 400
    ≡ record { end = Undefined; output = 65 ∷ []; trace = Enter (codes "main") ∷ Enter (codes "putchar") ∷ []; work = 10; turns = 2; deep = 288 }
unfolding result
undefined_later = refl

-- `putchar(-1)` prints 255 and gives it
low_byte : gives (program (main [] (give (print (negative 1)) ∷ []) ∷ [])) [] ≡ (Done (pos 255), 255 ∷ [])
unfolding result
low_byte = refl

-- behind the end of the input `getchar` gives -1 each time; a byte is not negative
abbrev reads_twice : ProgramTree
reads_twice = program (main [] (give (sum (call (codes "getchar") []) (call (codes "getchar") [])) ∷ []) ∷ [])

twice_behind_end : gives reads_twice [] ≡ (Done (negsuc 1), [])
unfolding result
twice_behind_end = refl

high_byte : gives reads_twice (200 ∷ 100 ∷ []) ≡ (Done (pos 300), [])
unfolding result
high_byte = refl

-- a function of the program named `putchar` in a file of its own linkage
own_putchar : gives (program (defined (codes "putchar.1") (function (int ∷ []) int) 1 (local_tree int 4 ∷ []) (give (sum (local 0) (number 1)) ∷ []) ∷ main [] (give (call (codes "putchar.1") (number 65 ∷ [])) ∷ []) ∷ [])) [] ≡ (Done (pos 66), [])
unfolding result
own_putchar = refl
