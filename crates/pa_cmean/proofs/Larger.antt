-- What programs of several functions and globals do, by hand.
use Rattle.std.proofs.Common.{◌≡◌, ℕ, true, false, List, [], ◌∷◌, ◌++◌, Some, refl, codes}
use Rattle.std.specs.Prelude.{pos}
use Rattle.pa_ctype.specs.Types.{TypeTree, Of, Integer, Struct}
use Rattle.pa_ctype.specs.Layouts.{Body}
use Rattle.pa_ctype.specs.Traces as seen
use Rattle.pa_ctype.specs.Traces.{Seen, Enter}
use Rattle.pa_ctype.specs.Values.{Place, Global}
use Rattle.pa_typed.specs.declared.expr.BinaryOperation.TheVariants.{Add, Multiply}
use Rattle.pa_typed.specs.declared.expr.Comparison.TheVariants.{Less, Equal, NotEqual}
use Rattle.pa_typed.specs.Typed.{TypedExpr, LocalPlace, GlobalPlace, StringPlace, Same, Member, Index, Deref, Number, Load, LoadSigned, Store, AddressOf, FunctionValue, Convert, Binary, PointerAdd, Compare, Choose, CallPointer, GivenValue, InitLocal, Evaluates, If, While, For}
use Rattle.pa_cmean.specs.Results.{Meaning, End, Done, Stop}
use Rattle.pa_typed.specs.Units.{CellTree, GlobalTree, ProgramTree}
use Rattle.pa_cmean.proofs.Runs.{result}
use Rattle.pa_cmean.proofs.Trees.{char, int, long, to, array, function, schema, qualified, number, negative, local, assign, sum, increment, call, exprs, print, block, run, give, declare, initial, local_tree, defined, main, program}

abbrev gives : ProgramTree → List ℕ → End × List ℕ
gives p input = let m : Meaning = result p input 1000 in (m.end, m.output)

abbrev a_global : List ℕ → TypeTree → ℕ → List CellTree → GlobalTree
a_global name of size cells = record { name = name; place = 0; public = true; of = of; size = size; align = 1; cells = cells }

abbrev cell : ℕ → TypeTree → TypedExpr → CellTree
cell at of value = record { at = at; of = of; value = value }

-- ---- a table of callbacks:
-- struct op { int key; int (* __ptrauth(0, 1, 7) run)(int); };
-- static int same(int c) { return c; }
-- static int next(int c) { return c + 1; }
-- static struct op table[2] = { { 's', same }, { 'n', next } };
-- int main(void) {
--     int c = getchar();
--     while (c != EOF) {
--         int i;
--         for (i = 0; i < 2; i = i + 1)
--             if (table[i].key == c) putchar(table[i].run('A'));
--         c = getchar();
--     }
--     return 0;
-- }

abbrev callback : TypeTree
callback = function (int ∷ []) int

abbrev op : Body
op = record { name = codes "key"; of = int } ∷ record { name = codes "run"; of = qualified callback true 7 } ∷ []

abbrev op_type : TypeTree
op_type = Of false (Struct 0)

abbrev table_names : List ℕ
table_names = codes "table.1"

abbrev table_cells : List CellTree
table_cells = cell 0 int (number 115) ∷ cell 8 (qualified callback true 7) (FunctionValue (codes "same.1") 0 (to callback))
    ∷ cell 16 int (number 110) ∷ cell 24 (qualified callback true 7) (FunctionValue (codes "next.1") 0 (to callback)) ∷ []

abbrev entry : TypedExpr
entry = Index (AddressOf (GlobalPlace table_names 0 (array 2 op_type)) (to op_type)) (local 1) true op_type

abbrev run_entry : TypedExpr
run_entry = CallPointer (exprs (number 65 ∷ [])) (LoadSigned (Member entry 1 8 (qualified callback true 7)) (schema true 7) (to callback)) int

abbrev callbacks : ProgramTree
callbacks = record (program
    (defined (codes "same.1") callback 1 (local_tree int 4 ∷ []) (give (local 0) ∷ [])
    ∷ defined (codes "next.1") callback 1 (local_tree int 4 ∷ []) (give (sum (local 0) (number 1)) ∷ [])
    ∷ main (local_tree int 4 ∷ local_tree int 4 ∷ [])
    (InitLocal (initial 0 (call (codes "getchar") []))
    ∷ While (Compare NotEqual (local 0) (negative 1) int) (block
    (declare 1
    ∷ For (Evaluates (Some (assign (LocalPlace 1 int) (number 0)))) (Some (Compare Less (local 1) (number 2) int)) (Some (assign (LocalPlace 1 int) (sum (local 1) (number 1))))
    (If (Compare Equal (Load (Member entry 0 0 int) int) (local 0) int) (run (print run_entry)))
    ∷ run (assign (LocalPlace 0 int) (call (codes "getchar") []))
    ∷ []))
    ∷ give (number 0) ∷ [])
    ∷ [])) { globals = a_global table_names (array 2 op_type) 32 table_cells ∷ []; structs = Some op ∷ [] }

abbrev in_table : ℕ → Place
in_table offset = record { owner = Global table_names; offset = offset }

-- a callback is loaded, called under its own schema, and entered
abbrev called_back : List ℕ → ℕ → List Seen
called_back name offset = seen.Load (schema true 7) (in_table offset) name ∷ seen.Call name (Some (record { schema = schema true 7; place = in_table offset })) ∷ Enter name ∷ Enter (codes "putchar") ∷ []

prints_callbacks : gives callbacks (codes "ns") ≡ (Done (pos 0), codes "BA")
unfolding result
prints_callbacks = refl

shows_callbacks : (result callbacks (codes "ns") 1000).trace ≡ Enter (codes "main") ∷ Enter (codes "getchar") ∷ called_back (codes "next.1") 24 ++ (Enter (codes "getchar") ∷ called_back (codes "same.1") 8 ++ (Enter (codes "getchar") ∷ []))
unfolding result
shows_callbacks = refl

-- ---- pointers into an array of structs, and a string:
-- struct pt { char c; long n; };
-- struct pt v[2] = { { 'x', 2 }, { 'y', 1 } };
-- int main(void) {
--     struct pt *p;
--     char *s = "!\n";
--     for (p = v; p < v + 2; p = p + 1) { long i; for (i = 0; i < p->n; i = i + 1) putchar(p->c); }
--     while (*s) { putchar(*s); s = s + 1; }
--     return sizeof(struct pt);
-- }

abbrev pt : Body
pt = record { name = codes "c"; of = char } ∷ record { name = codes "n"; of = long } ∷ []

abbrev pt_type : TypeTree
pt_type = Of false (Struct 0)

abbrev v : TypedExpr
v = AddressOf (GlobalPlace (codes "v") 0 (array 2 pt_type)) (to pt_type)

abbrev wide : ℕ → TypedExpr
wide n = Convert (number n) long

abbrev read : ℕ → TypeTree → TypedExpr
read l of = Load (LocalPlace l of) of

abbrev set : ℕ → TypeTree → TypedExpr → TypedExpr
set l of value = Store (LocalPlace l of) value false of

abbrev after : TypedExpr → ℕ → TypeTree → TypedExpr
after p n of = PointerAdd p (number n) true false of

abbrev point : TypedExpr
point = Deref (read 0 (to pt_type)) pt_type

abbrev at_s : TypedExpr
at_s = Load (Deref (read 1 (to char)) char) char

abbrev points : ProgramTree
points = record (program
    (main (local_tree (to pt_type) 8 ∷ local_tree (to char) 8 ∷ local_tree long 8 ∷ [])
    (declare 0
    ∷ InitLocal (record { local = 1; initials = Some (record { at = 0; of = to char; given = GivenValue (AddressOf (StringPlace 0 (array 3 char)) (to char)) } ∷ []) })
    ∷ For (Evaluates (Some (set 0 (to pt_type) v))) (Some (Compare Less (read 0 (to pt_type)) (after v 2 (to pt_type)) int)) (Some (set 0 (to pt_type) (after (read 0 (to pt_type)) 1 (to pt_type))))
    (block (declare 2
    ∷ For (Evaluates (Some (set 2 long (wide 0)))) (Some (Compare Less (read 2 long) (Load (Member point 1 8 long) long) int)) (Some (set 2 long (Binary Add (read 2 long) (wide 1) long)))
    (run (print (Convert (Load (Member point 0 0 char) char) int)))
    ∷ []))
    ∷ While at_s (block (run (print (Convert at_s int)) ∷ run (set 1 (to char) (after (read 1 (to char)) 1 (to char))) ∷ []))
    ∷ give (Convert (Number 16 (Of false (Integer 64 false))) int) ∷ [])
    ∷ [])) {
      globals = a_global (codes "v") (array 2 pt_type) 32 (cell 0 char (number 120) ∷ cell 8 long (wide 2) ∷ cell 16 char (number 121) ∷ cell 24 long (wide 1) ∷ []) ∷ [];
      structs = Some pt ∷ [];
      texts = codes "!\n" ∷ [];
    }

prints_points : gives points [] ≡ (Done (pos 16), codes "xxy!\n")
unfolding result
prints_points = refl

-- ---- `while (1) putchar(65);` with fuel for three

abbrev forever : ProgramTree
forever = program (main [] (While (number 1) (run (print (number 65))) ∷ []) ∷ [])

abbrev ended : Meaning → End × List ℕ
ended m = (m.end, m.output)

prints_three : ended (result forever [] 20) ≡ (Stop, codes "AAA")
unfolding result
prints_three = refl

-- ---- the place of a store is evaluated once: `int a[2] = {0}; int i = 0; a[i++] += 5; return a[0] * 10 + i;`

abbrev stored_once : ProgramTree
stored_once = program (main (local_tree (array 2 int) 8 ∷ local_tree int 4 ∷ [])
    (InitLocal (record { local = 0; initials = Some (record { at = 0; of = int; given = GivenValue (number 0) } ∷ []) })
    ∷ InitLocal (initial 1 (number 0))
    ∷ run (assign (Index (AddressOf (LocalPlace 0 (array 2 int)) (to int)) (increment (LocalPlace 1 int)) true int) (sum (Load (Same int) int) (number 5)))
    ∷ give (sum (Binary Multiply (Load (Index (AddressOf (LocalPlace 0 (array 2 int)) (to int)) (number 0) true int) int) (number 10) int) (local 1)) ∷ []) ∷ [])

once : gives stored_once [] ≡ (Done (pos 51), [])
unfolding result
once = refl

-- `int x = 1; int y = 2; x += (y += 3); return x * 10 + y;`: each store has its own place
abbrev compound_sum : ℕ → TypedExpr → TypedExpr
compound_sum l e = assign (LocalPlace l int) (sum (Load (Same int) int) e)

nested_stores : gives (program (main (local_tree int 4 ∷ local_tree int 4 ∷ [])
    (InitLocal (initial 0 (number 1)) ∷ InitLocal (initial 1 (number 2)) ∷ run (compound_sum 0 (compound_sum 1 (number 3))) ∷ give (sum (Binary Multiply (local 0) (number 10) int) (local 1)) ∷ []) ∷ [])) [] ≡ (Done (pos 65), [])
unfolding result
nested_stores = refl

-- `return (1 ? v[0] : v[1]).c`, a member of a struct that is no lvalue
chosen_struct : gives (record points { functions = main [] (give (Convert (Load (Member (Choose (number 1) (Index v (number 0) true pt_type) (Index v (number 1) true pt_type) pt_type) 0 0 char) char) int) ∷ []) ∷ [] }) [] ≡ (Done (pos 120), [])
unfolding result
chosen_struct = refl
