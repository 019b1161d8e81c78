-- Programs of small files, by hand.
use Rattle.std.proofs.Common.{◌≡◌, ℕ, Bool, true, false, List, [], ◌∷◌, map, Option, Some, None, refl, codes}
use Rattle.std.specs.Prelude.{Result, Ok, Err}
use Rattle.pa_ctype.specs.Types.{TypeTree, Of, Integer, Pointer, Array, Struct, Function, Nil, Cons}
use Rattle.std.specs.Fmt as fmt
use Rattle.pa_ctype.specs.Equality as equality
use Rattle.pa_ctype.specs.Raised as raised
use Rattle.pa_typed.specs.Typed.{TypedExpr, Number, StringPlace, GlobalPlace, AddressOf, CallDirect, NoTExprs, TypedStmt, Compound, Return, NoTStmts, ConsTStmt}
use Rattle.pa_typed.specs.Units.{FunctionTree, CellTree, GlobalTree, DeclaredTree, UnitTree, ProgramTree, function_named, sizes_of}
use Rattle.pa_link.specs.Moved as moved
use Rattle.pa_link.specs.Uses as uses
use Rattle.pa_link.specs.declared.rule.LinkFault.{LinkFault}
use Rattle.pa_link.specs.declared.rule.LinkRule.{LinkRule}
use Rattle.pa_link.specs.declared.rule.LinkRule.TheVariants.{L1, L2, L3, L4, M1, M2, M4}
use Rattle.pa_link.specs.Program.{parts_from, structs_from, declares, declaration_fault, least, first_fault, program_of}

-- what units make, where it computes
unfoldable pub result : List UnitTree → Result ProgramTree LinkFault
unfolding program_of parts_from structs_from declares declaration_fault least first_fault function_named sizes_of moved.moved_expr moved.moved_exprs moved.moved_stmt moved.moved_stmts uses.expr_uses uses.exprs_uses uses.stmt_uses uses.stmts_uses raised.raised raised.raised_form raised.raised_types equality.same_type equality.same_form equality.same_types fmt.digits
result = program_of

abbrev fault_of : Result ProgramTree LinkFault → Option LinkFault
fault_of (Ok program) = None
fault_of (Err fault) = Some fault

abbrev breaks : LinkRule → ℕ → ℕ → Option LinkFault
breaks rule file place = Some (record { rule = rule; file = file; place = place })

abbrev int : TypeTree
int = Of false (Integer 32 true)

abbrev long : TypeTree
long = Of false (Integer 64 true)

abbrev char : TypeTree
char = Of false (Integer 8 true)

abbrev nullary : TypeTree → TypeTree
nullary result = Of false (Function Nil result)

abbrev call : List ℕ → ℕ → TypedExpr
call name place = CallDirect name place NoTExprs int

abbrev function : List ℕ → ℕ → Bool → TypeTree → TypedExpr → FunctionTree
function name place public result value = record { name = name; place = place; public = public; of = nullary result; parameters = 0; locals = []; body = Compound (ConsTStmt (Return (Some value)) NoTStmts) }

abbrev declares_as : List ℕ → ℕ → Bool → TypeTree → DeclaredTree
declares_as name place public of = record { name = name; place = place; public = public; of = of }

abbrev unit : List DeclaredTree → List FunctionTree → UnitTree
unit declared functions = record { functions = functions; globals = []; declared = declared; structs = []; texts = []; nodes = 10 }

-- `int g(void); int main(void){return g();}`
abbrev calls_g : UnitTree
calls_g = unit (declares_as (codes "g") 4 true (nullary int) ∷ declares_as (codes "main") 17 true (nullary int) ∷ []) (function (codes "main") 17 true int (call (codes "g") 35) ∷ [])

-- `int g(void){return 0;}`
abbrev defines_g : TypeTree → UnitTree
defines_g of = unit (declares_as (codes "g") 4 true (nullary of) ∷ []) (function (codes "g") 4 true of (Number 0 int) ∷ [])

undefined_name : fault_of (result (calls_g ∷ [])) ≡ breaks L1 1 35
unfolding result
undefined_name = refl

two_files : fault_of (result (calls_g ∷ defines_g int ∷ [])) ≡ None
unfolding result
two_files = refl

defined_twice : fault_of (result (calls_g ∷ defines_g int ∷ defines_g int ∷ [])) ≡ breaks L2 3 4
unfolding result
defined_twice = refl

-- at one declaration L2 before L3
two_types : fault_of (result (calls_g ∷ defines_g long ∷ [])) ≡ breaks L3 2 4
unfolding result
two_types = refl

-- `int putchar(int c){..}` is the runtime's, and `long putchar(void);` has another type
runtime_name : fault_of (result (unit (declares_as (codes "putchar") 4 true (nullary int) ∷ []) (function (codes "putchar") 4 true int (Number 0 int) ∷ []) ∷ [])) ≡ breaks L2 1 4
unfolding result
runtime_name = refl

runtime_type : fault_of (result (unit (declares_as (codes "putchar") 5 true (nullary long) ∷ []) [] ∷ [])) ≡ breaks L3 1 5
unfolding result
runtime_type = refl

-- an empty file
no_main : fault_of (result (unit [] [] ∷ [])) ≡ breaks L4 0 0
unfolding result
no_main = refl

-- the whole count
too_many_nodes : fault_of (result (record (unit (declares_as (codes "main") 4 true (nullary int) ∷ []) (function (codes "main") 4 true int (Number 0 int) ∷ [])) { nodes = 16385 } ∷ [])) ≡ breaks M1 0 16385
unfolding result
too_many_nodes = refl

-- `static int f(void){return 0;} int main(void){return f();}` and a `static int f` of another type in the second file
abbrev internal : UnitTree
internal = unit (declares_as (codes "f") 11 false (nullary int) ∷ declares_as (codes "main") 34 true (nullary int) ∷ []) (function (codes "f") 11 false int (Number 0 int) ∷ function (codes "main") 34 true int (call (codes "f") 52) ∷ [])

abbrev internal_too : UnitTree
internal_too = unit (declares_as (codes "f") 12 false (nullary long) ∷ []) (function (codes "f") 12 false long (Number 0 long) ∷ [])

abbrev names_of : Result ProgramTree LinkFault → List (List ℕ)
names_of (Ok program) = map (λ f. f.name) program.functions
names_of (Err fault) = []

internal_names : names_of (result (internal ∷ internal_too ∷ [])) ≡ codes "f.1" ∷ codes "main" ∷ codes "f.2" ∷ []
unfolding result
internal_names = refl

-- numbers of string literals and structs go on behind those of the files before
abbrev with_text : UnitTree
with_text = record (unit [] (function (codes "t") 6 true (Of false (Pointer (Of false (Struct 0)) None)) (AddressOf (StringPlace 0 int) int) ∷ [])) { structs = None ∷ []; texts = codes "a" ∷ [] }

abbrev bodies_of : Result ProgramTree LinkFault → List TypedStmt
bodies_of (Ok program) = map (λ f. f.body) program.functions
bodies_of (Err fault) = []

numbers : bodies_of (result (with_text ∷ with_text ∷ calls_g ∷ defines_g int ∷ [])) ≡
    Compound (ConsTStmt (Return (Some (AddressOf (StringPlace 0 int) int))) NoTStmts)
    ∷ Compound (ConsTStmt (Return (Some (AddressOf (StringPlace 1 int) int))) NoTStmts)
    ∷ Compound (ConsTStmt (Return (Some (call (codes "g") 35))) NoTStmts)
    ∷ Compound (ConsTStmt (Return (Some (Number 0 int))) NoTStmts)
    ∷ []
unfolding result
numbers = refl

-- the first use in the source of names without a definition, be it in a function or in a global
abbrev global : List ℕ → ℕ → TypeTree → ℕ → List CellTree → GlobalTree
global name place of size cells = record { name = name; place = place; public = true; of = of; size = size; align = 1; cells = cells }

abbrev pointer : TypeTree
pointer = Of false (Pointer int None)

abbrev with_main : List GlobalTree → TypedExpr → UnitTree
with_main globals value = record (unit (declares_as (codes "main") 90 true (nullary int) ∷ []) (function (codes "main") 90 true int value ∷ [])) { globals = globals }

abbrev initialized_by : ℕ → List GlobalTree
initialized_by place = global (codes "p") 5 pointer 8 (record { at = 0; of = pointer; value = AddressOf (GlobalPlace (codes "x") place int) pointer } ∷ []) ∷ []

use_in_function : fault_of (result (with_main (initialized_by 200) (call (codes "g") 110) ∷ [])) ≡ breaks L1 1 110
unfolding result
use_in_function = refl

use_in_global : fault_of (result (with_main (initialized_by 10) (call (codes "g") 110) ∷ [])) ≡ breaks L1 1 10
unfolding result
use_in_global = refl

-- a name of internal linkage without a definition; one of another file is no definition of it
internal_use : fault_of (result (record calls_g { declared = declares_as (codes "g") 4 false (nullary int) ∷ declares_as (codes "main") 17 true (nullary int) ∷ [] } ∷ defines_g int ∷ [])) ≡ breaks L1 1 35
unfolding result
internal_use = refl

-- struct 0 of one file is no struct of another: `extern struct S *s;` twice
abbrev declares_struct : UnitTree
declares_struct = record (unit (declares_as (codes "s") 17 true (Of false (Pointer (Of false (Struct 0)) None)) ∷ []) []) { structs = None ∷ [] }

two_structs : fault_of (result (declares_struct ∷ declares_struct ∷ [])) ≡ breaks L3 2 17
unfolding result
two_structs = refl

-- `int main(int c)`, and a `static` one
main_with_parameter : fault_of (result (unit (declares_as (codes "main") 4 true (Of false (Function (Cons int Nil) int)) ∷ []) (record (function (codes "main") 4 true int (Number 0 int)) { of = Of false (Function (Cons int Nil) int) } ∷ []) ∷ [])) ≡ breaks L4 0 0
unfolding result
main_with_parameter = refl

static_main : fault_of (result (unit (declares_as (codes "main") 11 false (nullary int) ∷ []) (function (codes "main") 11 false int (Number 0 int) ∷ []) ∷ [])) ≡ breaks L4 0 0
unfolding result
static_main = refl

-- bytes of globals, each rounded up to 8, and of a text with its zero
static_bytes_fit : fault_of (result (record (with_main (global (codes "a") 5 (Of false (Array char (Some 1048565))) 1048565 [] ∷ []) (Number 0 int)) { texts = codes "abcdefg" ∷ [] } ∷ [])) ≡ None
unfolding result
static_bytes_fit = refl

too_many_static_bytes : fault_of (result (record (with_main (global (codes "a") 5 (Of false (Array char (Some 1048565))) 1048565 [] ∷ []) (Number 0 int)) { texts = codes "abcdefgh" ∷ [] } ∷ [])) ≡ breaks M2 0 1048577
unfolding result
too_many_static_bytes = refl

-- `int f(void) { int a[4097]; .. }` in the second file
abbrev wide : UnitTree
wide = unit (declares_as (codes "f") 4 true (nullary int) ∷ []) (record (function (codes "f") 4 true int (Number 0 int)) { locals = record { of = Of false (Array int (Some 4097)); size = 16388; align = 4 } ∷ [] } ∷ [])

too_many_local_bytes : fault_of (result (with_main [] (Number 0 int) ∷ wide ∷ [])) ≡ breaks M4 2 4
unfolding result
too_many_local_bytes = refl
