-- Units and programs of typed trees as plain data.
use Rattle.std.specs.Prelude.{ℕ, suc, ◌+◌, ◌*◌, Bool, List, [], ◌∷◌, map, Option, Some, None, if◌then◌else◌, option_map, unwrap_or, slice_get}
use Rattle.std.specs.Int.{next_multiple_of}
use Rattle.std.specs.Str.{bytes_eq}
use Rattle.pa_ctype.specs.Types.{TypeTree}
use Rattle.pa_ctype.specs.Layouts.{Table, table_of}
use Rattle.pa_typed.specs.declared.unit.Cell.{Cell}
use Rattle.pa_typed.specs.declared.unit.CLocal.{CLocal}
use Rattle.pa_typed.specs.declared.unit.CGlobal.{CGlobal}
use Rattle.pa_typed.specs.declared.unit.Declared.{Declared}
use Rattle.pa_typed.specs.declared.unit.Function.{Function}
use Rattle.pa_typed.specs.declared.unit.Program.{Program}
use Rattle.pa_typed.specs.declared.unit.Unit.{Unit as CUnit}
use Rattle.pa_typed.specs.Typed.{TypedExpr, TypedStmt}
use Rattle.pa_typed.specs.Views.{t_expr_tree, t_stmt_tree}
use Rattle.pa_typed.specs.Counts.{stmt_pend}

-- an object of a function
pub record LocalTree : Type 0 where
  pub of : TypeTree
  pub size : ℕ
  pub align : ℕ

-- a function that is defined, its parameters first among its locals
pub record FunctionTree : Type 0 where
  pub name : List ℕ
  pub place : ℕ
  pub public : Bool
  pub of : TypeTree
  pub parameters : ℕ
  pub locals : List LocalTree
  pub body : TypedStmt

-- a part of a global and the value that it gets
pub record CellTree : Type 0 where
  pub at : ℕ
  pub of : TypeTree
  pub value : TypedExpr

pub record GlobalTree : Type 0 where
  pub name : List ℕ
  pub place : ℕ
  pub public : Bool
  pub of : TypeTree
  pub size : ℕ
  pub align : ℕ
  pub cells : List CellTree

-- a declaration of a function or a global at file level
pub record DeclaredTree : Type 0 where
  pub name : List ℕ
  pub place : ℕ
  pub public : Bool
  pub of : TypeTree

-- a file: its functions, globals, declarations, structs and string literals, and how many nodes its syntax tree has
pub record UnitTree : Type 0 where
  pub functions : List FunctionTree
  pub globals : List GlobalTree
  pub declared : List DeclaredTree
  pub structs : Table
  pub texts : List (List ℕ)
  pub nodes : ℕ

-- the files of a program together
abbrev pub ProgramTree : Type 0
ProgramTree = UnitTree

-- the first function of a name
unfoldable pub function_named : List FunctionTree → List ℕ → Option FunctionTree
function_named [] name = None
function_named (f ∷ fs) name = if bytes_eq f.name name then Some f else function_named fs name

-- the sizes of a function's objects, each rounded up to 8 bytes
unfoldable pub sizes_of : List LocalTree → ℕ
sizes_of [] = 0
sizes_of (l ∷ ls) = next_multiple_of l.size 8 + sizes_of ls

-- what an open call of the function weighs on the stack
abbrev pub weight_of : FunctionTree → ℕ
weight_of f = 256 + (2 * sizes_of f.locals + 16 * stmt_pend f.body)

-- units and programs of the code as plain data, where numbers stand for these names and types
module _ (names : ℕ → List ℕ) (m : ℕ → TypeTree) where
  abbrev pub local_tree : CLocal → LocalTree
  local_tree l = record { of = m l.of; size = l.size; align = l.align }

  abbrev pub function_tree : Function → FunctionTree
  function_tree f = record {
    name = names f.name;
    place = f.place;
    public = f.public;
    of = m f.of;
    parameters = f.parameters;
    locals = map local_tree f.locals;
    body = t_stmt_tree names m f.body;
  }

  abbrev pub cell_tree : Cell → CellTree
  cell_tree c = record { at = c.at; of = m c.of.number; value = t_expr_tree names m c.value }

  abbrev pub global_tree : CGlobal → GlobalTree
  global_tree g = record {
    name = names g.name;
    place = g.place;
    public = g.public;
    of = m g.of;
    size = g.size;
    align = g.align;
    cells = map cell_tree g.cells;
  }

  abbrev pub declared_tree : Declared → DeclaredTree
  declared_tree d = record { name = names d.name; place = d.place; public = d.public; of = m d.of }

-- the name of a number in a list of names
abbrev pub name_in : List (List ℕ) → ℕ → List ℕ
name_in names number = unwrap_or (slice_get names number) []

-- the types of a unit are those that its table's numbers stand for
module _ (m : ℕ → TypeTree) where
  abbrev pub unit_tree : CUnit → UnitTree
  unit_tree u = record {
    functions = map (function_tree (name_in u.names) m) u.functions;
    globals = map (global_tree (name_in u.names) m) u.globals;
    declared = map (declared_tree (name_in u.names) m) u.declared;
    structs = table_of (name_in u.names) m u.types.structs;
    texts = u.texts;
    nodes = u.nodes;
  }

  abbrev pub program_tree : Program → ProgramTree
  program_tree p = record {
    functions = map (function_tree (name_in p.names) m) p.functions;
    globals = map (global_tree (name_in p.names) m) p.globals;
    declared = map (declared_tree (name_in p.names) m) p.declared;
    structs = table_of (name_in p.names) m p.types.structs;
    texts = p.texts;
    nodes = p.nodes;
  }
