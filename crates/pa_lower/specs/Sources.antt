-- What the numbers in a program's trees stand for: the types of its table and its names. A number that isn't in the table stands
-- for `void`, and one that no name has for a name without bytes.
use Rattle.std.specs.Prelude.{ℕ, List, map, Option}
use Rattle.std.specs.Option.{option_map}
use Rattle.pa_ctype.specs.Types.{TypeTree}
use Rattle.pa_ctype.specs.Nodes.{at}
use Rattle.pa_ctype.specs.declared.node.Node.{Node}
use Rattle.pa_ctype.specs.declared.node.Node.TheVariants as node
use Rattle.pa_lower.specs.declared.source.Ending.{Ending}
use Rattle.pa_lower.specs.declared.source.Ending.TheVariants.{Behind, Gives, Nowhere}
use Rattle.pa_typed.specs.declared.expr.TExpr.{TExpr}
use Rattle.pa_typed.specs.declared.stmt.Given.{Given}
use Rattle.pa_typed.specs.declared.stmt.Initial.{Initial}
use Rattle.pa_typed.specs.declared.stmt.LocalInit.{LocalInit}
use Rattle.pa_typed.specs.declared.stmt.TForStart.{TForStart}
use Rattle.pa_typed.specs.declared.stmt.TStmt.{TStmt}
use Rattle.pa_typed.specs.declared.unit.CLocal.{CLocal}
use Rattle.pa_typed.specs.declared.unit.Function.{Function}
use Rattle.pa_typed.specs.declared.unit.Program.{Program}
use Rattle.pa_typed.specs.Typed.{TypedExpr, TypedExprs, TypedGiven, TypedInitial, TypedLocalInit, TypedForStart, TypedStmt, TypedStmts}
use Rattle.pa_typed.specs.Units.{LocalTree, FunctionTree, ProgramTree, name_in, local_tree, function_tree, program_tree}
use Rattle.pa_typed.specs.Views.{t_expr_tree, t_exprs_of, given_tree, initial_tree, local_init_tree, t_for_start_tree, t_stmt_tree, t_stmts_of}
use Rattle.pa_lower.specs.declared.source.Source.{Source}

-- where the node of a function's type says what the function gives
abbrev pub ending_of : Node → Ending
ending_of (node.Takes param rest) = Behind rest
ending_of (node.Constant of) = Behind of
ending_of (node.Returns of) = Gives of
ending_of _ = Nowhere

abbrev pub type_in : Source → ℕ → TypeTree
type_in s number = at s.types.now.nodes number

abbrev pub name_from : Source → ℕ → List ℕ
name_from s number = name_in s.names.now number

abbrev pub expr_in : Source → TExpr → TypedExpr
expr_in s = t_expr_tree (name_from s) (type_in s)

abbrev pub exprs_in : Source → List TExpr → TypedExprs
exprs_in s es = t_exprs_of (map (expr_in s) es)

abbrev pub maybe_in : Source → Option TExpr → Option TypedExpr
maybe_in s = option_map (expr_in s)

abbrev pub given_in : Source → Given → TypedGiven
given_in s = given_tree (name_from s) (type_in s)

abbrev pub initials_in : Source → List Initial → List TypedInitial
initials_in s = map (initial_tree (name_from s) (type_in s))

abbrev pub local_in : Source → LocalInit → TypedLocalInit
local_in s = local_init_tree (name_from s) (type_in s)

abbrev pub locals_in : Source → List LocalInit → List TypedLocalInit
locals_in s = map (local_in s)

abbrev pub start_in : Source → TForStart → TypedForStart
start_in s = t_for_start_tree (name_from s) (type_in s)

abbrev pub stmt_in : Source → TStmt → TypedStmt
stmt_in s = t_stmt_tree (name_from s) (type_in s)

abbrev pub stmts_in : Source → List TStmt → TypedStmts
stmts_in s ss = t_stmts_of (map (stmt_in s) ss)

abbrev pub function_in : Source → Function → FunctionTree
function_in s = function_tree (name_from s) (type_in s)

abbrev pub functions_in : Source → List Function → List FunctionTree
functions_in s = map (function_in s)

abbrev pub locals_of : Source → List CLocal → List LocalTree
locals_of s = map (local_tree (name_from s) (type_in s))

abbrev pub program_in : Program → ProgramTree
program_in p = program_tree (at p.types.nodes) p
