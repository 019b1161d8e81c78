-- The unit of a file (C11 6.9): its functions and objects with their typed forms, or the first rule that it breaks and where.
use Rattle.std.specs.Prelude.{ℕ, ◌+◌, Bool, true, false, not, ◌&&◌, ◌||◌, if◌then◌else◌, List, [], ◌∷◌, ◌++◌, length, map, is_some, Option, Some, None, Ok, codes}
use Rattle.std.specs.Str.{bytes_eq}
use Rattle.pa_lex.specs.declared.token.Include.{Include}
use Rattle.pa_lex.specs.declared.token.Include.TheVariants as include
use Rattle.pa_tree.specs.declared.file.Storage.{Storage}
use Rattle.pa_tree.specs.declared.file.Storage.TheVariants as storage
use Rattle.pa_tree.specs.Exprs.{DeclaratorTree}
use Rattle.pa_tree.specs.Counts.{file_nodes}
use Rattle.pa_tree.specs.Stmts.{InitializerTree, InitDeclaratorTree, StmtTree, FileItemTree, FileTree, DeclarationTree, FunctionDefinitionTree}
use Rattle.pa_tree.specs.Stmts as src
use Rattle.pa_ctype.specs.Types.{TypeTree, Of, Function}
use Rattle.pa_ctype.specs.Layouts.{Table}
use Rattle.pa_typed.specs.Typed.{TypedInitial, TypedGiven, GivenValue, GivenText, TypedStmts}
use Rattle.pa_typed.specs.Typed as to
use Rattle.pa_scope.specs.declared.rule.TypeRule.TheVariants.{C2, C10, C11}
use Rattle.pa_scope.specs.Answers.{Answer, breaks_at, then_with}
use Rattle.pa_convert.specs.Conversions.{void, is_function, is_bounded}
use Rattle.pa_scope.specs.Scope.{Spelling, Scope, Local, Global, TypeName, no_names, declared, is_twice, with_name, with_length, completed, entered, left}
use Rattle.pa_rexpr.specs.Declarators.{Name, Base, Part, FunctionPart, Param, Walked, built, is_named, name_of, name_place, declarator_from, forbids_schema}
use Rattle.pa_rexpr.specs.Typing.{parts_of}
use Rattle.pa_runit.specs.Bodies.{file_specs}
use Rattle.pa_runit.specs.Headers.{header_names, brought_in, has_header, putchar_type, getchar_type}
use Rattle.pa_runit.specs.Initializers.{Filled, filled, expressions_in}
use Rattle.pa_typed.specs.Units.{LocalTree, FunctionTree, CellTree, GlobalTree, DeclaredTree, UnitTree}
use Rattle.pa_runit.specs.Statements.{local_of, no_labels, Here, Surroundings, NoLabels, Step, any_forbids, is_object_type, block_items}

-- an object that is defined so far, by its first declaration without `extern` or by the one with an initializer
pub record ObjectRead : Type 0 where
  pub name : List ℕ
  pub place : ℕ
  pub object : LocalTree
  pub initialized : Bool
  pub cells : List CellTree

-- what is read so far of a file; nothing is said of `public` before its end
pub record Reading : Type 0 where
  pub scope : Scope
  pub functions : List FunctionTree
  pub objects : List ObjectRead
  pub declared : List DeclaredTree
  pub texts : List (List ℕ)
  pub headers : List Include
  pub statics : List (List ℕ)

abbrev pub nothing_read : Reading
nothing_read = record { scope = no_names; functions = []; objects = []; declared = []; texts = []; headers = []; statics = [] }

abbrev pub with_scope : Scope → Reading → Reading
with_scope s r = record r { scope = s }

-- ---- what is declared

abbrev pub is_static : Option Storage → Bool
is_static (Some storage.Static) = true
is_static _ = false

abbrev pub is_extern : Option Storage → Bool
is_extern (Some storage.Extern) = true
is_extern _ = false

abbrev pub is_typedef : Option Storage → Bool
is_typedef (Some storage.Typedef) = true
is_typedef _ = false

abbrev pub noted : List ℕ → ℕ → TypeTree → Reading → Reading
noted name place of r = record r { declared = r.declared ++ (record { name = name; place = place; public = true; of = of } ∷ []) }

abbrev pub static_noted : Option Storage → List ℕ → Reading → Reading
static_noted word name r = if is_static word then record r { statics = name ∷ r.statics } else r

-- ---- include lines (6.10.2): a header brings in its names once

abbrev pub functions_noted : Include → ℕ → Reading → Reading
functions_noted include.Stdio place r = noted (codes "getchar") place getchar_type (noted (codes "putchar") place putchar_type r)
functions_noted _ place r = r

abbrev pub included : Include → ℕ → Reading → Answer Reading
included line place r =
    if has_header r.headers line then Ok r
    else then_with (brought_in place (header_names line) r.scope) (λ s. Ok (functions_noted line place (record r { scope = s; headers = line ∷ r.headers })))

-- ---- objects (6.9.2)

-- whether a list has an object of that name, with an initializer
abbrev pub has_object : List ObjectRead → List ℕ → Bool
has_object [] name = false
has_object (o ∷ os) name = bytes_eq o.name name || has_object os name

abbrev pub is_initialized : List ObjectRead → List ℕ → Bool
is_initialized [] name = false
is_initialized (o ∷ os) name = (bytes_eq o.name name && o.initialized) || is_initialized os name

abbrev pub without_object : List ObjectRead → List ℕ → List ObjectRead
without_object [] name = []
without_object (o ∷ os) name = if bytes_eq o.name name then without_object os name else o ∷ without_object os name

abbrev pub object_of : List ℕ → ℕ → Table → TypeTree → Bool → List CellTree → ObjectRead
object_of name place table of initialized cells =
    record { name = name; place = place; object = local_of table of; initialized = initialized; cells = cells }

-- defined by the first declaration without `extern`, where none has an initializer (6.9.2p2)
abbrev pub tentative : Option Storage → List ℕ → ℕ → TypeTree → Reading → Reading
tentative word name place of r =
    if is_extern word || has_object r.objects name then r
    else record r { objects = r.objects ++ (object_of name place r.scope.structs of false [] ∷ []) }

-- defined by the declaration with an initializer (6.9.2p1)
abbrev pub defined_object : List ℕ → ℕ → TypeTree → List CellTree → Reading → Reading
defined_object name place of cells r =
    record r { objects = without_object r.objects name ++ (object_of name place r.scope.structs of true cells ∷ []) }

-- the parts of an object of the file, none of which is a text
abbrev pub cells_with : ℕ → TypeTree → TypedGiven → List CellTree → List CellTree
cells_with at of (GivenValue value) rest = record { at = at; of = of; value = value } ∷ rest
cells_with at of (GivenText text) rest = rest

abbrev pub cells_of : List TypedInitial → List CellTree
cells_of [] = []
cells_of (i ∷ is) = cells_with i.at i.of i.given (cells_of is)

-- the object behind its initializer, which may have completed its type
abbrev pub object_filled : Spelling → DeclaratorTree → TypeTree → Reading → Filled → Answer Reading
object_filled spelling d of r f =
    let whole : TypeTree = with_length f.count of in
    let name : List ℕ = name_of spelling d in
    let place : ℕ = name_place d in
    if is_object_type r.scope.structs false whole
    then Ok (noted name place whole (defined_object name place whole (cells_of f.parts) (record r { scope = completed name f.count r.scope; texts = r.texts ++ f.texts })))
    else breaks_at C11 (declarator_from d)

abbrev pub object_given : Spelling → Option Storage → DeclaratorTree → TypeTree → Reading → Option InitializerTree → Answer Reading
object_given spelling word d of r None = Ok (noted (name_of spelling d) (name_place d) of (tentative word (name_of spelling d) (name_place d) of r))
object_given spelling word d of r (Some i) = then_with (filled spelling true r.scope true of 0 (length r.texts) i) (object_filled spelling d of r)

-- The name is new or has that type, and has no second initializer. Its type is one of an object.
abbrev pub object_declared : Spelling → Option Storage → DeclaratorTree → Option InitializerTree → TypeTree → Reading → Answer Reading
object_declared spelling word d i of r =
    if is_twice (name_of spelling d) (Global of) r.scope || (is_some i && is_initialized r.objects (name_of spelling d)) then breaks_at C2 (name_place d)
    else if not (is_object_type r.scope.structs (is_some i) of) then breaks_at C11 (declarator_from d)
    else then_with (declared (name_of spelling d) (name_place d) (Global of) r.scope) (λ s. object_given spelling word d of (static_noted word (name_of spelling d) (with_scope s r)) i)

-- ---- typedefs and functions, which have no initializer (6.7.9p2, p3)

abbrev pub not_initialized : Spelling → DeclaratorTree → Option InitializerTree → Reading → Answer Reading
not_initialized spelling d None r = Ok r
not_initialized spelling d (Some i) r = then_with (expressions_in spelling r.scope i) (λ _. breaks_at C10 (declarator_from d))

abbrev pub typedef_declared : Spelling → DeclaratorTree → Option InitializerTree → TypeTree → Reading → Answer Reading
typedef_declared spelling d i of r =
    if is_twice (name_of spelling d) (TypeName of) r.scope then breaks_at C2 (name_place d)
    else if not (is_bounded r.scope.structs of) then breaks_at C11 (declarator_from d)
    else not_initialized spelling d i (with_scope (with_name (name_of spelling d) (TypeName of) r.scope) r)

abbrev pub function_declared : Spelling → Option Storage → DeclaratorTree → Option InitializerTree → TypeTree → Reading → Answer Reading
function_declared spelling word d i of r =
    if is_twice (name_of spelling d) (Global of) r.scope then breaks_at C2 (name_place d)
    else if not (is_bounded r.scope.structs of) then breaks_at C11 (declarator_from d)
    else then_with (declared (name_of spelling d) (name_place d) (Global of) r.scope) (λ s. not_initialized spelling d i (static_noted word (name_of spelling d) (noted (name_of spelling d) (name_place d) of (with_scope s r))))

-- ---- declarations (6.7)

abbrev pub declared_as : Spelling → Option Storage → DeclaratorTree → Option InitializerTree → TypeTree → Reading → Answer Reading
declared_as spelling word d i of r =
    if is_typedef word then typedef_declared spelling d i of r
    else if is_function of then function_declared spelling word d i of r
    else object_declared spelling word d i of r

abbrev pub init_declarator : Spelling → Option Storage → TypeTree → Reading → InitDeclaratorTree → Answer Reading
init_declarator spelling word of r (src.OfInitDeclarator d i a z) =
    then_with (parts_of spelling true Name (Base of) r.scope d) (λ w. declared_as spelling word d i (built of w.parts) (with_scope w.scope r))

abbrev pub init_declarators : Spelling → Option Storage → TypeTree → Reading → List InitDeclaratorTree → Answer Reading
init_declarators spelling word of r [] = Ok r
init_declarators spelling word of r (d ∷ ds) = then_with (init_declarator spelling word of r d) (λ next. init_declarators spelling word of next ds)

abbrev pub declaration : Spelling → Reading → DeclarationTree → Answer Reading
declaration spelling r (src.OfDeclaration word sp ds a z) =
    then_with (file_specs spelling (any_forbids ds) r.scope sp) (λ b. init_declarators spelling word b.of (with_scope b.scope r) ds)

-- ---- functions (6.9.1)

abbrev pub has_function : List FunctionTree → List ℕ → Bool
has_function [] name = false
has_function (f ∷ fs) name = bytes_eq f.name name || has_function fs name

-- the parameters, where the part next to the name is a list of them
abbrev pub own_params : List Part → Option (List Param)
own_params (FunctionPart params ∷ parts) = Some params
own_params _ = None

abbrev pub result_of : TypeTree → TypeTree
result_of (Of c (Function params result)) = result
result_of t = void

-- the parameters are the first objects, in the outermost block (6.9.1p9)
abbrev pub params_declared : ℕ → List Param → Scope → Scope
params_declared number [] s = s
params_declared number (p ∷ ps) s = params_declared (number + 1) ps (if is_named p.name then with_name p.name (Local number p.of) s else s)

abbrev pub param_locals : Table → List Param → List LocalTree
param_locals table [] = []
param_locals table (p ∷ ps) = local_of table p.of ∷ param_locals table ps

abbrev pub at_body : List Param → Reading → Here
at_body params r =
    record {
      scope = params_declared 0 params (entered r.scope);
      locals = param_locals r.scope.structs params;
      texts = r.texts;
      labels = no_labels void;
    }

abbrev pub around_body : TypeTree → Surroundings
around_body of = record { result = result_of of; loops = false; breaks = false; labels = NoLabels }

-- the body's statements stand in the block of the parameters (6.2.1p4)
abbrev pub body_items : Spelling → TypeTree → Here → StmtTree → Answer (Step TypedStmts)
body_items spelling of here (src.Compound items a z) = block_items spelling (around_body of) here items
body_items spelling of here body = Ok (record { made = to.NoTStmts; here = here })

abbrev pub function_made : List ℕ → ℕ → TypeTree → List Param → Reading → Step TypedStmts → Answer Reading
function_made name place of params r made =
    Ok (record r {
      scope = left made.here.scope;
      texts = made.here.texts;
      functions = r.functions ++ (record { name = name; place = place; public = true; of = of; parameters = length params; locals = made.here.locals; body = to.Compound made.made } ∷ []);
    })

abbrev pub function_body : Spelling → DeclaratorTree → TypeTree → List Param → StmtTree → Reading → Answer Reading
function_body spelling d of params body r = then_with (body_items spelling of (at_body params r) body) (function_made (name_of spelling d) (name_place d) of params r)

abbrev pub function_named : Spelling → Option Storage → DeclaratorTree → TypeTree → StmtTree → Reading → Option (List Param) → Answer Reading
function_named spelling word d of body r None = breaks_at C11 (declarator_from d)
function_named spelling word d of body r (Some params) =
    if not (is_bounded r.scope.structs of) then breaks_at C11 (declarator_from d)
    else then_with (declared (name_of spelling d) (name_place d) (Global of) r.scope) (λ s. function_body spelling d of params body (static_noted word (name_of spelling d) (noted (name_of spelling d) (name_place d) of (with_scope s r))))

-- the name is new or has that type, and has no second body; the declarator gives it parameters
abbrev pub function_defined : Spelling → Option Storage → DeclaratorTree → StmtTree → TypeTree → Reading → Walked → Answer Reading
function_defined spelling word d body base r w =
    if is_twice (name_of spelling d) (Global (built base w.parts)) w.scope || has_function r.functions (name_of spelling d) then breaks_at C2 (name_place d)
    else function_named spelling word d (built base w.parts) body (with_scope w.scope r) (own_params w.parts)

abbrev pub definition : Spelling → Reading → FunctionDefinitionTree → Answer Reading
definition spelling r (src.OfFunctionDefinition word sp d body a z) =
    then_with (file_specs spelling (forbids_schema Name d) r.scope sp) (λ b. then_with (parts_of spelling true Name (Base b.of) b.scope d) (function_defined spelling word d body b.of (with_scope b.scope r)))

-- ---- files (6.9)

abbrev pub file_item : Spelling → Reading → FileItemTree → Answer Reading
file_item spelling r (src.Included line a z) = included line a r
file_item spelling r (src.Declared d a z) = declaration spelling r d
file_item spelling r (src.Defined d a z) = definition spelling r d

abbrev pub file_items : Spelling → Reading → FileTree → Answer Reading
file_items spelling r [] = Ok r
file_items spelling r (item ∷ items) = then_with (file_item spelling r item) (λ next. file_items spelling next items)

-- a name that any declaration makes static is so in the whole file
abbrev pub is_public : List (List ℕ) → List ℕ → Bool
is_public [] name = true
is_public (s ∷ ss) name = if bytes_eq s name then false else is_public ss name

abbrev pub function_told : List (List ℕ) → FunctionTree → FunctionTree
function_told statics f = record f { public = is_public statics f.name }

abbrev pub global_told : List (List ℕ) → ObjectRead → GlobalTree
global_told statics o =
    record { name = o.name; place = o.place; public = is_public statics o.name; of = o.object.of; size = o.object.size; align = o.object.align; cells = o.cells }

abbrev pub declared_told : List (List ℕ) → DeclaredTree → DeclaredTree
declared_told statics d = record d { public = is_public statics d.name }

abbrev pub unit_of : FileTree → Reading → UnitTree
unit_of file r =
    record {
      functions = map (function_told r.statics) r.functions;
      globals = map (global_told r.statics) r.objects;
      declared = map (declared_told r.statics) r.declared;
      structs = r.scope.structs;
      texts = r.texts;
      nodes = file_nodes file;
    }

-- the unit of a file, or the first rule that it breaks with its place
abbrev pub typed : Spelling → FileTree → Answer UnitTree
typed spelling file = then_with (file_items spelling nothing_read file) (λ r. Ok (unit_of file r))
