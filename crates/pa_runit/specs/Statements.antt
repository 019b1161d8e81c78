-- Statements and the declarations in blocks (C11 6.7, 6.8).
use Rattle.std.specs.Prelude.{ℕ, ℤ, Bool, true, false, not, ◌&&◌, ◌||◌, if◌then◌else◌, List, [], ◌∷◌, ◌++◌, length, is_some, Option, Some, None, Ok, Err}
use Rattle.pa_num.specs.Arithmetic.{unsigned64}
use Rattle.pa_tree.specs.Exprs.{ExprTree, DeclaratorTree}
use Rattle.pa_tree.specs.Stmts.{InitializerTree, InitDeclaratorTree, BlockDeclarationTree, ForStartTree, StmtTree, BlockItemTree, BlockItemTrees}
use Rattle.pa_tree.specs.Stmts as src
use Rattle.pa_ctype.specs.declared.ctype.Layout.{Layout}
use Rattle.pa_ctype.specs.Types.{TypeTree, Of, Array}
use Rattle.pa_ctype.specs.Layouts.{Table, layout_in}
use Rattle.pa_typed.specs.Typed.{TypedExpr, TypedInitial, TypedLocalInit, TypedForStart, TypedStmt, TypedStmts}
use Rattle.pa_typed.specs.Typed as to
use Rattle.pa_scope.specs.declared.rule.TypeRule.{TypeRule}
use Rattle.pa_scope.specs.declared.rule.TypeRule.TheVariants.{C5, C6, C11, C20, C21, C27}
use Rattle.pa_scope.specs.Answers.{Answer, breaks_at, then_with, at_place, checked}
use Rattle.pa_integer.specs.Integers.{same_int}
use Rattle.pa_rexpr.specs.Constants.{constant_at, in_type}
use Rattle.pa_convert.specs.Conversions.{long, is_integer, is_scalar, is_void, is_complete, is_bounded, promoted}
use Rattle.pa_scope.specs.Scope.{Spelling, Scope, Local, declared, entered, left, completed, with_length}
use Rattle.pa_rexpr.specs.Values.{Typed, read, converted, given}
use Rattle.pa_rexpr.specs.Names.{texts, from_of}
use Rattle.pa_rexpr.specs.Declarators.{Name, Base, built, name_of, name_place, declarator_from, forbids_schema}
use Rattle.pa_rexpr.specs.Typing.{typing, specs, parts_of}
use Rattle.pa_runit.specs.Initializers.{Filled, filled}
use Rattle.pa_typed.specs.Units.{LocalTree}

-- ---- where a statement stands

-- the labels of the innermost `switch` so far; their numbers are of its promoted type
pub record Labels : Type 0 where
  pub of : TypeTree
  pub cases : List ℤ
  pub has_default : Bool

-- What is declared and made so far in a function: names, the objects by their numbers, the string literals of the file that lie in
-- memory, labels.
pub record Here : Type 0 where
  pub scope : Scope
  pub locals : List LocalTree
  pub texts : List (List ℕ)
  pub labels : Labels

-- whether a label may stand at a statement: not; the statement is the compound of a `switch`, in which labels stand; it may
pub data LabelsAt : Type 0 where
  NoLabels : LabelsAt
  Inside : LabelsAt
  Direct : LabelsAt

-- what lies around a statement: the type that the function gives, loops, and a loop or `switch`
pub record Surroundings : Type 0 where
  pub result : TypeTree
  pub loops : Bool
  pub breaks : Bool
  pub labels : LabelsAt

abbrev pub plain : Surroundings → Surroundings
plain f = record f { labels = NoLabels }

abbrev pub in_loop : Surroundings → Surroundings
in_loop f = record f { loops = true; breaks = true; labels = NoLabels }

abbrev pub in_switch : Surroundings → Surroundings
in_switch f = record f { breaks = true; labels = Inside }

abbrev pub labels_of_items : LabelsAt → LabelsAt
labels_of_items Inside = Direct
labels_of_items _ = NoLabels

abbrev pub in_compound : Surroundings → Surroundings
in_compound f = record f { labels = labels_of_items f.labels }

-- behind a label there may be another one
abbrev pub labels_behind : LabelsAt → LabelsAt
labels_behind Direct = Direct
labels_behind _ = NoLabels

abbrev pub behind_label : Surroundings → Surroundings
behind_label f = record f { labels = labels_behind f.labels }

abbrev pub is_direct : LabelsAt → Bool
is_direct Direct = true
is_direct _ = false

-- a part of a function with its typed form, and what stands behind it
pub record Step (A : Type 0) : Type 0 where
  pub made : A
  pub here : Here

abbrev pub step : {A : Type 0} → A → Here → Step A
step made here = record { made = made; here = here }

-- the next part, and what both make
abbrev pub and_then : {A B : Type 0} → Answer (Step A) → (A → Here → Answer (Step B)) → Answer (Step B)
and_then (Ok x) go = go x.made x.here
and_then (Err b) go = Err b

-- ---- expressions in statements

abbrev pub in_block_scope : (Scope → Scope) → Here → Here
in_block_scope change here = record here { scope = change here.scope }

-- an expression, with its string literals behind those before it
abbrev pub expression : Spelling → Here → ExprTree → Answer (Step Typed)
expression spelling here e = then_with (typing spelling here.scope (length here.texts) e) (λ x. Ok (step (read x) (record here { texts = here.texts ++ texts spelling e })))

abbrev pub maybe_expression : Spelling → Here → Option ExprTree → Answer (Step (Option Typed))
maybe_expression spelling here None = Ok (step None here)
maybe_expression spelling here (Some e) = and_then (expression spelling here e) (λ x after. Ok (step (Some x) after))

-- a condition (6.8.4.1, 6.8.5): told at the statement
abbrev pub condition : {A : Type 0} → ℕ → Typed → A → Answer A
condition place test made = if is_scalar test.of then Ok made else breaks_at C6 place

abbrev pub maybe_condition : {A : Type 0} → ℕ → Option Typed → A → Answer A
maybe_condition place None made = Ok made
maybe_condition place (Some test) made = condition place test made

abbrev pub tree_of : Option Typed → Option TypedExpr
tree_of None = None
tree_of (Some x) = Some x.tree

-- ---- declarations in blocks (6.7)

abbrev pub has_no_length : TypeTree → Bool
has_no_length (Of c (Array of None)) = true
has_no_length t = false

abbrev pub element_of : TypeTree → TypeTree
element_of (Of c (Array of count)) = of
element_of t = t

-- the type of an object: complete, or an array that its initializer completes
abbrev pub is_object_type : Table → Bool → TypeTree → Bool
is_object_type table initialized of =
    is_bounded table of && (is_complete table of || (initialized && (has_no_length of && is_complete table (element_of of))))

abbrev pub local_by : TypeTree → Option Layout → LocalTree
local_by of None = record { of = of; size = 0; align = 1 }
local_by of (Some l) = record { of = of; size = l.size; align = l.align }

-- an object of a type that has a layout
abbrev pub local_of : Table → TypeTree → LocalTree
local_of table of = local_by of (layout_in table of)

abbrev pub with_local : TypeTree → Here → Here
with_local of here = record here { locals = here.locals ++ (local_of here.scope.structs of ∷ []) }

abbrev pub local_init : ℕ → Option (List TypedInitial) → TypedLocalInit
local_init number initials = record { local = number; initials = initials }

-- the object behind its initializer, which may have completed its type
abbrev pub local_filled : Spelling → DeclaratorTree → TypeTree → Here → Filled → Answer (Step TypedLocalInit)
local_filled spelling d of here f =
    let whole : TypeTree = with_length f.count of in
    if is_object_type here.scope.structs false whole
    then Ok (step (local_init (length here.locals) (Some f.parts)) (with_local whole (record here { scope = completed (name_of spelling d) f.count here.scope; texts = here.texts ++ f.texts })))
    else breaks_at C11 (declarator_from d)

abbrev pub local_given : Spelling → DeclaratorTree → TypeTree → Here → Option InitializerTree → Answer (Step TypedLocalInit)
local_given spelling d of here None = Ok (step (local_init (length here.locals) None) (with_local of here))
local_given spelling d of here (Some i) = then_with (filled spelling false here.scope true of 0 (length here.texts) i) (local_filled spelling d of here)

-- a name of a block is new there (6.7p3) and has an object type; it is in scope from the end of its declarator (6.2.1p7)
abbrev pub local_declared : Spelling → DeclaratorTree → Option InitializerTree → TypeTree → Here → Answer (Step TypedLocalInit)
local_declared spelling d i of here =
    then_with (declared (name_of spelling d) (name_place d) (Local (length here.locals) of) here.scope) (λ scope. if is_object_type scope.structs (is_some i) of then local_given spelling d of (record here { scope = scope }) i else breaks_at C11 (declarator_from d))

abbrev pub init_declarator : Spelling → TypeTree → Here → InitDeclaratorTree → Answer (Step TypedLocalInit)
init_declarator spelling of here (src.OfInitDeclarator d i a z) =
    then_with (parts_of spelling true Name (Base of) here.scope d) (λ w. local_declared spelling d i (built of w.parts) (record here { scope = w.scope }))

abbrev pub init_declarators : Spelling → TypeTree → Here → List InitDeclaratorTree → Answer (Step (List TypedLocalInit))
init_declarators spelling of here [] = Ok (step [] here)
init_declarators spelling of here (d ∷ ds) = and_then (init_declarator spelling of here d) (λ name after. and_then (init_declarators spelling of after ds) (λ names end. Ok (step (name ∷ names) end)))

-- one of the declarators makes the type that of a result
abbrev pub any_forbids : List InitDeclaratorTree → Bool
any_forbids [] = false
any_forbids (src.OfInitDeclarator d i a z ∷ ds) = forbids_schema Name d || any_forbids ds

abbrev pub block_declaration : Spelling → Here → BlockDeclarationTree → Answer (Step (List TypedLocalInit))
block_declaration spelling here (src.OfBlockDeclaration sp ds a z) =
    then_with (specs spelling true (any_forbids ds) here.scope sp) (λ b. init_declarators spelling b.of (record here { scope = b.scope }) ds)

abbrev pub for_start : Spelling → Here → ForStartTree → Answer (Step TypedForStart)
for_start spelling here (src.Declares declaration a z) = and_then (block_declaration spelling here declaration) (λ names after. Ok (step (to.Declares names) after))
for_start spelling here (src.Evaluates value a z) = and_then (maybe_expression spelling here value) (λ x after. Ok (step (to.Evaluates (tree_of x)) after))

-- ---- `switch` (6.8.4.2)

abbrev pub no_labels : TypeTree → Labels
no_labels of = record { of = of; cases = []; has_default = false }

-- the type in which labels are compared
abbrev pub label_type : Typed → TypeTree
label_type x = if is_integer x.of then promoted x.of else long

abbrev pub switch_made : ℕ → Typed → TypedStmt → Answer TypedStmt
switch_made place x body = if is_integer x.of then Ok (to.Switch (converted (promoted x.of) x) body) else breaks_at C5 place

abbrev pub has_case : List ℤ → ℤ → Bool
has_case [] z = false
has_case (c ∷ cs) z = same_int c z || has_case cs z

abbrev pub with_case : ℤ → Here → Here
with_case z here = record here { labels = record here.labels { cases = z ∷ here.labels.cases } }

abbrev pub with_default : Here → Here
with_default here = record here { labels = record here.labels { has_default = true } }

-- a label stands directly in its `switch`, and no label before it is the same
abbrev pub label_rule : Surroundings → Bool → Option TypeRule
label_rule f twice = if not (is_direct f.labels) then Some C20 else if twice then Some C21 else None

abbrev pub case_made : ℕ → Surroundings → Labels → ℤ → TypedStmt → Answer TypedStmt
case_made place f labels z body = checked place (label_rule f (has_case labels.cases z)) (to.Case (unsigned64 z) labels.of body)

abbrev pub default_made : ℕ → Surroundings → Labels → TypedStmt → Answer TypedStmt
default_made place f labels body = checked place (label_rule f labels.has_default) (to.Default body)

-- the number of a label, converted to the type of the `switch`
abbrev pub case_number : Spelling → Here → ExprTree → Answer ℤ
case_number spelling here e = then_with (then_with (typing spelling here.scope (length here.texts) e) (λ x. constant_at (from_of e) (read x))) (λ z. Ok (in_type here.labels.of z))

-- ---- `return` (6.8.6.4)

abbrev pub result_given : ℕ → TypeTree → Table → Typed → Answer TypedStmt
result_given place result table x =
    if is_void result then breaks_at C27 place else then_with (at_place place (given table result x)) (λ value. Ok (to.Return (Some value)))

abbrev pub returned : ℕ → TypeTree → Table → Option Typed → Answer TypedStmt
returned place result table None = if is_void result then Ok (to.Return None) else breaks_at C27 place
returned place result table (Some x) = result_given place result table x

-- ---- statements

abbrev pub made_with : {A : Type 0} → Here → Answer A → Answer (Step A)
made_with here (Ok x) = Ok (step x here)
made_with here (Err b) = Err b

abbrev pub joined_inits : List TypedLocalInit → TypedStmts → TypedStmts
joined_inits [] rest = rest
joined_inits (name ∷ names) rest = to.ConsTStmt (to.InitLocal name) (joined_inits names rest)

abbrev pub joined : TypedStmts → TypedStmts → TypedStmts
joined to.NoTStmts more = more
joined (to.ConsTStmt first rest) more = to.ConsTStmt first (joined rest more)

abbrev pub jump : ℕ → Bool → TypedStmt → Here → Answer (Step TypedStmt)
jump place allowed made here = if allowed then Ok (step made here) else breaks_at C20 place

unfoldable mutual
  pub statement : Spelling → Surroundings → Here → StmtTree → Answer (Step TypedStmt)
  statement spelling f here (src.Compound items a z) =
      and_then (block_items spelling (in_compound f) (in_block_scope entered here) items) (λ made after. Ok (step (to.Compound made) (in_block_scope left after)))
  statement spelling f here (src.Expression value a z) = and_then (maybe_expression spelling here value) (λ x after. Ok (step (to.Expression (tree_of x)) after))
  statement spelling f here (src.If test body a z) =
      and_then (expression spelling here test) (λ x h. and_then (statement spelling (plain f) h body) (λ b end. condition a x (step (to.If x.tree b) end)))
  statement spelling f here (src.IfElse test when_true when_false a z) =
      and_then (expression spelling here test) (λ x h. and_then (statement spelling (plain f) h when_true) (λ b g. and_then (statement spelling (plain f) g when_false) (λ c end. condition a x (step (to.IfElse x.tree b c) end))))
  statement spelling f here (src.While test body a z) =
      and_then (expression spelling here test) (λ x h. and_then (statement spelling (in_loop f) h body) (λ b end. condition a x (step (to.While x.tree b) end)))
  statement spelling f here (src.DoWhile body test a z) =
      and_then (statement spelling (in_loop f) here body) (λ b h. and_then (expression spelling h test) (λ x end. condition a x (step (to.DoWhile b x.tree) end)))
  statement spelling f here (src.For start test next body a z) =
      and_then (for_start spelling (in_block_scope entered here) start) (λ begins h. and_then (maybe_expression spelling h test) (λ x g. and_then (maybe_expression spelling g next) (λ y k. and_then (statement spelling (in_loop f) k body) (λ b end. maybe_condition a x (step (to.For begins (tree_of x) (tree_of y) b) (in_block_scope left end))))))
  statement spelling f here (src.Switch value body a z) =
      and_then (expression spelling here value) (λ x h. and_then (statement spelling (in_switch f) (record h { labels = no_labels (label_type x) }) body) (λ b end. made_with (record end { labels = h.labels }) (switch_made a x b)))
  statement spelling f here (src.Case value body a z) =
      then_with (case_number spelling here value) (λ n. and_then (statement spelling (behind_label f) (with_case n here) body) (λ b end. made_with end (case_made a f here.labels n b)))
  statement spelling f here (src.Default body a z) = and_then (statement spelling (behind_label f) (with_default here) body) (λ b end. made_with end (default_made a f here.labels b))
  statement spelling f here (src.Break a z) = jump a f.breaks to.Break here
  statement spelling f here (src.Continue a z) = jump a f.loops to.Continue here
  statement spelling f here (src.Return value a z) = and_then (maybe_expression spelling here value) (λ x after. made_with after (returned a f.result after.scope.structs x))

  pub block_item : Spelling → Surroundings → Here → BlockItemTree → Answer (Step TypedStmts)
  block_item spelling f here (src.DeclarationItem declaration a z) = and_then (block_declaration spelling here declaration) (λ names after. Ok (step (joined_inits names to.NoTStmts) after))
  block_item spelling f here (src.StatementItem stmt a z) = and_then (statement spelling f here stmt) (λ made after. Ok (step (to.ConsTStmt made to.NoTStmts) after))

  pub block_items : Spelling → Surroundings → Here → BlockItemTrees → Answer (Step TypedStmts)
  block_items spelling f here src.NoBlockItems = Ok (step to.NoTStmts here)
  block_items spelling f here (src.ConsBlockItem first rest) = and_then (block_item spelling f here first) (λ made after. and_then (block_items spelling f after rest) (λ more end. Ok (step (joined made more) end)))
