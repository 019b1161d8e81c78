-- What the rules of lists answer whose parts stand behind a first one or may be missing.
use Rattle.std.specs.Prelude.{◌≡◌, ◌≤◌, ◌-◌, ℕ, List, [], ◌∷◌, ◌++◌, drop, map, Option, Some, None, Result, IfOk, IfSome}
use Rattle.pa_tree.specs.declared.expr.Enumerator.{Enumerator}
use Rattle.pa_tree.specs.declared.expr.Expr.{Expr}
use Rattle.pa_tree.specs.Cursors.{Cursor}
use Rattle.pa_tree.specs.Exprs.{ExprTree, EnumeratorTree}
use Rattle.pa_tree.specs.Views.{enumerator_tree, expr_tree}
use Rattle.pa_parts.specs.declared.measured.Measured.{Measured}
use Rattle.pa_parts.specs.Measures.{HasHeight}
use Rattle.pa_parts.specs.Trees.{Tree}
use Rattle.pa_grammar.specs.declared.rule.ParseError.{ParseError}
use Rattle.pa_grammar.specs.Parser.{Outcome, Parser, Next, Done, More}
use Rattle.pa_grammar.specs.Reads.{Reads}

-- the height of a part that may be missing
abbrev pub MeasuresNext : {A T : Type 0} → Tree A T → ℕ → Result (Option (Measured A)) ParseError → Type 0
MeasuresNext tree d r = IfOk r (λ found. IfSome found (HasHeight tree d))

-- a step of a list of enumeration constants: one more, or the end
abbrev pub constant_shown : List EnumeratorTree → Option (Measured Enumerator) → Next (List EnumeratorTree) (List EnumeratorTree)
constant_shown items None = Done items
constant_shown items (Some m) = More (items ++ enumerator_tree m.tree ∷ [])

-- one step of a list, behind whichever constants
abbrev pub ReadsStep : (List EnumeratorTree → Parser (Next (List EnumeratorTree) (List EnumeratorTree))) → Cursor → Result (Option (Measured Enumerator)) ParseError → Cursor → Type 0
ReadsStep step old r new = (items : _) → Reads (constant_shown items) (step items old) r new

-- the expressions behind the first one of a list
abbrev pub ReadsBehind : Outcome (List ExprTree) → Result (Measured (List Expr)) ParseError → Cursor → Type 0
ReadsBehind outcome r new = Reads (λ m. drop 1 (map expr_tree m.tree)) outcome r new

-- the list begins with this expression
abbrev pub BeginsWith : Expr → Result (Measured (List Expr)) ParseError → Type 0
BeginsWith first r = IfOk r (λ m. map expr_tree m.tree ≡ expr_tree first ∷ drop 1 (map expr_tree m.tree))

-- where a body has room, its parts may be read one level deeper
abbrev pub Inside : (ℕ → Type 0) → ℕ → Type 0
Inside may d = 2 ≤ d → may (d - 1)
