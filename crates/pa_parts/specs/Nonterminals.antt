-- The nonterminals of C11 6.5 and 6.7 that lead to each other, as rules in a depth.
use Rattle.std.specs.Prelude.{ℕ, Bool, List}
use Rattle.pa_tree.specs.declared.expr.Declarator.{Declarator}
use Rattle.pa_tree.specs.declared.expr.Expr.{Expr}
use Rattle.pa_tree.specs.declared.expr.Specs.{Specs}
use Rattle.pa_tree.specs.Exprs.{ExprTree, SpecsTree, DeclaratorTree}
use Rattle.pa_parts.specs.Measures.{MeasuredRule, measured}
use Rattle.pa_parts.specs.Trees as tree
use Rattle.pa_grammar.specs.declared.rule.Naming.{Naming}
use Rattle.pa_grammar.specs.Reading.{parsers}

module _ (names : List ℕ) (depth : ℕ) where
  abbrev pub expr : ℕ → MeasuredRule Expr ExprTree
  expr level = measured tree.expr ((parsers names depth).expr level)

  -- behind the `(` of a unary expression, which stands at this place
  abbrev pub opened : ℕ → MeasuredRule Expr ExprTree
  opened from = measured tree.expr ((parsers names depth).opened from)

  abbrev pub specs : Bool → MeasuredRule Specs SpecsTree
  specs bodies = measured tree.specs ((parsers names depth).specs bodies)

  abbrev pub declarator : Naming → MeasuredRule Declarator DeclaratorTree
  declarator name = measured tree.declarator ((parsers names depth).declarator name)
