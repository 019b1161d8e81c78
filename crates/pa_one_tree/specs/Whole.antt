-- What one tree at a place among tokens is, for a place that counts `depth` levels already.
use Rattle.std.specs.Prelude.{◌-◌, ℕ, Bool, List, Result}
use Rattle.pa_num.specs.declared.fault.Fault.{Fault}
use Rattle.pa_lex.specs.declared.token.Token.{Token}
use Rattle.pa_tree.specs.declared.expr.Declarator.{Declarator}
use Rattle.pa_tree.specs.declared.expr.Expr.{Expr}
use Rattle.pa_tree.specs.declared.expr.Specs.{Specs}
use Rattle.pa_tree.specs.Heights.{expr_height, specs_height, declarator_height}
use Rattle.pa_tree.specs.Spells.{ExprSpells, SpecsSpell}
use Rattle.pa_tree.specs.Views.{expr_tree, specs_tree, declarator_tree}
use Rattle.pa_grammar.specs.declared.rule.Level.{Level}
use Rattle.pa_grammar.specs.declared.rule.SynRule.{SynRule}
use Rattle.pa_grammar.specs.Answers.{IsAnswer, IsStop, DeclaratorOf, level_number, naming_of, most_levels}
use Rattle.pa_grammar.specs.Reading.{Parsers, parsers}

module _ (names : List ℕ) (depth : ℕ) where
  -- the readers of the depth that is left
  abbrev pub left : Parsers
  left = parsers names (most_levels - depth)

  -- the longest expression of this level, as the grammar has it, and the reading's own stop
  abbrev pub ExprAnswers : Level → List Token → ℕ → Result (Expr × ℕ) (Fault SynRule) → Type 0
  ExprAnswers level = IsAnswer (ExprSpells names (level_number level)) expr_height (most_levels - depth) expr_tree

  abbrev pub ExprStops : Level → List Token → ℕ → Result (Expr × ℕ) (Fault SynRule) → Type 0
  ExprStops level = IsStop (left.expr (level_number level))

  -- the same of specifiers
  abbrev pub SpecsAnswer : Bool → List Token → ℕ → Result (Specs × ℕ) (Fault SynRule) → Type 0
  SpecsAnswer bodies = IsAnswer (SpecsSpell names bodies) specs_height (most_levels - depth) specs_tree

  abbrev pub SpecsStop : Bool → List Token → ℕ → Result (Specs × ℕ) (Fault SynRule) → Type 0
  SpecsStop bodies = IsStop (left.specs bodies)

  -- the same of a declarator, with a name or without one
  abbrev pub DeclaratorAnswers : Bool → List Token → ℕ → Result (Declarator × ℕ) (Fault SynRule) → Type 0
  DeclaratorAnswers named = IsAnswer (DeclaratorOf names named) declarator_height (most_levels - depth) declarator_tree

  abbrev pub DeclaratorStops : Bool → List Token → ℕ → Result (Declarator × ℕ) (Fault SynRule) → Type 0
  DeclaratorStops named = IsStop (left.declarator (naming_of named))
