-- The rules of expressions (C11 6.5), each over the readers of the parts in a depth.
use Rattle.std.specs.Prelude.{ℕ, suc, List, [], ◌∷◌, Option}
use Rattle.pa_lex.specs.declared.token.Punct.{Punct}
use Rattle.pa_lex.specs.declared.token.Punct.TheVariants as p
use Rattle.pa_lex.specs.declared.token.Token.{Token}
use Rattle.pa_tree.specs.declared.expr.Expr.{Expr}
use Rattle.pa_tree.specs.declared.expr.TypeName.{TypeName}
use Rattle.pa_tree.specs.declared.operator.BinaryOperator.{BinaryOperator}
use Rattle.pa_tree.specs.declared.operator.PrefixOperator.{PrefixOperator}
use Rattle.pa_tree.specs.declared.operator.Step.{Step}
use Rattle.pa_tree.specs.Exprs.{ExprTree, TypeNameTree}
use Rattle.pa_tree.specs.Views.{expr_tree}
use Rattle.pa_parts.specs.declared.at.At.{At}
use Rattle.pa_parts.specs.declared.measured.Measured.{Measured}
use Rattle.pa_parts.specs.Measures.{MeasuredRule, measured}
use Rattle.pa_parts.specs.Nonterminals as nonterminal
use Rattle.pa_parts.specs.Trees as tree
use Rattle.pa_pexpr.specs.declared.infix.Infix.{Infix}
use Rattle.pa_pexpr.specs.Shown.{infix_shown}
use Rattle.pa_grammar.specs.Commas.{behind_comma}
use Rattle.pa_grammar.specs.Infixes as infixes
use Rattle.pa_grammar.specs.Parser.{Parser, look, many, sees}
use Rattle.pa_grammar.specs.Reading as reading
use Rattle.pa_grammar.specs.Reading.{Parsers, parsers}

module _ (at : At) where
  abbrev pub parts : Parsers
  parts = parsers at.names.now at.depth

  abbrev pub expr : ℕ → MeasuredRule Expr ExprTree
  expr level = nonterminal.expr at.names.now at.depth level

  abbrev pub opened : ℕ → MeasuredRule Expr ExprTree
  opened from = nonterminal.opened at.names.now at.depth from

  abbrev pub type_name : MeasuredRule TypeName TypeNameTree
  type_name = measured tree.type_name (reading.type_name at.names.now at.depth parts)

  -- the arguments of a call (C11 6.5.2)
  abbrev pub next_argument : MeasuredRule Expr ExprTree
  next_argument = measured tree.expr (behind_comma (expr 1).read)

  abbrev pub more_arguments : Measured Expr → MeasuredRule (List Expr) (List ExprTree)
  more_arguments first = measured tree.exprs (many (sees p.Comma) next_argument.read (expr_tree first.tree ∷ []))

  abbrev pub arguments : MeasuredRule (List Expr) (List ExprTree)
  arguments = measured tree.exprs (look (reading.arguments_at at.names.now at.depth parts))

  -- behind an operator that goes on behind an operand (C11 6.5.2, 6.5.5 to 6.5.17)
  abbrev pub behind : ℕ → Measured Expr → infixes.Infix → Parser ExprTree
  behind from left = reading.gone at.names.now at.depth parts from (expr_tree left.tree)

  abbrev pub binary : ℕ → Measured Expr → BinaryOperator → MeasuredRule Expr ExprTree
  binary from left op = measured tree.expr (behind from left (infixes.Between op))

  abbrev pub conditional : ℕ → Measured Expr → MeasuredRule Expr ExprTree
  conditional from test = measured tree.expr (behind from test infixes.Choice)

  abbrev pub index : ℕ → Measured Expr → MeasuredRule Expr ExprTree
  index from of = measured tree.expr (behind from of infixes.Indexed)

  abbrev pub dot : ℕ → Measured Expr → MeasuredRule Expr ExprTree
  dot from of = measured tree.expr (behind from of infixes.Dotted)

  abbrev pub arrow : ℕ → Measured Expr → MeasuredRule Expr ExprTree
  arrow from of = measured tree.expr (behind from of infixes.Arrowed)

  abbrev pub stepped : ℕ → Measured Expr → Step → MeasuredRule Expr ExprTree
  stepped from of op = measured tree.expr (behind from of (infixes.Stepped op))

  abbrev pub call : ℕ → Measured Expr → MeasuredRule Expr ExprTree
  call from of = measured tree.expr (behind from of infixes.Called)

  abbrev pub operator : ℕ → Measured Expr → Infix → Token → MeasuredRule Expr ExprTree
  operator from left op t = measured tree.expr (reading.going at.names.now at.depth parts from (expr_tree left.tree) (infix_shown op) t)

  abbrev pub climb : ℕ → ℕ → Measured Expr → MeasuredRule Expr ExprTree
  climb from level first = measured tree.expr (reading.climb at.names.now at.depth parts from level (suc at.depth) (expr_tree first.tree))

  -- operands (C11 6.5.1, 6.5.3, 6.5.4)
  abbrev pub paren : ℕ → MeasuredRule Expr ExprTree
  paren from = measured tree.expr (reading.paren at.names.now at.depth parts from)

  abbrev pub cast : ℕ → MeasuredRule Expr ExprTree
  cast from = measured tree.expr (reading.cast at.names.now at.depth parts from)

  abbrev pub paren_or_cast : ℕ → ℕ → MeasuredRule Expr ExprTree
  paren_or_cast level from = measured tree.expr (look (reading.bracket_at at.names.now at.depth parts level from))

  abbrev pub prefixed : Token → Option PrefixOperator → MeasuredRule Expr ExprTree
  prefixed t op = measured tree.expr (reading.in_front at.names.now at.depth parts t op)

  abbrev pub sizeof_type : ℕ → MeasuredRule Expr ExprTree
  sizeof_type from = measured tree.expr (reading.sizeof_type at.names.now at.depth parts from)

  abbrev pub sizeof_paren : ℕ → ℕ → MeasuredRule Expr ExprTree
  sizeof_paren from place = measured tree.expr (look (reading.sizeof_open at.names.now at.depth parts from place))

  abbrev pub sizeof_unary : ℕ → MeasuredRule Expr ExprTree
  sizeof_unary from = measured tree.expr (look (reading.sizeof_at at.names.now at.depth parts from))

  abbrev pub marked : ℕ → Token → Punct → MeasuredRule Expr ExprTree
  marked level t punct = measured tree.expr (reading.operand_mark at.names.now at.depth parts level t punct)

  abbrev pub operand : ℕ → MeasuredRule Expr ExprTree
  operand level = measured tree.expr (reading.operand at.names.now at.depth parts level)

  -- expressions whole, one level up
  abbrev pub expr_level : ℕ → MeasuredRule Expr ExprTree
  expr_level level = measured tree.expr (reading.expr_level at.names.now at.depth parts level)

  abbrev pub opened_level : ℕ → MeasuredRule Expr ExprTree
  opened_level from = measured tree.expr (reading.opened_level at.names.now at.depth parts from)
