-- The rules of specifiers and declarators (C11 6.7), each over the readers of the parts in a depth.
use Rattle.std.specs.Prelude.{◌-◌, ℕ, suc, Bool, List, [], ◌∷◌, Option}
use Rattle.pa_lex.specs.declared.token.Keyword.{Keyword}
use Rattle.pa_lex.specs.declared.token.Kind.TheVariants as kind
use Rattle.pa_lex.specs.declared.token.Punct.TheVariants as p
use Rattle.pa_lex.specs.declared.token.Token.{Token}
use Rattle.pa_tree.specs.declared.expr.Base.{Base}
use Rattle.pa_tree.specs.declared.expr.Declarator.{Declarator}
use Rattle.pa_tree.specs.declared.expr.Enumerator.{Enumerator}
use Rattle.pa_tree.specs.declared.expr.Expr.{Expr}
use Rattle.pa_tree.specs.declared.expr.Member.{Member}
use Rattle.pa_tree.specs.declared.expr.Parameter.{Parameter}
use Rattle.pa_tree.specs.declared.expr.Parameters.{Parameters}
use Rattle.pa_tree.specs.declared.expr.Qualifier.{Qualifier}
use Rattle.pa_tree.specs.declared.expr.Specs.{Specs}
use Rattle.pa_tree.specs.declared.expr.Tag.{Tag}
use Rattle.pa_tree.specs.declared.operator.IntegerWord.{IntegerWord}
use Rattle.pa_tree.specs.Exprs.{ExprTree, SpecsTree, QualifierTree, BaseTree, MemberTree, EnumeratorTree, DeclaratorTree, ParametersTree, ParameterTree, MaybeExprTree}
use Rattle.pa_tree.specs.Views.{declarator_tree, enumerator_tree, member_tree, parameter_tree}
use Rattle.pa_parts.specs.declared.at.At.{At}
use Rattle.pa_parts.specs.declared.measured.Measured.{Measured}
use Rattle.pa_parts.specs.Measures.{MeasuredRule, measured}
use Rattle.pa_parts.specs.Nonterminals as nonterminal
use Rattle.pa_parts.specs.Trees as tree
use Rattle.pa_pspec.specs.declared.declarators.Suffix.{Suffix}
use Rattle.pa_pspec.specs.declared.specifier.Tagged.{Tagged}
use Rattle.pa_pspec.specs.Bodies.{body_of, alone_of, member_inside, struct_inside, enumerator_inside, step_inside, enum_inside}
use Rattle.pa_pspec.specs.Suffixes.{absent_at, suffix_of}
use Rattle.pa_grammar.specs.declared.rule.Naming.{Naming}
use Rattle.pa_grammar.specs.declared.rule.Naming.TheVariants as naming
use Rattle.pa_grammar.specs.Commas.{behind_comma}
use Rattle.pa_grammar.specs.Parser.{Parser, Next, look, many, iterate, sees}
use Rattle.pa_grammar.specs.Reading as reading
use Rattle.pa_grammar.specs.Reading.{Parsers, parsers}

-- a declarator without a name, where one may stand, and one where none that begins with a token has room
abbrev pub absent : Naming → ℕ → MeasuredRule Declarator DeclaratorTree
absent name end = measured tree.declarator (absent_at name end)

abbrev pub bare_declarator : List ℕ → Naming → MeasuredRule Declarator DeclaratorTree
bare_declarator names name = measured tree.declarator (reading.bare_declarator names name)

module _ (at : At) where
  abbrev pub parts : Parsers
  parts = parsers at.names.now at.depth

  abbrev pub expr : ℕ → MeasuredRule Expr ExprTree
  expr level = nonterminal.expr at.names.now at.depth level

  abbrev pub specs : Bool → MeasuredRule Specs SpecsTree
  specs bodies = nonterminal.specs at.names.now at.depth bodies

  abbrev pub declarator : Naming → MeasuredRule Declarator DeclaratorTree
  declarator name = nonterminal.declarator at.names.now at.depth name

  -- qualifiers (C11 6.7.3); the arguments of `__ptrauth` behind the first one
  abbrev pub more_arguments : Parser (List ExprTree)
  more_arguments = reading.conds at.names.now at.depth parts 2

  abbrev pub ptrauth : ℕ → MeasuredRule Qualifier QualifierTree
  ptrauth from = measured tree.qualifier (reading.ptrauth at.names.now at.depth parts parts from)

  abbrev pub qualifier : MeasuredRule Qualifier QualifierTree
  qualifier = measured tree.qualifier (reading.qualifier at.names.now at.depth parts parts)

  abbrev pub qualifiers : MeasuredRule (List Qualifier) (List QualifierTree)
  qualifiers = measured tree.qualifiers (reading.qualifiers at.names.now at.depth parts parts)

  -- parameters (C11 6.7.6.3)
  abbrev pub parameter : MeasuredRule Parameter ParameterTree
  parameter = measured tree.parameter (reading.parameter at.names.now at.depth parts)

  abbrev pub next_parameter : MeasuredRule Parameter ParameterTree
  next_parameter = measured tree.parameter (behind_comma parameter.read)

  abbrev pub more_parameters : Measured Parameter → MeasuredRule (List Parameter) (List ParameterTree)
  more_parameters first = measured tree.parameter_list (many (sees p.Comma) next_parameter.read (parameter_tree first.tree ∷ []))

  abbrev pub parameters : MeasuredRule Parameters ParametersTree
  parameters = measured tree.parameters (look (reading.parameters_at at.names.now at.depth parts))

  -- declarators (C11 6.7.6, 6.7.7)
  abbrev pub array_length : MeasuredRule (Option Expr) MaybeExprTree
  array_length = measured tree.maybe_expr (look (reading.length_at at.names.now at.depth parts))

  abbrev pub array : ℕ → Measured Declarator → MeasuredRule Declarator DeclaratorTree
  array from of = measured tree.declarator (reading.array at.names.now at.depth parts from (declarator_tree of.tree))

  abbrev pub function : ℕ → Measured Declarator → MeasuredRule Declarator DeclaratorTree
  function from of = measured tree.declarator (reading.function at.names.now at.depth parts from (declarator_tree of.tree))

  abbrev pub suffix : Suffix → ℕ → Measured Declarator → Token → MeasuredRule Declarator DeclaratorTree
  suffix part from of t = measured tree.declarator (suffix_of at.names.now at.depth parts part from (declarator_tree of.tree) t)

  abbrev pub suffixes : ℕ → Measured Declarator → MeasuredRule Declarator DeclaratorTree
  suffixes from of = measured tree.declarator (reading.suffixes at.names.now at.depth parts from (suc at.depth) (declarator_tree of.tree))

  abbrev pub pointer : Naming → ℕ → MeasuredRule Declarator DeclaratorTree
  pointer name from = measured tree.declarator (reading.pointer at.names.now at.depth parts name from)

  abbrev pub grouped : Naming → ℕ → MeasuredRule Declarator DeclaratorTree
  grouped name from = measured tree.declarator (reading.grouped at.names.now at.depth parts name from)

  abbrev pub bracketed : Naming → ℕ → ℕ → MeasuredRule Declarator DeclaratorTree
  bracketed name from end = measured tree.declarator (look (reading.open_at at.names.now at.depth parts name from end))

  abbrev pub marked : Naming → Token → ℕ → MeasuredRule Declarator DeclaratorTree
  marked name t end = measured tree.declarator (reading.direct_mark at.names.now at.depth parts name t end t.kind)

  abbrev pub named : Naming → Token → ℕ → ℕ → MeasuredRule Declarator DeclaratorTree
  named name t end n = measured tree.declarator (reading.direct_by at.names.now at.depth parts name t end (kind.Name n))

  abbrev pub declarator_level : Naming → MeasuredRule Declarator DeclaratorTree
  declarator_level name = measured tree.declarator (reading.declarator_level at.names.now at.depth parts name)

  -- members, one level up (C11 6.7.2.1)
  abbrev pub next_declarator : MeasuredRule Declarator DeclaratorTree
  next_declarator = measured tree.declarator (behind_comma (declarator naming.Named).read)

  abbrev pub more_declarators : Measured Declarator → MeasuredRule (List Declarator) (List DeclaratorTree)
  more_declarators first = measured tree.declarators (many (sees p.Comma) next_declarator.read (declarator_tree first.tree ∷ []))

  abbrev pub member : MeasuredRule Member MemberTree
  member = measured tree.member (member_inside at.names.now (suc at.depth) at.depth)

  abbrev pub more_members : Measured Member → MeasuredRule (List Member) (List MemberTree)
  more_members first = measured tree.members (many reading.not_brace member.read (member_tree first.tree ∷ []))

  abbrev pub struct_body : ℕ → Option Tag → MeasuredRule Base BaseTree
  struct_body from tag = measured tree.base (struct_inside at.names.now (suc at.depth) at.depth from tag)

  -- enumeration constants, one level up (C11 6.7.2.2)
  abbrev pub value : MeasuredRule (Option Expr) MaybeExprTree
  value = measured tree.maybe_expr (look (reading.value_at at.names.now (suc at.depth) (parsers at.names.now (suc at.depth)) parts))

  abbrev pub enumerator : MeasuredRule Enumerator EnumeratorTree
  enumerator = measured tree.enumerator (enumerator_inside at.names.now (suc at.depth) at.depth)

  abbrev pub enumerator_step : List EnumeratorTree → Parser (Next (List EnumeratorTree) (List EnumeratorTree))
  enumerator_step = step_inside at.names.now (suc at.depth) at.depth

  abbrev pub more_enumerators : Measured Enumerator → MeasuredRule (List Enumerator) (List EnumeratorTree)
  more_enumerators first = measured tree.enumerators (iterate enumerator_step (enumerator_tree first.tree ∷ []))

  abbrev pub enum_body : ℕ → Option Tag → MeasuredRule Base BaseTree
  enum_body from tag = measured tree.base (enum_inside at.names.now (suc at.depth) at.depth from tag)

  -- specifiers (C11 6.7.2): the parts of a body stand one level down
  abbrev pub inside : Parsers
  inside = parsers at.names.now (at.depth - 1)

  abbrev pub body : Tagged → ℕ → Option Tag → MeasuredRule Base BaseTree
  body kind from tag = measured tree.base (body_of at.names.now at.depth parts inside kind from tag)

  abbrev pub tagged : Tagged → ℕ → Bool → MeasuredRule Base BaseTree
  tagged kind from bodies = measured tree.base (look (reading.struct_at at.names.now at.depth parts inside bodies (body_of at.names.now at.depth parts inside kind from) (alone_of kind from)))

  abbrev pub words : Token → Option IntegerWord → MeasuredRule Base BaseTree
  words t word = measured tree.base (reading.words_at at.names.now at.depth parts inside t word)

  abbrev pub keyword : Bool → Token → Keyword → MeasuredRule Base BaseTree
  keyword bodies t word = measured tree.base (reading.base_word at.names.now at.depth parts inside bodies t word)

  abbrev pub base : Bool → MeasuredRule Base BaseTree
  base bodies = measured tree.base (reading.base at.names.now at.depth parts inside bodies)
