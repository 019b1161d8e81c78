-- How a tree is read from the left, in a depth.
use Rattle.std.specs.Prelude.{ℕ, zero, suc, Bool, true, false, ◌&&◌, ◌||◌, not, nat_le, List, [], ◌∷◌, ◌++◌, Option, Some, None, if◌then◌else◌}
use Rattle.pa_lex.specs.declared.token.Kind.{Kind}
use Rattle.pa_lex.specs.declared.token.Kind.TheVariants as kind
use Rattle.pa_lex.specs.declared.token.Keyword.{Keyword}
use Rattle.pa_lex.specs.declared.token.Keyword.TheVariants as w
use Rattle.pa_lex.specs.declared.token.Punct.{Punct}
use Rattle.pa_lex.specs.declared.token.Punct.TheVariants as p
use Rattle.pa_lex.specs.declared.token.Token.{Token}
use Rattle.pa_tree.specs.declared.expr.Tag.{Tag}
use Rattle.pa_tree.specs.declared.operator.PrefixOperator.{PrefixOperator}
use Rattle.pa_tree.specs.declared.operator.IntegerWord.{IntegerWord}
use Rattle.pa_grammar.specs.declared.rule.SynRule.TheVariants.{S1, S2}
use Rattle.pa_grammar.specs.declared.rule.Naming.{Naming}
use Rattle.pa_grammar.specs.declared.rule.Naming.TheVariants as naming
use Rattle.pa_tree.specs.Cursors.{from_of}
use Rattle.pa_tree.specs.Operators.{cond_level, cast_level, unary_level, right_level, prefix_level, prefix_of, word_in, are_integer_type}
use Rattle.pa_tree.specs.Spells.{is_type, is_only_void}
use Rattle.pa_tree.specs.Exprs.{ExprTree, Identifier, Integer, Character, Text, Paren, Index, Call, Dot, Arrow, Postfix, Prefix, SizeofExpr, SizeofType, Cast, Binary, Conditional, TypeNameTree, OfTypeName, SpecsTree, OfSpecs, QualifierTree, Const, Ptrauth, BaseTree, Void, Boolean, Words, TypedefName, StructTag, StructBody, EnumTag, EnumBody, MemberTree, OfMember, EnumeratorTree, OfEnumerator, DeclaratorTree, Named, Absent, Pointer, Grouped, Array, Function, ParametersTree, Empty, OnlyVoid, Listed, ParameterTree, OfParameter, MaybeExprTree, NoExpr, SomeExpr}
use Rattle.pa_tree.specs.Heights.{expr_height, declarator_height}
use Rattle.pa_tree.specs.Views.{exprs_of, qualifiers_of, members_of, enumerators_of, declarators_of, parameters_of}
use Rattle.pa_grammar.specs.Tokens.{same_mark, same_word, is_mark, is_word}
use Rattle.pa_grammar.specs.Infixes.{Infix, Between, Choice, Indexed, Called, Dotted, Arrowed, Stepped, infix_in, infix_level, infix_left, tree_level}
use Rattle.pa_grammar.specs.Parser.{Parser, ◌>>=◌, ◌>>◌, pure, refuse, look, after, ended, needs, sees, mark, Next, Done, More, iterate, many, commas}

-- The readers of a depth. `opened` goes on behind the `(` of a unary expression, at this place, where no type name follows.
pub record Parsers : Type 0 where
  pub expr : ℕ → Parser ExprTree
  pub opened : ℕ → Parser ExprTree
  pub specs : Bool → Parser SpecsTree
  pub declarator : Naming → Parser DeclaratorTree

-- keywords that a type begins with
abbrev pub begins_type_word : Keyword → Bool
begins_type_word w.Void = true
begins_type_word w.Bool = true
begins_type_word w.Char = true
begins_type_word w.Short = true
begins_type_word w.Int = true
begins_type_word w.Long = true
begins_type_word w.Signed = true
begins_type_word w.Unsigned = true
begins_type_word w.Struct = true
begins_type_word w.Enum = true
begins_type_word w.Const = true
begins_type_word w.Ptrauth = true
begins_type_word _ = false

abbrev pub is_some : {A : Type 0} → Option A → Bool
is_some None = false
is_some (Some x) = true

-- another string literal
abbrev pub text_by : List ℕ → Token → Kind → Parser (Next (List ℕ) (List ℕ))
text_by bytes t (kind.Text more) = after t >> pure (More (bytes ++ more))
text_by bytes t _ = pure (Done bytes)

abbrev pub text_at : List ℕ → Option Token → Parser (Next (List ℕ) (List ℕ))
text_at bytes None = pure (Done bytes)
text_at bytes (Some t) = text_by bytes t t.kind

abbrev pub text_step : List ℕ → Parser (Next (List ℕ) (List ℕ))
text_step bytes = look (text_at bytes)

-- another word of an integer type
abbrev pub integer_word : List IntegerWord → Token → Option IntegerWord → Parser (Next (List IntegerWord) (List IntegerWord))
integer_word words t None = pure (Done words)
integer_word words t (Some x) = if are_integer_type (words ++ x ∷ []) then (after t >> pure (More (words ++ x ∷ []))) else pure (Done words)

abbrev pub word_by : List IntegerWord → Token → Kind → Parser (Next (List IntegerWord) (List IntegerWord))
word_by words t (kind.Keyword x) = integer_word words t (word_in x)
word_by words t _ = pure (Done words)

abbrev pub word_at : List IntegerWord → Option Token → Parser (Next (List IntegerWord) (List IntegerWord))
word_at words None = pure (Done words)
word_at words (Some t) = word_by words t t.kind

abbrev pub word_step : List IntegerWord → Parser (Next (List IntegerWord) (List IntegerWord))
word_step words = look (word_at words)

-- what goes on behind an operand, with its token
abbrev pub next_by : ℕ → ExprTree → Token → Option Infix → Parser (Option (Infix × Token))
next_by level left t None = pure None
next_by level left t (Some x) = if nat_le level (infix_level x) && nat_le (infix_left x) (tree_level left) then pure (Some (x, t)) else pure None

abbrev pub next_at : ℕ → ExprTree → Option Token → Parser (Option (Infix × Token))
next_at level left None = pure None
next_at level left (Some t) = next_by level left t (infix_in t.kind)

unfoldable pub next : ℕ → ExprTree → Parser (Option (Infix × Token))
next level left = look (next_at level left)

-- whether qualifiers follow
abbrev pub begins_qualifier_by : Kind → Bool
begins_qualifier_by k = is_word w.Const k || is_word w.Ptrauth k

abbrev pub begins_qualifier : Option Token → Bool
begins_qualifier None = false
begins_qualifier (Some t) = begins_qualifier_by t.kind

abbrev pub not_brace : Option Token → Bool
not_brace h = not (sees p.RightBrace h)

abbrev pub as_parameters : List ParameterTree → ℕ → ℕ → ParametersTree
as_parameters parameters a z = if is_only_void (parameters_of parameters) then OnlyVoid a z else Listed (parameters_of parameters) a z

abbrev pub takes_name : Naming → Bool
takes_name naming.Unnamed = false
takes_name _ = true

abbrev pub takes_none : Naming → Bool
takes_none naming.Named = false
takes_none _ = true

-- the least depth behind a `*`, or inside parentheses
abbrev pub least : Naming → ℕ
least naming.Named = 1
least _ = 0

-- The names that are type names.
module _ (names : List ℕ) where
  abbrev pub begins_type_by : Kind → Bool
  begins_type_by (kind.Name n) = is_type names n
  begins_type_by (kind.Keyword x) = begins_type_word x
  begins_type_by _ = false

  abbrev pub begins_type : Option Token → Bool
  begins_type None = false
  begins_type (Some t) = begins_type_by t.kind

  -- a name that is no type name, with its place
  abbrev pub name_by : Token → Kind → Parser Tag
  name_by t (kind.Name n) = if is_type names n then refuse S1 else (after t >> pure (record { name = n; from = t.from; to = t.to }))
  name_by t _ = refuse S1

  abbrev pub name_at : Option Token → Parser Tag
  name_at None = refuse S1
  name_at (Some t) = name_by t t.kind

  unfoldable pub plain_name : Parser Tag
  plain_name = look name_at

  -- The readers of expressions in a depth of suc d, over those of d.
  module _ (d : ℕ) (below : Parsers) where
    abbrev pub type_name_from : Option Token → Parser TypeNameTree
    type_name_from h = below.specs false >>= (λ s. below.declarator naming.Unnamed >>= (λ x. ended >>= (λ z. pure (OfTypeName s x (from_of h) z))))

    unfoldable pub type_name : Parser TypeNameTree
    type_name = look type_name_from

    abbrev pub conds_at : Parser (List ExprTree) → Option Token → Parser (List ExprTree)
    conds_at more h = if sees p.Comma h then (mark p.Comma >> below.expr cond_level >>= (λ e. more >>= (λ es. pure (e ∷ es)))) else pure []

    -- no more than so many further expressions with commas between
    unfoldable pub conds : ℕ → Parser (List ExprTree)
    conds zero = pure []
    conds (suc n) = look (conds_at (conds n))

    abbrev pub arguments_at : Option Token → Parser (List ExprTree)
    arguments_at h = if sees p.RightParenthesis h then pure [] else commas (below.expr 1)

    -- one more operator behind an operand, whose token is taken
    abbrev pub gone : ℕ → ExprTree → Infix → Parser ExprTree
    gone from left (Between op) = below.expr (right_level op) >>= (λ r. ended >>= (λ z. pure (Binary op left r from z)))
    gone from left Choice = below.expr 0 >>= (λ x. mark p.Colon >> below.expr cond_level >>= (λ y. ended >>= (λ z. pure (Conditional left x y from z))))
    gone from left Indexed = below.expr 0 >>= (λ x. mark p.RightBracket >> ended >>= (λ z. pure (Index left x from z)))
    gone from left Called = look arguments_at >>= (λ xs. mark p.RightParenthesis >> ended >>= (λ z. pure (Call left (exprs_of xs) from z)))
    gone from left Dotted = plain_name >>= (λ n. ended >>= (λ z. pure (Dot left n.name from z)))
    gone from left Arrowed = plain_name >>= (λ n. ended >>= (λ z. pure (Arrow left n.name from z)))
    gone from left (Stepped s) = ended >>= (λ z. pure (Postfix s left from z))

    abbrev pub going : ℕ → ExprTree → Infix → Token → Parser ExprTree
    going from left x t = needs (expr_height left) d >> after t >> gone from left x

    abbrev pub turn : ℕ → ExprTree → (ExprTree → Parser ExprTree) → Option (Infix × Token) → Parser ExprTree
    turn from left more None = pure left
    turn from left more (Some q) = going from left q.0 q.1 >>= more

    abbrev pub last : ExprTree → Option (Infix × Token) → Parser ExprTree
    last left None = pure left
    last left (Some q) = refuse S2

    -- Each turn adds to the height, so the count of turns is never used up.
    unfoldable pub climb : ℕ → ℕ → ℕ → ExprTree → Parser ExprTree
    climb from level zero left = next level left >>= last left
    climb from level (suc n) left = next level left >>= turn from left (climb from level n)

    abbrev pub paren : ℕ → Parser ExprTree
    paren from = below.expr 0 >>= (λ e. mark p.RightParenthesis >> ended >>= (λ z. pure (Paren e from z)))

    abbrev pub cast : ℕ → Parser ExprTree
    cast from = type_name >>= (λ t. mark p.RightParenthesis >> below.expr cast_level >>= (λ e. ended >>= (λ z. pure (Cast t e from z))))

    abbrev pub bracket_at : ℕ → ℕ → Option Token → Parser ExprTree
    bracket_at level from h = if begins_type h then (if nat_le level cast_level then cast from else refuse S1) else paren from

    abbrev pub in_front : Token → Option PrefixOperator → Parser ExprTree
    in_front t None = refuse S1
    in_front t (Some op) = needs 1 d >> after t >> below.expr (prefix_level op) >>= (λ e. ended >>= (λ z. pure (Prefix op e t.from z)))

    abbrev pub sizeof_type : ℕ → Parser ExprTree
    sizeof_type from = type_name >>= (λ t. mark p.RightParenthesis >> ended >>= (λ z. pure (SizeofType t from z)))

    abbrev pub sizeof_open : ℕ → ℕ → Option Token → Parser ExprTree
    sizeof_open from place h = if begins_type h then sizeof_type from else (below.opened place >>= (λ e. ended >>= (λ z. pure (SizeofExpr e from z))))

    abbrev pub sizeof_at : ℕ → Option Token → Parser ExprTree
    sizeof_at from h = if sees p.LeftParenthesis h then (mark p.LeftParenthesis >> look (sizeof_open from (from_of h))) else (below.expr unary_level >>= (λ e. ended >>= (λ z. pure (SizeofExpr e from z))))

    abbrev pub operand_mark : ℕ → Token → Punct → Parser ExprTree
    operand_mark level t x = if same_mark x p.LeftParenthesis then (needs 1 d >> after t >> look (bracket_at level t.from)) else in_front t (prefix_of x)

    abbrev pub operand_by : ℕ → Token → Kind → Parser ExprTree
    operand_by level t (kind.Name n) = if is_type names n then refuse S1 else (after t >> pure (Identifier n t.from t.to))
    operand_by level t (kind.Integer value decimal unsigned long) = after t >> pure (Integer value decimal unsigned long t.from t.to)
    operand_by level t (kind.Character value) = after t >> pure (Character value t.from t.to)
    operand_by level t (kind.Text bytes) = after t >> iterate text_step bytes >>= (λ all. ended >>= (λ z. pure (Text all t.from z)))
    operand_by level t (kind.Punct x) = operand_mark level t x
    operand_by level t (kind.Keyword x) = if same_word x w.Sizeof then (after t >> look (sizeof_at t.from)) else refuse S1
    operand_by level t (kind.Include x) = refuse S1

    abbrev pub operand_at : ℕ → Option Token → Parser ExprTree
    operand_at level None = refuse S1
    operand_at level (Some t) = operand_by level t t.kind

    unfoldable pub operand : ℕ → Parser ExprTree
    operand level = look (operand_at level)

    abbrev pub level_from : ℕ → Option Token → Parser ExprTree
    level_from level h = operand level >>= climb (from_of h) level (suc d)

    unfoldable pub expr_level : ℕ → Parser ExprTree
    expr_level level = look (level_from level)

    unfoldable pub opened_level : ℕ → Parser ExprTree
    opened_level from = paren from >>= climb from unary_level (suc d)

  -- kinds that an expression begins with
  abbrev pub begins_expr_by : Kind → Bool
  begins_expr_by (kind.Name n) = not (is_type names n)
  begins_expr_by (kind.Integer value decimal unsigned long) = true
  begins_expr_by (kind.Character value) = true
  begins_expr_by (kind.Text bytes) = true
  begins_expr_by (kind.Punct x) = same_mark x p.LeftParenthesis || is_some (prefix_of x)
  begins_expr_by (kind.Keyword x) = same_word x w.Sizeof
  begins_expr_by (kind.Include x) = false

  abbrev pub no_room : {A : Type 0} → (Kind → Bool) → Option Token → Parser A
  no_room begins None = refuse S1
  no_room begins (Some t) = if begins t.kind then refuse S2 else refuse S1

  -- where no expression has room
  unfoldable pub no_expr : Parser ExprTree
  no_expr = look (no_room begins_expr_by)

  -- The readers of specifiers in a depth of d, over that of expressions in it and those below.
  module _ (d : ℕ) (here : Parsers) (below : Parsers) where
    abbrev pub ptrauth : ℕ → Parser QualifierTree
    ptrauth from = mark p.LeftParenthesis >> here.expr cond_level >>= (λ e. conds d here 2 >>= (λ es. mark p.RightParenthesis >> ended >>= (λ z. pure (Ptrauth (exprs_of (e ∷ es)) from z))))

    abbrev pub qualifier_by : Token → Kind → Parser QualifierTree
    qualifier_by t k = if is_word w.Const k then (after t >> pure (Const t.from t.to)) else (needs 1 d >> after t >> ptrauth t.from)

    abbrev pub qualifier_at : Option Token → Parser QualifierTree
    qualifier_at None = refuse S1
    qualifier_at (Some t) = qualifier_by t t.kind

    abbrev pub qualifier : Parser QualifierTree
    qualifier = look qualifier_at

    unfoldable pub qualifiers : Parser (List QualifierTree)
    qualifiers = many begins_qualifier qualifier []

    abbrev pub member_from : Option Token → Parser MemberTree
    member_from h = below.specs true >>= (λ s. commas (below.declarator naming.Named) >>= (λ ds. mark p.Semicolon >> ended >>= (λ z. pure (OfMember s (declarators_of ds) (from_of h) z))))

    unfoldable pub member : Parser MemberTree
    member = look member_from

    abbrev pub struct_body : ℕ → Option Tag → Parser BaseTree
    struct_body from tag =
        needs 2 d >> mark p.LeftBrace >> member >>= (λ m. many not_brace member (m ∷ []) >>= (λ ms. mark p.RightBrace >> ended >>= (λ z. pure (StructBody tag (members_of ms) from z))))

    abbrev pub value_at : Option Token → Parser MaybeExprTree
    value_at h = if sees p.Assign h then (mark p.Assign >> below.expr cond_level >>= (λ e. pure (SomeExpr e))) else pure NoExpr

    abbrev pub enumerator_from : Option Token → Parser EnumeratorTree
    enumerator_from h = plain_name >>= (λ n. look value_at >>= (λ v. ended >>= (λ z. pure (OfEnumerator n.name v (from_of h) z))))

    unfoldable pub enumerator : Parser EnumeratorTree
    enumerator = look enumerator_from

    abbrev pub enumerator_behind : List EnumeratorTree → Option Token → Parser (Next (List EnumeratorTree) (List EnumeratorTree))
    enumerator_behind items h = if sees p.RightBrace h then pure (Done items) else (enumerator >>= (λ x. pure (More (items ++ x ∷ []))))

    abbrev pub enumerator_at : List EnumeratorTree → Option Token → Parser (Next (List EnumeratorTree) (List EnumeratorTree))
    enumerator_at items h = if sees p.Comma h then (mark p.Comma >> look (enumerator_behind items)) else pure (Done items)

    abbrev pub enumerator_step : List EnumeratorTree → Parser (Next (List EnumeratorTree) (List EnumeratorTree))
    enumerator_step items = look (enumerator_at items)

    abbrev pub enum_body : ℕ → Option Tag → Parser BaseTree
    enum_body from tag =
        needs 2 d >> mark p.LeftBrace >> enumerator >>= (λ x. iterate enumerator_step (x ∷ []) >>= (λ xs. mark p.RightBrace >> ended >>= (λ z. pure (EnumBody tag (enumerators_of xs) from z))))

    -- behind `struct` or `enum`: a tag, a body, or both
    abbrev pub tagged_at : Bool → (Option Tag → Parser BaseTree) → (Tag → ℕ → BaseTree) → Tag → Option Token → Parser BaseTree
    tagged_at bodies body alone tag h = if bodies && sees p.LeftBrace h then body (Some tag) else (ended >>= (λ z. pure (alone tag z)))

    abbrev pub struct_at : Bool → (Option Tag → Parser BaseTree) → (Tag → ℕ → BaseTree) → Option Token → Parser BaseTree
    struct_at bodies body alone h = if bodies && sees p.LeftBrace h then body None else (plain_name >>= (λ tag. look (tagged_at bodies body alone tag)))

    abbrev pub words_at : Token → Option IntegerWord → Parser BaseTree
    words_at t None = refuse S1
    words_at t (Some x) = after t >> iterate word_step (x ∷ []) >>= (λ xs. ended >>= (λ z. pure (Words xs t.from z)))

    abbrev pub base_word : Bool → Token → Keyword → Parser BaseTree
    base_word bodies t w.Void = after t >> pure (Void t.from t.to)
    base_word bodies t w.Bool = after t >> pure (Boolean t.from t.to)
    base_word bodies t w.Struct = after t >> look (struct_at bodies (struct_body t.from) (λ tag z. StructTag tag t.from z))
    base_word bodies t w.Enum = after t >> look (struct_at bodies (enum_body t.from) (λ tag z. EnumTag tag t.from z))
    base_word bodies t x = words_at t (word_in x)

    abbrev pub base_by : Bool → Token → Kind → Parser BaseTree
    base_by bodies t (kind.Name n) = if is_type names n then (after t >> pure (TypedefName n t.from t.to)) else refuse S1
    base_by bodies t (kind.Keyword x) = base_word bodies t x
    base_by bodies t _ = refuse S1

    abbrev pub base_at : Bool → Option Token → Parser BaseTree
    base_at bodies None = refuse S1
    base_at bodies (Some t) = base_by bodies t t.kind

    unfoldable pub base : Bool → Parser BaseTree
    base bodies = look (base_at bodies)

    abbrev pub specs_from : Bool → Option Token → Parser SpecsTree
    specs_from bodies h = qualifiers >>= (λ b. base bodies >>= (λ x. qualifiers >>= (λ a. ended >>= (λ z. pure (OfSpecs (qualifiers_of b) x (qualifiers_of a) (from_of h) z)))))

    unfoldable pub specs_level : Bool → Parser SpecsTree
    specs_level bodies = look (specs_from bodies)

  -- The readers of declarators in a depth of suc d, over those of d.
  module _ (d : ℕ) (below : Parsers) where
    abbrev pub length_at : Option Token → Parser MaybeExprTree
    length_at h = if sees p.RightBracket h then pure NoExpr else (below.expr cond_level >>= (λ e. pure (SomeExpr e)))

    abbrev pub array : ℕ → DeclaratorTree → Parser DeclaratorTree
    array from of = look length_at >>= (λ n. mark p.RightBracket >> ended >>= (λ z. pure (Array of n from z)))

    abbrev pub parameter_from : Option Token → Parser ParameterTree
    parameter_from h = below.specs false >>= (λ s. below.declarator naming.Either >>= (λ x. ended >>= (λ z. pure (OfParameter s x (from_of h) z))))

    unfoldable pub parameter : Parser ParameterTree
    parameter = look parameter_from

    abbrev pub parameters_at : Option Token → Parser ParametersTree
    parameters_at h = if sees p.RightParenthesis h then (ended >>= (λ a. pure (Empty a a))) else (commas parameter >>= (λ ps. ended >>= (λ z. pure (as_parameters ps (from_of h) z))))

    abbrev pub function : ℕ → DeclaratorTree → Parser DeclaratorTree
    function from of = look parameters_at >>= (λ ps. mark p.RightParenthesis >> ended >>= (λ z. pure (Function of ps from z)))

    abbrev pub suffix_by : ℕ → DeclaratorTree → Token → Kind → Parser (Option DeclaratorTree)
    suffix_by from of t k =
        if is_mark p.LeftBracket k then (needs (declarator_height of) d >> after t >> array from of >>= (λ x. pure (Some x)))
        else (if is_mark p.LeftParenthesis k then (needs (declarator_height of) d >> after t >> function from of >>= (λ x. pure (Some x))) else pure None)

    abbrev pub suffix_at : ℕ → DeclaratorTree → Option Token → Parser (Option DeclaratorTree)
    suffix_at from of None = pure None
    suffix_at from of (Some t) = suffix_by from of t t.kind

    -- one more array or function part, or none
    unfoldable pub suffix : ℕ → DeclaratorTree → Parser (Option DeclaratorTree)
    suffix from of = look (suffix_at from of)

    abbrev pub suffixed : (DeclaratorTree → Parser DeclaratorTree) → DeclaratorTree → Option DeclaratorTree → Parser DeclaratorTree
    suffixed more of None = pure of
    suffixed more of (Some x) = more x

    -- Each turn adds to the height, so the count of turns is never used up.
    unfoldable pub suffixes : ℕ → ℕ → DeclaratorTree → Parser DeclaratorTree
    suffixes from zero of = suffix from of >>= suffixed (λ x. refuse S2) of
    suffixes from (suc n) of = suffix from of >>= suffixed (suffixes from n) of

    abbrev pub pointer : Naming → ℕ → Parser DeclaratorTree
    pointer name from = qualifiers d below below >>= (λ qs. below.declarator name >>= (λ x. ended >>= (λ z. pure (Pointer (qualifiers_of qs) x from z))))

    abbrev pub grouped : Naming → ℕ → Parser DeclaratorTree
    grouped name from = below.declarator name >>= (λ x. mark p.RightParenthesis >> ended >>= (λ z. pure (Grouped x from z)))

    -- behind a `(` that may begin parameters of no name
    abbrev pub open_at : Naming → ℕ → ℕ → Option Token → Parser DeclaratorTree
    open_at name from end h = if takes_none name && (begins_type h || sees p.RightParenthesis h) then function from (Absent end end) else grouped name from

    abbrev pub direct_mark : Naming → Token → ℕ → Kind → Parser DeclaratorTree
    direct_mark name t end k =
        if is_mark p.LeftParenthesis k then (needs (least name) d >> after t >> look (open_at name t.from end) >>= suffixes t.from (suc d))
        else (if takes_none name then suffixes t.from (suc d) (Absent end end) else refuse S1)

    abbrev pub direct_by : Naming → Token → ℕ → Kind → Parser DeclaratorTree
    direct_by name t end (kind.Name n) =
        if takes_name name && not (is_type names n) then (after t >> suffixes t.from (suc d) (Named n t.from t.to))
        else (if takes_none name then pure (Absent end end) else refuse S1)
    direct_by name t end k = direct_mark name t end k

    abbrev pub declarator_by : Naming → Token → ℕ → Kind → Parser DeclaratorTree
    declarator_by name t end k = if is_mark p.Star k then (needs (least name) d >> after t >> pointer name t.from) else direct_by name t end k

    abbrev pub declarator_at : Naming → ℕ → Option Token → Parser DeclaratorTree
    declarator_at name end None = if takes_none name then pure (Absent end end) else refuse S1
    declarator_at name end (Some t) = declarator_by name t end t.kind

    unfoldable pub declarator_level : Naming → Parser DeclaratorTree
    declarator_level name = ended >>= (λ end. look (declarator_at name end))

  -- kinds that a declarator with a leaf begins with
  abbrev pub begins_declarator : Naming → Kind → Bool
  begins_declarator name (kind.Name n) = takes_name name && not (is_type names n)
  begins_declarator name k = is_mark p.Star k || (is_mark p.LeftParenthesis k || (takes_none name && is_mark p.LeftBracket k))

  abbrev pub bare_at : Naming → ℕ → Option Token → Parser DeclaratorTree
  bare_at name end None = if takes_none name then pure (Absent end end) else refuse S1
  bare_at name end (Some t) = if begins_declarator name t.kind then refuse S2 else (if takes_none name then pure (Absent end end) else refuse S1)

  -- where no leaf has room
  unfoldable pub bare_declarator : Naming → Parser DeclaratorTree
  bare_declarator name = ended >>= (λ end. look (bare_at name end))

  abbrev pub no_parsers : Parsers
  no_parsers = record { expr = λ level. no_expr; opened = λ from. no_expr; specs = λ bodies. refuse S2; declarator = bare_declarator }

  unfoldable pub parsers : ℕ → Parsers
  parsers zero = record { expr = λ level. no_expr; opened = λ from. no_expr; specs = specs_level 0 no_parsers no_parsers; declarator = bare_declarator }
  parsers (suc d) = record {
    expr = expr_level d (parsers d);
    opened = opened_level d (parsers d);
    specs = specs_level (suc d) (record { expr = expr_level d (parsers d); opened = opened_level d (parsers d); specs = λ bodies. refuse S2; declarator = λ name. refuse S2 }) (parsers d);
    declarator = declarator_level d (parsers d);
  }
