-- Which tokens a tree of an expression, of specifiers or of a declarator spells: its leaves, from left to right.
use Rattle.std.specs.Prelude.{◌≡◌, ◌≢◌, ◌≤◌, ◌⊎◌, ◌==◌, ℕ, suc, Bool, true, false, List, [], ◌∷◌, Option, Some, None}
use Rattle.std.specs.List.{list_any, concat}
use Rattle.pa_lex.specs.declared.token.Kind.TheVariants as kind
use Rattle.pa_lex.specs.declared.token.Keyword.TheVariants as w
use Rattle.pa_lex.specs.declared.token.Punct.TheVariants as p
use Rattle.pa_tree.specs.declared.expr.Tag.{Tag}
use Rattle.pa_tree.specs.declared.operator.IntegerWord.{IntegerWord}
use Rattle.pa_tree.specs.Cursors.{Cursor, Takes, Shifts, Lies, Nothing, Mark, Word}
use Rattle.pa_tree.specs.Operators.{cond_level, cast_level, unary_level, postfix_level, level_of, left_level, right_level, sign, step_sign, prefix_sign, prefix_level, word_of, are_integer_type}
use Rattle.pa_tree.specs.Exprs.{ExprTree, Identifier, Integer, Character, Text, Paren, Index, Call, Dot, Arrow, Postfix, Prefix, SizeofExpr, SizeofType, Cast, Binary, Conditional, TypeNameTree, OfTypeName, SpecsTree, OfSpecs, QualifierTree, Const, Ptrauth, BaseTree, Void, Boolean, Words, TypedefName, StructTag, StructBody, EnumTag, EnumBody, MemberTree, OfMember, EnumeratorTree, OfEnumerator, DeclaratorTree, Named, Absent, Pointer, Grouped, Array, Function, ParametersTree, Empty, OnlyVoid, Listed, ParameterTree, OfParameter, ExprTrees, NoExprs, ConsExpr, QualifierTrees, NoQualifiers, ConsQualifier, MemberTrees, NoMembers, ConsMember, EnumeratorTrees, NoEnumerators, ConsEnumerator, DeclaratorTrees, NoDeclarators, ConsDeclarator, ParameterTrees, NoParameters, ConsParameter, MaybeExprTree, NoExpr, SomeExpr}

-- string literals side by side
abbrev pub TextsSpell : List (List ℕ) → Cursor → Cursor → Type 0
TextsSpell [] c d = c ≡ d
TextsSpell (bytes ∷ more) c d = (m : Cursor) × Shifts (kind.Text bytes) c m × TextsSpell more m d

abbrev pub WordsSpell : List IntegerWord → Cursor → Cursor → Type 0
WordsSpell [] c d = c ≡ d
WordsSpell (x ∷ xs) c d = (m : Cursor) × Word (word_of x) c m × WordsSpell xs m d

-- a last comma, or none
abbrev pub LastComma : Cursor → Cursor → Type 0
LastComma c d = (c ≡ d) ⊎ Mark p.Comma c d

-- a declarator that declares a name
abbrev pub has_name : DeclaratorTree → Bool
has_name (Named name a z) = true
has_name (Absent a z) = false
has_name (Pointer _ of a z) = has_name of
has_name (Grouped inner a z) = has_name inner
has_name (Array of _ a z) = has_name of
has_name (Function of _ a z) = has_name of

abbrev pub is_absent : DeclaratorTree → Bool
is_absent (Absent a z) = true
is_absent _ = false

-- `void` alone
abbrev pub is_only_void : ParameterTrees → Bool
is_only_void (ConsParameter (OfParameter (OfSpecs NoQualifiers (Void _ _) NoQualifiers _ _) (Absent _ _) _ _) NoParameters) = true
is_only_void _ = false

abbrev pub expr_count : ExprTrees → ℕ
expr_count NoExprs = 0
expr_count (ConsExpr e es) = suc (expr_count es)

-- The names that are type names, by number.
module _ (names : List ℕ) where
  abbrev pub is_type : ℕ → Bool
  is_type name = list_any (λ n. n == name) names

  -- a name that is no type name
  abbrev pub NameSpells : ℕ → ℕ → ℕ → Cursor → Cursor → Type 0
  NameSpells name a z c d = (is_type name ≡ false) × Takes (kind.Name name) a z c d

  abbrev pub PlainName : ℕ → Cursor → Cursor → Type 0
  PlainName name c d = (is_type name ≡ false) × Shifts (kind.Name name) c d

  abbrev pub TagSpells : Tag → Cursor → Cursor → Type 0
  TagSpells tag c d = NameSpells tag.name tag.from tag.to c d

  abbrev pub MaybeTagSpells : Option Tag → Cursor → Cursor → Type 0
  MaybeTagSpells None c d = c ≡ d
  MaybeTagSpells (Some tag) c d = TagSpells tag c d

  -- From c to d stand the leaves of the tree. `level` is the nonterminal of C11 that the tree is a case of (0: any expression).
  abbrev mutual
    pub ExprSpells : ℕ → ExprTree → Cursor → Cursor → Type 0
    ExprSpells level (Identifier name a z) c d = NameSpells name a z c d
    ExprSpells level (Integer value decimal unsigned long a z) c d = Takes (kind.Integer value decimal unsigned long) a z c d
    ExprSpells level (Character value a z) c d = Takes (kind.Character value) a z c d
    ExprSpells level (Text bytes a z) c d = (first : List ℕ) × (more : List (List ℕ)) × (bytes ≡ concat (first ∷ more)) × TextsSpell (first ∷ more) c d × Lies a z c d
    ExprSpells level (Paren inner a z) c d = (m n : Cursor) × Mark p.LeftParenthesis c m × ExprSpells 0 inner m n × Mark p.RightParenthesis n d × Lies a z c d
    ExprSpells level (Index of at a z) c d = (m n o : Cursor) × ExprSpells postfix_level of c m × Mark p.LeftBracket m n × ExprSpells 0 at n o × Mark p.RightBracket o d × Lies a z c d
    ExprSpells level (Call of arguments a z) c d = (m n o : Cursor) × ExprSpells postfix_level of c m × Mark p.LeftParenthesis m n × ArgumentsSpell arguments n o × Mark p.RightParenthesis o d × Lies a z c d
    ExprSpells level (Dot of member a z) c d = (m n : Cursor) × ExprSpells postfix_level of c m × Mark p.Dot m n × PlainName member n d × Lies a z c d
    ExprSpells level (Arrow of member a z) c d = (m n : Cursor) × ExprSpells postfix_level of c m × Mark p.Arrow m n × PlainName member n d × Lies a z c d
    ExprSpells level (Postfix op of a z) c d = (m : Cursor) × ExprSpells postfix_level of c m × Mark (step_sign op) m d × Lies a z c d
    ExprSpells level (Prefix op of a z) c d = (m : Cursor) × (level ≤ unary_level) × Mark (prefix_sign op) c m × ExprSpells (prefix_level op) of m d × Lies a z c d
    ExprSpells level (SizeofExpr of a z) c d = (m : Cursor) × (level ≤ unary_level) × Word w.Sizeof c m × ExprSpells unary_level of m d × Lies a z c d
    ExprSpells level (SizeofType of a z) c d = (m n o : Cursor) × (level ≤ unary_level) × Word w.Sizeof c m × Mark p.LeftParenthesis m n × TypeNameSpells of n o × Mark p.RightParenthesis o d × Lies a z c d
    ExprSpells level (Cast wanted of a z) c d = (m n o : Cursor) × (level ≤ cast_level) × Mark p.LeftParenthesis c m × TypeNameSpells wanted m n × Mark p.RightParenthesis n o × ExprSpells cast_level of o d × Lies a z c d
    ExprSpells level (Binary op left right a z) c d = (m n : Cursor) × (level ≤ level_of op) × ExprSpells (left_level op) left c m × Mark (sign op) m n × ExprSpells (right_level op) right n d × Lies a z c d
    ExprSpells level (Conditional test when_true when_false a z) c d =
        (m n o q : Cursor) × (level ≤ cond_level) × ExprSpells (suc cond_level) test c m × Mark p.Question m n × ExprSpells 0 when_true n o × Mark p.Colon o q × ExprSpells cond_level when_false q d × Lies a z c d

    -- a list with commas between
    pub CommaExprs : ℕ → ExprTrees → Cursor → Cursor → Type 0
    CommaExprs level NoExprs c d = c ≡ d
    CommaExprs level (ConsExpr e es) c d = (m n : Cursor) × Mark p.Comma c m × ExprSpells level e m n × CommaExprs level es n d

    pub ArgumentsSpell : ExprTrees → Cursor → Cursor → Type 0
    ArgumentsSpell NoExprs c d = c ≡ d
    ArgumentsSpell (ConsExpr e es) c d = (m : Cursor) × ExprSpells 1 e c m × CommaExprs 1 es m d

    pub TypeNameSpells : TypeNameTree → Cursor → Cursor → Type 0
    TypeNameSpells (OfTypeName specs declarator a z) c d = (m : Cursor) × SpecsSpell false specs c m × (has_name declarator ≡ false) × DeclaratorSpells 0 declarator m d × Lies a z c d

    -- `bodies`: the body of a struct or of an enumeration may stand here
    pub SpecsSpell : Bool → SpecsTree → Cursor → Cursor → Type 0
    SpecsSpell bodies (OfSpecs before base after a z) c d = (m n : Cursor) × QualifiersSpell before c m × BaseSpells bodies base m n × QualifiersSpell after n d × Lies a z c d

    pub QualifierSpells : QualifierTree → Cursor → Cursor → Type 0
    QualifierSpells (Const a z) c d = Takes (kind.Keyword w.Const) a z c d
    QualifierSpells (Ptrauth arguments a z) c d = (m n o : Cursor) × Word w.Ptrauth c m × Mark p.LeftParenthesis m n × PtrauthArguments arguments n o × Mark p.RightParenthesis o d × Lies a z c d

    pub PtrauthArguments : ExprTrees → Cursor → Cursor → Type 0
    PtrauthArguments NoExprs c d = ⊥
    PtrauthArguments (ConsExpr e es) c d = (m : Cursor) × (expr_count es ≤ 2) × ExprSpells cond_level e c m × CommaExprs cond_level es m d

    pub QualifiersSpell : QualifierTrees → Cursor → Cursor → Type 0
    QualifiersSpell NoQualifiers c d = c ≡ d
    QualifiersSpell (ConsQualifier q qs) c d = (m : Cursor) × QualifierSpells q c m × QualifiersSpell qs m d

    pub BaseSpells : Bool → BaseTree → Cursor → Cursor → Type 0
    BaseSpells bodies (Void a z) c d = Takes (kind.Keyword w.Void) a z c d
    BaseSpells bodies (Boolean a z) c d = Takes (kind.Keyword w.Bool) a z c d
    BaseSpells bodies (Words words a z) c d = (are_integer_type words ≡ true) × WordsSpell words c d × Lies a z c d
    BaseSpells bodies (TypedefName name a z) c d = (is_type name ≡ true) × Takes (kind.Name name) a z c d
    BaseSpells bodies (StructTag tag a z) c d = (m : Cursor) × Word w.Struct c m × TagSpells tag m d × Lies a z c d
    BaseSpells bodies (StructBody tag members a z) c d =
        (m n o q : Cursor) × (bodies ≡ true) × Word w.Struct c m × MaybeTagSpells tag m n × Mark p.LeftBrace n o × (members ≢ NoMembers) × MembersSpell members o q × Mark p.RightBrace q d × Lies a z c d
    BaseSpells bodies (EnumTag tag a z) c d = (m : Cursor) × Word w.Enum c m × TagSpells tag m d × Lies a z c d
    BaseSpells bodies (EnumBody tag enumerators a z) c d =
        (m n o q r : Cursor) × (bodies ≡ true) × Word w.Enum c m × MaybeTagSpells tag m n × Mark p.LeftBrace n o × EnumeratorsSpell enumerators o q × LastComma q r × Mark p.RightBrace r d × Lies a z c d

    pub MemberSpells : MemberTree → Cursor → Cursor → Type 0
    MemberSpells (OfMember specs declarators a z) c d = (m n : Cursor) × SpecsSpell true specs c m × DeclaratorsSpell declarators m n × Mark p.Semicolon n d × Lies a z c d

    pub MembersSpell : MemberTrees → Cursor → Cursor → Type 0
    MembersSpell NoMembers c d = c ≡ d
    MembersSpell (ConsMember x xs) c d = (m : Cursor) × MemberSpells x c m × MembersSpell xs m d

    pub EnumeratorSpells : EnumeratorTree → Cursor → Cursor → Type 0
    EnumeratorSpells (OfEnumerator name value a z) c d = (m : Cursor) × PlainName name c m × EnumeratorValue value m d × Lies a z c d

    pub EnumeratorValue : MaybeExprTree → Cursor → Cursor → Type 0
    EnumeratorValue NoExpr c d = c ≡ d
    EnumeratorValue (SomeExpr e) c d = (m : Cursor) × Mark p.Assign c m × ExprSpells cond_level e m d

    pub CommaEnumerators : EnumeratorTrees → Cursor → Cursor → Type 0
    CommaEnumerators NoEnumerators c d = c ≡ d
    CommaEnumerators (ConsEnumerator x xs) c d = (m n : Cursor) × Mark p.Comma c m × EnumeratorSpells x m n × CommaEnumerators xs n d

    pub EnumeratorsSpell : EnumeratorTrees → Cursor → Cursor → Type 0
    EnumeratorsSpell NoEnumerators c d = ⊥
    EnumeratorsSpell (ConsEnumerator x xs) c d = (m : Cursor) × EnumeratorSpells x c m × CommaEnumerators xs m d

    -- `level`: 0 a declarator, 1 a direct one, in front of which no `*` stands
    pub DeclaratorSpells : ℕ → DeclaratorTree → Cursor → Cursor → Type 0
    DeclaratorSpells level (Named name a z) c d = NameSpells name a z c d
    DeclaratorSpells level (Absent a z) c d = Nothing a z c d
    DeclaratorSpells level (Pointer qualifiers of a z) c d = (m n : Cursor) × (level ≡ 0) × Mark p.Star c m × QualifiersSpell qualifiers m n × DeclaratorSpells 0 of n d × Lies a z c d
    DeclaratorSpells level (Grouped inner a z) c d = (m n : Cursor) × (is_absent inner ≡ false) × Mark p.LeftParenthesis c m × DeclaratorSpells 0 inner m n × Mark p.RightParenthesis n d × Lies a z c d
    DeclaratorSpells level (Array of length a z) c d = (m n o : Cursor) × DeclaratorSpells 1 of c m × Mark p.LeftBracket m n × LengthSpells length n o × Mark p.RightBracket o d × Lies a z c d
    DeclaratorSpells level (Function of parameters a z) c d = (m n o : Cursor) × DeclaratorSpells 1 of c m × Mark p.LeftParenthesis m n × ParametersSpell parameters n o × Mark p.RightParenthesis o d × Lies a z c d

    pub LengthSpells : MaybeExprTree → Cursor → Cursor → Type 0
    LengthSpells NoExpr c d = c ≡ d
    LengthSpells (SomeExpr e) c d = ExprSpells cond_level e c d

    -- declarators of members, each with a name
    pub CommaDeclarators : DeclaratorTrees → Cursor → Cursor → Type 0
    CommaDeclarators NoDeclarators c d = c ≡ d
    CommaDeclarators (ConsDeclarator x xs) c d = (m n : Cursor) × Mark p.Comma c m × (has_name x ≡ true) × DeclaratorSpells 0 x m n × CommaDeclarators xs n d

    pub DeclaratorsSpell : DeclaratorTrees → Cursor → Cursor → Type 0
    DeclaratorsSpell NoDeclarators c d = ⊥
    DeclaratorsSpell (ConsDeclarator x xs) c d = (m : Cursor) × (has_name x ≡ true) × DeclaratorSpells 0 x c m × CommaDeclarators xs m d

    pub ParametersSpell : ParametersTree → Cursor → Cursor → Type 0
    ParametersSpell (Empty a z) c d = Nothing a z c d
    ParametersSpell (OnlyVoid a z) c d = Takes (kind.Keyword w.Void) a z c d
    ParametersSpell (Listed parameters a z) c d = (is_only_void parameters ≡ false) × ParameterListSpells parameters c d × Lies a z c d

    pub ParameterSpells : ParameterTree → Cursor → Cursor → Type 0
    ParameterSpells (OfParameter specs declarator a z) c d = (m : Cursor) × SpecsSpell false specs c m × DeclaratorSpells 0 declarator m d × Lies a z c d

    pub CommaParameters : ParameterTrees → Cursor → Cursor → Type 0
    CommaParameters NoParameters c d = c ≡ d
    CommaParameters (ConsParameter x xs) c d = (m n : Cursor) × Mark p.Comma c m × ParameterSpells x m n × CommaParameters xs n d

    pub ParameterListSpells : ParameterTrees → Cursor → Cursor → Type 0
    ParameterListSpells NoParameters c d = ⊥
    ParameterListSpells (ConsParameter x xs) c d = (m : Cursor) × ParameterSpells x c m × CommaParameters xs m d
