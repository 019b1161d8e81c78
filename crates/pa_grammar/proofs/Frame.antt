-- A tree spells the same tokens where more tokens stand behind them.
use Rattle.std.proofs.Common.{◌≡◌, ℕ, suc, List, [], ◌∷◌, ◌++◌, Option, Some, None, Bool, true, false, ap, sym, ◌∙◌, subst, inl, inr}
use Rattle.pa_lex.specs.declared.token.Kind.{Kind}
use Rattle.pa_lex.specs.declared.token.Token.{Token}
use Rattle.pa_tree.specs.declared.expr.Tag.{Tag}
use Rattle.pa_tree.specs.declared.operator.IntegerWord.{IntegerWord}
use Rattle.pa_tree.specs.Cursors.{Cursor, head, from_of, Takes, Shifts, Lies, Nothing}
use Rattle.pa_tree.specs.Operators.{cond_level, cast_level, unary_level, postfix_level, left_level, right_level, prefix_level, are_integer_type}
use Rattle.pa_tree.specs.Exprs.{ExprTree, Identifier, Integer, Character, Text, Paren, Index, Call, Dot, Arrow, Postfix, Prefix, SizeofExpr, SizeofType, Cast, Binary, Conditional, TypeNameTree, OfTypeName, SpecsTree, OfSpecs, QualifierTree, Const, Ptrauth, BaseTree, Void, Boolean, Words, TypedefName, StructTag, StructBody, EnumTag, EnumBody, MemberTree, OfMember, EnumeratorTree, OfEnumerator, DeclaratorTree, Named, Absent, Pointer, Grouped, Array, Function, ParametersTree, Empty, OnlyVoid, Listed, ParameterTree, OfParameter, ExprTrees, NoExprs, ConsExpr, QualifierTrees, NoQualifiers, ConsQualifier, MemberTrees, NoMembers, ConsMember, EnumeratorTrees, NoEnumerators, ConsEnumerator, DeclaratorTrees, NoDeclarators, ConsDeclarator, ParameterTrees, NoParameters, ConsParameter, MaybeExprTree, NoExpr, SomeExpr}
use Rattle.pa_tree.specs.Spells.{TextsSpell, WordsSpell, LastComma, NameSpells, PlainName, MaybeTagSpells, ExprSpells, CommaExprs, ArgumentsSpell, TypeNameSpells, SpecsSpell, QualifierSpells, PtrauthArguments, QualifiersSpell, BaseSpells, MemberSpells, MembersSpell, EnumeratorSpells, EnumeratorValue, CommaEnumerators, EnumeratorsSpell, DeclaratorSpells, LengthSpells, CommaDeclarators, DeclaratorsSpell, ParametersSpell, ParameterSpells, CommaParameters, ParameterListSpells}

-- a place with these tokens behind all that are ahead
abbrev pub on : List Token → Cursor → Cursor
on x c = record { ended = c.ended; ahead = c.ahead ++ x }

module _ (x : List Token) where
  -- a token stands ahead
  abbrev pub Stands : Cursor → Type 0
  Stands c = head (c.ahead ++ x) ≡ head c.ahead

  stands_takes : {k : Kind} {a z : ℕ} {c d : Cursor} → Takes k a z c d → Stands c
  stands_takes h = rw h.ahead

  stands_shifts : {k : Kind} {c d : Cursor} → Shifts k c d → Stands c
  stands_shifts h = stands_takes h.takes

  on_takes : {k : Kind} {a z : ℕ} {c d : Cursor} → Takes k a z c d → Takes k a z (on x c) (on x d)
  on_takes h = record { ahead = ap (λ l. l ++ x) h.ahead; ended = h.ended }

  on_shifts : {k : Kind} {c d : Cursor} → Shifts k c d → Shifts k (on x c) (on x d)
  on_shifts h = record { from = h.from; to = h.to; takes = on_takes h.takes }

  on_lies : {a z : ℕ} {c d : Cursor} → Stands c → Lies a z c d → Lies a z (on x c) (on x d)
  on_lies s h = record { from_is = h.from_is ∙ ap from_of (sym s); to_is = h.to_is }

  on_nothing : {a z : ℕ} {c d : Cursor} → Nothing a z c d → Nothing a z (on x c) (on x d)
  on_nothing h = record { same = ap (on x) h.same; from_is = h.from_is; to_is = h.to_is }

  on_texts : (ts : List (List ℕ)) (c d : Cursor) → TextsSpell ts c d → TextsSpell ts (on x c) (on x d)
  on_texts [] c d h = ap (on x) h
  on_texts (t ∷ ts) c d (m, a, b) = (on x m, on_shifts a, on_texts ts m d b)

  on_words : (ws : List IntegerWord) (c d : Cursor) → WordsSpell ws c d → WordsSpell ws (on x c) (on x d)
  on_words [] c d h = ap (on x) h
  on_words (w ∷ ws) c d (m, a, b) = (on x m, on_shifts a, on_words ws m d b)

  on_comma : (c d : Cursor) → LastComma c d → LastComma (on x c) (on x d)
  on_comma c d (inl e) = inl (ap (on x) e)
  on_comma c d (inr h) = inr (on_shifts h)

  module _ (names : List ℕ) where
    on_name : {n : ℕ} {a z : ℕ} {c d : Cursor} → NameSpells names n a z c d → NameSpells names n a z (on x c) (on x d)
    on_name (q, h) = (q, on_takes h)

    on_plain : {n : ℕ} {c d : Cursor} → PlainName names n c d → PlainName names n (on x c) (on x d)
    on_plain (q, h) = (q, on_shifts h)

    on_maybe_tag : (tag : Option Tag) (c d : Cursor) → MaybeTagSpells names tag c d → MaybeTagSpells names tag (on x c) (on x d)
    on_maybe_tag None c d h = ap (on x) h
    on_maybe_tag (Some tag) c d h = on_name h

    stands_texts : (t : List ℕ) (ts : List (List ℕ)) (c d : Cursor) → TextsSpell (t ∷ ts) c d → Stands c
    stands_texts t ts c d (m, a, b) = stands_shifts a

    stands_expr : (t : ExprTree) (level : ℕ) (c d : Cursor) → ExprSpells names level t c d → Stands c
    stands_expr (Identifier name a z) level c d (q, h) = stands_takes h
    stands_expr (Integer value decimal unsigned long a z) level c d h = stands_takes h
    stands_expr (Character value a z) level c d h = stands_takes h
    stands_expr (Text bytes a z) level c d (first, more, e, h, l) = stands_texts first more c d h
    stands_expr (Paren inner a z) level c d (m, n, h, _, _, _) = stands_shifts h
    stands_expr (Index of at a z) level c d (m, n, o, h, _, _, _, _) = stands_expr of postfix_level c m h
    stands_expr (Call of arguments a z) level c d (m, n, o, h, _, _, _, _) = stands_expr of postfix_level c m h
    stands_expr (Dot of member a z) level c d (m, n, h, _, _, _) = stands_expr of postfix_level c m h
    stands_expr (Arrow of member a z) level c d (m, n, h, _, _, _) = stands_expr of postfix_level c m h
    stands_expr (Postfix op of a z) level c d (m, h, _, _) = stands_expr of postfix_level c m h
    stands_expr (Prefix op of a z) level c d (m, q, h, _, _) = stands_shifts h
    stands_expr (SizeofExpr of a z) level c d (m, q, h, _, _) = stands_shifts h
    stands_expr (SizeofType of a z) level c d (m, n, o, q, h, _, _, _, _) = stands_shifts h
    stands_expr (Cast wanted of a z) level c d (m, n, o, q, h, _, _, _, _) = stands_shifts h
    stands_expr (Binary op left right a z) level c d (m, n, q, h, _, _, _) = stands_expr left (left_level op) c m h
    stands_expr (Conditional test when_true when_false a z) level c d (m, n, o, u, q, h, _, _, _, _, _) = stands_expr test (suc cond_level) c m h

    stands_qualifier : (q : QualifierTree) (c d : Cursor) → QualifierSpells names q c d → Stands c
    stands_qualifier (Const a z) c d h = stands_takes h
    stands_qualifier (Ptrauth arguments a z) c d (m, n, o, h, _, _, _, _) = stands_shifts h

    stands_words : (ws : List IntegerWord) (c d : Cursor) → are_integer_type ws ≡ true → WordsSpell ws c d → Stands c
    stands_words [] c d e h = cc
    stands_words (w ∷ ws) c d e (m, a, b) = stands_shifts a

    stands_base : (bodies : Bool) (b : BaseTree) (c d : Cursor) → BaseSpells names bodies b c d → Stands c
    stands_base bodies (Void a z) c d h = stands_takes h
    stands_base bodies (Boolean a z) c d h = stands_takes h
    stands_base bodies (Words words a z) c d (e, h, l) = stands_words words c d e h
    stands_base bodies (TypedefName name a z) c d (q, h) = stands_takes h
    stands_base bodies (StructTag tag a z) c d (m, h, _, _) = stands_shifts h
    stands_base bodies (StructBody tag members a z) c d (m, n, o, u, q, h, _, _, _, _, _, _) = stands_shifts h
    stands_base bodies (EnumTag tag a z) c d (m, h, _, _) = stands_shifts h
    stands_base bodies (EnumBody tag enumerators a z) c d (m, n, o, u, v, q, h, _, _, _, _, _, _) = stands_shifts h

    stands_before : (qs : QualifierTrees) (c m : Cursor) → QualifiersSpell names qs c m → Stands m → Stands c
    stands_before NoQualifiers c m h s = subst Stands (sym h) s
    stands_before (ConsQualifier q qs) c m (n, h, r) s = stands_qualifier q c n h

    stands_specs : (bodies : Bool) (s : SpecsTree) (c d : Cursor) → SpecsSpell names bodies s c d → Stands c
    stands_specs bodies (OfSpecs before base after a z) c d (m, n, h, b, _, _) = stands_before before c m h (stands_base bodies base m n b)

    -- in front of a token
    stands_declarator : (t : DeclaratorTree) (level : ℕ) (c m : Cursor) → DeclaratorSpells names level t c m → Stands m → Stands c
    stands_declarator (Named name a z) level c m (q, h) s = stands_takes h
    stands_declarator (Absent a z) level c m h s = subst Stands (sym h.same) s
    stands_declarator (Pointer qualifiers of a z) level c m (n, o, q, h, _, _, _) s = stands_shifts h
    stands_declarator (Grouped inner a z) level c m (n, o, q, h, _, _, _) s = stands_shifts h
    stands_declarator (Array of length a z) level c m (n, o, u, h, k, _, _, _) s = stands_declarator of 1 c n h (stands_shifts k)
    stands_declarator (Function of parameters a z) level c m (n, o, u, h, k, _, _, _) s = stands_declarator of 1 c n h (stands_shifts k)

    stands_parameters : (ts : ParameterTrees) (c d : Cursor) → ParameterListSpells names ts c d → Stands c
    stands_parameters NoParameters c d h = absurd h
    stands_parameters (ConsParameter (OfParameter specs declarator a z) ts) c d (m, (n, s, _, _), _) = stands_specs false specs c n s

    mutual
      pub on_expr : (t : ExprTree) (level : ℕ) (c d : Cursor) → ExprSpells names level t c d → ExprSpells names level t (on x c) (on x d)
      on_expr (Identifier name a z) level c d h = on_name h
      on_expr (Integer value decimal unsigned long a z) level c d h = on_takes h
      on_expr (Character value a z) level c d h = on_takes h
      on_expr (Text bytes a z) level c d (first, more, e, h, l) = (first, more, e, on_texts (first ∷ more) c d h, on_lies (stands_texts first more c d h) l)
      on_expr (Paren inner a z) level c d (m, n, f, h, g, l) = (on x m, on x n, on_shifts f, on_expr inner 0 m n h, on_shifts g, on_lies (stands_shifts f) l)
      on_expr (Index of at a z) level c d (m, n, o, h, f, i, g, l) =
          (on x m, on x n, on x o, on_expr of postfix_level c m h, on_shifts f, on_expr at 0 n o i, on_shifts g, on_lies (stands_expr of postfix_level c m h) l)
      on_expr (Call of arguments a z) level c d (m, n, o, h, f, i, g, l) =
          (on x m, on x n, on x o, on_expr of postfix_level c m h, on_shifts f, on_arguments arguments n o i, on_shifts g, on_lies (stands_expr of postfix_level c m h) l)
      on_expr (Dot of member a z) level c d (m, n, h, f, g, l) = (on x m, on x n, on_expr of postfix_level c m h, on_shifts f, on_plain g, on_lies (stands_expr of postfix_level c m h) l)
      on_expr (Arrow of member a z) level c d (m, n, h, f, g, l) = (on x m, on x n, on_expr of postfix_level c m h, on_shifts f, on_plain g, on_lies (stands_expr of postfix_level c m h) l)
      on_expr (Postfix op of a z) level c d (m, h, f, l) = (on x m, on_expr of postfix_level c m h, on_shifts f, on_lies (stands_expr of postfix_level c m h) l)
      on_expr (Prefix op of a z) level c d (m, q, f, h, l) = (on x m, q, on_shifts f, on_expr of (prefix_level op) m d h, on_lies (stands_shifts f) l)
      on_expr (SizeofExpr of a z) level c d (m, q, f, h, l) = (on x m, q, on_shifts f, on_expr of unary_level m d h, on_lies (stands_shifts f) l)
      on_expr (SizeofType of a z) level c d (m, n, o, q, f, g, h, k, l) = (on x m, on x n, on x o, q, on_shifts f, on_shifts g, on_type_name of n o h, on_shifts k, on_lies (stands_shifts f) l)
      on_expr (Cast wanted of a z) level c d (m, n, o, q, f, h, g, i, l) =
          (on x m, on x n, on x o, q, on_shifts f, on_type_name wanted m n h, on_shifts g, on_expr of cast_level o d i, on_lies (stands_shifts f) l)
      on_expr (Binary op left right a z) level c d (m, n, q, h, f, i, l) =
          (on x m, on x n, q, on_expr left (left_level op) c m h, on_shifts f, on_expr right (right_level op) n d i, on_lies (stands_expr left (left_level op) c m h) l)
      on_expr (Conditional test when_true when_false a z) level c d (m, n, o, u, q, h, f, i, g, j, l) =
          (on x m, on x n, on x o, on x u, q, on_expr test (suc cond_level) c m h, on_shifts f, on_expr when_true 0 n o i, on_shifts g, on_expr when_false cond_level u d j, on_lies (stands_expr test (suc cond_level) c m h) l)

      on_comma_exprs : (level : ℕ) (es : ExprTrees) (c d : Cursor) → CommaExprs names level es c d → CommaExprs names level es (on x c) (on x d)
      on_comma_exprs level NoExprs c d h = ap (on x) h
      on_comma_exprs level (ConsExpr e es) c d (m, n, f, h, r) = (on x m, on x n, on_shifts f, on_expr e level m n h, on_comma_exprs level es n d r)

      on_arguments : (es : ExprTrees) (c d : Cursor) → ArgumentsSpell names es c d → ArgumentsSpell names es (on x c) (on x d)
      on_arguments NoExprs c d h = ap (on x) h
      on_arguments (ConsExpr e es) c d (m, h, r) = (on x m, on_expr e 1 c m h, on_comma_exprs 1 es m d r)

      on_type_name : (t : TypeNameTree) (c d : Cursor) → TypeNameSpells names t c d → TypeNameSpells names t (on x c) (on x d)
      on_type_name (OfTypeName specs declarator a z) c d (m, s, q, h, l) = (on x m, on_specs false specs c m s, q, on_declarator declarator 0 m d h, on_lies (stands_specs false specs c m s) l)

      pub on_specs : (bodies : Bool) (s : SpecsTree) (c d : Cursor) → SpecsSpell names bodies s c d → SpecsSpell names bodies s (on x c) (on x d)
      on_specs bodies (OfSpecs before base after a z) c d (m, n, h, b, k, l) =
          (on x m, on x n, on_qualifiers before c m h, on_base bodies base m n b, on_qualifiers after n d k, on_lies (stands_before before c m h (stands_base bodies base m n b)) l)

      on_qualifier : (q : QualifierTree) (c d : Cursor) → QualifierSpells names q c d → QualifierSpells names q (on x c) (on x d)
      on_qualifier (Const a z) c d h = on_takes h
      on_qualifier (Ptrauth arguments a z) c d (m, n, o, f, g, h, k, l) = (on x m, on x n, on x o, on_shifts f, on_shifts g, on_ptrauth arguments n o h, on_shifts k, on_lies (stands_shifts f) l)

      on_ptrauth : (es : ExprTrees) (c d : Cursor) → PtrauthArguments names es c d → PtrauthArguments names es (on x c) (on x d)
      on_ptrauth NoExprs c d h = h
      on_ptrauth (ConsExpr e es) c d (m, q, h, r) = (on x m, q, on_expr e cond_level c m h, on_comma_exprs cond_level es m d r)

      on_qualifiers : (qs : QualifierTrees) (c d : Cursor) → QualifiersSpell names qs c d → QualifiersSpell names qs (on x c) (on x d)
      on_qualifiers NoQualifiers c d h = ap (on x) h
      on_qualifiers (ConsQualifier q qs) c d (m, h, r) = (on x m, on_qualifier q c m h, on_qualifiers qs m d r)

      on_base : (bodies : Bool) (b : BaseTree) (c d : Cursor) → BaseSpells names bodies b c d → BaseSpells names bodies b (on x c) (on x d)
      on_base bodies (Void a z) c d h = on_takes h
      on_base bodies (Boolean a z) c d h = on_takes h
      on_base bodies (Words words a z) c d (e, h, l) = (e, on_words words c d h, on_lies (stands_words words c d e h) l)
      on_base bodies (TypedefName name a z) c d (q, h) = (q, on_takes h)
      on_base bodies (StructTag tag a z) c d (m, f, h, l) = (on x m, on_shifts f, on_name h, on_lies (stands_shifts f) l)
      on_base bodies (StructBody tag members a z) c d (m, n, o, u, q, f, h, g, e, i, k, l) =
          (on x m, on x n, on x o, on x u, q, on_shifts f, on_maybe_tag tag m n h, on_shifts g, e, on_members members o u i, on_shifts k, on_lies (stands_shifts f) l)
      on_base bodies (EnumTag tag a z) c d (m, f, h, l) = (on x m, on_shifts f, on_name h, on_lies (stands_shifts f) l)
      on_base bodies (EnumBody tag enumerators a z) c d (m, n, o, u, v, q, f, h, g, i, j, k, l) =
          (on x m, on x n, on x o, on x u, on x v, q, on_shifts f, on_maybe_tag tag m n h, on_shifts g, on_enumerators enumerators o u i, on_comma u v j, on_shifts k, on_lies (stands_shifts f) l)

      on_member : (t : MemberTree) (c d : Cursor) → MemberSpells names t c d → MemberSpells names t (on x c) (on x d)
      on_member (OfMember specs declarators a z) c d (m, n, s, h, f, l) = (on x m, on x n, on_specs true specs c m s, on_declarators declarators m n h, on_shifts f, on_lies (stands_specs true specs c m s) l)

      on_members : (ts : MemberTrees) (c d : Cursor) → MembersSpell names ts c d → MembersSpell names ts (on x c) (on x d)
      on_members NoMembers c d h = ap (on x) h
      on_members (ConsMember t ts) c d (m, h, r) = (on x m, on_member t c m h, on_members ts m d r)

      on_enumerator : (t : EnumeratorTree) (c d : Cursor) → EnumeratorSpells names t c d → EnumeratorSpells names t (on x c) (on x d)
      on_enumerator (OfEnumerator name value a z) c d (m, h, v, l) = (on x m, on_plain h, on_value value m d v, on_lies (stands_shifts h.1) l)

      on_value : (t : MaybeExprTree) (c d : Cursor) → EnumeratorValue names t c d → EnumeratorValue names t (on x c) (on x d)
      on_value NoExpr c d h = ap (on x) h
      on_value (SomeExpr e) c d (m, f, h) = (on x m, on_shifts f, on_expr e cond_level m d h)

      on_comma_enumerators : (ts : EnumeratorTrees) (c d : Cursor) → CommaEnumerators names ts c d → CommaEnumerators names ts (on x c) (on x d)
      on_comma_enumerators NoEnumerators c d h = ap (on x) h
      on_comma_enumerators (ConsEnumerator t ts) c d (m, n, f, h, r) = (on x m, on x n, on_shifts f, on_enumerator t m n h, on_comma_enumerators ts n d r)

      on_enumerators : (ts : EnumeratorTrees) (c d : Cursor) → EnumeratorsSpell names ts c d → EnumeratorsSpell names ts (on x c) (on x d)
      on_enumerators NoEnumerators c d h = h
      on_enumerators (ConsEnumerator t ts) c d (m, h, r) = (on x m, on_enumerator t c m h, on_comma_enumerators ts m d r)

      pub on_declarator : (t : DeclaratorTree) (level : ℕ) (c d : Cursor) → DeclaratorSpells names level t c d → DeclaratorSpells names level t (on x c) (on x d)
      on_declarator (Named name a z) level c d h = on_name h
      on_declarator (Absent a z) level c d h = on_nothing h
      on_declarator (Pointer qualifiers of a z) level c d (m, n, q, f, h, i, l) = (on x m, on x n, q, on_shifts f, on_qualifiers qualifiers m n h, on_declarator of 0 n d i, on_lies (stands_shifts f) l)
      on_declarator (Grouped inner a z) level c d (m, n, q, f, h, g, l) = (on x m, on x n, q, on_shifts f, on_declarator inner 0 m n h, on_shifts g, on_lies (stands_shifts f) l)
      on_declarator (Array of length a z) level c d (m, n, o, h, f, i, g, l) =
          (on x m, on x n, on x o, on_declarator of 1 c m h, on_shifts f, on_length length n o i, on_shifts g, on_lies (stands_declarator of 1 c m h (stands_shifts f)) l)
      on_declarator (Function of parameters a z) level c d (m, n, o, h, f, i, g, l) =
          (on x m, on x n, on x o, on_declarator of 1 c m h, on_shifts f, on_parameters parameters n o i, on_shifts g, on_lies (stands_declarator of 1 c m h (stands_shifts f)) l)

      on_length : (t : MaybeExprTree) (c d : Cursor) → LengthSpells names t c d → LengthSpells names t (on x c) (on x d)
      on_length NoExpr c d h = ap (on x) h
      on_length (SomeExpr e) c d h = on_expr e cond_level c d h

      on_comma_declarators : (ts : DeclaratorTrees) (c d : Cursor) → CommaDeclarators names ts c d → CommaDeclarators names ts (on x c) (on x d)
      on_comma_declarators NoDeclarators c d h = ap (on x) h
      on_comma_declarators (ConsDeclarator t ts) c d (m, n, f, q, h, r) = (on x m, on x n, on_shifts f, q, on_declarator t 0 m n h, on_comma_declarators ts n d r)

      on_declarators : (ts : DeclaratorTrees) (c d : Cursor) → DeclaratorsSpell names ts c d → DeclaratorsSpell names ts (on x c) (on x d)
      on_declarators NoDeclarators c d h = h
      on_declarators (ConsDeclarator t ts) c d (m, q, h, r) = (on x m, q, on_declarator t 0 c m h, on_comma_declarators ts m d r)

      on_parameters : (t : ParametersTree) (c d : Cursor) → ParametersSpell names t c d → ParametersSpell names t (on x c) (on x d)
      on_parameters (Empty a z) c d h = on_nothing h
      on_parameters (OnlyVoid a z) c d h = on_takes h
      on_parameters (Listed parameters a z) c d (q, h, l) = (q, on_parameter_list parameters c d h, on_lies (stands_parameters parameters c d h) l)

      on_parameter : (t : ParameterTree) (c d : Cursor) → ParameterSpells names t c d → ParameterSpells names t (on x c) (on x d)
      on_parameter (OfParameter specs declarator a z) c d (m, s, h, l) = (on x m, on_specs false specs c m s, on_declarator declarator 0 m d h, on_lies (stands_specs false specs c m s) l)

      on_comma_parameters : (ts : ParameterTrees) (c d : Cursor) → CommaParameters names ts c d → CommaParameters names ts (on x c) (on x d)
      on_comma_parameters NoParameters c d h = ap (on x) h
      on_comma_parameters (ConsParameter t ts) c d (m, n, f, h, r) = (on x m, on x n, on_shifts f, on_parameter t m n h, on_comma_parameters ts n d r)

      on_parameter_list : (ts : ParameterTrees) (c d : Cursor) → ParameterListSpells names ts c d → ParameterListSpells names ts (on x c) (on x d)
      on_parameter_list NoParameters c d h = h
      on_parameter_list (ConsParameter t ts) c d (m, h, r) = (on x m, on_parameter t c m h, on_comma_parameters ts m d r)
