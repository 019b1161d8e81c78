-- What the grammar has is read: specifiers and declarators.
use Rattle.std.proofs.Common.{◌≡◌, ◌≢◌, ◌≤◌, ℕ, zero, suc, List, [], ◌∷◌, ◌++◌, Option, Some, None, Ok, Bool, true, false, not, ◌&&◌, ◌||◌, refl, sym, ◌∙◌, ap, arith, append_assoc, append-nil, inl, inr}
use Rattle.pa_lex.specs.declared.token.Kind.{Kind}
use Rattle.pa_lex.specs.declared.token.Kind.TheVariants as kind
use Rattle.pa_lex.specs.declared.token.Keyword.TheVariants as w
use Rattle.pa_lex.specs.declared.token.Punct.{Punct}
use Rattle.pa_lex.specs.declared.token.Punct.TheVariants as p
use Rattle.pa_lex.specs.declared.token.Token.{Token}
use Rattle.pa_tree.specs.declared.expr.Tag.{Tag}
use Rattle.pa_tree.specs.declared.operator.IntegerWord.{IntegerWord}
use Rattle.pa_tree.specs.declared.operator.IntegerWord.TheVariants as word
use Rattle.pa_grammar.specs.declared.rule.Naming.{Naming}
use Rattle.pa_grammar.specs.declared.rule.Naming.TheVariants as naming
use Rattle.pa_tree.specs.Cursors.{Cursor, head, begin, Lies, Mark, Word}
use Rattle.pa_tree.specs.Exprs.{ExprTree, SpecsTree, OfSpecs, QualifierTree, Const, Ptrauth, BaseTree, Void, Boolean, Words, TypedefName, StructTag, StructBody, EnumTag, EnumBody, MemberTree, OfMember, EnumeratorTree, OfEnumerator, DeclaratorTree, Named, Absent, Pointer, Grouped, Array, Function, ExprTrees, NoExprs, ConsExpr, QualifierTrees, NoQualifiers, ConsQualifier, MemberTrees, NoMembers, ConsMember, EnumeratorTrees, NoEnumerators, ConsEnumerator, NoDeclarators, ConsDeclarator, MaybeExprTree, NoExpr, SomeExpr}
use Rattle.pa_tree.specs.Heights.{expr_height, exprs_height, maybe_expr_height, specs_height, qualifiers_height, base_height, member_height, members_height, enumerator_height, enumerators_height, declarator_height}
use Rattle.pa_tree.specs.Operators as operators
use Rattle.pa_tree.specs.Operators.{no_words, with_word, goes_with, is_integer_type, are_integer_type, word_of, word_in}
use Rattle.pa_tree.specs.Spells.{is_type, has_name, ExprSpells, CommaExprs, SpecsSpell, DeclaratorSpells, WordsSpell, LastComma, TagSpells, MaybeTagSpells, QualifierSpells, QualifiersSpell, BaseSpells, MemberSpells, MembersSpell, EnumeratorSpells, EnumeratorValue, EnumeratorsSpell, CommaEnumerators, is_absent, expr_count}
use Rattle.pa_tree.specs.Views.{exprs_of, qualifiers_of, members_of, enumerators_of, declarators_of}
use Rattle.pa_tree.proofs.Operators.{word_in_of}
use Rattle.pa_grammar.specs.Tokens.{is_mark, same_mark, same_word}
use Rattle.pa_grammar.specs.Parser.{Parser, Outcome, and_then, ◌>>=◌, ◌>>◌, pure, look, after, ended, sees, mark, Done, More, goes, iterate, many, commas}
use Rattle.pa_grammar.specs.Reading as reading
use Rattle.pa_grammar.specs.Reading.{Parsers, word_step, word_at, word_by, integer_word, begins_qualifier, begins_qualifier_by, begins_type, is_some, not_brace, takes_name, takes_none, least, next, next_at, next_by, plain_name, name_at, type_name, type_name_from, gone, going, turn, last, climb, operand, operand_at, level_from, expr_level, opened_level}
use Rattle.pa_grammar.proofs.Iterated.{one_turn}
use Rattle.pa_grammar.proofs.Eats.{item_step-shrinks, eats_left, eats_mark}
use Rattle.pa_grammar.proofs.Local.{Local}
use Rattle.pa_grammar.proofs.LocalReading.{AreLocal, word-shrinks, qualifier-eats, member-eats, enumerator-shrinks}
use Rattle.pa_grammar.proofs.Levels.{height_pos, Quiet, quiet_mark, quiet_comma}
use Rattle.pa_grammar.proofs.Heads.{specs_type, qualifier_head}
use Rattle.pa_grammar.proofs.ListsBack.{exprs_list, exprs_back, qualifiers_list, qualifiers_back, members_list, members_back, enumerators_list, enumerators_back, declarators_list, declarators_back, AsQualifier, qualifiers_chain, AsMember, members_chain, AsNamed, declarators_end, comma_declarators_back}
use Rattle.pa_grammar.proofs.Sound.{Fits, and_left, and_right}
use Rattle.pa_grammar.proofs.Complete.{AreComplete, name_is}
use Rattle.pa_grammar.proofs.Steps.{bind_is, look_is, look_at_is, took, taken, roomy, marked, sees_is, sees_not, from_is, close, if_true, if_false, many_is, commas_is}

-- kinds that end specifiers
abbrev pub ends_specs_kind : Kind → Bool
ends_specs_kind (kind.Keyword x) = not (same_word x w.Const || (same_word x w.Ptrauth || is_some (word_in x)))
ends_specs_kind (kind.Punct x) = not (same_mark x p.LeftBrace)
ends_specs_kind _ = true

abbrev pub ends_specs : Option Token → Bool
ends_specs None = true
ends_specs (Some t) = ends_specs_kind t.kind

-- kinds that end what a type is
abbrev pub ends_base_kind : Kind → Bool
ends_base_kind (kind.Keyword x) = not (is_some (word_in x))
ends_base_kind (kind.Punct x) = not (same_mark x p.LeftBrace)
ends_base_kind _ = true

abbrev pub ends_base : Option Token → Bool
ends_base None = true
ends_base (Some t) = ends_base_kind t.kind

-- kinds that end declarators
abbrev pub ends_declarator_kind : Kind → Bool
ends_declarator_kind (kind.Name n) = false
ends_declarator_kind (kind.Keyword x) = not (same_word x w.Const || same_word x w.Ptrauth)
ends_declarator_kind (kind.Punct x) = not (same_mark x p.Star || (same_mark x p.LeftParenthesis || same_mark x p.LeftBracket))
ends_declarator_kind _ = true

abbrev pub ends_declarator : Option Token → Bool
ends_declarator None = true
ends_declarator (Some t) = ends_declarator_kind t.kind

-- what stands behind a parameter or a type name
abbrev pub ends_abstract : Option Token → Bool
ends_abstract h = sees p.RightParenthesis h || sees p.Comma h

pub not_or_left : (x y : Bool) → not (x || y) ≡ true → x ≡ false
not_or_left true y e = cc
not_or_left false y e = refl

pub not_or_right : (x y : Bool) → not (x || y) ≡ true → y ≡ false
not_or_right true y e = cc
not_or_right false true e = cc
not_or_right false false e = refl

pub not_only : (x : Bool) → not x ≡ true → x ≡ false
not_only true e = cc
not_only false e = refl

pub and_false : (b : Bool) → (b && false) ≡ false
and_false true = refl
and_false false = refl

no_qualifier_kind : (k : Kind) → ends_specs_kind k ≡ true → begins_qualifier_by k ≡ false
no_qualifier_kind (kind.Keyword x) e = let a = not_or_left (same_word x w.Const) _ e in let b = not_or_left (same_word x w.Ptrauth) _ (ap not (not_or_right (same_word x w.Const) _ e)) in rw (a, b) refl
no_qualifier_kind (kind.Name n) e = refl
no_qualifier_kind (kind.Integer value decimal unsigned long) e = refl
no_qualifier_kind (kind.Character value) e = refl
no_qualifier_kind (kind.Text bytes) e = refl
no_qualifier_kind (kind.Punct x) e = refl
no_qualifier_kind (kind.Include x) e = refl

pub no_qualifier : (h : Option Token) → ends_specs h ≡ true → begins_qualifier h ≡ false
no_qualifier None e = refl
no_qualifier (Some t) e = no_qualifier_kind t.kind e

no_brace_kind : (k : Kind) → ends_base_kind k ≡ true → is_mark p.LeftBrace k ≡ false
no_brace_kind (kind.Punct x) e = not_only (same_mark x p.LeftBrace) e
no_brace_kind (kind.Keyword x) e = refl
no_brace_kind (kind.Name n) e = refl
no_brace_kind (kind.Integer value decimal unsigned long) e = refl
no_brace_kind (kind.Character value) e = refl
no_brace_kind (kind.Text bytes) e = refl
no_brace_kind (kind.Include x) e = refl

no_brace : (h : Option Token) → ends_base h ≡ true → sees p.LeftBrace h ≡ false
no_brace None e = refl
no_brace (Some t) e = no_brace_kind t.kind e

base_of_specs_kind : (k : Kind) → ends_specs_kind k ≡ true → ends_base_kind k ≡ true
base_of_specs_kind (kind.Keyword x) e = ap not (not_or_right (same_word x w.Ptrauth) _ (ap not (not_or_right (same_word x w.Const) _ e)))
base_of_specs_kind (kind.Punct x) e = e
base_of_specs_kind (kind.Name n) e = refl
base_of_specs_kind (kind.Integer value decimal unsigned long) e = refl
base_of_specs_kind (kind.Character value) e = refl
base_of_specs_kind (kind.Text bytes) e = refl
base_of_specs_kind (kind.Include x) e = refl

base_of_specs : (h : Option Token) → ends_specs h ≡ true → ends_base h ≡ true
base_of_specs None e = refl
base_of_specs (Some t) e = base_of_specs_kind t.kind e

both_true : (x y : Bool) → x ≡ true → y ≡ true → (x && y) ≡ true
both_true true y e h = h
both_true false y e h = cc

-- words as long as they go
lawful_prefix : (n : operators.Words) (xs ys : List IntegerWord) → goes_with n (xs ++ ys) ≡ true → goes_with n xs ≡ true
lawful_prefix n [] ys e = refl
lawful_prefix n (x ∷ xs) ys e = both_true _ _ (and_left (is_integer_type (with_word n x)) _ e) (lawful_prefix (with_word n x) xs ys (and_right (is_integer_type (with_word n x)) _ e))

word_case_stops : (all : List IntegerWord) (t : Token) (c : Cursor) (o : Option IntegerWord) → is_some o ≡ false → integer_word all t o c ≡ Ok (Done all, c)
word_case_stops all t c None e = refl
word_case_stops all t c (Some x) e = cc

word_kind_stops : (all : List IntegerWord) (t : Token) (c : Cursor) (k : Kind) → ends_base_kind k ≡ true → word_by all t k c ≡ Ok (Done all, c)
word_kind_stops all t c (kind.Keyword x) e = word_case_stops all t c (word_in x) (not_only (is_some (word_in x)) e)
word_kind_stops all t c (kind.Name n) e = refl
word_kind_stops all t c (kind.Integer value decimal unsigned long) e = refl
word_kind_stops all t c (kind.Character value) e = refl
word_kind_stops all t c (kind.Text bytes) e = refl
word_kind_stops all t c (kind.Punct x) e = refl
word_kind_stops all t c (kind.Include x) e = refl

word_stops : (all : List IntegerWord) (c : Cursor) (h : Option Token) → ends_base h ≡ true → word_at all h c ≡ Ok (Done all, c)
word_stops all c None e = refl
word_stops all c (Some t) e = word_kind_stops all t c t.kind e

word_more : (first : IntegerWord) (all : List IntegerWord) (x : IntegerWord) (c m : Cursor) → Word (word_of x) c m → are_integer_type ((first ∷ all) ++ x ∷ []) ≡ true → word_step (first ∷ all) c ≡ Ok (More ((first ∷ all) ++ x ∷ []), m)
word_more first all x c m k l = look_is (word_at (first ∷ all)) c m k (Ok (More ((first ∷ all) ++ x ∷ []), m)) (rw (word_in_of x) (if_true (are_integer_type ((first ∷ all) ++ x ∷ [])) _ _ c (Ok (More ((first ∷ all) ++ x ∷ []), m)) l (took k (pure (More ((first ∷ all) ++ x ∷ []))) (Ok (More ((first ∷ all) ++ x ∷ []), m)) refl)))

words_is : (first : IntegerWord) (xs all : List IntegerWord) (c e : Cursor) → WordsSpell xs c e → are_integer_type ((first ∷ all) ++ xs) ≡ true → ends_base (head e.ahead) ≡ true → iterate word_step (first ∷ all) c ≡ Ok ((first ∷ all) ++ xs, e)
words_is first [] all c e h l q = one_turn word_step word-shrinks (first ∷ all) c ∙ ap (λ x. and_then x (goes (iterate word_step))) (word_stops (first ∷ all) c (head c.ahead) (rw h q)) ∙ ap (λ x. Ok (x, c)) (sym (append-nil (first ∷ all))) ∙ ap (λ y. Ok ((first ∷ all) ++ [], y)) h
words_is first (x ∷ xs) all c e (m, k, h) l q = one_turn word_step word-shrinks (first ∷ all) c
    ∙ ap (λ y. and_then y (goes (iterate word_step))) (word_more first all x c m k (lawful_prefix no_words ((first ∷ all) ++ x ∷ []) xs (ap (goes_with no_words) (append_assoc (first ∷ all) (x ∷ []) xs) ∙ l)))
    ∙ words_is first xs (all ++ x ∷ []) m e h (ap (goes_with no_words) (append_assoc (first ∷ all) (x ∷ []) xs) ∙ l) q ∙ ap (λ y. Ok (y, e)) (append_assoc (first ∷ all) (x ∷ []) xs)

module _ (names : List ℕ) where
  pub base_no_qualifier : (bodies : Bool) (x : BaseTree) (c e : Cursor) → BaseSpells names bodies x c e → begins_qualifier (head c.ahead) ≡ false
  base_no_qualifier bodies (Void a z) c e h = rw h.ahead refl
  base_no_qualifier bodies (Boolean a z) c e h = rw h.ahead refl
  base_no_qualifier bodies (Words [] a z) c e h = cc
  base_no_qualifier bodies (Words (x ∷ xs) a z) c e (l, (m, k, r), lies) = rw (k.takes).ahead (word_no_qualifier x)
    where
      word_no_qualifier : (y : IntegerWord) → begins_qualifier_by (kind.Keyword (word_of y)) ≡ false
      word_no_qualifier word.Char = refl
      word_no_qualifier word.Short = refl
      word_no_qualifier word.Int = refl
      word_no_qualifier word.Long = refl
      word_no_qualifier word.Signed = refl
      word_no_qualifier word.Unsigned = refl
  base_no_qualifier bodies (TypedefName name a z) c e h = rw (h.1).ahead refl
  base_no_qualifier bodies (StructTag tag a z) c e h = rw ((h.1).takes).ahead refl
  base_no_qualifier bodies (StructBody tag members a z) c e h = rw ((h.5).takes).ahead refl
  base_no_qualifier bodies (EnumTag tag a z) c e h = rw ((h.1).takes).ahead refl
  base_no_qualifier bodies (EnumBody tag enumerators a z) c e h = rw ((h.6).takes).ahead refl

  -- what a declarator that is not absent begins with
  pub named_ends : (x : DeclaratorTree) (l : ℕ) (c e : Cursor) → DeclaratorSpells names l x c e → (is_absent x ≡ true → ends_specs (head e.ahead) ≡ true) → ends_specs (head c.ahead) ≡ true
  named_ends (Named name a z) l c e h q = rw (h.1).ahead refl
  named_ends (Absent a z) l c e h q = rw h.same (q refl)
  named_ends (Pointer qualifiers of a z) l c e h q = rw ((h.3).takes).ahead refl
  named_ends (Grouped inner a z) l c e h q = rw ((h.3).takes).ahead refl
  named_ends (Array of length a z) l c e (m, n, o, h, k, i, j, r) q = named_ends of 1 c m h (λ _. rw (k.takes).ahead refl)
  named_ends (Function of parameters a z) l c e (m, n, o, h, k, i, j, r) q = named_ends of 1 c m h (λ _. rw (k.takes).ahead refl)

  pub name_ends : (x : DeclaratorTree) (l : ℕ) (c e : Cursor) → has_name x ≡ true → DeclaratorSpells names l x c e → ends_specs (head c.ahead) ≡ true
  name_ends x l c e n h = named_ends x l c e h (λ b. absurd (by_case x n b))
    where
      by_case : (y : DeclaratorTree) → has_name y ≡ true → is_absent y ≡ true → ⊥
      by_case (Absent a z) u v = cc
      by_case (Named name a z) u v = cc
      by_case (Pointer qualifiers of a z) u v = cc
      by_case (Grouped inner a z) u v = cc
      by_case (Array of length a z) u v = cc
      by_case (Function of parameters a z) u v = cc

  pub named_height : (x : DeclaratorTree) → has_name x ≡ true → 1 ≤ declarator_height x
  named_height (Named name a z) e = omega arith
  named_height (Absent a z) e = cc
  named_height (Pointer qualifiers of a z) e = omega arith
  named_height (Grouped inner a z) e = omega arith
  named_height (Array of length a z) e = omega arith
  named_height (Function of parameters a z) e = omega arith

  type_no_mark_kind : (x : Punct) (k : Kind) → reading.begins_type_by names k ≡ true → is_mark x k ≡ false
  type_no_mark_kind x (kind.Punct y) e = cc
  type_no_mark_kind x (kind.Name n) e = refl
  type_no_mark_kind x (kind.Keyword y) e = refl
  type_no_mark_kind x (kind.Integer value decimal unsigned long) e = refl
  type_no_mark_kind x (kind.Character value) e = refl
  type_no_mark_kind x (kind.Text bytes) e = refl
  type_no_mark_kind x (kind.Include y) e = refl

  -- no type begins with a mark
  pub type_no_mark : (x : Punct) (h : Option Token) → begins_type names h ≡ true → sees x h ≡ false
  type_no_mark x None e = refl
  type_no_mark x (Some t) e = type_no_mark_kind x t.kind e

  -- what the grammar has is read, specifiers and declarators among it
  pub record AreWhole (d : ℕ) (b : Parsers) : Type 0 where
    pub core : AreComplete names d b
    pub specs : (s : SpecsTree) (bodies : Bool) (c e : Cursor) → SpecsSpell names bodies s c e → specs_height s ≤ d → ends_specs (head e.ahead) ≡ true → b.specs bodies c ≡ Ok (s, e)
    pub declarator : (x : DeclaratorTree) (name : Naming) (c e : Cursor) → Fits name (has_name x) → DeclaratorSpells names 0 x c e → declarator_height x ≤ d → ends_declarator (head e.ahead) ≡ true → b.declarator name c ≡ Ok (x, e)

  module _ (d : ℕ) (here below : Parsers) (gh : (t : ExprTree) (level : ℕ) (c e : Cursor) → level ≤ 14 → ExprSpells names level t c e → expr_height t ≤ d → Quiet level e → here.expr level c ≡ Ok (t, e))
      (nh : (level : ℕ) → Local (here.expr level)) (near : AreLocal below) where
    first_quiet : (ys : ExprTrees) (u v i : Cursor) → CommaExprs names 2 ys u v → Mark p.RightParenthesis v i → Quiet 2 u
    first_quiet NoExprs u v i y j = rw y (quiet_mark p.RightParenthesis 2 v i refl j)
    first_quiet (ConsExpr y ys) u v i g j = quiet_comma 2 u g.0 (omega arith) g.2

    conds_is : (n : ℕ) (xs : ExprTrees) (c e z : Cursor) → CommaExprs names 2 xs c e → expr_count xs ≤ n → exprs_height xs ≤ d → Mark p.RightParenthesis e z → reading.conds names d here n c ≡ Ok (exprs_list xs, e)
    unfolding reading.conds
    conds_is zero NoExprs c e z h few l k = ap (λ y. Ok ([], y)) h
    conds_is zero (ConsExpr x xs) c e z h few l k = absurd (omega (arith, few))
    conds_is (suc n) NoExprs c e z h few l k = rw h (rw (sees_not p.Comma p.RightParenthesis e z k refl) refl)
    conds_is (suc n) (ConsExpr x xs) c e z (m, o, k, s, r) few l q = rw (sees_is p.Comma c m k)
        (marked p.Comma (here.expr 2 >>= (λ y. reading.conds names d here n >>= (λ ys. pure (y ∷ ys)))) c m (Ok (x ∷ exprs_list xs, e)) k
        (bind_is (here.expr 2) (λ y. reading.conds names d here n >>= (λ ys. pure (y ∷ ys))) m o x (Ok (x ∷ exprs_list xs, e)) (gh x 2 m o (omega arith) s (omega (arith, l)) (first_quiet xs o e z r q))
        (bind_is (reading.conds names d here n) (λ ys. pure (x ∷ ys)) o e (exprs_list xs) (Ok (x ∷ exprs_list xs, e)) (conds_is n xs o e z r (omega (arith, few)) (omega (arith, l)) q) refl)))

    qualifier_is : (q : QualifierTree) (c e : Cursor) → AsQualifier names d q c e → reading.qualifier names d here below c ≡ Ok (q, e)
    qualifier_is (Const a z) c e (k, l) = look_at_is (reading.qualifier_at names d here below) c e k (Ok (Const a z, e)) (taken k (pure (Const a z)) (Ok (Const a z, e)) refl)
    qualifier_is (Ptrauth NoExprs a z) c e (h, l) = absurd h.5
    qualifier_is (Ptrauth (ConsExpr x xs) a z) c e ((m, n, o, k, b, (i, few, s, r), q, lies), l) = look_is (reading.qualifier_at names d here below) c m k (Ok (Ptrauth (ConsExpr x xs) a z, e))
        (roomy 1 d (after (record { kind = kind.Keyword w.Ptrauth; from = k.from; to = k.to }) >> reading.ptrauth names d here below k.from) c (Ok (Ptrauth (ConsExpr x xs) a z, e)) (omega (arith, l, height_pos x))
        (took k (reading.ptrauth names d here below k.from) (Ok (Ptrauth (ConsExpr x xs) a z, e))
        (marked p.LeftParenthesis (here.expr 2 >>= (λ y. reading.conds names d here 2 >>= (λ ys. mark p.RightParenthesis >> ended >>= (λ u. pure (Ptrauth (exprs_of (y ∷ ys)) k.from u))))) m n (Ok (Ptrauth (ConsExpr x xs) a z, e)) b
        (bind_is (here.expr 2) (λ y. reading.conds names d here 2 >>= (λ ys. mark p.RightParenthesis >> ended >>= (λ u. pure (Ptrauth (exprs_of (y ∷ ys)) k.from u)))) n i x (Ok (Ptrauth (ConsExpr x xs) a z, e)) (gh x 2 n i (omega arith) s (omega (arith, l)) (first_quiet xs i o e r q))
        (bind_is (reading.conds names d here 2) (λ ys. mark p.RightParenthesis >> ended >>= (λ u. pure (Ptrauth (exprs_of (x ∷ ys)) k.from u))) i o (exprs_list xs) (Ok (Ptrauth (ConsExpr x xs) a z, e)) (conds_is 2 xs i o e r few (omega (arith, l)) q)
        (rw (exprs_back xs) (marked p.RightParenthesis (ended >>= (λ u. pure (Ptrauth (ConsExpr x xs) k.from u))) o e (Ok (Ptrauth (ConsExpr x xs) a z, e)) q (close (Ptrauth (ConsExpr x xs)) k.from a z e (from_is k lies) lies.to_is))))))))

    qualifier_begins : (q : QualifierTree) (c e : Cursor) → AsQualifier names d q c e → begins_qualifier (head c.ahead) ≡ true
    qualifier_begins q c e (h, l) = qualifier_head names q c e h

    pub qualifiers_is : (qs : QualifierTrees) (c e : Cursor) → QualifiersSpell names qs c e → qualifiers_height qs ≤ d → begins_qualifier (head e.ahead) ≡ false → reading.qualifiers names d here below c ≡ Ok (qualifiers_list qs, e)
    unfolding reading.qualifiers
    qualifiers_is qs c e h l q = many_is (AsQualifier names d) begins_qualifier (reading.qualifier names d here below) (item_step-shrinks begins_qualifier (reading.qualifier names d here below) (qualifier-eats names d here below nh near)) qualifier_begins qualifier_is (qualifiers_list qs) [] c e (qualifiers_chain names d qs c e h l) q

    module _ (below_d : ℕ) (deep : 2 ≤ d → d ≤ suc below_d) (g : AreWhole below_d below) where
      abbrev EndsNamed : Cursor → Type 0
      EndsNamed c = ends_declarator (head c.ahead) ≡ true

      named_at_comma : (c e : Cursor) → Mark p.Comma c e → EndsNamed c
      named_at_comma c e k = rw (k.takes).ahead refl

      abbrev IsDeclared : DeclaratorTree → Cursor → Cursor → Type 0
      IsDeclared x c e = AsNamed names EndsNamed named_at_comma below_d x c e

      declared_reads : (x : DeclaratorTree) (c e : Cursor) → IsDeclared x c e → below.declarator naming.Named c ≡ Ok (x, e)
      declared_reads x c e ((n, h), l, q) = g.declarator x naming.Named c e n h l q

      member_is : (x : MemberTree) (c e : Cursor) → AsMember names below_d x c e → reading.member names d here below c ≡ Ok (x, e)
      unfolding reading.member
      member_is (OfMember specs NoDeclarators a z) c e (h, l) = absurd h.3
      member_is (OfMember specs (ConsDeclarator x xs) a z) c e ((m, n, s, (i, y, t, r), k, lies), l) =
          let q : EndsNamed n = rw (k.takes).ahead refl in
          bind_is (below.specs true) (λ u. commas (below.declarator naming.Named) >>= (λ ds. mark p.Semicolon >> ended >>= (λ v. pure (OfMember u (declarators_of ds) (begin c) v)))) c m specs (Ok (OfMember specs (ConsDeclarator x xs) a z, e))
          (g.specs specs true c m s (omega (arith, l)) (name_ends x 0 m i y t))
          (bind_is (commas (below.declarator naming.Named)) (λ ds. mark p.Semicolon >> ended >>= (λ v. pure (OfMember specs (declarators_of ds) (begin c) v))) m n (x ∷ declarators_list xs) (Ok (OfMember specs (ConsDeclarator x xs) a z, e))
          (commas_is IsDeclared (below.declarator naming.Named) (item_step-shrinks (sees p.Comma) (mark p.Comma >> below.declarator naming.Named) (eats_left (eats_mark p.Comma) (λ _. near.declarator naming.Named))) declared_reads x (declarators_list xs) m i n
          ((y, t), omega (arith, l), declarators_end names EndsNamed named_at_comma below_d xs i n r q) (comma_declarators_back names EndsNamed named_at_comma below_d xs i n r (omega (arith, l)) q) (sees_not p.Comma p.Semicolon n e k refl))
          (rw (declarators_back xs) (marked p.Semicolon (ended >>= (λ v. pure (OfMember specs (ConsDeclarator x xs) (begin c) v))) n e (Ok (OfMember specs (ConsDeclarator x xs) a z, e)) k (close (OfMember specs (ConsDeclarator x xs)) (begin c) a z e (sym lies.from_is) lies.to_is))))

      member_begins : (x : MemberTree) (c e : Cursor) → AsMember names below_d x c e → not_brace (head c.ahead) ≡ true
      member_begins (OfMember specs declarators a z) c e ((m, n, s, ds, k, lies), l) = rw (type_no_mark p.RightBrace (head c.ahead) (specs_type names true specs c m s)) refl

      members_rest : (x : MemberTree) (xs : MemberTrees) (m e z : Cursor) → MembersSpell names xs m e → members_height xs ≤ below_d → Mark p.RightBrace e z
          → many not_brace (reading.member names d here below) (x ∷ []) m ≡ Ok (x ∷ members_list xs, e)
      members_rest x xs m e z r l k = many_is (AsMember names below_d) not_brace (reading.member names d here below) (item_step-shrinks not_brace (reading.member names d here below) (member-eats names d here below nh near)) member_begins member_is (members_list xs) (x ∷ []) m e (members_chain names below_d xs m e r l)
          (rw (sees_is p.RightBrace e z k) refl)

      member_pos : (x : MemberTree) (c e : Cursor) → MemberSpells names x c e → 1 ≤ member_height x
      member_pos (OfMember specs NoDeclarators a z) c e h = absurd h.3
      member_pos (OfMember specs (ConsDeclarator x xs) a z) c e (m, n, s, (i, y, t, r), k, lies) = let q = named_height x y in omega (arith, q)

      pub struct_body_is : (tag : Option Tag) (members : MemberTrees) (from a z : ℕ) (s n o q e : Cursor) → from ≡ a → Mark p.LeftBrace n o → (members ≢ NoMembers) → MembersSpell names members o q → Mark p.RightBrace q e → Lies a z s e → suc (members_height members) ≤ d
          → reading.struct_body names d here below from tag n ≡ Ok (StructBody tag members a z, e)
      struct_body_is tag NoMembers from a z s n o q e f k some h r lies l = absurd (some refl)
      struct_body_is tag (ConsMember x xs) from a z s n o q e f k some (m, h, t) r lies l =
          let one = member_pos x o m h in
          let two : 2 ≤ d = omega (arith, one, l) in
          let room = deep two in
          roomy 2 d (mark p.LeftBrace >> reading.member names d here below >>= (λ y. many not_brace (reading.member names d here below) (y ∷ []) >>= (λ ys. mark p.RightBrace >> ended >>= (λ v. pure (StructBody tag (members_of ys) from v))))) n (Ok (StructBody tag (ConsMember x xs) a z, e)) two
          (marked p.LeftBrace (reading.member names d here below >>= (λ y. many not_brace (reading.member names d here below) (y ∷ []) >>= (λ ys. mark p.RightBrace >> ended >>= (λ v. pure (StructBody tag (members_of ys) from v))))) n o (Ok (StructBody tag (ConsMember x xs) a z, e)) k
          (bind_is (reading.member names d here below) (λ y. many not_brace (reading.member names d here below) (y ∷ []) >>= (λ ys. mark p.RightBrace >> ended >>= (λ v. pure (StructBody tag (members_of ys) from v)))) o m x (Ok (StructBody tag (ConsMember x xs) a z, e)) (member_is x o m (h, omega (arith, l, room)))
          (bind_is (many not_brace (reading.member names d here below) (x ∷ [])) (λ ys. mark p.RightBrace >> ended >>= (λ v. pure (StructBody tag (members_of ys) from v))) m q (x ∷ members_list xs) (Ok (StructBody tag (ConsMember x xs) a z, e)) (members_rest x xs m q e t (omega (arith, l, room)) r)
          (rw (members_back xs) (marked p.RightBrace (ended >>= (λ v. pure (StructBody tag (ConsMember x xs) from v))) q e (Ok (StructBody tag (ConsMember x xs) a z, e)) r (close (StructBody tag (ConsMember x xs)) from a z e f lies.to_is))))))

      -- where an enumerator ends
      record EndsValue (c : Cursor) : Type 0 where
        quiet : Quiet 2 c
        no_value : sees p.Assign (head c.ahead) ≡ false

      value_is : (v : MaybeExprTree) (c e : Cursor) → EnumeratorValue names v c e → maybe_expr_height v ≤ below_d → EndsValue e → look (reading.value_at names d here below) c ≡ Ok (v, e)
      value_is NoExpr c e h l q = rw h (rw q.no_value refl)
      value_is (SomeExpr x) c e (m, k, h) l q = rw (sees_is p.Assign c m k) (marked p.Assign (below.expr 2 >>= (λ y. pure (SomeExpr y))) c m (Ok (SomeExpr x, e)) k
          (bind_is (below.expr 2) (λ y. pure (SomeExpr y)) m e x (Ok (SomeExpr x, e)) ((g.core).expr x 2 m e (omega arith) h l q.quiet) refl))

      enumerator_is : (x : EnumeratorTree) (c e : Cursor) → EnumeratorSpells names x c e → enumerator_height x ≤ below_d → EndsValue e → reading.enumerator names d here below c ≡ Ok (x, e)
      unfolding reading.enumerator
      enumerator_is (OfEnumerator name value a z) c e (m, (n, k), v, lies) l q = bind_is (plain_name names) (λ t. look (reading.value_at names d here below) >>= (λ u. ended >>= (λ y. pure (OfEnumerator t.name u (begin c) y)))) c m (record { name = name; from = k.from; to = k.to }) (Ok (OfEnumerator name value a z, e))
          (name_is names name k.from k.to c m (n, k.takes))
          (bind_is (look (reading.value_at names d here below)) (λ u. ended >>= (λ y. pure (OfEnumerator name u (begin c) y))) m e value (Ok (OfEnumerator name value a z, e)) (value_is value m e v (omega (arith, l)) q) (close (OfEnumerator name value) (begin c) a z e (sym lies.from_is) lies.to_is))

      value_at_comma : (c e : Cursor) → Mark p.Comma c e → EndsValue c
      value_at_comma c e k = record { quiet = quiet_comma 2 c e (omega arith) k; no_value = sees_not p.Assign p.Comma c e k refl }

      value_at_brace : (c e : Cursor) → Mark p.RightBrace c e → EndsValue c
      value_at_brace c e k = record { quiet = quiet_mark p.RightBrace 2 c e refl k; no_value = sees_not p.Assign p.RightBrace c e k refl }

      last_ends : (q r e : Cursor) → LastComma q r → Mark p.RightBrace r e → EndsValue q
      last_ends q r e (inl same) k = rw same (value_at_brace r e k)
      last_ends q r e (inr c) k = value_at_comma q r c

      name_no_brace : (x : EnumeratorTree) (c e : Cursor) → EnumeratorSpells names x c e → sees p.RightBrace (head c.ahead) ≡ false
      name_no_brace (OfEnumerator name value a z) c e (m, (n, k), v, lies) = rw (k.takes).ahead refl

      items_end : (xs : EnumeratorTrees) (c q : Cursor) → CommaEnumerators names xs c q → EndsValue q → EndsValue c
      items_end NoEnumerators c q h e = rw h e
      items_end (ConsEnumerator x xs) c q h e = value_at_comma c h.0 h.2

      enumerator_stops : (all : List EnumeratorTree) (r e : Cursor) → Mark p.RightBrace r e → reading.enumerator_step names d here below all r ≡ Ok (Done all, r)
      enumerator_stops all r e k = if_false (sees p.Comma (head r.ahead)) _ _ r (Ok (Done all, r)) (sees_not p.Comma p.RightBrace r e k refl) refl

      enumerator_last : (all : List EnumeratorTree) (q r e : Cursor) → Mark p.Comma q r → Mark p.RightBrace r e → reading.enumerator_step names d here below all q ≡ Ok (Done all, r)
      enumerator_last all q r e b k = if_true (sees p.Comma (head q.ahead)) _ _ q (Ok (Done all, r)) (sees_is p.Comma q r b)
          (marked p.Comma (look (reading.enumerator_behind names d here below all)) q r (Ok (Done all, r)) b (if_true (sees p.RightBrace (head r.ahead)) _ _ r (Ok (Done all, r)) (sees_is p.RightBrace r e k) refl))

      enumerator_more : (all : List EnumeratorTree) (x : EnumeratorTree) (c m n : Cursor) → Mark p.Comma c m → EnumeratorSpells names x m n → enumerator_height x ≤ below_d → EndsValue n → reading.enumerator_step names d here below all c ≡ Ok (More (all ++ x ∷ []), n)
      enumerator_more all x c m n b h l q = if_true (sees p.Comma (head c.ahead)) _ _ c (Ok (More (all ++ x ∷ []), n)) (sees_is p.Comma c m b)
          (marked p.Comma (look (reading.enumerator_behind names d here below all)) c m (Ok (More (all ++ x ∷ []), n)) b
          (if_false (sees p.RightBrace (head m.ahead)) _ _ m (Ok (More (all ++ x ∷ []), n)) (name_no_brace x m n h)
          (bind_is (reading.enumerator names d here below) (λ y. pure (More (all ++ y ∷ []))) m n x (Ok (More (all ++ x ∷ []), n)) (enumerator_is x m n h l q) refl)))

      enumerators_go : (xs : EnumeratorTrees) (all : List EnumeratorTree) (c q r e : Cursor) → CommaEnumerators names xs c q → enumerators_height xs ≤ below_d → LastComma q r → Mark p.RightBrace r e → iterate (reading.enumerator_step names d here below) all c ≡ Ok (all ++ enumerators_list xs, r)
      enumerators_go NoEnumerators all c q r e h l (inl same) k = rw (h ∙ same) (one_turn (reading.enumerator_step names d here below) (enumerator-shrinks names d here below nh near) all r
          ∙ ap (λ x. and_then x (goes (iterate (reading.enumerator_step names d here below)))) (enumerator_stops all r e k) ∙ ap (λ x. Ok (x, r)) (sym (append-nil all)))
      enumerators_go NoEnumerators all c q r e h l (inr b) k = rw h (one_turn (reading.enumerator_step names d here below) (enumerator-shrinks names d here below nh near) all q
          ∙ ap (λ x. and_then x (goes (iterate (reading.enumerator_step names d here below)))) (enumerator_last all q r e b k) ∙ ap (λ x. Ok (x, r)) (sym (append-nil all)))
      enumerators_go (ConsEnumerator x xs) all c q r e (m, n, b, h, t) l k j = one_turn (reading.enumerator_step names d here below) (enumerator-shrinks names d here below nh near) all c
          ∙ ap (λ y. and_then y (goes (iterate (reading.enumerator_step names d here below)))) (enumerator_more all x c m n b h (omega (arith, l)) (items_end xs n q t (last_ends q r e k j)))
          ∙ enumerators_go xs (all ++ x ∷ []) n q r e t (omega (arith, l)) k j ∙ ap (λ y. Ok (y, r)) (append_assoc all (x ∷ []) (enumerators_list xs))

      pub enum_body_is : (tag : Option Tag) (xs : EnumeratorTrees) (from a z : ℕ) (s n o q r e : Cursor) → from ≡ a → Mark p.LeftBrace n o → EnumeratorsSpell names xs o q → LastComma q r → Mark p.RightBrace r e → Lies a z s e → suc (enumerators_height xs) ≤ d
          → reading.enum_body names d here below from tag n ≡ Ok (EnumBody tag xs a z, e)
      enum_body_is tag NoEnumerators from a z s n o q r e f k h c b lies l = absurd h
      enum_body_is tag (ConsEnumerator x xs) from a z s n o q r e f k (m, h, t) c b lies l =
          let one = enumerator_pos x in
          let two : 2 ≤ d = omega (arith, one, l) in
          let room = deep two in
          roomy 2 d (mark p.LeftBrace >> reading.enumerator names d here below >>= (λ y. iterate (reading.enumerator_step names d here below) (y ∷ []) >>= (λ ys. mark p.RightBrace >> ended >>= (λ v. pure (EnumBody tag (enumerators_of ys) from v))))) n (Ok (EnumBody tag (ConsEnumerator x xs) a z, e)) two
          (marked p.LeftBrace (reading.enumerator names d here below >>= (λ y. iterate (reading.enumerator_step names d here below) (y ∷ []) >>= (λ ys. mark p.RightBrace >> ended >>= (λ v. pure (EnumBody tag (enumerators_of ys) from v))))) n o (Ok (EnumBody tag (ConsEnumerator x xs) a z, e)) k
          (bind_is (reading.enumerator names d here below) (λ y. iterate (reading.enumerator_step names d here below) (y ∷ []) >>= (λ ys. mark p.RightBrace >> ended >>= (λ v. pure (EnumBody tag (enumerators_of ys) from v)))) o m x (Ok (EnumBody tag (ConsEnumerator x xs) a z, e)) (enumerator_is x o m h (omega (arith, l, room)) (items_end xs m q t (last_ends q r e c b)))
          (bind_is (iterate (reading.enumerator_step names d here below) (x ∷ [])) (λ ys. mark p.RightBrace >> ended >>= (λ v. pure (EnumBody tag (enumerators_of ys) from v))) m r (x ∷ enumerators_list xs) (Ok (EnumBody tag (ConsEnumerator x xs) a z, e)) (enumerators_go xs (x ∷ []) m q r e t (omega (arith, l, room)) c b)
          (rw (enumerators_back xs) (marked p.RightBrace (ended >>= (λ v. pure (EnumBody tag (ConsEnumerator x xs) from v))) r e (Ok (EnumBody tag (ConsEnumerator x xs) a z, e)) b (close (EnumBody tag (ConsEnumerator x xs)) from a z e f lies.to_is))))))
        where
          enumerator_pos : (y : EnumeratorTree) → 1 ≤ enumerator_height y
          enumerator_pos (OfEnumerator name value u v) = omega arith

    -- bodies are read
    abbrev pub ReadsStructs : Type 0
    ReadsStructs = (tag : Option Tag) (members : MemberTrees) (from a z : ℕ) (s n o q e : Cursor) → from ≡ a → Mark p.LeftBrace n o → (members ≢ NoMembers) → MembersSpell names members o q → Mark p.RightBrace q e → Lies a z s e → suc (members_height members) ≤ d
        → reading.struct_body names d here below from tag n ≡ Ok (StructBody tag members a z, e)

    abbrev pub ReadsEnums : Type 0
    ReadsEnums = (tag : Option Tag) (xs : EnumeratorTrees) (from a z : ℕ) (s n o q r e : Cursor) → from ≡ a → Mark p.LeftBrace n o → EnumeratorsSpell names xs o q → LastComma q r → Mark p.RightBrace r e → Lies a z s e → suc (enumerators_height xs) ≤ d
        → reading.enum_body names d here below from tag n ≡ Ok (EnumBody tag xs a z, e)

    module _ (structs : ReadsStructs) (enums : ReadsEnums) where
      -- behind `struct` or `enum`
      tagged_is : (bodies : Bool) (body : Option Tag → Parser BaseTree) (alone : Tag → ℕ → BaseTree) (tag : Tag) (m e : Cursor) → TagSpells names tag m e → ends_base (head e.ahead) ≡ true → look (reading.struct_at names d here below bodies body alone) m ≡ Ok (alone tag e.ended, e)
      tagged_is bodies body alone tag m e (n, k) q = if_false (bodies && sees p.LeftBrace (head m.ahead)) _ _ m (Ok (alone tag e.ended, e)) (rw (k.ahead) (and_false bodies))
          (bind_is (plain_name names) (λ t. look (reading.tagged_at names d here below bodies body alone t)) m e tag (Ok (alone tag e.ended, e)) (name_is names tag.name tag.from tag.to m e (n, k))
          (if_false (bodies && sees p.LeftBrace (head e.ahead)) _ _ e (Ok (alone tag e.ended, e)) (rw (no_brace (head e.ahead) q) (and_false bodies)) refl))

      bodied_is : (body : Option Tag → Parser BaseTree) (alone : Tag → ℕ → BaseTree) (tag : Option Tag) (m n o : Cursor) (out : Outcome BaseTree) → MaybeTagSpells names tag m n → Mark p.LeftBrace n o → body tag n ≡ out → look (reading.struct_at names d here below true body alone) m ≡ out
      bodied_is body alone None m n o out h k e = if_true (sees p.LeftBrace (head m.ahead)) _ _ m out (rw h (sees_is p.LeftBrace n o k)) (ap (body None) h ∙ e)
      bodied_is body alone (Some tag) m n o out (t, j) k e = if_false (sees p.LeftBrace (head m.ahead)) _ _ m out (rw j.ahead refl)
          (bind_is (plain_name names) (λ x. look (reading.tagged_at names d here below true body alone x)) m n tag out (name_is names tag.name tag.from tag.to m n (t, j))
          (if_true (sees p.LeftBrace (head n.ahead)) _ _ n out (sees_is p.LeftBrace n o k) e))

      words_base : (bodies : Bool) (t : Token) (x : IntegerWord) → reading.base_word names d here below bodies t (word_of x) ≡ reading.words_at names d here below t (Some x)
      words_base bodies t word.Char = refl
      words_base bodies t word.Short = refl
      words_base bodies t word.Int = refl
      words_base bodies t word.Long = refl
      words_base bodies t word.Signed = refl
      words_base bodies t word.Unsigned = refl

      base_is : (x : BaseTree) (bodies : Bool) (c e : Cursor) → BaseSpells names bodies x c e → base_height x ≤ d → ends_base (head e.ahead) ≡ true → reading.base names d here below bodies c ≡ Ok (x, e)
      unfolding reading.base
      base_is (Void a z) bodies c e k l q = look_at_is (reading.base_at names d here below bodies) c e k (Ok (Void a z, e)) (taken k (pure (Void a z)) (Ok (Void a z, e)) refl)
      base_is (Boolean a z) bodies c e k l q = look_at_is (reading.base_at names d here below bodies) c e k (Ok (Boolean a z, e)) (taken k (pure (Boolean a z)) (Ok (Boolean a z, e)) refl)
      base_is (Words [] a z) bodies c e h l q = cc
      base_is (Words (x ∷ xs) a z) bodies c e (w, (m, k, r), lies) l q = look_is (reading.base_at names d here below bodies) c m k (Ok (Words (x ∷ xs) a z, e))
          (ap (λ y. y c) (words_base bodies (record { kind = kind.Keyword (word_of x); from = k.from; to = k.to }) x)
          ∙ took k (iterate word_step (x ∷ []) >>= (λ ys. ended >>= (λ v. pure (Words ys k.from v)))) (Ok (Words (x ∷ xs) a z, e))
          (bind_is (iterate word_step (x ∷ [])) (λ ys. ended >>= (λ v. pure (Words ys k.from v))) m e (x ∷ xs) (Ok (Words (x ∷ xs) a z, e)) (words_is x xs [] m e r w q) (close (Words (x ∷ xs)) k.from a z e (from_is k lies) lies.to_is)))
      base_is (TypedefName name a z) bodies c e (t, k) l q = look_at_is (reading.base_at names d here below bodies) c e k (Ok (TypedefName name a z, e)) (if_true (is_type names name) _ _ c (Ok (TypedefName name a z, e)) t (taken k (pure (TypedefName name a z)) (Ok (TypedefName name a z, e)) refl))
      base_is (StructTag tag a z) bodies c e (m, k, t, lies) l q = look_is (reading.base_at names d here below bodies) c m k (Ok (StructTag tag a z, e))
          (took k (look (reading.struct_at names d here below bodies (reading.struct_body names d here below k.from) (λ x v. StructTag x k.from v))) (Ok (StructTag tag a z, e))
          (tagged_is bodies (reading.struct_body names d here below k.from) (λ x v. StructTag x k.from v) tag m e t q ∙ ap (λ u. Ok (StructTag tag u e.ended, e)) (from_is k lies) ∙ ap (λ u. Ok (StructTag tag a u, e)) (sym lies.to_is)))
      base_is (EnumTag tag a z) bodies c e (m, k, t, lies) l q = look_is (reading.base_at names d here below bodies) c m k (Ok (EnumTag tag a z, e))
          (took k (look (reading.struct_at names d here below bodies (reading.enum_body names d here below k.from) (λ x v. EnumTag x k.from v))) (Ok (EnumTag tag a z, e))
          (tagged_is bodies (reading.enum_body names d here below k.from) (λ x v. EnumTag x k.from v) tag m e t q ∙ ap (λ u. Ok (EnumTag tag u e.ended, e)) (from_is k lies) ∙ ap (λ u. Ok (EnumTag tag a u, e)) (sym lies.to_is)))
      base_is (StructBody tag members a z) true c e (m, n, o, i, b, k, t, j, some, h, r, lies) l q = look_is (reading.base_at names d here below true) c m k (Ok (StructBody tag members a z, e))
          (took k (look (reading.struct_at names d here below true (reading.struct_body names d here below k.from) (λ x v. StructTag x k.from v))) (Ok (StructBody tag members a z, e))
          (bodied_is (reading.struct_body names d here below k.from) (λ x v. StructTag x k.from v) tag m n o (Ok (StructBody tag members a z, e)) t j
          (structs tag members k.from a z c n o i e (from_is k lies) j some h r lies l)))
      base_is (StructBody tag members a z) false c e h l q = let b = h.4 in cc
      base_is (EnumBody tag xs a z) true c e (m, n, o, i, r, b, k, t, j, h, y, u, lies) l q = look_is (reading.base_at names d here below true) c m k (Ok (EnumBody tag xs a z, e))
          (took k (look (reading.struct_at names d here below true (reading.enum_body names d here below k.from) (λ x v. EnumTag x k.from v))) (Ok (EnumBody tag xs a z, e))
          (bodied_is (reading.enum_body names d here below k.from) (λ x v. EnumTag x k.from v) tag m n o (Ok (EnumBody tag xs a z, e)) t j
          (enums tag xs k.from a z c n o i r e (from_is k lies) j h y u lies l)))
      base_is (EnumBody tag xs a z) false c e h l q = let b = h.5 in cc

      qualifier_base : (q : QualifierTree) (c e : Cursor) → QualifierSpells names q c e → ends_base (head c.ahead) ≡ true
      qualifier_base (Const a z) c e h = rw h.ahead refl
      qualifier_base (Ptrauth arguments a z) c e h = rw ((h.3).takes).ahead refl

      base_ends : (qs : QualifierTrees) (c e : Cursor) → QualifiersSpell names qs c e → ends_specs (head e.ahead) ≡ true → ends_base (head c.ahead) ≡ true
      base_ends NoQualifiers c e h q = rw h (base_of_specs (head e.ahead) q)
      base_ends (ConsQualifier x xs) c e (m, h, r) q = qualifier_base x c m h

      pub specs_is : (s : SpecsTree) (bodies : Bool) (c e : Cursor) → SpecsSpell names bodies s c e → specs_height s ≤ d → ends_specs (head e.ahead) ≡ true → reading.specs_level names d here below bodies c ≡ Ok (s, e)
      unfolding reading.specs_level
      specs_is (OfSpecs before base after a z) bodies c e (m, n, h, b, t, lies) l q =
          bind_is (reading.qualifiers names d here below) (λ u. reading.base names d here below bodies >>= (λ x. reading.qualifiers names d here below >>= (λ v. ended >>= (λ y. pure (OfSpecs (qualifiers_of u) x (qualifiers_of v) (begin c) y))))) c m (qualifiers_list before) (Ok (OfSpecs before base after a z, e))
          (qualifiers_is before c m h (omega (arith, l)) (base_no_qualifier bodies base m n b))
          (rw (qualifiers_back before)
          (bind_is (reading.base names d here below bodies) (λ x. reading.qualifiers names d here below >>= (λ v. ended >>= (λ y. pure (OfSpecs before x (qualifiers_of v) (begin c) y)))) m n base (Ok (OfSpecs before base after a z, e)) (base_is base bodies m n b (omega (arith, l)) (base_ends after n e t q))
          (bind_is (reading.qualifiers names d here below) (λ v. ended >>= (λ y. pure (OfSpecs before base (qualifiers_of v) (begin c) y))) n e (qualifiers_list after) (Ok (OfSpecs before base after a z, e)) (qualifiers_is after n e t (omega (arith, l)) (no_qualifier (head e.ahead) q))
          (rw (qualifiers_back after) (close (OfSpecs before base after) (begin c) a z e (sym lies.from_is) lies.to_is)))))
