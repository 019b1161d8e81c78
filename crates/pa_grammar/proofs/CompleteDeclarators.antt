-- What the grammar has is read: declarators, and all together.
use Rattle.std.proofs.Common.{◌≡◌, ◌≤◌, ℕ, zero, suc, ◌+◌, List, [], ◌∷◌, Option, Some, None, Ok, Bool, true, false, not, ◌&&◌, ◌||◌, refl, sym, ◌∙◌, ap, arith}
use Rattle.pa_lex.specs.declared.token.Kind.{Kind}
use Rattle.pa_lex.specs.declared.token.Kind.TheVariants as kind
use Rattle.pa_lex.specs.declared.token.Punct.TheVariants as p
use Rattle.pa_lex.specs.declared.token.Token.{Token}
use Rattle.pa_grammar.specs.declared.rule.SynRule.TheVariants.{S2}
use Rattle.pa_grammar.specs.declared.rule.Naming.{Naming}
use Rattle.pa_grammar.specs.declared.rule.Naming.TheVariants as naming
use Rattle.pa_tree.specs.Cursors.{Cursor, head, begin, from_of, Takes, Lies, Mark}
use Rattle.pa_tree.specs.Exprs.{ExprTree, TypeNameTree, OfTypeName, SpecsTree, OfSpecs, Void, DeclaratorTree, Named, Absent, Pointer, Grouped, Array, Function, ParametersTree, Empty, OnlyVoid, Listed, ParameterTree, OfParameter, QualifierTrees, NoQualifiers, ParameterTrees, NoParameters, ConsParameter, MaybeExprTree, NoExpr, SomeExpr}
use Rattle.pa_tree.specs.Heights.{expr_height, maybe_expr_height, type_name_height, specs_height, qualifiers_height, declarator_height, parameters_height, parameter_height, parameter_list_height}
use Rattle.pa_tree.specs.Spells.{is_type, has_name, ExprSpells, TypeNameSpells, SpecsSpell, DeclaratorSpells, NameSpells, LengthSpells, ParametersSpell, ParameterSpells, CommaParameters, is_absent}
use Rattle.pa_tree.specs.Views.{qualifiers_of}
use Rattle.pa_grammar.specs.Tokens.{is_mark, same_mark}
use Rattle.pa_grammar.specs.Parser.{Outcome, ◌>>=◌, ◌>>◌, pure, refuse, look, after, ended, sees, mark, commas}
use Rattle.pa_grammar.specs.Reading as reading
use Rattle.pa_grammar.specs.Reading.{Parsers, word_step, word_at, word_by, integer_word, begins_qualifier, begins_qualifier_by, begins_type, is_some, not_brace, takes_name, takes_none, least, next, next_at, next_by, plain_name, name_at, type_name, type_name_from, gone, going, turn, last, climb, operand, operand_at, level_from, expr_level, opened_level}
use Rattle.pa_grammar.proofs.Eats.{item_step-shrinks, eats_left, eats_mark}
use Rattle.pa_grammar.proofs.LocalReading.{AreLocal, parsers-local, none-local, parameter-local}
use Rattle.pa_grammar.proofs.Levels.{height_pos, Quiet, quiet_mark}
use Rattle.pa_grammar.proofs.Heads.{not_begun, specs_type}
use Rattle.pa_grammar.proofs.ListsBack.{qualifiers_list, qualifiers_back, parameters_list, parameters_back, AsParameter, parameters_end, comma_parameters_back}
use Rattle.pa_grammar.proofs.Sound.{Fits}
use Rattle.pa_grammar.proofs.Complete.{expr_complete, opened_complete}
use Rattle.pa_grammar.proofs.CompleteSpecs.{ends_specs_kind, ends_specs, ends_declarator_kind, ends_declarator, ends_abstract, not_or_left, not_or_right, not_only, and_false, named_ends, named_height, type_no_mark, AreWhole, qualifiers_is, struct_body_is, enum_body_is, specs_is}
use Rattle.pa_grammar.proofs.Steps.{bind_is, look_is, look_at_is, took, taken, roomy, marked, sees_is, sees_not, from_is, close, if_true, if_false, commas_is}

or_false : (x y : Bool) → x ≡ false → y ≡ false → (x || y) ≡ false
or_false true y e h = cc
or_false false y e h = h

free_kind : (k : Kind) → ends_declarator_kind k ≡ true → begins_qualifier_by k ≡ false
free_kind (kind.Keyword x) e = not_only _ e
free_kind (kind.Punct x) e = refl
free_kind (kind.Name n) e = refl
free_kind (kind.Integer value decimal unsigned long) e = refl
free_kind (kind.Character value) e = refl
free_kind (kind.Text bytes) e = refl
free_kind (kind.Include x) e = refl

free_end : (h : Option Token) → ends_declarator h ≡ true → begins_qualifier h ≡ false
free_end None e = refl
free_end (Some t) e = free_kind t.kind e

-- kinds behind a declarator that are no part of it
or_true_left : (x y : Bool) → x ≡ true → (x || y) ≡ true
or_true_left true y e = refl
or_true_left false y e = cc

or_true_right : (x y : Bool) → y ≡ true → (x || y) ≡ true
or_true_right true y e = refl
or_true_right false y e = e

star_no : (k : Kind) → ends_declarator_kind k ≡ true → is_mark p.Star k ≡ false
star_no (kind.Punct x) e = not_or_left (same_mark x p.Star) _ e
star_no (kind.Name n) e = refl
star_no (kind.Keyword x) e = refl
star_no (kind.Integer value decimal unsigned long) e = refl
star_no (kind.Character value) e = refl
star_no (kind.Text bytes) e = refl
star_no (kind.Include x) e = refl

parenthesis_no : (k : Kind) → ends_declarator_kind k ≡ true → is_mark p.LeftParenthesis k ≡ false
parenthesis_no (kind.Punct x) e = not_or_left (same_mark x p.LeftParenthesis) _ (ap not (not_or_right (same_mark x p.Star) _ e))
parenthesis_no (kind.Name n) e = refl
parenthesis_no (kind.Keyword x) e = refl
parenthesis_no (kind.Integer value decimal unsigned long) e = refl
parenthesis_no (kind.Character value) e = refl
parenthesis_no (kind.Text bytes) e = refl
parenthesis_no (kind.Include x) e = refl

bracket_no : (k : Kind) → ends_declarator_kind k ≡ true → is_mark p.LeftBracket k ≡ false
bracket_no (kind.Punct x) e = not_or_right (same_mark x p.LeftParenthesis) _ (ap not (not_or_right (same_mark x p.Star) _ e))
bracket_no (kind.Name n) e = refl
bracket_no (kind.Keyword x) e = refl
bracket_no (kind.Integer value decimal unsigned long) e = refl
bracket_no (kind.Character value) e = refl
bracket_no (kind.Text bytes) e = refl
bracket_no (kind.Include x) e = refl

takes_fit : (name : Naming) → Fits name true → takes_name name ≡ true
takes_fit naming.Named f = refl
takes_fit naming.Unnamed f = cc
takes_fit naming.Either f = refl

none_fit : (name : Naming) → Fits name false → takes_none name ≡ true
none_fit naming.Named f = cc
none_fit naming.Unnamed f = refl
none_fit naming.Either f = refl

abstract_kind : (k : Kind) → (is_mark p.RightParenthesis k || is_mark p.Comma k) ≡ true → (ends_specs_kind k ≡ true) × (ends_declarator_kind k ≡ true)
abstract_kind (kind.Punct p.RightParenthesis) e = (refl, refl)
abstract_kind (kind.Punct p.Comma) e = (refl, refl)
abstract_kind (kind.Punct _) e = cc
abstract_kind (kind.Name n) e = cc
abstract_kind (kind.Keyword x) e = cc
abstract_kind (kind.Integer value decimal unsigned long) e = cc
abstract_kind (kind.Character value) e = cc
abstract_kind (kind.Text bytes) e = cc
abstract_kind (kind.Include x) e = cc

abstract_ends : (h : Option Token) → ends_abstract h ≡ true → (ends_specs h ≡ true) × (ends_declarator h ≡ true)
abstract_ends None e = cc
abstract_ends (Some t) e = abstract_kind t.kind e

module _ (names : List ℕ) where
  -- what a declarator with a leaf begins with is no type and no closing parenthesis
  begins_plain : (x : DeclaratorTree) (l : ℕ) (c e : Cursor) → DeclaratorSpells names l x c e → is_absent x ≡ false → (begins_type names (head c.ahead) || sees p.RightParenthesis (head c.ahead)) ≡ false
  begins_plain (Named name a z) l c e h q = rw (h.1).ahead (or_false (is_type names name) false h.0 refl)
  begins_plain (Absent a z) l c e h q = cc
  begins_plain (Pointer qualifiers of a z) l c e h q = rw ((h.3).takes).ahead refl
  begins_plain (Grouped inner a z) l c e h q = rw ((h.3).takes).ahead refl
  begins_plain (Array (Absent u v) length a z) l c e (m, n, o, h, k, i, j, r) q = rw h.same (rw (k.takes).ahead refl)
  begins_plain (Array (Named name u v) length a z) l c e (m, n, o, h, k, i, j, r) q = begins_plain (Named name u v) 1 c m h refl
  begins_plain (Array (Pointer qualifiers of u v) length a z) l c e (m, n, o, h, k, i, j, r) q = begins_plain (Pointer qualifiers of u v) 1 c m h refl
  begins_plain (Array (Grouped inner u v) length a z) l c e (m, n, o, h, k, i, j, r) q = begins_plain (Grouped inner u v) 1 c m h refl
  begins_plain (Array (Array of size u v) length a z) l c e (m, n, o, h, k, i, j, r) q = begins_plain (Array of size u v) 1 c m h refl
  begins_plain (Array (Function of ps u v) length a z) l c e (m, n, o, h, k, i, j, r) q = begins_plain (Function of ps u v) 1 c m h refl
  begins_plain (Function (Absent u v) parameters a z) l c e (m, n, o, h, k, i, j, r) q = rw h.same (rw (k.takes).ahead refl)
  begins_plain (Function (Named name u v) parameters a z) l c e (m, n, o, h, k, i, j, r) q = begins_plain (Named name u v) 1 c m h refl
  begins_plain (Function (Pointer qualifiers of u v) parameters a z) l c e (m, n, o, h, k, i, j, r) q = begins_plain (Pointer qualifiers of u v) 1 c m h refl
  begins_plain (Function (Grouped inner u v) parameters a z) l c e (m, n, o, h, k, i, j, r) q = begins_plain (Grouped inner u v) 1 c m h refl
  begins_plain (Function (Array of size u v) parameters a z) l c e (m, n, o, h, k, i, j, r) q = begins_plain (Array of size u v) 1 c m h refl
  begins_plain (Function (Function of ps u v) parameters a z) l c e (m, n, o, h, k, i, j, r) q = begins_plain (Function of ps u v) 1 c m h refl

  least_room : (name : Naming) (x : DeclaratorTree) (d : ℕ) → Fits name (has_name x) → declarator_height x ≤ d → least name ≤ d
  least_room naming.Named x d f l = let q = named_height names x f in omega (arith, q, l)
  least_room naming.Unnamed x d f l = omega arith
  least_room naming.Either x d f l = omega arith

  module _ (d : ℕ) (below : Parsers) (near : AreLocal below) (g : AreWhole names d below) where
    length_is : (n : MaybeExprTree) (c e z : Cursor) → LengthSpells names n c e → maybe_expr_height n ≤ d → Mark p.RightBracket e z → look (reading.length_at names d below) c ≡ Ok (n, e)
    length_is NoExpr c e z h l k = rw h (rw (sees_is p.RightBracket e z k) refl)
    length_is (SomeExpr x) c e z h l k = if_false (sees p.RightBracket (head c.ahead)) _ _ c (Ok (SomeExpr x, e)) (not_begun names p.RightBracket refl x 2 c e h)
        (bind_is (below.expr 2) (λ y. pure (SomeExpr y)) c e x (Ok (SomeExpr x, e)) ((g.core).expr x 2 c e (omega arith) h l (quiet_mark p.RightBracket 2 e z refl k)) refl)

    array_is : (of : DeclaratorTree) (n : MaybeExprTree) (from a z : ℕ) (s m o e : Cursor) → from ≡ a → LengthSpells names n m o → maybe_expr_height n ≤ d → Mark p.RightBracket o e → Lies a z s e → reading.array names d below from of m ≡ Ok (Array of n a z, e)
    array_is of n from a z s m o e f h l k lies = bind_is (look (reading.length_at names d below)) (λ x. mark p.RightBracket >> ended >>= (λ v. pure (Array of x from v))) m o n (Ok (Array of n a z, e)) (length_is n m o e h l k)
        (marked p.RightBracket (ended >>= (λ v. pure (Array of n from v))) o e (Ok (Array of n a z, e)) k (close (Array of n) from a z e f lies.to_is))

    -- where a parameter ends
    abbrev EndsParameter : Cursor → Type 0
    EndsParameter c = ends_abstract (head c.ahead) ≡ true

    parameter_at_comma : (c e : Cursor) → Mark p.Comma c e → EndsParameter c
    parameter_at_comma c e k = rw (k.takes).ahead refl

    parameter_at_end : (c e : Cursor) → Mark p.RightParenthesis c e → EndsParameter c
    parameter_at_end c e k = rw (k.takes).ahead refl

    abbrev IsParameter : ParameterTree → Cursor → Cursor → Type 0
    IsParameter x c e = AsParameter names EndsParameter parameter_at_comma d x c e

    parameter_is : (x : ParameterTree) (c e : Cursor) → IsParameter x c e → reading.parameter names d below c ≡ Ok (x, e)
    unfolding reading.parameter
    parameter_is (OfParameter specs declarator a z) c e ((m, s, h, lies), l, q) =
        let ends = abstract_ends (head e.ahead) q in
        bind_is (below.specs false) (λ u. below.declarator naming.Either >>= (λ x. ended >>= (λ v. pure (OfParameter u x (begin c) v)))) c m specs (Ok (OfParameter specs declarator a z, e)) (g.specs specs false c m s (omega (arith, l)) (named_ends names declarator 0 m e h (λ _. ends.0)))
        (bind_is (below.declarator naming.Either) (λ x. ended >>= (λ v. pure (OfParameter specs x (begin c) v))) m e declarator (Ok (OfParameter specs declarator a z, e)) (g.declarator declarator naming.Either m e tt h (omega (arith, l)) ends.1)
        (close (OfParameter specs declarator) (begin c) a z e (sym lies.from_is) lies.to_is))

    parameter_type : (x : ParameterTree) (c e : Cursor) → ParameterSpells names x c e → begins_type names (head c.ahead) ≡ true
    parameter_type (OfParameter specs declarator a z) c e (m, s, r, lies) = specs_type names false specs c m s

    list_is : (x : ParameterTree) (xs : ParameterTrees) (c m e z : Cursor) → ParameterSpells names x c m → CommaParameters names xs m e → parameter_height x ≤ d → parameter_list_height xs ≤ d → Mark p.RightParenthesis e z → commas (reading.parameter names d below) c ≡ Ok (x ∷ parameters_list xs, e)
    list_is x xs c m e z h r l f k =
        let q = parameter_at_end e z k in
        commas_is IsParameter (reading.parameter names d below) (item_step-shrinks (sees p.Comma) (mark p.Comma >> reading.parameter names d below) (eats_left (eats_mark p.Comma) (λ _. parameter-local names d below near))) parameter_is x (parameters_list xs) c m e
        (h, l, parameters_end names EndsParameter parameter_at_comma d xs m e r q) (comma_parameters_back names EndsParameter parameter_at_comma d xs m e r f q) (sees_not p.Comma p.RightParenthesis e z k refl)

    parameters_is : (ps : ParametersTree) (c e z : Cursor) → ParametersSpell names ps c e → parameters_height ps ≤ d → Mark p.RightParenthesis e z → look (reading.parameters_at names d below) c ≡ Ok (ps, e)
    parameters_is (Empty a y) c e z h l k = rw h.same (if_true (sees p.RightParenthesis (head e.ahead)) _ _ e (Ok (Empty a y, e)) (sees_is p.RightParenthesis e z k)
        (ap (λ u. Ok (Empty u e.ended, e)) (sym (h.from_is ∙ ap (λ u. u.ended) h.same)) ∙ ap (λ u. Ok (Empty a u, e)) (sym (h.to_is ∙ ap (λ u. u.ended) h.same))))
    parameters_is (OnlyVoid a y) c e z h l k =
        let only : ParameterTree = OfParameter (OfSpecs NoQualifiers (Void a y) NoQualifiers a y) (Absent y y) a y in
        let from_is : a ≡ begin c = sym (ap (λ u. from_of (head u)) h.ahead) in
        let lies : Lies a y c e = record { from_is = from_is; to_is = sym h.ended } in
        let spells : ParameterSpells names only c e = (e, (c, e, refl, h, refl, lies), record { same = refl; from_is = sym h.ended; to_is = sym h.ended }, lies) in
        if_false (sees p.RightParenthesis (head c.ahead)) _ _ c (Ok (OnlyVoid a y, e)) (type_no_mark names p.RightParenthesis (head c.ahead) (parameter_type only c e spells))
        (bind_is (commas (reading.parameter names d below)) (λ xs. ended >>= (λ v. pure (reading.as_parameters xs (begin c) v))) c e (only ∷ []) (Ok (OnlyVoid a y, e)) (list_is only NoParameters c e e z spells refl (omega arith) (omega arith) k)
        (ap (λ u. Ok (OnlyVoid u e.ended, e)) (sym from_is) ∙ ap (λ u. Ok (OnlyVoid a u, e)) h.ended))
    parameters_is (Listed NoParameters a y) c e z h l k = absurd h.1
    parameters_is (Listed (ConsParameter x xs) a y) c e z (n, (m, h, r), lies) l k =
        if_false (sees p.RightParenthesis (head c.ahead)) _ _ c (Ok (Listed (ConsParameter x xs) a y, e)) (type_no_mark names p.RightParenthesis (head c.ahead) (parameter_type x c m h))
        (bind_is (commas (reading.parameter names d below)) (λ ys. ended >>= (λ v. pure (reading.as_parameters ys (begin c) v))) c e (x ∷ parameters_list xs) (Ok (Listed (ConsParameter x xs) a y, e)) (list_is x xs c m e z h r (omega (arith, l)) (omega (arith, l)) k)
        (rw (parameters_back xs, n) (ap (λ u. Ok (Listed (ConsParameter x xs) u e.ended, e)) (sym lies.from_is) ∙ ap (λ u. Ok (Listed (ConsParameter x xs) a u, e)) (sym lies.to_is))))

    function_is : (of : DeclaratorTree) (ps : ParametersTree) (from a z : ℕ) (s m o e : Cursor) → from ≡ a → ParametersSpell names ps m o → parameters_height ps ≤ d → Mark p.RightParenthesis o e → Lies a z s e → reading.function names d below from of m ≡ Ok (Function of ps a z, e)
    function_is of ps from a z s m o e f h l k lies = bind_is (look (reading.parameters_at names d below)) (λ x. mark p.RightParenthesis >> ended >>= (λ v. pure (Function of x from v))) m o ps (Ok (Function of ps a z, e)) (parameters_is ps m o e h l k)
        (marked p.RightParenthesis (ended >>= (λ v. pure (Function of ps from v))) o e (Ok (Function of ps a z, e)) k (close (Function of ps) from a z e f lies.to_is))

    array_part : (of : DeclaratorTree) (n : MaybeExprTree) (a z : ℕ) (s c m o e : Cursor) → Mark p.LeftBracket c m → declarator_height of ≤ d → LengthSpells names n m o → maybe_expr_height n ≤ d → Mark p.RightBracket o e → Lies a z s e → reading.suffix names d below (begin s) of c ≡ Ok (Some (Array of n a z), e)
    unfolding reading.suffix
    array_part of n a z s c m o e k f h l q lies = look_is (reading.suffix_at names d below (begin s) of) c m k (Ok (Some (Array of n a z), e))
        (roomy (declarator_height of) d (after (record { kind = kind.Punct p.LeftBracket; from = k.from; to = k.to }) >> reading.array names d below (begin s) of >>= (λ x. pure (Some x))) c (Ok (Some (Array of n a z), e)) f
        (took k (reading.array names d below (begin s) of >>= (λ x. pure (Some x))) (Ok (Some (Array of n a z), e))
        (bind_is (reading.array names d below (begin s) of) (λ x. pure (Some x)) m e (Array of n a z) (Ok (Some (Array of n a z), e)) (array_is of n (begin s) a z s m o e (sym lies.from_is) h l q lies) refl)))

    function_part : (of : DeclaratorTree) (ps : ParametersTree) (a z : ℕ) (s c m o e : Cursor) → Mark p.LeftParenthesis c m → declarator_height of ≤ d → ParametersSpell names ps m o → parameters_height ps ≤ d → Mark p.RightParenthesis o e → Lies a z s e → reading.suffix names d below (begin s) of c ≡ Ok (Some (Function of ps a z), e)
    unfolding reading.suffix
    function_part of ps a z s c m o e k f h l q lies = look_is (reading.suffix_at names d below (begin s) of) c m k (Ok (Some (Function of ps a z), e))
        (roomy (declarator_height of) d (after (record { kind = kind.Punct p.LeftParenthesis; from = k.from; to = k.to }) >> reading.function names d below (begin s) of >>= (λ x. pure (Some x))) c (Ok (Some (Function of ps a z), e)) f
        (took k (reading.function names d below (begin s) of >>= (λ x. pure (Some x))) (Ok (Some (Function of ps a z), e))
        (bind_is (reading.function names d below (begin s) of) (λ x. pure (Some x)) m e (Function of ps a z) (Ok (Some (Function of ps a z), e)) (function_is of ps (begin s) a z s m o e (sym lies.from_is) h l q lies) refl)))

    suffix_stops_at : (from : ℕ) (of : DeclaratorTree) (h : Option Token) (c : Cursor) → ends_declarator h ≡ true → reading.suffix_at names d below from of h c ≡ Ok (None, c)
    suffix_stops_at from of None c e = refl
    suffix_stops_at from of (Some t) c e = rw (bracket_no t.kind e, parenthesis_no t.kind e) refl

    suffixes_end : (n from : ℕ) (of : DeclaratorTree) (c : Cursor) → ends_declarator (head c.ahead) ≡ true → reading.suffixes names d below from n of c ≡ Ok (of, c)
    unfolding reading.suffixes reading.suffix
    suffixes_end zero from of c e = bind_is (reading.suffix names d below from of) (reading.suffixed names d below (λ x. refuse S2) of) c c None (Ok (of, c)) (suffix_stops_at from of (head c.ahead) c e) refl
    suffixes_end (suc n) from of c e = bind_is (reading.suffix names d below from of) (reading.suffixed names d below (reading.suffixes names d below from n) of) c c None (Ok (of, c)) (suffix_stops_at from of (head c.ahead) c e) refl

    -- no qualifier stands in front of what a declarator's stars point to
    free_head : (x : DeclaratorTree) (l : ℕ) (c e : Cursor) → DeclaratorSpells names l x c e → (is_absent x ≡ true → begins_qualifier (head e.ahead) ≡ false) → begins_qualifier (head c.ahead) ≡ false
    free_head (Named name a z) l c e h q = rw (h.1).ahead refl
    free_head (Absent a z) l c e h q = rw h.same (q refl)
    free_head (Pointer qualifiers of a z) l c e h q = rw ((h.3).takes).ahead refl
    free_head (Grouped inner a z) l c e h q = rw ((h.3).takes).ahead refl
    free_head (Array of length a z) l c e (m, n, o, h, k, i, j, r) q = free_head of 1 c m h (λ _. rw (k.takes).ahead refl)
    free_head (Function of parameters a z) l c e (m, n, o, h, k, i, j, r) q = free_head of 1 c m h (λ _. rw (k.takes).ahead refl)

    -- What the loop of suffixes comes to, from an outcome on.
    record Comes (from : Outcome DeclaratorTree) (s : Cursor) (x : DeclaratorTree) (e : Cursor) : Type 0 where
      n : ℕ
      room : suc d ≤ n + declarator_height x
      same : from ≡ reading.suffixes names d below (begin s) n x e

    part_at : (from : Outcome DeclaratorTree) (s : Cursor) (n : ℕ) (of x : DeclaratorTree) (c e : Cursor) → reading.suffix names d below (begin s) of c ≡ Ok (Some x, e) → suc (declarator_height of) ≤ declarator_height x → declarator_height of ≤ d
        → suc d ≤ n + declarator_height of → from ≡ reading.suffixes names d below (begin s) n of c → Comes from s x e
    unfolding reading.suffixes
    part_at from s zero of x c e h f b room same = absurd (omega (arith, room, b))
    part_at from s (suc n) of x c e h f b room same = record {
      n = n;
      room = omega (arith, room, f);
      same = same ∙ bind_is (reading.suffix names d below (begin s) of) (reading.suffixed names d below (reading.suffixes names d below (begin s) n) of) c e (Some x) (reading.suffixes names d below (begin s) n x e) h refl;
    }

    part : (from : Outcome DeclaratorTree) (s : Cursor) (of x : DeclaratorTree) (c e : Cursor) → reading.suffix names d below (begin s) of c ≡ Ok (Some x, e) → suc (declarator_height of) ≤ declarator_height x → declarator_height of ≤ d → Comes from s of c → Comes from s x e
    part from s of x c e h f b i = part_at from s i.n of x c e h f b i.room i.same

    -- a declarator to which at most one part is added
    abbrev is_start : DeclaratorTree → Bool
    is_start (Named name a z) = true
    is_start (Grouped inner a z) = true
    is_start (Array of length a z) = is_absent of
    is_start (Function of parameters a z) = is_absent of
    is_start _ = false

    module _ (from : Outcome DeclaratorTree) (s : Cursor) (N : Bool → Type 0) (first : (x : DeclaratorTree) (e : Cursor) → is_start x ≡ true → N (has_name x) → DeclaratorSpells names 1 x s e → declarator_height x ≤ suc d → Comes from s x e) where
      array_case : (of : DeclaratorTree) (n : MaybeExprTree) (a z : ℕ) (e : Cursor) (b : Bool) → is_absent of ≡ b → N (has_name of) → DeclaratorSpells names 1 (Array of n a z) s e → declarator_height (Array of n a z) ≤ suc d
          → ((c : Cursor) → is_absent of ≡ false → DeclaratorSpells names 1 of s c → declarator_height of ≤ suc d → Comes from s of c) → Comes from s (Array of n a z) e
      array_case of n a z e true q y h f g = first (Array of n a z) e q y h f
      array_case of n a z e false q y (c, m, o, h, k, i, j, lies) f g = part from s of (Array of n a z) c e (array_part of n a z s c m o e k (omega (arith, f)) i (omega (arith, f)) j lies) (omega arith) (omega (arith, f)) (g c q h (omega (arith, f)))

      function_case : (of : DeclaratorTree) (ps : ParametersTree) (a z : ℕ) (e : Cursor) (b : Bool) → is_absent of ≡ b → N (has_name of) → DeclaratorSpells names 1 (Function of ps a z) s e → declarator_height (Function of ps a z) ≤ suc d
          → ((c : Cursor) → is_absent of ≡ false → DeclaratorSpells names 1 of s c → declarator_height of ≤ suc d → Comes from s of c) → Comes from s (Function of ps a z) e
      function_case of ps a z e true q y h f g = first (Function of ps a z) e q y h f
      function_case of ps a z e false q y (c, m, o, h, k, i, j, lies) f g = part from s of (Function of ps a z) c e (function_part of ps a z s c m o e k (omega (arith, f)) i (omega (arith, f)) j lies) (omega arith) (omega (arith, f)) (g c q h (omega (arith, f)))

      come : (x : DeclaratorTree) (e : Cursor) → is_absent x ≡ false → N (has_name x) → DeclaratorSpells names 1 x s e → declarator_height x ≤ suc d → Comes from s x e
      come (Named name a z) e q y h f = first (Named name a z) e refl y h f
      come (Absent a z) e q y h f = cc
      come (Pointer qualifiers of a z) e q y h f = absurd (let bad = h.2 in omega (arith, bad))
      come (Grouped inner a z) e q y h f = first (Grouped inner a z) e refl y h f
      come (Array of length a z) e q y h f = array_case of length a z e (is_absent of) refl y h f (λ c b. come of c b y)
      come (Function of parameters a z) e q y h f = function_case of parameters a z e (is_absent of) refl y h f (λ c b. come of c b y)

    -- at the first token
    at_first : {k : Kind} {a z : ℕ} {c m : Cursor} → Takes k a z c m → (name : Naming) (o : Outcome DeclaratorTree) → reading.declarator_by names d below name (record { kind = k; from = a; to = z }) c.ended k c ≡ o → reading.declarator_level names d below name c ≡ o
    unfolding reading.declarator_level
    at_first {c = c} {m = m} h name o e = look_at_is (reading.declarator_at names d below name c.ended) c m h o e

    begin_is : {k : Kind} {a z : ℕ} {c m : Cursor} → Takes k a z c m → a ≡ begin c
    begin_is h = sym (ap (λ x. from_of (head x)) h.ahead)

    first_named : (name : Naming) (n : ℕ) (a z : ℕ) (s e : Cursor) → Fits name true → NameSpells names n a z s e → Comes (reading.declarator_level names d below name s) s (Named n a z) e
    first_named name n a z s e f (q, k) = record {
      n = suc d;
      room = omega arith;
      same = at_first k name (reading.suffixes names d below a (suc d) (Named n a z) e) (rw (takes_fit name f, q) (taken k (reading.suffixes names d below a (suc d) (Named n a z)) (reading.suffixes names d below a (suc d) (Named n a z) e) refl))
          ∙ ap (λ u. reading.suffixes names d below u (suc d) (Named n a z) e) (begin_is k);
    }

    grouped_is : (name : Naming) (inner : DeclaratorTree) (from a z : ℕ) (s m n e : Cursor) → from ≡ a → Fits name (has_name inner) → DeclaratorSpells names 0 inner m n → declarator_height inner ≤ d → Mark p.RightParenthesis n e → Lies a z s e → reading.grouped names d below name from m ≡ Ok (Grouped inner a z, e)
    grouped_is name inner from a z s m n e f i h l k lies = bind_is (below.declarator name) (λ x. mark p.RightParenthesis >> ended >>= (λ v. pure (Grouped x from v))) m n inner (Ok (Grouped inner a z, e)) (g.declarator inner name m n i h l (rw (k.takes).ahead refl))
        (marked p.RightParenthesis (ended >>= (λ v. pure (Grouped inner from v))) n e (Ok (Grouped inner a z, e)) k (close (Grouped inner) from a z e f lies.to_is))

    -- behind a `(`
    at_open : (name : Naming) (s m : Cursor) (k : Mark p.LeftParenthesis s m) (x : DeclaratorTree) (e : Cursor) → least name ≤ d → look (reading.open_at names d below name k.from s.ended) m ≡ Ok (x, e) → Comes (reading.declarator_level names d below name s) s x e
    at_open name s m k x e l h = record {
      n = suc d;
      room = omega arith;
      same = at_first k.takes name (reading.suffixes names d below k.from (suc d) x e)
          (roomy (least name) d (after (record { kind = kind.Punct p.LeftParenthesis; from = k.from; to = k.to }) >> look (reading.open_at names d below name k.from s.ended) >>= reading.suffixes names d below k.from (suc d)) s (reading.suffixes names d below k.from (suc d) x e) l
          (took k (look (reading.open_at names d below name k.from s.ended) >>= reading.suffixes names d below k.from (suc d)) (reading.suffixes names d below k.from (suc d) x e)
          (bind_is (look (reading.open_at names d below name k.from s.ended)) (reading.suffixes names d below k.from (suc d)) m e x (reading.suffixes names d below k.from (suc d) x e) h refl)))
          ∙ ap (λ u. reading.suffixes names d below u (suc d) x e) (begin_is k.takes);
    }

    first_grouped : (name : Naming) (inner : DeclaratorTree) (a z : ℕ) (s e : Cursor) → Fits name (has_name inner) → DeclaratorSpells names 1 (Grouped inner a z) s e → declarator_height inner ≤ d → Comes (reading.declarator_level names d below name s) s (Grouped inner a z) e
    first_grouped name inner a z s e i (m, n, q, k, h, r, lies) l = at_open name s m k (Grouped inner a z) e (least_room name inner d i l)
        (if_false (takes_none name && (begins_type names (head m.ahead) || sees p.RightParenthesis (head m.ahead))) _ _ m (Ok (Grouped inner a z, e)) (rw (begins_plain inner 0 m n h q) (and_false (takes_none name)))
        (grouped_is name inner k.from a z s m n e (from_is k lies) i h l r lies))

    parameters_begin : (ps : ParametersTree) (c e z : Cursor) → ParametersSpell names ps c e → Mark p.RightParenthesis e z → (begins_type names (head c.ahead) || sees p.RightParenthesis (head c.ahead)) ≡ true
    parameters_begin (Empty a y) c e z h k = rw h.same (or_true_right (begins_type names (head e.ahead)) _ (sees_is p.RightParenthesis e z k))
    parameters_begin (OnlyVoid a y) c e z h k = rw h.ahead refl
    parameters_begin (Listed NoParameters a y) c e z h k = absurd h.1
    parameters_begin (Listed (ConsParameter x xs) a y) c e z (n, (m, h, r), lies) k = or_true_left _ (sees p.RightParenthesis (head c.ahead)) (parameter_type x c m h)

    none_least : (name : Naming) → Fits name false → least name ≤ d
    none_least naming.Named f = cc
    none_least naming.Unnamed f = omega arith
    none_least naming.Either f = omega arith

    first_function : (name : Naming) (u v : ℕ) (ps : ParametersTree) (a z : ℕ) (s e : Cursor) → Fits name false → DeclaratorSpells names 1 (Function (Absent u v) ps a z) s e → parameters_height ps ≤ d → Comes (reading.declarator_level names d below name s) s (Function (Absent u v) ps a z) e
    first_function name u v ps a z s e f (c, m, o, h, k, i, j, lies) l =
        let b : Mark p.LeftParenthesis s m = rw h.same k in
        at_open name s m b (Function (Absent u v) ps a z) e (none_least name f)
        (if_true (takes_none name && (begins_type names (head m.ahead) || sees p.RightParenthesis (head m.ahead))) _ _ m (Ok (Function (Absent u v) ps a z, e)) (rw (none_fit name f) (parameters_begin ps m o e i j))
        (rw (h.from_is, h.to_is) (function_is (Absent s.ended s.ended) ps b.from a z s m o e (from_is b lies) i l j lies)))

    first_array : (name : Naming) (u v : ℕ) (n : MaybeExprTree) (a z : ℕ) (s e : Cursor) → Fits name false → DeclaratorSpells names 1 (Array (Absent u v) n a z) s e → maybe_expr_height n ≤ d → Comes (reading.declarator_level names d below name s) s (Array (Absent u v) n a z) e
    first_array name u v n a z s e f (c, m, o, h, k, i, j, lies) l =
        let b : Mark p.LeftBracket s m = rw h.same k in
        part_at (reading.declarator_level names d below name s) s (suc d) (Absent u v) (Array (Absent u v) n a z) s e (array_part (Absent u v) n a z s s m o e b (omega arith) i l j lies) (omega arith) (omega arith) (omega arith)
        (at_first b.takes name (reading.suffixes names d below b.from (suc d) (Absent s.ended s.ended) s) (rw (none_fit name f) refl)
        ∙ ap (λ y. reading.suffixes names d below y (suc d) (Absent s.ended s.ended) s) (begin_is b.takes)
        ∙ ap (λ y. reading.suffixes names d below (begin s) (suc d) (Absent y s.ended) s) (sym h.from_is) ∙ ap (λ y. reading.suffixes names d below (begin s) (suc d) (Absent u y) s) (sym h.to_is))

    first_part : (name : Naming) (x : DeclaratorTree) (s e : Cursor) → Fits name (has_name x) → is_start x ≡ true → DeclaratorSpells names 1 x s e → declarator_height x ≤ suc d → Comes (reading.declarator_level names d below name s) s x e
    first_part name (Named n a z) s e f q h l = first_named name n a z s e f h
    first_part name (Grouped inner a z) s e f q h l = first_grouped name inner a z s e f h (omega (arith, l))
    first_part name (Array (Absent u v) n a z) s e f q h l = first_array name u v n a z s e f h (omega (arith, l))
    first_part name (Function (Absent u v) ps a z) s e f q h l = first_function name u v ps a z s e f h (omega (arith, l))
    first_part name (Array (Named i u v) n a z) s e f q h l = cc
    first_part name (Array (Pointer i of u v) n a z) s e f q h l = cc
    first_part name (Array (Grouped i u v) n a z) s e f q h l = cc
    first_part name (Array (Array i of u v) n a z) s e f q h l = cc
    first_part name (Array (Function i of u v) n a z) s e f q h l = cc
    first_part name (Function (Named i u v) n a z) s e f q h l = cc
    first_part name (Function (Pointer i of u v) n a z) s e f q h l = cc
    first_part name (Function (Grouped i u v) n a z) s e f q h l = cc
    first_part name (Function (Array i of u v) n a z) s e f q h l = cc
    first_part name (Function (Function i of u v) n a z) s e f q h l = cc
    first_part name (Absent u v) s e f q h l = cc
    first_part name (Pointer i of u v) s e f q h l = cc

    nothing_is : (name : Naming) (a z : ℕ) (c e : Cursor) → Fits name false → (a ≡ c.ended) → (z ≡ c.ended) → (h : Option Token) → ends_declarator h ≡ true → h ≡ head c.ahead → reading.declarator_at names d below name c.ended h c ≡ Ok (Absent a z, c)
    nothing_is name a z c e f ea ez None q w = rw (none_fit name f, ea, ez) refl
    nothing_is name a z c e f ea ez (Some t) q w = if_false (is_mark p.Star t.kind) _ _ c (Ok (Absent a z, c)) (star_no t.kind q) (rw (ea, ez) (by_kind t.kind q))
      where
        no_part : (k : Kind) → ends_declarator_kind k ≡ true → reading.direct_mark names d below name t c.ended k c ≡ Ok (Absent c.ended c.ended, c)
        no_part k y = if_false (is_mark p.LeftParenthesis k) _ _ c (Ok (Absent c.ended c.ended, c)) (parenthesis_no k y) (if_true (takes_none name) _ _ c (Ok (Absent c.ended c.ended, c)) (none_fit name f) (suffixes_end (suc d) t.from (Absent c.ended c.ended) c (rw (← w) q)))

        by_kind : (k : Kind) → ends_declarator_kind k ≡ true → reading.direct_by names d below name t c.ended k c ≡ Ok (Absent c.ended c.ended, c)
        by_kind (kind.Name n) y = cc
        by_kind (kind.Punct x) y = no_part (kind.Punct x) y
        by_kind (kind.Keyword x) y = no_part (kind.Keyword x) y
        by_kind (kind.Integer value decimal unsigned long) y = no_part (kind.Integer value decimal unsigned long) y
        by_kind (kind.Character value) y = no_part (kind.Character value) y
        by_kind (kind.Text bytes) y = no_part (kind.Text bytes) y
        by_kind (kind.Include x) y = no_part (kind.Include x) y

    star_is : (name : Naming) (qs : QualifierTrees) (of : DeclaratorTree) (a z : ℕ) (s e : Cursor) → Fits name (has_name of) → DeclaratorSpells names 0 (Pointer qs of a z) s e → qualifiers_height qs ≤ d → declarator_height of ≤ d → ends_declarator (head e.ahead) ≡ true → reading.declarator_level names d below name s ≡ Ok (Pointer qs of a z, e)
    star_is name qs of a z s e f (m, n, zero_is, k, h, i, lies) l o q = at_first k.takes name (Ok (Pointer qs of a z, e))
        (roomy (least name) d (after (record { kind = kind.Punct p.Star; from = k.from; to = k.to }) >> reading.pointer names d below name k.from) s (Ok (Pointer qs of a z, e)) (least_room name of d f o)
        (took k (reading.pointer names d below name k.from) (Ok (Pointer qs of a z, e))
        (bind_is (reading.qualifiers names d below below) (λ ys. below.declarator name >>= (λ x. ended >>= (λ v. pure (Pointer (qualifiers_of ys) x k.from v)))) m n (qualifiers_list qs) (Ok (Pointer qs of a z, e))
        (qualifiers_is names d below below (g.core).expr near.expr near qs m n h l (free_head of 0 n e i (λ _. free_end (head e.ahead) q)))
        (rw (qualifiers_back qs) (bind_is (below.declarator name) (λ x. ended >>= (λ v. pure (Pointer qs x k.from v))) n e of (Ok (Pointer qs of a z, e)) (g.declarator of name n e f i o q) (close (Pointer qs of) k.from a z e (from_is k lies) lies.to_is))))))

    direct_is : (x : DeclaratorTree) (name : Naming) (c e : Cursor) → is_absent x ≡ false → Fits name (has_name x) → DeclaratorSpells names 1 x c e → declarator_height x ≤ suc d → ends_declarator (head e.ahead) ≡ true → reading.declarator_level names d below name c ≡ Ok (x, e)
    direct_is x name c e b f h l q =
        let r = come (reading.declarator_level names d below name c) c (Fits name) (λ y i s v t u. first_part name y c i v s t u) x e b f h l in
        r.same ∙ suffixes_end r.n (begin c) x e q

    pub declarator_is : (x : DeclaratorTree) (name : Naming) (c e : Cursor) → Fits name (has_name x) → DeclaratorSpells names 0 x c e → declarator_height x ≤ suc d → ends_declarator (head e.ahead) ≡ true → reading.declarator_level names d below name c ≡ Ok (x, e)
    unfolding reading.declarator_level
    declarator_is (Absent a z) name c e f h l q = nothing_is name a z c e f h.from_is h.to_is (head c.ahead) (rw h.same q) refl ∙ ap (λ y. Ok (Absent a z, y)) h.same
    declarator_is (Named i a z) name c e f h l q = direct_is (Named i a z) name c e refl f h l q
    declarator_is (Pointer qs of a z) name c e f h l q = star_is name qs of a z c e f h (omega (arith, l)) (omega (arith, l)) q
    declarator_is (Grouped i a z) name c e f h l q = direct_is (Grouped i a z) name c e refl f h l q
    declarator_is (Array i n a z) name c e f h l q = direct_is (Array i n a z) name c e refl f h l q
    declarator_is (Function i n a z) name c e f h l q = direct_is (Function i n a z) name c e refl f h l q

  -- type names, of specifiers and declarators
  type_name_is : (d : ℕ) (b : Parsers)
      → ((s : SpecsTree) (bodies : Bool) (c e : Cursor) → SpecsSpell names bodies s c e → specs_height s ≤ d → ends_specs (head e.ahead) ≡ true → b.specs bodies c ≡ Ok (s, e))
      → ((x : DeclaratorTree) (name : Naming) (c e : Cursor) → Fits name (has_name x) → DeclaratorSpells names 0 x c e → declarator_height x ≤ d → ends_declarator (head e.ahead) ≡ true → b.declarator name c ≡ Ok (x, e))
      → (t : TypeNameTree) (c e n : Cursor) → TypeNameSpells names t c e → type_name_height t ≤ d → Mark p.RightParenthesis e n → reading.type_name names d b c ≡ Ok (t, e)
  unfolding reading.type_name
  type_name_is d b gs gd (OfTypeName specs declarator a z) c e n (m, s, f, h, lies) l k =
      let ends : (ends_specs (head e.ahead) ≡ true) × (ends_declarator (head e.ahead) ≡ true) = rw (k.takes).ahead (refl, refl) in
      bind_is (b.specs false) (λ u. b.declarator naming.Unnamed >>= (λ x. ended >>= (λ v. pure (OfTypeName u x (begin c) v)))) c m specs (Ok (OfTypeName specs declarator a z, e)) (gs specs false c m s (omega (arith, l)) (named_ends names declarator 0 m e h (λ _. ends.0)))
      (bind_is (b.declarator naming.Unnamed) (λ x. ended >>= (λ v. pure (OfTypeName specs x (begin c) v))) m e declarator (Ok (OfTypeName specs declarator a z, e)) (gd declarator naming.Unnamed m e f h (omega (arith, l)) ends.1)
      (close (OfTypeName specs declarator) (begin c) a z e (sym lies.from_is) lies.to_is))

  no_height : (t : ExprTree) → expr_height t ≤ 0 → ⊥
  no_height t l = let h = height_pos t in omega (arith, h, l)

  bare_stops : (name : Naming) (a z : ℕ) (c : Cursor) → Fits name false → (a ≡ c.ended) → (z ≡ c.ended) → (h : Option Token) → ends_declarator h ≡ true → reading.bare_at names name c.ended h c ≡ Ok (Absent a z, c)
  bare_stops name a z c f ea ez None q = rw (none_fit name f, ea, ez) refl
  bare_stops name a z c f ea ez (Some t) q = if_false (reading.begins_declarator names name t.kind) _ _ c (Ok (Absent a z, c)) (by_kind t.kind q) (rw (none_fit name f, ea, ez) refl)
    where
      by_kind : (k : Kind) → ends_declarator_kind k ≡ true → reading.begins_declarator names name k ≡ false
      by_kind (kind.Name n) y = cc
      by_kind (kind.Punct x) y = rw (star_no (kind.Punct x) y, parenthesis_no (kind.Punct x) y, bracket_no (kind.Punct x) y) (and_false (takes_none name))
      by_kind (kind.Keyword x) y = and_false (takes_none name)
      by_kind (kind.Integer value decimal unsigned long) y = and_false (takes_none name)
      by_kind (kind.Character value) y = and_false (takes_none name)
      by_kind (kind.Text bytes) y = and_false (takes_none name)
      by_kind (kind.Include x) y = and_false (takes_none name)

  bare_is : (x : DeclaratorTree) (name : Naming) (c e : Cursor) → Fits name (has_name x) → DeclaratorSpells names 0 x c e → declarator_height x ≤ 0 → ends_declarator (head e.ahead) ≡ true → reading.bare_declarator names name c ≡ Ok (x, e)
  unfolding reading.bare_declarator
  bare_is (Absent a z) name c e f h l q = bare_stops name a z c f h.from_is h.to_is (head c.ahead) (rw h.same q) ∙ ap (λ y. Ok (Absent a z, y)) h.same
  bare_is (Named i a z) name c e f h l q = absurd (omega (arith, l))
  bare_is (Pointer qs of a z) name c e f h l q = absurd (omega (arith, l))
  bare_is (Grouped i a z) name c e f h l q = absurd (omega (arith, l))
  bare_is (Array i n a z) name c e f h l q = absurd (omega (arith, l))
  bare_is (Function i n a z) name c e f h l q = absurd (omega (arith, l))

  whole_of : (d : ℕ) (b : Parsers)
      → ((t : ExprTree) (level : ℕ) (c e : Cursor) → level ≤ 14 → ExprSpells names level t c e → expr_height t ≤ d → Quiet level e → b.expr level c ≡ Ok (t, e))
      → ((t : ExprTree) (o c e : Cursor) → Mark p.LeftParenthesis o c → ExprSpells names 14 t o e → expr_height t ≤ d → Quiet 14 e → b.opened (begin o) c ≡ Ok (t, e))
      → ((s : SpecsTree) (bodies : Bool) (c e : Cursor) → SpecsSpell names bodies s c e → specs_height s ≤ d → ends_specs (head e.ahead) ≡ true → b.specs bodies c ≡ Ok (s, e))
      → ((x : DeclaratorTree) (name : Naming) (c e : Cursor) → Fits name (has_name x) → DeclaratorSpells names 0 x c e → declarator_height x ≤ d → ends_declarator (head e.ahead) ≡ true → b.declarator name c ≡ Ok (x, e))
      → AreWhole names d b
  whole_of d b ge go gs gd = record { core = record { expr = ge; opened = go; type_name = type_name_is d b gs gd }; specs = gs; declarator = gd }

  -- What the grammar has in a depth is read, where it ends.
  pub complete : (d : ℕ) → AreWhole names d (reading.parsers names d)
  unfolding reading.parsers
  complete zero = whole_of 0 (reading.parsers names 0) (λ t level c e low h l q. absurd (no_height t l)) (λ t o c e k h l q. absurd (no_height t l))
      (specs_is names 0 (reading.no_parsers names) (reading.no_parsers names) (λ t level c e low h l q. absurd (no_height t l)) (λ level. (none-local names).expr level) (none-local names)
      (λ tag members from a z s n o q e f k some h r lies l. absurd (omega (arith, l))) (λ tag xs from a z s n o q r e f k h c b lies l. absurd (omega (arith, l))))
      bare_is
  complete (suc d) =
      let near = parsers-local names d in
      let g = complete d in
      let ge = expr_complete names d (reading.parsers names d) near g.core in
      whole_of (suc d) (reading.parsers names (suc d)) ge (opened_complete names d (reading.parsers names d) near g.core)
      (specs_is names (suc d) _ (reading.parsers names d) ge (λ level. (parsers-local names (suc d)).expr level) near
      (struct_body_is names (suc d) _ (reading.parsers names d) ge (λ level. (parsers-local names (suc d)).expr level) near d (λ _. omega arith) g)
      (enum_body_is names (suc d) _ (reading.parsers names d) ge (λ level. (parsers-local names (suc d)).expr level) near d (λ _. omega arith) g))
      (declarator_is d (reading.parsers names d) near g)
