-- What is read is in the grammar, and no deeper than the depth.
use Rattle.std.proofs.Common.{◌≡◌, ◌≤◌, ℕ, zero, suc, List, [], ◌∷◌, ◌++◌, Option, Some, None, Bool, true, false, ◌&&◌, refl, sym, ◌∙◌, ap, arith, nat_le, append_assoc, append-nil}
use Rattle.std.specs.List.{concat}
use Rattle.std.proofs.lemmas.List.Folds.{concat-append}
use Rattle.std.proofs.lemmas.Bool.{leb-true}
use Rattle.pa_lex.specs.declared.token.Kind.{Kind}
use Rattle.pa_lex.specs.declared.token.Kind.TheVariants as kind
use Rattle.pa_lex.specs.declared.token.Keyword.TheVariants as w
use Rattle.pa_lex.specs.declared.token.Punct.{Punct}
use Rattle.pa_lex.specs.declared.token.Punct.TheVariants as p
use Rattle.pa_lex.specs.declared.token.Token.{Token}
use Rattle.pa_tree.specs.declared.expr.Tag.{Tag}
use Rattle.pa_tree.specs.declared.operator.BinaryOperator.{BinaryOperator}
use Rattle.pa_tree.specs.declared.operator.PrefixOperator.{PrefixOperator}
use Rattle.pa_tree.specs.declared.operator.PrefixOperator.TheVariants as prefix
use Rattle.pa_grammar.specs.declared.rule.Naming.{Naming}
use Rattle.pa_grammar.specs.declared.rule.Naming.TheVariants as naming
use Rattle.pa_tree.specs.Cursors.{Cursor, head, begin, from_of, Takes, Shifts, Mark, Word}
use Rattle.pa_tree.specs.Exprs.{ExprTree, Identifier, Integer, Character, Text, Prefix, TypeNameTree, SpecsTree, DeclaratorTree}
use Rattle.pa_tree.specs.Heights.{expr_height, exprs_height, type_name_height, specs_height, declarator_height}
use Rattle.pa_tree.specs.Operators.{right_level, prefix_level, prefix_of}
use Rattle.pa_tree.specs.Spells.{is_type, has_name, ExprSpells, ArgumentsSpell, TypeNameSpells, SpecsSpell, DeclaratorSpells, TextsSpell}
use Rattle.pa_tree.specs.Views.{exprs_of}
use Rattle.pa_tree.proofs.Operators.{levels, sign_of_prefix}
use Rattle.pa_grammar.specs.Tokens.{same_mark, same_word}
use Rattle.pa_grammar.specs.Infixes.{Infix, Between, Choice, Indexed, Called, Dotted, Arrowed, Stepped, infix_in, infix_sign, infix_level, infix_left, tree_level}
use Rattle.pa_grammar.specs.Parser.{Parser, ◌>>=◌, pure, ended, sees, More, iterate}
use Rattle.pa_grammar.specs.Reading as reading
use Rattle.pa_grammar.specs.Reading.{Parsers, text_step, text_at, text_by, word_step, word_at, word_by, integer_word, next, next_at, next_by, plain_name, name_at, name_by, type_name, type_name_from, conds, conds_at, gone, going, turn, last, climb, operand, operand_at, operand_by, level_from, expr_level, opened_level}
use Rattle.pa_grammar.proofs.Tokens.{same_mark-true, same_word-true}
use Rattle.pa_grammar.proofs.Meets.{Meets, meets_bind, meets_then, meets_refuse, meets_look, meets_if, meets_weaken}
use Rattle.pa_grammar.proofs.Eats.{meets_needs}
use Rattle.pa_grammar.proofs.Iterated.{After, meets_iterate}
use Rattle.pa_grammar.proofs.Chains.{meets_after, shifts, meets_mark, meets_commas}
use Rattle.pa_grammar.proofs.Levels.{at_level, infix_of_sign}
use Rattle.pa_grammar.proofs.Lists.{IsExpr, comma_exprs}

pub and_left : (x y : Bool) → (x && y) ≡ true → x ≡ true
and_left true y e = refl
and_left false y e = cc

pub and_right : (x y : Bool) → (x && y) ≡ true → y ≡ true
and_right true y e = e
and_right false y e = cc

pub right_small : (op : BinaryOperator) → right_level op ≤ 14
right_small op = let h = levels op in omega (arith, h)

pub prefix_small : (op : PrefixOperator) → prefix_level op ≤ 14
prefix_small prefix.Increment = omega arith
prefix_small prefix.Decrement = omega arith
prefix_small prefix.Address = omega arith
prefix_small prefix.Indirection = omega arith
prefix_small prefix.Plus = omega arith
prefix_small prefix.Minus = omega arith
prefix_small prefix.Complement = omega arith
prefix_small prefix.Not = omega arith

concat_snoc : (xs : List (List ℕ)) (x : List ℕ) → concat (xs ++ x ∷ []) ≡ concat xs ++ x
concat_snoc xs x = concat-append xs (x ∷ []) ∙ ap (λ y. concat xs ++ y) (append-nil x)

-- more string literals behind some
record Textual (bytes : List ℕ) (c : Cursor) (all : List ℕ) (d : Cursor) : Type 0 where
  parts : List (List ℕ)
  all_is : all ≡ bytes ++ concat parts
  spells : TextsSpell parts c d

texts_snoc : (parts : List (List ℕ)) (more : List ℕ) (c m d : Cursor) → TextsSpell parts c m → Shifts (kind.Text more) m d → TextsSpell (parts ++ more ∷ []) c d
texts_snoc [] more c m d h s = (d, rw h s, refl)
texts_snoc (x ∷ xs) more c m d (n, k, h) s = (n, k, texts_snoc xs more n m d h s)

-- one more string literal
text_added : (bytes : List ℕ) (c : Cursor) (all more : List ℕ) (m d : Cursor) → Textual bytes c all m → Shifts (kind.Text more) m d → Textual bytes c (all ++ more) d
text_added bytes c all more m d h s = record {
  parts = h.parts ++ more ∷ [];
  all_is = ap (λ x. x ++ more) h.all_is ∙ append_assoc bytes (concat h.parts) more ∙ ap (λ x. bytes ++ x) (sym (concat_snoc h.parts more));
  spells = texts_snoc h.parts more c m d h.spells s;
}

text_kind : (bytes : List ℕ) (c : Cursor) (all : List ℕ) (m : Cursor) (t : Token) (k : Kind) → Textual bytes c all m → t.kind ≡ k → Some t ≡ head m.ahead → Meets (text_by all t k) m (After text_step (Textual bytes c) (Textual bytes c))
text_kind bytes c all m t (kind.Text more) i q e = meets_then {q = pure (More (all ++ more))} (meets_after t m e) (λ _ d h. record { holds = text_added bytes c all more m d i (shifts (rw q at h)) })
text_kind bytes c all m t _ i q e = record { holds = i }

text_head : (bytes : List ℕ) (c : Cursor) (all : List ℕ) (m : Cursor) (h : Option Token) → Textual bytes c all m → h ≡ head m.ahead → Meets (text_at all h) m (After text_step (Textual bytes c) (Textual bytes c))
text_head bytes c all m None i e = record { holds = i }
text_head bytes c all m (Some t) i e = text_kind bytes c all m t t.kind i refl e

text_turn : (bytes : List ℕ) (c : Cursor) (all : List ℕ) (m : Cursor) → Textual bytes c all m → Meets (text_step all) m (After text_step (Textual bytes c) (Textual bytes c))
text_turn bytes c all m i = meets_look (λ h e. text_head bytes c all m h i e)

meets_texts : (bytes : List ℕ) (c : Cursor) → Meets (iterate text_step bytes) c (Textual bytes c)
meets_texts bytes c = meets_iterate text_step (Textual bytes c) (Textual bytes c) (text_turn bytes c) bytes c (record { parts = []; all_is = sym (append-nil bytes); spells = refl })

-- what goes on behind an operand
abbrev NextRead : ℕ → ExprTree → Cursor → Option (Infix × Token) → Cursor → Type 0
NextRead level left c None m = c ≡ m
NextRead level left c (Some q) m = (c ≡ m) × (level ≤ infix_level q.0) × (infix_left q.0 ≤ tree_level left) × (Some q.1 ≡ head c.ahead) × (infix_in (q.1).kind ≡ Some q.0)

next_kind : (level : ℕ) (left : ExprTree) (t : Token) (o : Option Infix) (c : Cursor) → Some t ≡ head c.ahead → infix_in t.kind ≡ o → Meets (next_by level left t o) c (NextRead level left c)
next_kind level left t None c e q = record { holds = refl }
next_kind level left t (Some x) c e q = meets_if (nat_le level (infix_level x) && nat_le (infix_left x) (tree_level left))
    (λ y. record { holds = (refl, leb-true level (infix_level x) (and_left _ _ y), leb-true (infix_left x) (tree_level left) (and_right _ _ y), e, q) })
    (λ y. record { holds = refl })

next_head : (level : ℕ) (left : ExprTree) (h : Option Token) (c : Cursor) → h ≡ head c.ahead → Meets (next_at level left h) c (NextRead level left c)
next_head level left None c e = record { holds = refl }
next_head level left (Some t) c e = next_kind level left t (infix_in t.kind) c e refl

meets_next : (level : ℕ) (left : ExprTree) (c : Cursor) → Meets (next level left) c (NextRead level left c)
unfolding next
meets_next level left c = meets_look (λ h e. next_head level left h c e)

infix_kind : (k : Kind) (x : Infix) → infix_in k ≡ Some x → k ≡ kind.Punct (infix_sign x)
infix_kind (kind.Punct q) x e = ap kind.Punct (infix_of_sign q x e)
infix_kind _ x e = cc

abbrev pub Fits : Naming → Bool → Type 0
Fits naming.Named h = h ≡ true
Fits naming.Unnamed h = h ≡ false
Fits naming.Either h = Unit {0}

module _ (names : List ℕ) where
  abbrev pub IsDeclarator : Naming → ℕ → DeclaratorTree → Cursor → Cursor → Type 0
  IsDeclarator name d x c e = Fits name (has_name x) × DeclaratorSpells names 0 x c e × (declarator_height x ≤ d)

  abbrev pub IsSpecs : Bool → ℕ → SpecsTree → Cursor → Cursor → Type 0
  IsSpecs bodies d s c e = SpecsSpell names bodies s c e × (specs_height s ≤ d)

  -- what the readers of a depth give is in the grammar
  pub record AreSound (d : ℕ) (b : Parsers) : Type 0 where
    pub expr : (level : ℕ) (c : Cursor) → level ≤ 14 → Meets (b.expr level) c (λ t e. IsExpr names d level t c e)
    pub opened : (o c : Cursor) → Mark p.LeftParenthesis o c → Meets (b.opened (begin o)) c (λ t e. IsExpr names d 14 t o e)
    pub specs : (bodies : Bool) (c : Cursor) → Meets (b.specs bodies) c (λ s e. IsSpecs bodies d s c e)
    pub declarator : (name : Naming) (c : Cursor) → Meets (b.declarator name) c (λ x e. IsDeclarator name d x c e)

  -- a name that is no type name
  abbrev pub IsPlain : Cursor → Tag → Cursor → Type 0
  IsPlain c x d = (is_type names x.name ≡ false) × Takes (kind.Name x.name) x.from x.to c d

  pub name_kind : (t : Token) (k : Kind) (c : Cursor) → t.kind ≡ k → Some t ≡ head c.ahead → Meets (name_by names t k) c (IsPlain c)
  name_kind t (kind.Name n) c q e = meets_if (is_type names n) (λ y. meets_refuse) (λ y. meets_then {q = pure (record { name = n; from = t.from; to = t.to })} (meets_after t c e) (λ _ m h. record { holds = (y, rw q at h) }))
  name_kind t _ c q e = meets_refuse

  name_head : (h : Option Token) (c : Cursor) → h ≡ head c.ahead → Meets (name_at names h) c (IsPlain c)
  name_head None c e = meets_refuse
  name_head (Some t) c e = name_kind t t.kind c refl e

  pub meets_name : (c : Cursor) → Meets (plain_name names) c (IsPlain c)
  unfolding plain_name
  meets_name c = meets_look (λ h e. name_head h c e)

  module _ (d : ℕ) (below : Parsers) (g : AreSound d below) where
    abbrev IsTypeName : ℕ → Cursor → TypeNameTree → Cursor → Type 0
    IsTypeName n c t e = TypeNameSpells names t c e × (type_name_height t ≤ n)

    type_name_head : (h : Option Token) (c : Cursor) → h ≡ head c.ahead → Meets (type_name_from names d below h) c (IsTypeName d c)
    type_name_head h c e = meets_bind (g.specs false c) (λ s m (a, l). meets_bind (g.declarator naming.Unnamed m) (λ x n (f, b, k). record {
      holds =
          ((m, a, f, b, record { from_is = ap from_of e; to_is = refl }), omega (arith, l, k));
    }))

    meets_type_name : (c : Cursor) → Meets (type_name names d below) c (IsTypeName d c)
    unfolding type_name
    meets_type_name c = meets_look (λ h e. type_name_head h c e)

    -- what the loop holds from s on
    record Held (level : ℕ) (s : Cursor) (t : ExprTree) (e : Cursor) : Type 0 where
      spells : ExprSpells names 0 t s e
      tight : level ≤ tree_level t
      fits : expr_height t ≤ suc d

    -- one more operator, whose sign is taken
    record Gone (x : Infix) (s : Cursor) (t : ExprTree) (e : Cursor) : Type 0 where
      spells : ExprSpells names 0 t s e
      level_is : tree_level t ≡ infix_level x
      fits : expr_height t ≤ suc d

    arguments_head : (h : Option Token) (c : Cursor) → Meets (reading.arguments_at names d below h) c (λ xs e. ArgumentsSpell names (exprs_of xs) c e × (exprs_height (exprs_of xs) ≤ d))
    arguments_head h c = meets_if (sees p.RightParenthesis h) (λ q. record { holds = (refl, omega arith) })
        (λ q. meets_weaken (meets_commas (λ x m n. IsExpr names d 1 x m n) (below.expr 1) (λ m. g.expr 1 m (omega arith)) c)
        (λ xs e r. let y = comma_exprs names d 1 r.others r.middle e r.chain in let l = (r.first_is).1 in let k = y.1 in rw r.all_is ((r.middle, (r.first_is).0, y.0), omega (arith, l, k))))

    meets_gone : (left : ExprTree) (x : Infix) (s c m : Cursor) → ExprSpells names (infix_left x) left s c → Mark (infix_sign x) c m → expr_height left ≤ d → Meets (gone names d below (begin s) left x) m (Gone x s)
    meets_gone left (Between op) s c m l k f = meets_bind (g.expr (right_level op) m (right_small op)) (λ r e (y, z). record { holds = record { spells = (c, m, omega arith, l, k, y, record { from_is = refl; to_is = refl }); level_is = refl; fits = omega (arith, f, z) } })
    meets_gone left Choice s c m l k f = meets_bind (g.expr 0 m (omega arith)) (λ x n (a, b). meets_then (meets_mark p.Colon n) (λ _ o q. meets_bind (g.expr 2 o (omega arith)) (λ y e (u, v). record {
      holds =
          record { spells = (c, m, n, o, omega arith, l, k, a, q, u, record { from_is = refl; to_is = refl }); level_is = refl; fits = omega (arith, f, b, v) };
    })))
    meets_gone left Indexed s c m l k f = meets_bind (g.expr 0 m (omega arith)) (λ x n (a, b). meets_then (meets_mark p.RightBracket n) (λ _ e q. record { holds = record { spells = (c, m, n, l, k, a, q, record { from_is = refl; to_is = refl }); level_is = refl; fits = omega (arith, f, b) } }))
    meets_gone left Called s c m l k f = meets_bind (meets_look (λ h _. arguments_head h m)) (λ xs n (a, b). meets_then (meets_mark p.RightParenthesis n) (λ _ e q. record { holds = record { spells = (c, m, n, l, k, a, q, record { from_is = refl; to_is = refl }); level_is = refl; fits = omega (arith, f, b) } }))
    meets_gone left Dotted s c m l k f = meets_bind (meets_name m) (λ x e (a, b). record { holds = record { spells = (c, m, l, k, (a, shifts b), record { from_is = refl; to_is = refl }); level_is = refl; fits = omega (arith, f) } })
    meets_gone left Arrowed s c m l k f = meets_bind (meets_name m) (λ x e (a, b). record { holds = record { spells = (c, m, l, k, (a, shifts b), record { from_is = refl; to_is = refl }); level_is = refl; fits = omega (arith, f) } })
    meets_gone left (Stepped step) s c m l k f = record { holds = record { spells = (c, l, k, record { from_is = refl; to_is = refl }); level_is = refl; fits = omega (arith, f) } }

    meets_going : (left : ExprTree) (x : Infix) (t : Token) (level : ℕ) (s c : Cursor) → Held level s left c → level ≤ infix_level x → infix_left x ≤ tree_level left → Some t ≡ head c.ahead → infix_in t.kind ≡ Some x → Meets (going names d below (begin s) left x t) c (Held level s)
    meets_going left x t level s c h l k e q = meets_needs (expr_height left) d (λ f. meets_then (meets_after t c e) (λ _ m a. meets_weaken (meets_gone left x s c m (at_level names left 0 (infix_left x) s c h.spells k) (shifts (rw (infix_kind t.kind x q) at a)) f)
        (λ y o r. record { spells = r.spells; tight = rw r.level_is l; fits = r.fits })))

    meets_turn : (left : ExprTree) (more : ExprTree → Parser ExprTree) (o : Option (Infix × Token)) (level : ℕ) (s c m : Cursor) → Held level s left c → NextRead level left c o m
        → ((x : ExprTree) (n : Cursor) → Held level s x n → Meets (more x) n (Held level s)) → Meets (turn names d below (begin s) left more o) m (Held level s)
    meets_turn left more None level s c m h same f = rw (← same) (record { holds = h })
    meets_turn left more (Some q) level s c m h (same, l, k, e, i) f = rw (← same) (meets_bind (meets_going left q.0 q.1 level s c h l k e i) f)

    meets_last : (left : ExprTree) (o : Option (Infix × Token)) (level : ℕ) (s c m : Cursor) → Held level s left c → NextRead level left c o m → Meets (last names d below left o) m (Held level s)
    meets_last left None level s c m h same = rw (← same) (record { holds = h })
    meets_last left (Some q) level s c m h n = meets_refuse

    meets_climb : (n level : ℕ) (left : ExprTree) (s c : Cursor) → Held level s left c → Meets (climb names d below (begin s) level n left) c (Held level s)
    unfolding climb
    meets_climb zero level left s c h = meets_bind (meets_next level left c) (λ o m n. meets_last left o level s c m h n)
    meets_climb (suc n) level left s c h = meets_bind (meets_next level left c) (λ o m r. meets_turn left (climb names d below (begin s) level n) o level s c m h r (λ x i y. meets_climb n level x s i y))

    as_read : (level : ℕ) (s : Cursor) (t : ExprTree) (e : Cursor) → Held level s t e → IsExpr names (suc d) level t s e
    as_read level s t e h = (at_level names t 0 level s e h.spells h.tight, h.fits)

    meets_paren : (s c : Cursor) → Mark p.LeftParenthesis s c → (level : ℕ) → level ≤ 15 → Meets (reading.paren names d below (begin s)) c (Held level s)
    meets_paren s c k level l = meets_bind (g.expr 0 c (omega arith)) (λ x m (a, b). meets_then (meets_mark p.RightParenthesis m) (λ _ e q. record { holds = record { spells = (c, m, k, a, q, record { from_is = refl; to_is = refl }); tight = l; fits = omega (arith, b) } }))

    meets_cast : (s c : Cursor) → Mark p.LeftParenthesis s c → (level : ℕ) → level ≤ 13 → Meets (reading.cast names d below (begin s)) c (Held level s)
    meets_cast s c k level l = meets_bind (meets_type_name c) (λ t m (a, b). meets_then (meets_mark p.RightParenthesis m) (λ _ n q. meets_bind (g.expr 13 n (omega arith)) (λ x e (u, v). record {
      holds =
          record { spells = (c, m, n, omega arith, k, a, q, u, record { from_is = refl; to_is = refl }); tight = l; fits = omega (arith, b, v) };
    })))

    bracket_head : (s c : Cursor) → Mark p.LeftParenthesis s c → (level : ℕ) → level ≤ 14 → (h : Option Token) → Meets (reading.bracket_at names d below level (begin s) h) c (Held level s)
    bracket_head s c k level l h = meets_if (reading.begins_type names h)
        (λ _. meets_if (nat_le level 13) (λ q. meets_cast s c k level (leb-true level 13 q)) (λ _. meets_refuse))
        (λ _. meets_paren s c k level (omega arith))

    in_front_of : (t : Token) (c : Cursor) (level : ℕ) → level ≤ 14 → Some t ≡ head c.ahead → (x : Punct) → t.kind ≡ kind.Punct x → (o : Option PrefixOperator) → prefix_of x ≡ o → Meets (reading.in_front names d below t o) c (Held level c)
    in_front_of t c level l e x q None w = meets_refuse
    in_front_of t c level l e x q (Some op) w = meets_needs 1 d (λ _. meets_then (meets_after t c e) (λ _ m h. meets_bind {f = λ y. ended >>= (λ z. pure (Prefix op y t.from z))} (g.expr (prefix_level op) m (prefix_small op)) (λ y n (a, b). record {
      holds =
          record { spells = (m, omega arith, shifts (rw (q ∙ ap kind.Punct (sign_of_prefix x op w)) at h), a, record { from_is = ap from_of e; to_is = refl }); tight = l; fits = omega (arith, b) };
    })))

    sizeof_type_of : (s c m : Cursor) → Word w.Sizeof s c → Mark p.LeftParenthesis c m → (level : ℕ) → level ≤ 14 → Meets (reading.sizeof_type names d below (begin s)) m (Held level s)
    sizeof_type_of s c m k q level l = meets_bind (meets_type_name m) (λ t n (a, b). meets_then (meets_mark p.RightParenthesis n) (λ _ e r. record { holds = record { spells = (c, m, n, omega arith, k, q, a, r, record { from_is = refl; to_is = refl }); tight = l; fits = omega (arith, b) } }))

    sizeof_open_head : (s c m : Cursor) → Word w.Sizeof s c → Mark p.LeftParenthesis c m → (level : ℕ) → level ≤ 14 → (h : Option Token) → Meets (reading.sizeof_open names d below (begin s) (begin c) h) m (Held level s)
    sizeof_open_head s c m k q level l h = meets_if (reading.begins_type names h) (λ _. sizeof_type_of s c m k q level l)
        (λ _. meets_bind (g.opened c m q) (λ x e (a, b). record { holds = record { spells = (c, omega arith, k, a, record { from_is = refl; to_is = refl }); tight = l; fits = omega (arith, b) } }))

    sizeof_head : (s c : Cursor) → Word w.Sizeof s c → (level : ℕ) → level ≤ 14 → (h : Option Token) → h ≡ head c.ahead → Meets (reading.sizeof_at names d below (begin s) h) c (Held level s)
    sizeof_head s c k level l h e = rw e (meets_if (sees p.LeftParenthesis (head c.ahead))
        (λ _. meets_then (meets_mark p.LeftParenthesis c) (λ _ m q. meets_look (λ i _. sizeof_open_head s c m k q level l i)))
        (λ _. meets_bind (g.expr 14 c (omega arith)) (λ x n (a, b). record { holds = record { spells = (c, omega arith, k, a, record { from_is = refl; to_is = refl }); tight = l; fits = omega (arith, b) } })))

    operand_kind : (level : ℕ) (t : Token) (k : Kind) (c : Cursor) → level ≤ 14 → t.kind ≡ k → Some t ≡ head c.ahead → Meets (operand_by names d below level t k) c (Held level c)
    operand_kind level t (kind.Name n) c l q e = meets_if (is_type names n) (λ y. meets_refuse) (λ y. meets_then {q = pure (Identifier n t.from t.to)} (meets_after t c e) (λ _ m h. record { holds = record { spells = (y, rw q at h); tight = omega arith; fits = omega arith } }))
    operand_kind level t (kind.Integer value decimal unsigned long) c l q e = meets_then {q = pure (Integer value decimal unsigned long t.from t.to)} (meets_after t c e) (λ _ m h. record { holds = record { spells = rw q at h; tight = omega arith; fits = omega arith } })
    operand_kind level t (kind.Character value) c l q e = meets_then {q = pure (Character value t.from t.to)} (meets_after t c e) (λ _ m h. record { holds = record { spells = rw q at h; tight = omega arith; fits = omega arith } })
    operand_kind level t (kind.Text bytes) c l q e = meets_then (meets_after t c e) (λ _ m h. meets_bind {f = λ all. ended >>= (λ z. pure (Text all t.from z))} (meets_texts bytes m) (λ all n r. record {
      holds =
          record { spells = (bytes, r.parts, r.all_is, (m, shifts (rw q at h), r.spells), record { from_is = ap from_of e; to_is = refl }); tight = omega arith; fits = omega arith };
    }))
    operand_kind level t (kind.Punct x) c l q e = meets_if (same_mark x p.LeftParenthesis)
        (λ y. meets_needs 1 d (λ _. meets_then (meets_after t c e) (λ _ m h. meets_look {f = reading.bracket_at names d below level t.from} (λ i _. rw (ap from_of e) (bracket_head c m (shifts (rw (q ∙ ap kind.Punct (same_mark-true x p.LeftParenthesis y)) at h)) level l i)))))
        (λ y. in_front_of t c level l e x q (prefix_of x) refl)
    operand_kind level t (kind.Keyword x) c l q e = meets_if (same_word x w.Sizeof)
        (λ y. meets_then (meets_after t c e) (λ _ m h. meets_look {f = reading.sizeof_at names d below t.from} (λ i z. rw (ap from_of e) (sizeof_head c m (shifts (rw (q ∙ ap kind.Keyword (same_word-true x w.Sizeof y)) at h)) level l i z))))
        (λ y. meets_refuse)
    operand_kind level t (kind.Include x) c l q e = meets_refuse

    operand_head : (level : ℕ) (h : Option Token) (c : Cursor) → level ≤ 14 → h ≡ head c.ahead → Meets (operand_at names d below level h) c (Held level c)
    operand_head level None c l e = meets_refuse
    operand_head level (Some t) c l e = operand_kind level t t.kind c l refl e

    meets_operand : (level : ℕ) (c : Cursor) → level ≤ 14 → Meets (operand names d below level) c (Held level c)
    unfolding operand
    meets_operand level c l = meets_look (λ h e. operand_head level h c l e)

    level_head : (level : ℕ) (h : Option Token) (c : Cursor) → level ≤ 14 → h ≡ head c.ahead → Meets (level_from names d below level h) c (λ t e. IsExpr names (suc d) level t c e)
    level_head level h c l e = meets_bind (meets_operand level c l) (λ x m r. rw e (meets_weaken (meets_climb (suc d) level x c m r) (λ t n y. as_read level c t n y)))

    pub meets_expr : (level : ℕ) (c : Cursor) → level ≤ 14 → Meets (expr_level names d below level) c (λ t e. IsExpr names (suc d) level t c e)
    unfolding expr_level
    meets_expr level c l = meets_look (λ h e. level_head level h c l e)

    pub meets_opened : (o c : Cursor) → Mark p.LeftParenthesis o c → Meets (opened_level names d below (begin o)) c (λ t e. IsExpr names (suc d) 14 t o e)
    unfolding opened_level
    meets_opened o c k = meets_bind (meets_paren o c k 14 (omega arith)) (λ x m r. meets_weaken (meets_climb (suc d) 14 x o m r) (λ t n y. as_read 14 o t n y))
