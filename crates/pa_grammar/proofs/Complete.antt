-- What the grammar has is read: expressions.
use Rattle.std.proofs.Common.{◌≡◌, ◌≤◌, ℕ, zero, suc, ◌+◌, List, [], ◌∷◌, ◌++◌, Option, Some, None, Ok, Bool, true, false, refl, sym, ◌∙◌, ap, arith, append_assoc, append-nil}
use Rattle.std.specs.List.{concat}
use Rattle.std.proofs.lemmas.Bool.{le-leb, lt-leb}
use Rattle.pa_lex.specs.declared.token.Kind.{Kind}
use Rattle.pa_lex.specs.declared.token.Kind.TheVariants as kind
use Rattle.pa_lex.specs.declared.token.Keyword.TheVariants as w
use Rattle.pa_lex.specs.declared.token.Punct.TheVariants as p
use Rattle.pa_lex.specs.declared.token.Token.{Token}
use Rattle.pa_tree.specs.declared.operator.BinaryOperator.{BinaryOperator}
use Rattle.pa_tree.specs.declared.operator.PrefixOperator.{PrefixOperator}
use Rattle.pa_tree.specs.Cursors.{Cursor, head, begin, from_of, Takes, Shifts, Lies, Mark, Word}
use Rattle.pa_tree.specs.Exprs.{ExprTree, Identifier, Integer, Character, Text, Paren, Index, Call, Dot, Arrow, Postfix, Prefix, SizeofExpr, SizeofType, Cast, Binary, Conditional, TypeNameTree, ExprTrees, NoExprs, ConsExpr}
use Rattle.pa_tree.specs.Heights.{expr_height, exprs_height, type_name_height}
use Rattle.pa_tree.specs.Operators.{right_level, prefix_level, prefix_sign}
use Rattle.pa_tree.specs.Spells.{is_type, ExprSpells, ArgumentsSpell, TypeNameSpells, TextsSpell, NameSpells, PlainName}
use Rattle.pa_tree.specs.Views.{exprs_of}
use Rattle.pa_tree.proofs.Operators.{levels, prefix_of_sign}
use Rattle.pa_grammar.specs.Infixes.{Infix, Between, Choice, Indexed, Called, Dotted, Arrowed, Stepped, infix_in, infix_sign, infix_level, infix_left, tree_level}
use Rattle.pa_grammar.specs.Parser.{Outcome, and_then, ◌>>=◌, ◌>>◌, pure, look, after, ended, sees, mark, Done, More, goes, iterate}
use Rattle.pa_grammar.specs.Reading as reading
use Rattle.pa_grammar.specs.Reading.{Parsers, text_step, text_at, next, next_at, next_by, plain_name, name_at, type_name, type_name_from, gone, going, turn, last, climb, operand, operand_at, level_from, expr_level, opened_level}
use Rattle.pa_grammar.proofs.Iterated.{one_turn}
use Rattle.pa_grammar.proofs.Eats.{item_step-shrinks, eats_left, eats_mark}
use Rattle.pa_grammar.proofs.LocalReading.{AreLocal, text-shrinks}
use Rattle.pa_grammar.proofs.Levels.{height_pos, at_level, its_level, sign_of_infix, follow, follow_by, follow_kind, Quiet, Calm, calm_of, calm_behind, quiet_mark, quiet_comma}
use Rattle.pa_grammar.proofs.Heads.{prefix_no_parenthesis, no_type, not_begun, type_name_type}
use Rattle.pa_grammar.proofs.ListsBack.{exprs_list, exprs_back, AsExpr, exprs_end, comma_exprs_back}
use Rattle.pa_grammar.proofs.Sound.{right_small, prefix_small}
use Rattle.pa_grammar.proofs.Steps.{bind_is, look_is, look_at_is, took, taken, roomy, marked, sees_is, sees_not, from_is, close, if_false, commas_is}

-- one token stands between two places
tail_of : List Token → List Token
tail_of [] = []
tail_of (t ∷ ts) = ts

end_of : List Token → ℕ
end_of [] = 0
end_of (t ∷ ts) = t.to

pub same_place : {k k2 : Kind} (c m n : Cursor) → Shifts k c m → Shifts k2 c n → m ≡ n
unfolding tail_of end_of
same_place c m n h i =
    let a : m.ahead ≡ n.ahead = ap tail_of (sym (h.takes).ahead ∙ (i.takes).ahead) in
    let e : m.ended ≡ n.ended = (h.takes).ended ∙ ap end_of (sym (h.takes).ahead ∙ (i.takes).ahead) ∙ sym (i.takes).ended in
    ap (λ x. record { ended = x; ahead = m.ahead }) e ∙ ap (λ x. record { ended = n.ended; ahead = x }) a

first_kind : List Token → Option Kind
first_kind [] = None
first_kind (t ∷ ts) = Some t.kind

-- texts as long as they go
text_stops : (all : List ℕ) (c : Cursor) (h : Option Token) → follow h ≤ 16 → text_at all h c ≡ Ok (Done all, c)
text_stops all c None q = refl
text_stops all c (Some t) q = by_kind t.kind q
  where
    by_kind : (k : Kind) → follow_kind k ≤ 16 → reading.text_by all t k c ≡ Ok (Done all, c)
    by_kind (kind.Text bytes) z = absurd (omega (arith, z))
    by_kind (kind.Punct x) z = refl
    by_kind (kind.Name n) z = refl
    by_kind (kind.Keyword x) z = refl
    by_kind (kind.Integer value decimal unsigned long) z = refl
    by_kind (kind.Character value) z = refl
    by_kind (kind.Include x) z = refl

text_more : (all bytes : List ℕ) (c m : Cursor) → Shifts (kind.Text bytes) c m → text_step all c ≡ Ok (More (all ++ bytes), m)
text_more all bytes c m k = look_is (text_at all) c m k (Ok (More (all ++ bytes), m)) (took k (pure (More (all ++ bytes))) (Ok (More (all ++ bytes), m)) refl)

texts_is : (parts : List (List ℕ)) (all : List ℕ) (c e : Cursor) → TextsSpell parts c e → follow (head e.ahead) ≤ 16 → iterate text_step all c ≡ Ok (all ++ concat parts, e)
texts_is [] all c e h q = one_turn text_step text-shrinks all c ∙ ap (λ x. and_then x (goes (iterate text_step))) (text_stops all c (head c.ahead) (rw h q)) ∙ ap (λ x. Ok (x, c)) (sym (append-nil all)) ∙ ap (λ y. Ok (all ++ [], y)) h
texts_is (x ∷ xs) all c e (m, k, h) q = one_turn text_step text-shrinks all c ∙ ap (λ y. and_then y (goes (iterate text_step))) (text_more all x c m k) ∙ texts_is xs (all ++ x) m e h q ∙ ap (λ y. Ok (y, e)) (append_assoc all x (concat xs))

-- where nothing goes on
next_none : (level : ℕ) (left : ExprTree) (t : Token) (o : Option Infix) (c : Cursor) → follow_by o ≤ level → next_by level left t o c ≡ Ok (None, c)
next_none level left t None c q = refl
next_none level left t (Some x) c q = rw (lt-leb level (infix_level x) (omega (arith, q))) refl

next_head : (level : ℕ) (left : ExprTree) (h : Option Token) (c : Cursor) → follow h ≤ level → next_at level left h c ≡ Ok (None, c)
next_head level left None c q = refl
next_head level left (Some t) c q = next_none level left t (infix_in t.kind) c (by_kind t.kind q)
  where
    by_kind : (k : Kind) → follow_kind k ≤ level → follow_by (infix_in k) ≤ level
    by_kind (kind.Punct x) z = z
    by_kind (kind.Text bytes) z = omega arith
    by_kind (kind.Name n) z = omega arith
    by_kind (kind.Keyword x) z = omega arith
    by_kind (kind.Integer value decimal unsigned long) z = omega arith
    by_kind (kind.Character value) z = omega arith
    by_kind (kind.Include x) z = omega arith

next_ends : (level : ℕ) (left : ExprTree) (c : Cursor) → Quiet level c → next level left c ≡ Ok (None, c)
unfolding next
next_ends level left c q = next_head level left (head c.ahead) c q

next_goes : (level : ℕ) (x : Infix) (left : ExprTree) (c m : Cursor) (k : Mark (infix_sign x) c m) → level ≤ infix_level x → infix_left x ≤ tree_level left → next level left c ≡ Ok (Some (x, record { kind = kind.Punct (infix_sign x); from = k.from; to = k.to }), c)
unfolding next
next_goes level x left c m k l r = look_is (next_at level left) c m k _ (rw (sign_of_infix x, le-leb level (infix_level x) l, le-leb (infix_left x) (tree_level left) r) refl)

module _ (names : List ℕ) where
  pub name_is : (name : ℕ) (a z : ℕ) (c d : Cursor) → NameSpells names name a z c d → plain_name names c ≡ Ok (record { name = name; from = a; to = z }, d)
  unfolding plain_name
  name_is name a z c d (q, k) = look_at_is (name_at names) c d k (Ok (record { name = name; from = a; to = z }, d)) (if_false (is_type names name) _ _ c (Ok (record { name = name; from = a; to = z }, d)) q (taken k (pure (record { name = name; from = a; to = z })) (Ok (record { name = name; from = a; to = z }, d)) refl))

  -- what the grammar has is read, in a depth
  pub record AreComplete (d : ℕ) (b : Parsers) : Type 0 where
    pub expr : (t : ExprTree) (level : ℕ) (c e : Cursor) → level ≤ 14 → ExprSpells names level t c e → expr_height t ≤ d → Quiet level e → b.expr level c ≡ Ok (t, e)
    pub opened : (t : ExprTree) (o c e : Cursor) → Mark p.LeftParenthesis o c → ExprSpells names 14 t o e → expr_height t ≤ d → Quiet 14 e → b.opened (begin o) c ≡ Ok (t, e)
    pub type_name : (t : TypeNameTree) (c e n : Cursor) → TypeNameSpells names t c e → type_name_height t ≤ d → Mark p.RightParenthesis e n → reading.type_name names d b c ≡ Ok (t, e)

  module _ (d : ℕ) (below : Parsers) (near : AreLocal below) (g : AreComplete d below) where
    abbrev IsArgument : ExprTree → Cursor → Cursor → Type 0
    IsArgument x c e = AsExpr names (Quiet 1) (λ c d k. quiet_comma 1 c d (omega arith) k) d 1 x c e

    argument_reads : (x : ExprTree) (c e : Cursor) → IsArgument x c e → below.expr 1 c ≡ Ok (x, e)
    argument_reads x c e (s, l, q) = g.expr x 1 c e (omega arith) s l q

    arguments_is : (xs : ExprTrees) (c e n : Cursor) → ArgumentsSpell names xs c e → exprs_height xs ≤ d → Mark p.RightParenthesis e n → look (reading.arguments_at names d below) c ≡ Ok (exprs_list xs, e)
    arguments_is NoExprs c e n h l k = rw h (rw (sees_is p.RightParenthesis e n k) refl)
    arguments_is (ConsExpr x xs) c e n (m, s, r) l k =
        let q : Quiet 1 e = quiet_mark p.RightParenthesis 1 e n refl k in
        rw (not_begun names p.RightParenthesis refl x 1 c m s) (commas_is IsArgument (below.expr 1) (item_step-shrinks (sees p.Comma) (mark p.Comma >> below.expr 1) (eats_left (eats_mark p.Comma) (λ _. near.expr 1))) argument_reads x (exprs_list xs) c m e
        (s, omega (arith, l), exprs_end names (Quiet 1) (λ c d k. quiet_comma 1 c d (omega arith) k) d 1 xs m e r q)
        (comma_exprs_back names (Quiet 1) (λ c d k. quiet_comma 1 c d (omega arith) k) d 1 xs m e r (omega (arith, l)) q)
        (sees_not p.Comma p.RightParenthesis e n k refl))

    -- one more operator, whose sign is taken
    binary_gone : (op : BinaryOperator) (left right : ExprTree) (a z : ℕ) (s m e : Cursor) → ExprSpells names (right_level op) right m e → expr_height right ≤ d → Quiet (right_level op) e → Lies a z s e → gone names d below (begin s) left (Between op) m ≡ Ok (Binary op left right a z, e)
    binary_gone op left right a z s m e h l q lies = bind_is (below.expr (right_level op)) (λ r. ended >>= (λ y. pure (Binary op left r (begin s) y))) m e right (Ok (Binary op left right a z, e)) (g.expr right (right_level op) m e (right_small op) h l q) (close (Binary op left right) (begin s) a z e (sym lies.from_is) lies.to_is)

    choice_gone : (test x y : ExprTree) (a z : ℕ) (s m n o e : Cursor) → ExprSpells names 0 x m n → Mark p.Colon n o → ExprSpells names 2 y o e → expr_height x ≤ d → expr_height y ≤ d → Quiet 2 e → Lies a z s e → gone names d below (begin s) test Choice m ≡ Ok (Conditional test x y a z, e)
    choice_gone test x y a z s m n o e h k i l r q lies = bind_is (below.expr 0) (λ u. mark p.Colon >> below.expr 2 >>= (λ v. ended >>= (λ w. pure (Conditional test u v (begin s) w)))) m n x (Ok (Conditional test x y a z, e)) (g.expr x 0 m n (omega arith) h l (quiet_mark p.Colon 0 n o refl k))
        (marked p.Colon (below.expr 2 >>= (λ v. ended >>= (λ w. pure (Conditional test x v (begin s) w)))) n o (Ok (Conditional test x y a z, e)) k
        (bind_is (below.expr 2) (λ v. ended >>= (λ w. pure (Conditional test x v (begin s) w))) o e y (Ok (Conditional test x y a z, e)) (g.expr y 2 o e (omega arith) i r q) (close (Conditional test x y) (begin s) a z e (sym lies.from_is) lies.to_is)))

    index_gone : (of at : ExprTree) (a z : ℕ) (s m n e : Cursor) → ExprSpells names 0 at m n → Mark p.RightBracket n e → expr_height at ≤ d → Lies a z s e → gone names d below (begin s) of Indexed m ≡ Ok (Index of at a z, e)
    index_gone of at a z s m n e h k l lies = bind_is (below.expr 0) (λ u. mark p.RightBracket >> ended >>= (λ w. pure (Index of u (begin s) w))) m n at (Ok (Index of at a z, e)) (g.expr at 0 m n (omega arith) h l (quiet_mark p.RightBracket 0 n e refl k))
        (marked p.RightBracket (ended >>= (λ w. pure (Index of at (begin s) w))) n e (Ok (Index of at a z, e)) k (close (Index of at) (begin s) a z e (sym lies.from_is) lies.to_is))

    call_gone : (of : ExprTree) (xs : ExprTrees) (a z : ℕ) (s m n e : Cursor) → ArgumentsSpell names xs m n → Mark p.RightParenthesis n e → exprs_height xs ≤ d → Lies a z s e → gone names d below (begin s) of Called m ≡ Ok (Call of xs a z, e)
    call_gone of xs a z s m n e h k l lies = bind_is (look (reading.arguments_at names d below)) (λ u. mark p.RightParenthesis >> ended >>= (λ w. pure (Call of (exprs_of u) (begin s) w))) m n (exprs_list xs) (Ok (Call of xs a z, e)) (arguments_is xs m n e h l k)
        (rw (exprs_back xs) (marked p.RightParenthesis (ended >>= (λ w. pure (Call of xs (begin s) w))) n e (Ok (Call of xs a z, e)) k (close (Call of xs) (begin s) a z e (sym lies.from_is) lies.to_is)))

    name_gone : (f : ExprTree → ℕ → ℕ → ℕ → ExprTree) (of : ExprTree) (name : ℕ) (a z : ℕ) (s m e : Cursor) → PlainName names name m e → Lies a z s e → (plain_name names >>= (λ n. ended >>= (λ y. pure (f of n.name (begin s) y)))) m ≡ Ok (f of name a z, e)
    name_gone f of name a z s m e (q, k) lies = bind_is (plain_name names) (λ n. ended >>= (λ y. pure (f of n.name (begin s) y))) m e (record { name = name; from = k.from; to = k.to }) (Ok (f of name a z, e)) (name_is name k.from k.to m e (q, k.takes)) (close (f of name) (begin s) a z e (sym lies.from_is) lies.to_is)

    -- What the loop comes to, from an outcome on.
    module _ (from : Outcome ExprTree) (level : ℕ) (s : Cursor) where
      record Reaches (t : ExprTree) (e : Cursor) : Type 0 where
        n : ℕ
        room : suc d ≤ n + expr_height t
        same : from ≡ climb names d below (begin s) level n t e

      turns : (n : ℕ) (left : ExprTree) (x : Infix) (t : ExprTree) (c m e : Cursor) → level ≤ infix_level x → infix_left x ≤ tree_level left → Mark (infix_sign x) c m → expr_height left ≤ d → gone names d below (begin s) left x m ≡ Ok (t, e)
          → climb names d below (begin s) level (suc n) left c ≡ climb names d below (begin s) level n t e
      unfolding climb
      turns n left x t c m e l r k f h = bind_is (next level left) (turn names d below (begin s) left (climb names d below (begin s) level n)) c c (Some (x, record { kind = kind.Punct (infix_sign x); from = k.from; to = k.to })) (climb names d below (begin s) level n t e)
          (next_goes level x left c m k l r)
          (bind_is (going names d below (begin s) left x (record { kind = kind.Punct (infix_sign x); from = k.from; to = k.to })) (climb names d below (begin s) level n) c e t (climb names d below (begin s) level n t e)
          (roomy (expr_height left) d (after (record { kind = kind.Punct (infix_sign x); from = k.from; to = k.to }) >> gone names d below (begin s) left x) c (Ok (t, e)) f (took k (gone names d below (begin s) left x) (Ok (t, e)) h)) refl)

      more_at : (n : ℕ) (left : ExprTree) (x : Infix) (t : ExprTree) (c m e : Cursor) → level ≤ infix_level x → infix_left x ≤ tree_level left → Mark (infix_sign x) c m → suc (expr_height left) ≤ expr_height t → expr_height left ≤ d → gone names d below (begin s) left x m ≡ Ok (t, e)
          → suc d ≤ n + expr_height left → from ≡ climb names d below (begin s) level n left c → Reaches t e
      more_at zero left x t c m e l r k f b h room same = absurd (omega (arith, room, b))
      more_at (suc n) left x t c m e l r k f b h room same = record { n = n; room = omega (arith, room, f); same = same ∙ turns n left x t c m e l r k b h }

      more : (left : ExprTree) (x : Infix) (t : ExprTree) (c m e : Cursor) → level ≤ infix_level x → infix_left x ≤ tree_level left → Mark (infix_sign x) c m → suc (expr_height left) ≤ expr_height t → expr_height left ≤ d → gone names d below (begin s) left x m ≡ Ok (t, e) → Reaches left c → Reaches t e
      more left x t c m e l r k f b h i = more_at i.n left x t c m e l r k f b h i.room i.same

      -- an operand, to which nothing is added yet
      abbrev is_operand : ExprTree → Bool
      is_operand (Index of at a z) = false
      is_operand (Call of arguments a z) = false
      is_operand (Dot of member a z) = false
      is_operand (Arrow of member a z) = false
      is_operand (Postfix op of a z) = false
      is_operand (Binary op left right a z) = false
      is_operand (Conditional test when_true when_false a z) = false
      is_operand _ = true

      module _ (low : level ≤ 14) (first : (t : ExprTree) (e : Cursor) → is_operand t ≡ true → ExprSpells names 0 t s e → level ≤ tree_level t → expr_height t ≤ suc d → Calm t e → Reaches t e) where
        -- The grammar's trees are what the loop comes to.
        reach : (t : ExprTree) (l : ℕ) (e : Cursor) → l ≤ 15 → ExprSpells names l t s e → level ≤ l → expr_height t ≤ suc d → Calm t e → Reaches t e
        reach (Index of at a z) l e k (c, m, n, h, o, i, q, lies) u f b =
            more of Indexed (Index of at a z) c m e (omega (arith, u, low)) (its_level names of 15 s c (omega arith) h) o (omega arith) (omega (arith, f)) (index_gone of at a z s m n e i q (omega (arith, f)) lies)
            (reach of 15 c (omega arith) h (omega (arith, low)) (omega (arith, f)) (calm_behind of Indexed c m (its_level names of 15 s c (omega arith) h) o))
        reach (Call of arguments a z) l e k (c, m, n, h, o, i, q, lies) u f b =
            more of Called (Call of arguments a z) c m e (omega (arith, u, low)) (its_level names of 15 s c (omega arith) h) o (omega arith) (omega (arith, f)) (call_gone of arguments a z s m n e i q (omega (arith, f)) lies)
            (reach of 15 c (omega arith) h (omega (arith, low)) (omega (arith, f)) (calm_behind of Called c m (its_level names of 15 s c (omega arith) h) o))
        reach (Dot of member a z) l e k (c, m, h, o, i, lies) u f b =
            more of Dotted (Dot of member a z) c m e (omega (arith, u, low)) (its_level names of 15 s c (omega arith) h) o (omega arith) (omega (arith, f)) (name_gone Dot of member a z s m e i lies)
            (reach of 15 c (omega arith) h (omega (arith, low)) (omega (arith, f)) (calm_behind of Dotted c m (its_level names of 15 s c (omega arith) h) o))
        reach (Arrow of member a z) l e k (c, m, h, o, i, lies) u f b =
            more of Arrowed (Arrow of member a z) c m e (omega (arith, u, low)) (its_level names of 15 s c (omega arith) h) o (omega arith) (omega (arith, f)) (name_gone Arrow of member a z s m e i lies)
            (reach of 15 c (omega arith) h (omega (arith, low)) (omega (arith, f)) (calm_behind of Arrowed c m (its_level names of 15 s c (omega arith) h) o))
        reach (Postfix op of a z) l e k (c, h, o, lies) u f b =
            more of (Stepped op) (Postfix op of a z) c e e (omega (arith, u, low)) (its_level names of 15 s c (omega arith) h) o (omega arith) (omega (arith, f)) (close (Postfix op of) (begin s) a z e (sym lies.from_is) lies.to_is)
            (reach of 15 c (omega arith) h (omega (arith, low)) (omega (arith, f)) (calm_behind of (Stepped op) c e (its_level names of 15 s c (omega arith) h) o))
        reach (Binary op left right a z) l e k (c, m, j, h, o, i, lies) u f b =
            let v = levels op in
            let w = its_level names left (infix_left (Between op)) s c (omega (arith, v)) h in
            more left (Between op) (Binary op left right a z) c m e (omega (arith, u, j)) w o (omega arith) (omega (arith, f)) (binary_gone op left right a z s m e i (omega (arith, f)) b lies)
            (reach left (infix_left (Between op)) c (omega (arith, v)) h (omega (arith, u, j, v)) (omega (arith, f)) (calm_behind left (Between op) c m w o))
        reach (Conditional test x y a z) l e k (c, m, n, q, j, h, o, i, r, v, lies) u f b =
            more test Choice (Conditional test x y a z) c m e (omega (arith, u, j)) (its_level names test 3 s c (omega arith) h) o (omega arith) (omega (arith, f)) (choice_gone test x y a z s m n q e i r v (omega (arith, f)) (omega (arith, f)) b lies)
            (reach test 3 c (omega arith) h (omega (arith, u, j)) (omega (arith, f)) (calm_behind test Choice c m (its_level names test 3 s c (omega arith) h) o))
        reach (Identifier name a z) l e k h u f b = first (Identifier name a z) e refl h (omega (arith, low)) f b
        reach (Integer value decimal unsigned long a z) l e k h u f b = first (Integer value decimal unsigned long a z) e refl h (omega (arith, low)) f b
        reach (Character value a z) l e k h u f b = first (Character value a z) e refl h (omega (arith, low)) f b
        reach (Text bytes a z) l e k h u f b = first (Text bytes a z) e refl h (omega (arith, low)) f b
        reach (Paren inner a z) l e k h u f b = first (Paren inner a z) e refl h (omega (arith, low)) f b
        reach (Prefix op of a z) l e k h u f b = first (Prefix op of a z) e refl (at_level names (Prefix op of a z) l 0 s e h (omega arith)) low f b
        reach (SizeofExpr of a z) l e k h u f b = first (SizeofExpr of a z) e refl (at_level names (SizeofExpr of a z) l 0 s e h (omega arith)) low f b
        reach (SizeofType of a z) l e k h u f b = first (SizeofType of a z) e refl (at_level names (SizeofType of a z) l 0 s e h (omega arith)) low f b
        reach (Cast wanted of a z) l e k h u f b = first (Cast wanted of a z) e refl (at_level names (Cast wanted of a z) l 0 s e h (omega arith)) (let j = its_level names (Cast wanted of a z) l s e k h in omega (arith, u, j)) f b

      climb_ends : (n : ℕ) (t : ExprTree) (e : Cursor) → Quiet level e → climb names d below (begin s) level n t e ≡ Ok (t, e)
      unfolding climb
      climb_ends zero t e q = rw (next_ends level t e q) refl
      climb_ends (suc n) t e q = rw (next_ends level t e q) refl

    -- an operand at its first token
    at_token : {k : Kind} {a z : ℕ} {c m : Cursor} → Takes k a z c m → (level : ℕ) (o : Outcome ExprTree) → reading.operand_by names d below level (record { kind = k; from = a; to = z }) k c ≡ o → operand names d below level c ≡ o
    unfolding operand
    at_token {c = c} {m = m} h level o e = look_at_is (operand_at names d below level) c m h o e

    cut_is : (h : Option Token) (c n : Cursor) → Mark p.RightParenthesis c n → Quiet 14 c
    cut_is h c n k = quiet_mark p.RightParenthesis 14 c n refl k

    paren_is : (inner : ExprTree) (a z from : ℕ) (s c m e : Cursor) → from ≡ a → ExprSpells names 0 inner c m → expr_height inner ≤ d → Mark p.RightParenthesis m e → Lies a z s e → reading.paren names d below from c ≡ Ok (Paren inner a z, e)
    paren_is inner a z from s c m e f h l k lies = bind_is (below.expr 0) (λ x. mark p.RightParenthesis >> ended >>= (λ y. pure (Paren x from y))) c m inner (Ok (Paren inner a z, e)) (g.expr inner 0 c m (omega arith) h l (quiet_mark p.RightParenthesis 0 m e refl k))
        (marked p.RightParenthesis (ended >>= (λ y. pure (Paren inner from y))) m e (Ok (Paren inner a z, e)) k (close (Paren inner) from a z e f lies.to_is))

    operand_paren : (level : ℕ) (inner : ExprTree) (a z : ℕ) (s c m e : Cursor) → Mark p.LeftParenthesis s c → ExprSpells names 0 inner c m → expr_height inner ≤ d → Mark p.RightParenthesis m e → Lies a z s e → operand names d below level s ≡ Ok (Paren inner a z, e)
    operand_paren level inner a z s c m e k h l q lies = at_token k.takes level (Ok (Paren inner a z, e))
        (roomy 1 d (after (record { kind = kind.Punct p.LeftParenthesis; from = k.from; to = k.to }) >> look (reading.bracket_at names d below level k.from)) s (Ok (Paren inner a z, e)) (omega (arith, l, height_pos inner))
        (took k (look (reading.bracket_at names d below level k.from)) (Ok (Paren inner a z, e)) (rw (no_type names inner 0 c m h) (paren_is inner a z k.from s c m e (from_is k lies) h l q lies))))

    operand_cast : (level : ℕ) (wanted : TypeNameTree) (of : ExprTree) (a z : ℕ) (s c m n e : Cursor) → level ≤ 13 → Mark p.LeftParenthesis s c → TypeNameSpells names wanted c m → type_name_height wanted ≤ d → Mark p.RightParenthesis m n → ExprSpells names 13 of n e → expr_height of ≤ d → Quiet 13 e → Lies a z s e
        → operand names d below level s ≡ Ok (Cast wanted of a z, e)
    operand_cast level wanted of a z s c m n e low k t tl q h l b lies = at_token k.takes level (Ok (Cast wanted of a z, e))
        (roomy 1 d (after (record { kind = kind.Punct p.LeftParenthesis; from = k.from; to = k.to }) >> look (reading.bracket_at names d below level k.from)) s (Ok (Cast wanted of a z, e)) (omega (arith, l, height_pos of))
        (took k (look (reading.bracket_at names d below level k.from)) (Ok (Cast wanted of a z, e))
        (rw (type_name_type names wanted c m t, le-leb level 13 low)
        (bind_is (type_name names d below) (λ x. mark p.RightParenthesis >> below.expr 13 >>= (λ y. ended >>= (λ u. pure (Cast x y k.from u)))) c m wanted (Ok (Cast wanted of a z, e)) (g.type_name wanted c m n t tl q)
        (marked p.RightParenthesis (below.expr 13 >>= (λ y. ended >>= (λ u. pure (Cast wanted y k.from u)))) m n (Ok (Cast wanted of a z, e)) q
        (bind_is (below.expr 13) (λ y. ended >>= (λ u. pure (Cast wanted y k.from u))) n e of (Ok (Cast wanted of a z, e)) (g.expr of 13 n e (omega arith) h l b) (close (Cast wanted of) k.from a z e (from_is k lies) lies.to_is)))))))

    operand_prefix : (level : ℕ) (op : PrefixOperator) (of : ExprTree) (a z : ℕ) (s c e : Cursor) → Mark (prefix_sign op) s c → ExprSpells names (prefix_level op) of c e → expr_height of ≤ d → Quiet (prefix_level op) e → Lies a z s e → operand names d below level s ≡ Ok (Prefix op of a z, e)
    operand_prefix level op of a z s c e k h l b lies = at_token k.takes level (Ok (Prefix op of a z, e))
        (rw (prefix_no_parenthesis op, prefix_of_sign op)
        (roomy 1 d (after (record { kind = kind.Punct (prefix_sign op); from = k.from; to = k.to }) >> below.expr (prefix_level op) >>= (λ y. ended >>= (λ u. pure (Prefix op y k.from u)))) s (Ok (Prefix op of a z, e)) (omega (arith, l, height_pos of))
        (took k (below.expr (prefix_level op) >>= (λ y. ended >>= (λ u. pure (Prefix op y k.from u)))) (Ok (Prefix op of a z, e))
        (bind_is (below.expr (prefix_level op)) (λ y. ended >>= (λ u. pure (Prefix op y k.from u))) c e of (Ok (Prefix op of a z, e)) (g.expr of (prefix_level op) c e (prefix_small op) h l b) (close (Prefix op of) k.from a z e (from_is k lies) lies.to_is)))))

    operand_sizeof_type : (level : ℕ) (of : TypeNameTree) (a z : ℕ) (s c m n e : Cursor) → Word w.Sizeof s c → Mark p.LeftParenthesis c m → TypeNameSpells names of m n → type_name_height of ≤ d → Mark p.RightParenthesis n e → Lies a z s e → operand names d below level s ≡ Ok (SizeofType of a z, e)
    operand_sizeof_type level of a z s c m n e k o t l q lies = at_token k.takes level (Ok (SizeofType of a z, e))
        (took k (look (reading.sizeof_at names d below k.from)) (Ok (SizeofType of a z, e)) (rw (sees_is p.LeftParenthesis c m o)
        (marked p.LeftParenthesis (look (reading.sizeof_open names d below k.from (from_of (head c.ahead)))) c m (Ok (SizeofType of a z, e)) o
        (rw (type_name_type names of m n t)
        (bind_is (type_name names d below) (λ x. mark p.RightParenthesis >> ended >>= (λ u. pure (SizeofType x k.from u))) m n of (Ok (SizeofType of a z, e)) (g.type_name of m n e t l q)
        (marked p.RightParenthesis (ended >>= (λ u. pure (SizeofType of k.from u))) n e (Ok (SizeofType of a z, e)) q (close (SizeofType of) k.from a z e (from_is k lies) lies.to_is)))))))

    -- behind a `(` that begins a unary expression no type stands
    record Open (o : Cursor) : Type 0 where
      behind : Cursor
      mark_is : Mark p.LeftParenthesis o behind
      plain : reading.begins_type names (head behind.ahead) ≡ false

    opens : (t : ExprTree) (l : ℕ) (o e : Cursor) → 14 ≤ l → l ≤ 15 → ExprSpells names l t o e → sees p.LeftParenthesis (head o.ahead) ≡ true → Open o
    opens (Paren inner a z) l o e low high (m, n, k, h, r, lies) q = record { behind = m; mark_is = k; plain = no_type names inner 0 m n h }
    opens (Index of at a z) l o e low high h q = opens of 15 o h.0 (omega arith) (omega arith) h.3 q
    opens (Call of arguments a z) l o e low high h q = opens of 15 o h.0 (omega arith) (omega arith) h.3 q
    opens (Dot of member a z) l o e low high h q = opens of 15 o h.0 (omega arith) (omega arith) h.2 q
    opens (Arrow of member a z) l o e low high h q = opens of 15 o h.0 (omega arith) (omega arith) h.2 q
    opens (Postfix op of a z) l o e low high h q = opens of 15 o h.0 (omega arith) (omega arith) h.1 q
    opens (Identifier name a z) l o e low high h q = let bad : false ≡ true = sym (ap (λ x. sees p.LeftParenthesis (head x)) (h.1).ahead) ∙ q in cc
    opens (Integer value decimal unsigned long a z) l o e low high h q = let bad : false ≡ true = sym (ap (λ x. sees p.LeftParenthesis (head x)) h.ahead) ∙ q in cc
    opens (Character value a z) l o e low high h q = let bad : false ≡ true = sym (ap (λ x. sees p.LeftParenthesis (head x)) h.ahead) ∙ q in cc
    opens (Text bytes a z) l o e low high (x, xs, b, (m, k, r), lies) q = let bad : false ≡ true = sym (ap (λ y. sees p.LeftParenthesis (head y)) (k.takes).ahead) ∙ q in cc
    opens (Prefix op of a z) l o e low high h q = let bad : false ≡ true = sym (ap (λ x. sees p.LeftParenthesis (head x)) ((h.2).takes).ahead ∙ prefix_no_parenthesis op) ∙ q in cc
    opens (SizeofExpr of a z) l o e low high h q = let bad : false ≡ true = sym (ap (λ x. sees p.LeftParenthesis (head x)) ((h.2).takes).ahead) ∙ q in cc
    opens (SizeofType of a z) l o e low high h q = let bad : false ≡ true = sym (ap (λ x. sees p.LeftParenthesis (head x)) ((h.4).takes).ahead) ∙ q in cc
    opens (Cast wanted of a z) l o e low high h q = absurd (let b = h.3 in omega (arith, low, b))
    opens (Binary op left right a z) l o e low high h q = absurd (let b = h.2 in let v = levels op in omega (arith, low, b, v))
    opens (Conditional test x y a z) l o e low high h q = absurd (let b = h.4 in omega (arith, low, b))

    sizeof_rest : (of : ExprTree) (a z from : ℕ) (s c e : Cursor) → from ≡ a → ExprSpells names 14 of c e → expr_height of ≤ d → Quiet 14 e → Lies a z s e → (b : Bool) → sees p.LeftParenthesis (head c.ahead) ≡ b → look (reading.sizeof_at names d below from) c ≡ Ok (SizeofExpr of a z, e)
    sizeof_rest of a z from s c e f h l q lies false v = rw v
        (bind_is (below.expr 14) (λ y. ended >>= (λ u. pure (SizeofExpr y from u))) c e of (Ok (SizeofExpr of a z, e)) (g.expr of 14 c e (omega arith) h l q) (close (SizeofExpr of) from a z e f lies.to_is))
    sizeof_rest of a z from s c e f h l q lies true v =
        let o = opens of 14 c e (omega arith) (omega arith) h v in
        rw v (marked p.LeftParenthesis (look (reading.sizeof_open names d below from (from_of (head c.ahead)))) c o.behind (Ok (SizeofExpr of a z, e)) o.mark_is
        (rw o.plain (bind_is (below.opened (begin c)) (λ y. ended >>= (λ u. pure (SizeofExpr y from u))) o.behind e of (Ok (SizeofExpr of a z, e)) (g.opened of c o.behind e o.mark_is h l q) (close (SizeofExpr of) from a z e f lies.to_is))))

    operand_sizeof : (level : ℕ) (of : ExprTree) (a z : ℕ) (s c e : Cursor) → Word w.Sizeof s c → ExprSpells names 14 of c e → expr_height of ≤ d → Quiet 14 e → Lies a z s e → operand names d below level s ≡ Ok (SizeofExpr of a z, e)
    operand_sizeof level of a z s c e k h l q lies = at_token k.takes level (Ok (SizeofExpr of a z, e))
        (took k (look (reading.sizeof_at names d below k.from)) (Ok (SizeofExpr of a z, e)) (sizeof_rest of a z k.from s c e (from_is k lies) h l q lies (sees p.LeftParenthesis (head c.ahead)) refl))

    operand_text : (level : ℕ) (bytes x : List ℕ) (xs : List (List ℕ)) (a z : ℕ) (s c e : Cursor) → bytes ≡ concat (x ∷ xs) → Shifts (kind.Text x) s c → TextsSpell xs c e → follow (head e.ahead) ≤ 16 → Lies a z s e → operand names d below level s ≡ Ok (Text bytes a z, e)
    operand_text level bytes x xs a z s c e b k h q lies = at_token k.takes level (Ok (Text bytes a z, e))
        (took k (iterate text_step x >>= (λ all. ended >>= (λ u. pure (Text all k.from u)))) (Ok (Text bytes a z, e))
        (bind_is (iterate text_step x) (λ all. ended >>= (λ u. pure (Text all k.from u))) c e (x ++ concat xs) (Ok (Text bytes a z, e)) (texts_is xs x c e h q)
        (rw b (close (Text (x ++ concat xs)) k.from a z e (from_is k lies) lies.to_is))))

    operand_is : (level : ℕ) (t : ExprTree) (s e : Cursor) → level ≤ 14 → is_operand (Ok (t, e)) level s t ≡ true → ExprSpells names 0 t s e → level ≤ tree_level t → expr_height t ≤ suc d → Calm t e → operand names d below level s ≡ Ok (t, e)
    operand_is level (Identifier name a z) s e low o (q, k) u f b = at_token k level (Ok (Identifier name a z, e)) (if_false (is_type names name) _ _ s (Ok (Identifier name a z, e)) q (taken k (pure (Identifier name a z)) (Ok (Identifier name a z, e)) refl))
    operand_is level (Integer value decimal unsigned long a z) s e low o k u f b = at_token k level (Ok (Integer value decimal unsigned long a z, e)) (taken k (pure (Integer value decimal unsigned long a z)) (Ok (Integer value decimal unsigned long a z, e)) refl)
    operand_is level (Character value a z) s e low o k u f b = at_token k level (Ok (Character value a z, e)) (taken k (pure (Character value a z)) (Ok (Character value a z, e)) refl)
    operand_is level (Text bytes a z) s e low o (x, xs, q, (c, k, r), lies) u f b = operand_text level bytes x xs a z s c e q k r b lies
    operand_is level (Paren inner a z) s e low o (c, m, k, h, q, lies) u f b = operand_paren level inner a z s c m e k h (omega (arith, f)) q lies
    operand_is level (Prefix op of a z) s e low o (c, j, k, h, lies) u f b = operand_prefix level op of a z s c e k h (omega (arith, f)) b lies
    operand_is level (SizeofExpr of a z) s e low o (c, j, k, h, lies) u f b = operand_sizeof level of a z s c e k h (omega (arith, f)) b lies
    operand_is level (SizeofType of a z) s e low o (c, m, n, j, k, q, t, r, lies) u f b = operand_sizeof_type level of a z s c m n e k q t (omega (arith, f)) r lies
    operand_is level (Cast wanted of a z) s e low o (c, m, n, j, k, t, q, h, lies) u f b = operand_cast level wanted of a z s c m n e u k t (omega (arith, f)) q h (omega (arith, f)) b lies
    operand_is level (Index of at a z) s e low o h u f b = cc
    operand_is level (Call of arguments a z) s e low o h u f b = cc
    operand_is level (Dot of member a z) s e low o h u f b = cc
    operand_is level (Arrow of member a z) s e low o h u f b = cc
    operand_is level (Postfix op of a z) s e low o h u f b = cc
    operand_is level (Binary op left right a z) s e low o h u f b = cc
    operand_is level (Conditional test x y a z) s e low o h u f b = cc

    by_operand : (level : ℕ) (t : ExprTree) (s e : Cursor) → operand names d below level s ≡ Ok (t, e) → Reaches (expr_level names d below level s) level s t e
    unfolding expr_level
    by_operand level t s e h = record { n = suc d; room = omega arith; same = bind_is (operand names d below level) (climb names d below (begin s) level (suc d)) s e t (climb names d below (begin s) level (suc d) t e) h refl }

    pub expr_complete : (t : ExprTree) (level : ℕ) (c e : Cursor) → level ≤ 14 → ExprSpells names level t c e → expr_height t ≤ suc d → Quiet level e → expr_level names d below level c ≡ Ok (t, e)
    expr_complete t level c e low h f q =
        let u = its_level names t level c e (omega (arith, low)) h in
        let r = reach (expr_level names d below level c) level c low (λ x i o s v k b. by_operand level x c i (operand_is level x c i low o s v k b)) t level e (omega (arith, low)) h (omega arith) f (calm_of t level e u q) in
        r.same ∙ climb_ends (expr_level names d below level c) level c r.n t e q

    by_paren : (inner : ExprTree) (a z : ℕ) (o c m e : Cursor) → Mark p.LeftParenthesis o c → ExprSpells names 0 inner c m → expr_height inner ≤ d → Mark p.RightParenthesis m e → Lies a z o e → Reaches (opened_level names d below (begin o) c) 14 o (Paren inner a z) e
    unfolding opened_level
    by_paren inner a z o c m e k h l q lies = record {
      n = suc d;
      room = omega arith;
      same = bind_is (reading.paren names d below (begin o)) (climb names d below (begin o) 14 (suc d)) c e (Paren inner a z) (climb names d below (begin o) 14 (suc d) (Paren inner a z) e)
          (paren_is inner a z (begin o) o c m e (sym lies.from_is) h l q lies) refl;
    }

    -- an operand that begins with `(` and is no cast is in parentheses
    opened_first : (t : ExprTree) (o c e : Cursor) → Mark p.LeftParenthesis o c → is_operand (Ok (t, e)) 14 o t ≡ true → ExprSpells names 0 t o e → 14 ≤ tree_level t → expr_height t ≤ suc d → Reaches (opened_level names d below (begin o) c) 14 o t e
    unfolding first_kind
    opened_first (Paren inner a z) o c e k i (c2, m, k2, h, q, lies) u f = by_paren inner a z o c m e k (rw (same_place o c c2 k k2) h) (omega (arith, f)) q lies
    opened_first (Identifier name a z) o c e k i h u f = let bad : Some (kind.Punct p.LeftParenthesis) ≡ Some (kind.Name name) = ap (λ x. first_kind x) (sym (k.takes).ahead ∙ (h.1).ahead) in cc
    opened_first (Integer value decimal unsigned long a z) o c e k i h u f = let bad : Some (kind.Punct p.LeftParenthesis) ≡ Some (kind.Integer value decimal unsigned long) = ap (λ x. first_kind x) (sym (k.takes).ahead ∙ h.ahead) in cc
    opened_first (Character value a z) o c e k i h u f = let bad : Some (kind.Punct p.LeftParenthesis) ≡ Some (kind.Character value) = ap (λ x. first_kind x) (sym (k.takes).ahead ∙ h.ahead) in cc
    opened_first (Text bytes a z) o c e k i (x, xs, b, (m, j, r), lies) u f = let bad : Some (kind.Punct p.LeftParenthesis) ≡ Some (kind.Text x) = ap (λ y. first_kind y) (sym (k.takes).ahead ∙ (j.takes).ahead) in cc
    opened_first (Prefix op of a z) o c e k i h u f = let bad : true ≡ false = sym (sees_is p.LeftParenthesis o c k) ∙ sees_not p.LeftParenthesis (prefix_sign op) o h.0 h.2 (prefix_no_parenthesis op) in cc
    opened_first (SizeofExpr of a z) o c e k i h u f = let bad : Some (kind.Punct p.LeftParenthesis) ≡ Some (kind.Keyword w.Sizeof) = ap (λ x. first_kind x) (sym (k.takes).ahead ∙ ((h.2).takes).ahead) in cc
    opened_first (SizeofType of a z) o c e k i h u f = let bad : Some (kind.Punct p.LeftParenthesis) ≡ Some (kind.Keyword w.Sizeof) = ap (λ x. first_kind x) (sym (k.takes).ahead ∙ ((h.4).takes).ahead) in cc
    opened_first (Cast wanted of a z) o c e k i h u f = absurd (omega (arith, u))
    opened_first (Index of at a z) o c e k i h u f = cc
    opened_first (Call of arguments a z) o c e k i h u f = cc
    opened_first (Dot of member a z) o c e k i h u f = cc
    opened_first (Arrow of member a z) o c e k i h u f = cc
    opened_first (Postfix op of a z) o c e k i h u f = cc
    opened_first (Binary op left right a z) o c e k i h u f = cc
    opened_first (Conditional test x y a z) o c e k i h u f = cc

    pub opened_complete : (t : ExprTree) (o c e : Cursor) → Mark p.LeftParenthesis o c → ExprSpells names 14 t o e → expr_height t ≤ suc d → Quiet 14 e → opened_level names d below (begin o) c ≡ Ok (t, e)
    opened_complete t o c e k h f q =
        let u = its_level names t 14 o e (omega arith) h in
        let r = reach (opened_level names d below (begin o) c) 14 o (omega arith) (λ x i z s v j b. opened_first x o c i k z s v j) t 14 e (omega arith) h (omega arith) f (calm_of t 14 e u q) in
        r.same ∙ climb_ends (opened_level names d below (begin o) c) 14 o r.n t e q
