-- Lists of qualifiers, and of the arguments of one, one more at a time.
use Rattle.std.proofs.Common.{◌≡◌, ◌<◌, ◌≤◌, ◌-◌, ◌+◌, ℕ, zero, suc, List, [], ◌∷◌, ◌++◌, drop, Option, Some, None, Bool, true, false, cond, Ok, Err, refl, sym, ◌∙◌, ap, arith, append_assoc, append-nil}
use Rattle.pa_lex.specs.declared.token.Punct.TheVariants as p
use Rattle.pa_lex.specs.declared.token.Token.{Token}
use Rattle.pa_tree.specs.Cursors.{Cursor, head}
use Rattle.pa_tree.specs.Exprs.{ExprTree}
use Rattle.pa_tree.specs.Operators.{cond_level}
use Rattle.pa_grammar.specs.declared.rule.SynRule.TheVariants.{S1}
use Rattle.pa_grammar.specs.Parser.{Parser, Outcome, Stop, and_then, ◌>>=◌, pure, refuse, after, mark, mark_at, sees}
use Rattle.pa_grammar.specs.Tokens.{is_mark}
use Rattle.pa_grammar.specs.Reading.{Parsers, parsers, conds, qualifier}
use Rattle.pa_grammar.proofs.Eats.{Eats}
use Rattle.pa_grammar.proofs.LocalReading.{parsers-local, qualifier-eats}

module _ (names : List ℕ) (d : ℕ) (here : Parsers) where
  -- no more than n further expressions, behind these
  unfoldable pub conds_behind : List ExprTree → ℕ → Parser (List ExprTree)
  conds_behind all n = conds names d here n >>= (λ es. pure (all ++ es))

  pub conds_done : (all : List ExprTree) (n : ℕ) (c : Cursor) → sees p.Comma (head c.ahead) ≡ false → conds_behind all n c ≡ Ok (all, c)
  unfolding conds_behind conds
  conds_done all zero c e = ap (λ x. Ok (x, c)) (append-nil all)
  conds_done all (suc n) c e = rw e (ap (λ x. Ok (x, c)) (append-nil all))

  pub conds_full : (all : List ExprTree) (i : ℕ) (c : Cursor) → 2 ≤ i → conds_behind all (2 - i) c ≡ Ok (all, c)
  unfolding conds_behind conds
  conds_full all i c h = let e : 2 - i ≡ 0 = omega arith in rw e (ap (λ x. Ok (x, c)) (append-nil all))

  as_it_is : (o : Outcome (List ExprTree)) → and_then o (λ es. pure ([] ++ es)) ≡ o
  as_it_is (Ok q) = refl
  as_it_is (Err s) = refl

  regroup : (all : List ExprTree) (e : ExprTree) (o : Outcome (List ExprTree)) → and_then (and_then o (λ es. pure (e ∷ es))) (λ es. pure (all ++ es)) ≡ and_then o (λ es. pure ((all ++ e ∷ []) ++ es))
  regroup all e (Ok q) = ap (λ x. Ok (x, q.1)) (sym (append_assoc all (e ∷ []) q.0))
  regroup all e (Err s) = refl

  one_more : (all : List ExprTree) (n : ℕ) (e : ExprTree) (c m x : Cursor) → sees p.Comma (head c.ahead) ≡ true → mark p.Comma c ≡ Ok (tt, m) → here.expr cond_level m ≡ Ok (e, x) → conds_behind all (suc n) c ≡ conds_behind (all ++ e ∷ []) n x
  unfolding conds_behind conds
  one_more all n e c m x h k i = rw h (rw k (rw i (regroup all e (conds names d here n x))))

  one_fails : (all : List ExprTree) (n : ℕ) (s : Stop) (c m : Cursor) → sees p.Comma (head c.ahead) ≡ true → mark p.Comma c ≡ Ok (tt, m) → here.expr cond_level m ≡ Err s → conds_behind all (suc n) c ≡ Err s
  unfolding conds_behind conds
  one_fails all n s c m h k i = rw h (rw k (rw i refl))

  pub conds_more : (all : List ExprTree) (i : ℕ) (e : ExprTree) (c m x : Cursor) → i < 2 → sees p.Comma (head c.ahead) ≡ true → mark p.Comma c ≡ Ok (tt, m) → here.expr cond_level m ≡ Ok (e, x)
      → conds_behind all (2 - i) c ≡ conds_behind (all ++ e ∷ []) (2 - (i + 1)) x
  conds_more all i e c m x l h k g = let f : 2 - i ≡ suc (2 - (i + 1)) = omega arith in rw f (one_more all (2 - (i + 1)) e c m x h k g)

  pub conds_fail : (all : List ExprTree) (i : ℕ) (s : Stop) (c m : Cursor) → i < 2 → sees p.Comma (head c.ahead) ≡ true → mark p.Comma c ≡ Ok (tt, m) → here.expr cond_level m ≡ Err s → conds_behind all (2 - i) c ≡ Err s
  conds_fail all i s c m l h k g = let f : 2 - i ≡ suc (2 - (i + 1)) = omega arith in rw f (one_fails all (2 - (i + 1)) s c m h k g)

  pub conds_start : (n : ℕ) (c : Cursor) → conds_behind [] n c ≡ conds names d here n c
  unfolding conds_behind
  conds_start n c = as_it_is (conds names d here n c)

pub ruleset argument_lists = (conds_start, conds_done, conds_full)

-- a comma that is taken comes next
by_mark : (b : Bool) (t : Token) (c m : Cursor) (u : Unit {0}) → cond b (after t) (refuse S1) c ≡ Ok (u, m) → b ≡ true
by_mark true t c m u e = refl
by_mark false t c m u e = cc

mark_seen : (h : Option Token) (c m : Cursor) (u : Unit {0}) → mark_at p.Comma h c ≡ Ok (u, m) → sees p.Comma h ≡ true
mark_seen None c m u e = cc
mark_seen (Some t) c m u e = by_mark (is_mark p.Comma t.kind) t c m u e

pub comma_seen : (c m : Cursor) (u : Unit {0}) → mark p.Comma c ≡ Ok (u, m) → sees p.Comma (head c.ahead) ≡ true
comma_seen c m u e = mark_seen (head c.ahead) c m u e

-- a list that is known to begin with x, with one more item at its end
pub first_kept : {A : Type 0} (x e : A) (l all : List A) → l ≡ x ∷ drop 1 l → all ≡ l ++ e ∷ [] → all ≡ x ∷ drop 1 all
first_kept x e l all h k = let f : all ≡ x ∷ (drop 1 l ++ e ∷ []) = k ∙ ap (λ y. y ++ e ∷ []) h in f ∙ ap (λ y. x ∷ y) (sym (ap (drop 1) f))

pub rest_kept : {A : Type 0} (x e : A) (l all : List A) → l ≡ x ∷ drop 1 l → all ≡ l ++ e ∷ [] → drop 1 all ≡ drop 1 l ++ e ∷ []
rest_kept x e l all h k = ap (drop 1) (k ∙ ap (λ y. y ++ e ∷ []) h)

pub takes_qualifier : (names : List ℕ) (d : ℕ) → Eats (qualifier names d (parsers names d) (parsers names d))
takes_qualifier names d = qualifier-eats names d (parsers names d) (parsers names d) (λ level. (parsers-local names d).expr level) (parsers-local names d)
