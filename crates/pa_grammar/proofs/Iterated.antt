-- A step again and again: one turn, and that it is local.
use Rattle.std.proofs.Common.{◌≡◌, ℕ, zero, suc, ◌≤◌, ◌<◌, ◌++◌, length, Ok, Err, refl, sym, ◌∙◌, ap, arith, subst}
use Rattle.pa_grammar.specs.declared.rule.SynRule.TheVariants.{S2}
use Rattle.pa_tree.specs.Cursors.{Cursor}
use Rattle.pa_grammar.specs.Parser.{Parser, Outcome, and_then, ◌>>=◌, refuse, Next, Done, More, goes, loop, iterate}
use Rattle.pa_grammar.proofs.Meets.{Meets, IfRead, meets_bind, meets_refuse}
use Rattle.pa_grammar.proofs.Local.{Local, LocalAt, with_ahead, then_at, local_pure}

module _ {S A : Type 0} (step : S → Parser (Next S A)) where
  -- a step that goes on takes a token
  abbrev pub Shorter : Cursor → Next S A → Cursor → Type 0
  Shorter c (Done a) d = Unit {0}
  Shorter c (More s) d = length d.ahead < length c.ahead

  pub record Shrinks : Type 0 where
    pub holds : (s : S) (c : Cursor) → Meets (step s) c (Shorter c)

  same_at : (c : Cursor) (f g : S → Parser A) (o : Outcome (Next S A)) → IfRead o (Shorter c) → ((s : S) (d : Cursor) → length d.ahead < length c.ahead → f s d ≡ g s d) → and_then o (goes f) ≡ and_then o (goes g)
  same_at c f g (Ok (Done a, d)) h same = refl
  same_at c f g (Ok (More s, d)) h same = same s d h
  same_at c f g (Err e) h same = refl

  enough : Shrinks → (n m : ℕ) (s : S) (c : Cursor) → length c.ahead ≤ n → length c.ahead ≤ m → loop step n s c ≡ loop step m s c
  unfolding loop
  enough k zero zero s c a b = refl
  enough k zero (suc m) s c a b = same_at c (λ _. refuse S2) (loop step m) (step s c) ((k.holds s c).holds) (λ s' d h. absurd (omega arith))
  enough k (suc n) zero s c a b = same_at c (loop step n) (λ _. refuse S2) (step s c) ((k.holds s c).holds) (λ s' d h. absurd (omega arith))
  enough k (suc n) (suc m) s c a b = same_at c (loop step n) (loop step m) (step s c) ((k.holds s c).holds) (λ s' d h. enough k n m s' d (omega arith) (omega arith))

  pub one_turn : Shrinks → (s : S) (c : Cursor) → iterate step s c ≡ and_then (step s c) (goes (iterate step))
  unfolding iterate loop
  one_turn k s c = enough k (length c.ahead) (suc (length c.ahead)) s c (omega arith) (omega arith)
      ∙ same_at c (loop step (length c.ahead)) (iterate step) (step s c) ((k.holds s c).holds) (λ s' d h. enough k (length c.ahead) (length d.ahead) s' d (omega arith) (omega arith))

  local_same : (p q : Parser A) (c : Cursor) (o : Outcome A) → ((d : Cursor) → p d ≡ q d) → LocalAt p c o → LocalAt q c o
  local_same p q c (Ok a) same h = record { front = h.front; split = h.split; again = λ x e. sym (same (with_ahead c (h.front ++ x))) ∙ h.again x e }
  local_same p q c (Err s) same h = record { front = h.front; split = h.split; again = λ x e. sym (same (with_ahead c (h.front ++ x))) ∙ h.again x e }

  turn_local : (s : S) (c : Cursor) (o : Outcome (Next S A)) → LocalAt (step s) c o → IfRead o (Shorter c) → ((s' : S) (d : Cursor) → length d.ahead < length c.ahead → LocalAt (iterate step s') d (iterate step s' d))
      → LocalAt (step s >>= goes (iterate step)) c (and_then o (goes (iterate step)))
  turn_local s c (Ok (Done a, d)) g h f = then_at (step s) (goes (iterate step)) c (Done a) d (Ok (a, d)) g ((local_pure a).holds d)
  turn_local s c (Ok (More s', d)) g h f = then_at (step s) (goes (iterate step)) c (More s') d (iterate step s' d) g (f s' d h)
  turn_local s c (Err e) g h f = record { front = g.front; split = g.split; again = λ x w. ap (λ o. and_then o (goes (iterate step))) (g.again x w) }

  local_at : Shrinks → ((s : S) → Local (step s)) → (n : ℕ) (s : S) (c : Cursor) → length c.ahead ≤ n → LocalAt (iterate step s) c (iterate step s c)
  local_at k g zero s c le = subst (λ o. LocalAt (iterate step s) c o) (sym (one_turn k s c)) (local_same (step s >>= goes (iterate step)) (iterate step s) c _ (λ d. sym (one_turn k s d))
      (turn_local s c (step s c) ((g s).holds c) ((k.holds s c).holds) (λ s' d h. absurd (omega arith))))
  local_at k g (suc n) s c le = subst (λ o. LocalAt (iterate step s) c o) (sym (one_turn k s c)) (local_same (step s >>= goes (iterate step)) (iterate step s) c _ (λ d. sym (one_turn k s d))
      (turn_local s c (step s c) ((g s).holds c) ((k.holds s c).holds) (λ s' d h. local_at k g n s' d (omega arith))))

  pub local_iterate : Shrinks → ((s : S) → Local (step s)) → (s : S) → Local (iterate step s)
  local_iterate k g s = record { holds = λ c. local_at k g (length c.ahead) s c (omega arith) }

  -- an invariant of the turns
  abbrev pub After : (S → Cursor → Type 0) → (A → Cursor → Type 0) → Next S A → Cursor → Type 0
  After Inv Q (Done a) d = Q a d
  After Inv Q (More s) d = Inv s d

  goes_meets : (Inv : S → Cursor → Type 0) (Q : A → Cursor → Type 0) (f : S → Parser A) (r : Next S A) (d : Cursor) → After Inv Q r d → ((s : S) (e : Cursor) → Inv s e → Meets (f s) e Q) → Meets (goes f r) d Q
  goes_meets Inv Q f (Done a) d h g = record { holds = h }
  goes_meets Inv Q f (More s) d h g = g s d h

  loop_meets : (Inv : S → Cursor → Type 0) (Q : A → Cursor → Type 0) → ((s : S) (c : Cursor) → Inv s c → Meets (step s) c (After Inv Q)) → (n : ℕ) (s : S) (c : Cursor) → Inv s c → Meets (loop step n s) c Q
  unfolding loop
  loop_meets Inv Q h zero s c i = meets_bind (h s c i) (λ r d a. goes_meets Inv Q (λ _. refuse S2) r d a (λ s' e _. meets_refuse))
  loop_meets Inv Q h (suc n) s c i = meets_bind (h s c i) (λ r d a. goes_meets Inv Q (loop step n) r d a (loop_meets Inv Q h n))

  pub meets_iterate : (Inv : S → Cursor → Type 0) (Q : A → Cursor → Type 0) → ((s : S) (c : Cursor) → Inv s c → Meets (step s) c (After Inv Q)) → (s : S) (c : Cursor) → Inv s c → Meets (iterate step s) c Q
  unfolding iterate
  meets_iterate Inv Q h s c i = record { holds = (loop_meets Inv Q h (length c.ahead) s c i).holds }
