-- What a parser gives depends on no token behind the one that it ends before.
use Rattle.std.proofs.Common.{◌≡◌, ℕ, List, [], ◌∷◌, ◌++◌, Option, None, Ok, Err, Bool, true, false, cond, refl, sym, ◌∙◌, ap, append_assoc}
use Rattle.pa_lex.specs.declared.token.Token.{Token}
use Rattle.pa_grammar.specs.declared.rule.SynRule.{SynRule}
use Rattle.pa_tree.specs.Cursors.{Cursor, head}
use Rattle.pa_grammar.specs.Parser.{Stop, Parser, Outcome, and_then, ◌>>=◌, ◌>>◌, pure, refuse, look, after, ended}

abbrev pub with_ahead : Cursor → List Token → Cursor
with_ahead c x = record { ended = c.ended; ahead = x }

pub record Gives {A : Type 0} (p : Parser A) (c : Cursor) (a : A) (d : Cursor) : Type 0 where
  pub front : List Token
  pub split : c.ahead ≡ front ++ d.ahead
  pub again : (x : List Token) → head d.ahead ≡ head x → p (with_ahead c (front ++ x)) ≡ Ok (a, with_ahead d x)

pub record Stops {A : Type 0} (p : Parser A) (c : Cursor) (s : Stop) : Type 0 where
  pub front : List Token
  pub split : c.ahead ≡ front ++ (s.at).ahead
  pub again : (x : List Token) → head (s.at).ahead ≡ head x → p (with_ahead c (front ++ x)) ≡ Err (record { rule = s.rule; at = with_ahead (s.at) x })

abbrev pub LocalAt : {A : Type 0} → Parser A → Cursor → Outcome A → Type 0
LocalAt p c (Ok q) = Gives p c q.0 q.1
LocalAt p c (Err s) = Stops p c s

pub record Local {A : Type 0} (p : Parser A) : Type 0 where
  pub holds : (c : Cursor) → LocalAt p c (p c)

head-append : (f x y : List Token) → head x ≡ head y → head (f ++ x) ≡ head (f ++ y)
head-append [] x y h = h
head-append (t ∷ f) x y h = refl

head-split : (ts f x y : List Token) → ts ≡ f ++ x → head x ≡ head y → head ts ≡ head (f ++ y)
head-split ts f x y e h = ap head e ∙ head-append f x y h

pub then_at : {A B : Type 0} (p : Parser A) (f : A → Parser B) (c : Cursor) (a : A) (d : Cursor) (o : Outcome B) → Gives p c a d → LocalAt (f a) d o → LocalAt (p >>= f) c o
then_at p f c a d (Ok q) g h = record {
  front = g.front ++ h.front;
  split = g.split ∙ ap (λ y. g.front ++ y) h.split ∙ sym (append_assoc g.front h.front ((q.1).ahead));
  again = λ x e. ap (λ y. and_then (p (with_ahead c y)) f) (append_assoc g.front h.front x) ∙ ap (λ o. and_then o f) (g.again (h.front ++ x) (head-split d.ahead h.front ((q.1).ahead) x h.split e)) ∙ h.again x e;
}
then_at p f c a d (Err s) g h = record {
  front = g.front ++ h.front;
  split = g.split ∙ ap (λ y. g.front ++ y) h.split ∙ sym (append_assoc g.front h.front ((s.at).ahead));
  again = λ x e. ap (λ y. and_then (p (with_ahead c y)) f) (append_assoc g.front h.front x) ∙ ap (λ o. and_then o f) (g.again (h.front ++ x) (head-split d.ahead h.front ((s.at).ahead) x h.split e)) ∙ h.again x e;
}

bind_at : {A B : Type 0} (p : Parser A) (f : A → Parser B) (c : Cursor) (o : Outcome A) → LocalAt p c o → ((a : A) → Local (f a)) → LocalAt (p >>= f) c (and_then o f)
bind_at p f c (Ok q) g h = then_at p f c (q.0) (q.1) (f (q.0) (q.1)) g ((h (q.0)).holds (q.1))
bind_at p f c (Err s) g h = record { front = g.front; split = g.split; again = λ x e. ap (λ o. and_then o f) (g.again x e) }

pub local_bind : {A B : Type 0} {p : Parser A} {f : A → Parser B} → Local p → ((a : A) → Local (f a)) → Local (p >>= f)
local_bind {p = p} {f = f} g h = record { holds = λ c. bind_at p f c (p c) (g.holds c) h }

pub local_then : {A B : Type 0} {p : Parser A} {q : Parser B} → Local p → Local q → Local (p >> q)
local_then g h = local_bind g (λ _. h)

pub local_pure : {A : Type 0} (a : A) → Local (pure a)
local_pure a = record { holds = λ c. record { front = []; split = refl; again = λ x e. refl } }

pub local_refuse : {A : Type 0} (rule : SynRule) → Local (refuse {A = A} rule)
local_refuse rule = record { holds = λ c. record { front = []; split = refl; again = λ x e. refl } }

pub local_ended : Local ended
local_ended = record { holds = λ c. record { front = []; split = refl; again = λ x e. refl } }

only_end : (x : List Token) → None ≡ head x → x ≡ []
only_end [] e = refl
only_end (t ∷ x) e = cc

after_at : (t : Token) (z : ℕ) (ts : List Token) → LocalAt (after t) (record { ended = z; ahead = ts }) (after t (record { ended = z; ahead = ts }))
after_at t z [] = record { front = []; split = refl; again = λ x e. rw (only_end x e) }
after_at t z (u ∷ us) = record { front = u ∷ []; split = refl; again = λ x e. refl }

pub local_after : (t : Token) → Local (after t)
local_after t = record { holds = λ c. after_at t c.ended c.ahead }

look_at : {A : Type 0} (f : Option Token → Parser A) (c : Cursor) (o : Outcome A) → LocalAt (f (head c.ahead)) c o → LocalAt (look f) c o
look_at f c (Ok q) g = record { front = g.front; split = g.split; again = λ x e. ap (λ h. f h (with_ahead c (g.front ++ x))) (sym (head-split c.ahead g.front ((q.1).ahead) x g.split e)) ∙ g.again x e }
look_at f c (Err s) g = record { front = g.front; split = g.split; again = λ x e. ap (λ h. f h (with_ahead c (g.front ++ x))) (sym (head-split c.ahead g.front ((s.at).ahead) x g.split e)) ∙ g.again x e }

pub local_look : {A : Type 0} {f : Option Token → Parser A} → ((h : Option Token) → Local (f h)) → Local (look f)
local_look {f = f} g = record { holds = λ c. look_at f c (f (head c.ahead) c) ((g (head c.ahead)).holds c) }

pub local_if : {A : Type 0} (b : Bool) {p q : Parser A} → Local p → Local q → Local (cond b p q)
local_if true g h = g
local_if false g h = h
