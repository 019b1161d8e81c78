-- Readers step by step, where what they ask for stands ahead.
use Rattle.std.proofs.Common.{◌≡◌, ◌≤◌, ℕ, List, [], ◌∷◌, ◌++◌, Option, Some, Ok, Bool, true, false, cond, refl, sym, ◌∙◌, ap, append_assoc, append-nil}
use Rattle.std.proofs.lemmas.Bool.{le-leb}
use Rattle.pa_lex.specs.declared.token.Kind.{Kind}
use Rattle.pa_lex.specs.declared.token.Punct.{Punct}
use Rattle.pa_lex.specs.declared.token.Punct.TheVariants as p
use Rattle.pa_lex.specs.declared.token.Token.{Token}
use Rattle.pa_tree.specs.Cursors.{Cursor, head, from_of, Takes, Shifts, Lies, Mark}
use Rattle.pa_grammar.specs.Tokens.{same_mark}
use Rattle.pa_grammar.specs.Parser.{Parser, Outcome, and_then, ◌>>=◌, ◌>>◌, pure, look, after, ended, needs, sees, mark, mark_at, Done, More, goes, iterate, item_step, many, commas}
use Rattle.pa_grammar.proofs.Tokens.{same_mark-self}
use Rattle.pa_grammar.proofs.Iterated.{Shrinks, one_turn}
use Rattle.pa_grammar.proofs.Chains.{Chain, Behind}

pub bind_is : {A B : Type 0} (q : Parser A) (f : A → Parser B) (c d : Cursor) (a : A) (o : Outcome B) → q c ≡ Ok (a, d) → f a d ≡ o → (q >>= f) c ≡ o
bind_is q f c d a o e h = ap (λ x. and_then x f) e ∙ h

pub then_is : {A B : Type 0} (q : Parser A) (f : Parser B) (c d : Cursor) (a : A) (o : Outcome B) → q c ≡ Ok (a, d) → f d ≡ o → (q >> f) c ≡ o
then_is q f c d a o e h = ap (λ x. and_then x (λ _. f)) e ∙ h

pub token_of : {k : Kind} {c d : Cursor} → Shifts k c d → Token
token_of {k = k} h = record { kind = k; from = h.from; to = h.to }

-- where this token comes next
pub look_is : {A : Type 0} {k : Kind} (f : Option Token → Parser A) (c d : Cursor) (h : Shifts k c d) (o : Outcome A) → f (Some (record { kind = k; from = h.from; to = h.to })) c ≡ o → look f c ≡ o
look_is f c d h o e = ap (λ x. f (head x) c) (h.takes).ahead ∙ e

pub look_at_is : {A : Type 0} {k : Kind} {a z : ℕ} (f : Option Token → Parser A) (c d : Cursor) → Takes k a z c d → (o : Outcome A) → f (Some (record { kind = k; from = a; to = z })) c ≡ o → look f c ≡ o
look_at_is f c d h o e = ap (λ x. f (head x) c) h.ahead ∙ e

pub after_is : {k : Kind} {a z : ℕ} {c d : Cursor} → Takes k a z c d → after (record { kind = k; from = a; to = z }) c ≡ Ok (tt, d)
after_is {k} {a} {z} {c} {d} h = rw h.ahead (rw h.ended refl)

pub after_shift : {k : Kind} {c d : Cursor} (h : Shifts k c d) → after (record { kind = k; from = h.from; to = h.to }) c ≡ Ok (tt, d)
after_shift h = after_is h.takes

-- goes on behind the token
pub taken : {A : Type 0} {k : Kind} {a z : ℕ} {c d : Cursor} → Takes k a z c d → (q : Parser A) (o : Outcome A) → q d ≡ o → (after (record { kind = k; from = a; to = z }) >> q) c ≡ o
taken {k = k} {a = a} {z = z} {c = c} {d = d} h q o e = then_is (after (record { kind = k; from = a; to = z })) q c d tt o (after_is h) e

pub took : {A : Type 0} {k : Kind} {c d : Cursor} (h : Shifts k c d) (q : Parser A) (o : Outcome A) → q d ≡ o → (after (record { kind = k; from = h.from; to = h.to }) >> q) c ≡ o
took h q o e = taken h.takes q o e

-- where there is room
pub roomy : {A : Type 0} (n d : ℕ) (q : Parser A) (c : Cursor) (o : Outcome A) → n ≤ d → q c ≡ o → (needs n d >> q) c ≡ o
roomy n d q c o l e = then_is (needs n d) q c c tt o (rw (le-leb n d l) refl) e

pub needs_is : (n d : ℕ) (c : Cursor) → n ≤ d → needs n d c ≡ Ok (tt, c)
needs_is n d c h = rw (le-leb n d h) refl

pub mark_is : (x : Punct) (c d : Cursor) → Mark x c d → mark x c ≡ Ok (tt, d)
mark_is x c d h = look_is (mark_at x) c d h (Ok (tt, d)) (rw (same_mark-self x) (after_shift h))

-- behind this mark
pub marked : {A : Type 0} (x : Punct) (q : Parser A) (c d : Cursor) (o : Outcome A) → Mark x c d → q d ≡ o → (mark x >> q) c ≡ o
marked x q c d o h e = then_is (mark x) q c d tt o (mark_is x c d h) e

pub sees_is : (x : Punct) (c d : Cursor) → Mark x c d → sees x (head c.ahead) ≡ true
sees_is x c d h = rw (h.takes).ahead (same_mark-self x)

-- another token comes next
pub sees_not : (x y : Punct) (c d : Cursor) → Mark y c d → same_mark y x ≡ false → sees x (head c.ahead) ≡ false
sees_not x y c d h e = rw (h.takes).ahead e

pub from_is : {k : Kind} {a z : ℕ} {c d e : Cursor} (h : Shifts k c d) → Lies a z c e → h.from ≡ a
from_is h l = sym (l.from_is ∙ ap (λ x. from_of (head x)) (h.takes).ahead)

-- the end of a tree
pub close : {A : Type 0} (f : ℕ → ℕ → A) (from a z : ℕ) (d : Cursor) → from ≡ a → z ≡ d.ended → (ended >>= (λ y. pure (f from y))) d ≡ Ok (f a z, d)
close f from a z d e h = ap (λ x. Ok (f x d.ended, d)) e ∙ ap (λ x. Ok (f a x, d)) (sym h)

pub if_true : {A : Type 0} (b : Bool) (x y : Parser A) (c : Cursor) (o : Outcome A) → b ≡ true → x c ≡ o → cond b x y c ≡ o
if_true true x y c o e h = h
if_true false x y c o e h = cc

pub if_false : {A : Type 0} (b : Bool) (x y : Parser A) (c : Cursor) (o : Outcome A) → b ≡ false → y c ≡ o → cond b x y c ≡ o
if_false true x y c o e h = cc
if_false false x y c o e h = h

-- lists of items
module _ {A : Type 0} (R : A → Cursor → Cursor → Type 0) (more : Option Token → Bool) (item : Parser A) (s : Shrinks (item_step more item))
    (begins : (x : A) (c d : Cursor) → R x c d → more (head c.ahead) ≡ true)
    (reads : (x : A) (c d : Cursor) → R x c d → item c ≡ Ok (x, d)) where
  one_more : (all : List A) (x : A) (c d : Cursor) → R x c d → item_step more item all c ≡ Ok (More (all ++ x ∷ []), d)
  one_more all x c d r = rw (begins x c d r) (bind_is item (λ y. pure (More (all ++ y ∷ []))) c d x (Ok (More (all ++ x ∷ []), d)) (reads x c d r) refl)

  no_more : (all : List A) (c : Cursor) → more (head c.ahead) ≡ false → item_step more item all c ≡ Ok (Done all, c)
  no_more all c e = rw e refl

  pub many_is : (xs all : List A) (c d : Cursor) → Chain R xs c d → more (head d.ahead) ≡ false → many more item all c ≡ Ok (all ++ xs, d)
  many_is [] all c d h e = one_turn (item_step more item) s all c ∙ ap (λ x. and_then x (goes (iterate (item_step more item)))) (no_more all c (rw h e)) ∙ ap (λ x. Ok (x, c)) (sym (append-nil all)) ∙ ap (λ y. Ok (all ++ [], y)) h
  many_is (x ∷ xs) all c d (m, r, h) e = one_turn (item_step more item) s all c ∙ ap (λ y. and_then y (goes (iterate (item_step more item)))) (one_more all x c m r) ∙ many_is xs (all ++ x ∷ []) m d h e ∙ ap (λ y. Ok (y, d)) (append_assoc all (x ∷ []) xs)

-- items with commas between
module _ {A : Type 0} (R : A → Cursor → Cursor → Type 0) (item : Parser A) (s : Shrinks (item_step (sees p.Comma) (mark p.Comma >> item)))
    (reads : (x : A) (c d : Cursor) → R x c d → item c ≡ Ok (x, d)) where
  comma_begins : (x : A) (c d : Cursor) → Behind R x c d → sees p.Comma (head c.ahead) ≡ true
  comma_begins x c d (m, k, r) = sees_is p.Comma c m k

  comma_reads : (x : A) (c d : Cursor) → Behind R x c d → (mark p.Comma >> item) c ≡ Ok (x, d)
  comma_reads x c d (m, k, r) = then_is (mark p.Comma) item c m tt (Ok (x, d)) (mark_is p.Comma c m k) (reads x m d r)

  pub commas_is : (x : A) (xs : List A) (c m d : Cursor) → R x c m → Chain (Behind R) xs m d → sees p.Comma (head d.ahead) ≡ false → commas item c ≡ Ok (x ∷ xs, d)
  commas_is x xs c m d r h e = bind_is item (λ y. many (sees p.Comma) (mark p.Comma >> item) (y ∷ [])) c m x (Ok (x ∷ xs, d)) (reads x c m r)
      (many_is (Behind R) (sees p.Comma) (mark p.Comma >> item) s comma_begins comma_reads xs (x ∷ []) m d h e)
