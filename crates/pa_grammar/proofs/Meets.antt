-- What holds of what a parser gives at a place.
use Rattle.std.proofs.Common.{◌≡◌, Option, Ok, Err, Bool, true, false, cond, refl}
use Rattle.pa_lex.specs.declared.token.Token.{Token}
use Rattle.pa_grammar.specs.declared.rule.SynRule.{SynRule}
use Rattle.pa_tree.specs.Cursors.{Cursor, head}
use Rattle.pa_grammar.specs.Parser.{Parser, Outcome, and_then, ◌>>=◌, ◌>>◌, pure, refuse, look, ended}

abbrev pub IfRead : {A : Type 0} → Outcome A → (A → Cursor → Type 0) → Type 0
IfRead (Ok q) Q = Q q.0 q.1
IfRead (Err s) Q = Unit {0}

pub record Meets {A : Type 0} (p : Parser A) (c : Cursor) (Q : A → Cursor → Type 0) : Type 0 where
  pub holds : IfRead (p c) Q

bind_at : {A B : Type 0} (o : Outcome A) (f : A → Parser B) (Q : A → Cursor → Type 0) (R : B → Cursor → Type 0) → IfRead o Q → ((a : A) (m : Cursor) → Q a m → Meets (f a) m R) → IfRead (and_then o f) R
bind_at (Ok q) f Q R h g = (g (q.0) (q.1) h).holds
bind_at (Err s) f Q R h g = tt

pub meets_bind : {A B : Type 0} {p : Parser A} {f : A → Parser B} {c : Cursor} {Q : A → Cursor → Type 0} {R : B → Cursor → Type 0} → Meets p c Q → ((a : A) (m : Cursor) → Q a m → Meets (f a) m R) → Meets (p >>= f) c R
meets_bind {p = p} {f = f} {c = c} {Q = Q} {R = R} h g = record { holds = bind_at (p c) f Q R h.holds g }

pub meets_then : {A B : Type 0} {p : Parser A} {q : Parser B} {c : Cursor} {Q : A → Cursor → Type 0} {R : B → Cursor → Type 0} → Meets p c Q → ((a : A) (m : Cursor) → Q a m → Meets q m R) → Meets (p >> q) c R
meets_then h g = meets_bind h g

pub meets_pure : {A : Type 0} {a : A} {c : Cursor} {Q : A → Cursor → Type 0} → Q a c → Meets (pure a) c Q
meets_pure h = record { holds = h }

pub meets_refuse : {A : Type 0} {rule : SynRule} {c : Cursor} {Q : A → Cursor → Type 0} → Meets (refuse {A = A} rule) c Q
meets_refuse = record { holds = tt }

pub meets_ended : {c : Cursor} → Meets ended c (λ z d. (z ≡ c.ended) × (d ≡ c))
meets_ended = record { holds = (refl, refl) }

pub meets_look : {A : Type 0} {f : Option Token → Parser A} {c : Cursor} {Q : A → Cursor → Type 0} → ((h : Option Token) → h ≡ head c.ahead → Meets (f h) c Q) → Meets (look f) c Q
meets_look {c = c} g = record { holds = (g (head c.ahead) refl).holds }

pub meets_if : {A : Type 0} (b : Bool) {p q : Parser A} {c : Cursor} {Q : A → Cursor → Type 0} → (b ≡ true → Meets p c Q) → (b ≡ false → Meets q c Q) → Meets (cond b p q) c Q
meets_if true g h = g refl
meets_if false g h = h refl

weaken_at : {A : Type 0} (o : Outcome A) (Q R : A → Cursor → Type 0) → IfRead o Q → ((a : A) (m : Cursor) → Q a m → R a m) → IfRead o R
weaken_at (Ok q) Q R h g = g (q.0) (q.1) h
weaken_at (Err s) Q R h g = tt

pub meets_weaken : {A : Type 0} {p : Parser A} {c : Cursor} {Q R : A → Cursor → Type 0} → Meets p c Q → ((a : A) (m : Cursor) → Q a m → R a m) → Meets p c R
meets_weaken {p = p} {c = c} {Q = Q} {R = R} h g = record { holds = weaken_at (p c) Q R h.holds g }
