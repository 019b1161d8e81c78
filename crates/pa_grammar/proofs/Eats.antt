-- A reader that takes a token, and lists of items that each take one.
use Rattle.std.proofs.Common.{◌≡◌, ℕ, ◌≤◌, ◌<◌, List, [], ◌∷◌, ◌++◌, length, Option, Some, None, Ok, Err, Bool, refl, ◌∙◌, ap, arith, nat_le, subst}
use Rattle.std.proofs.lemmas.Bool.{leb-true}
use Rattle.std.proofs.lemmas.List.{length-append}
use Rattle.pa_lex.specs.declared.token.Punct.{Punct}
use Rattle.pa_lex.specs.declared.token.Punct.TheVariants as p
use Rattle.pa_lex.specs.declared.token.Token.{Token}
use Rattle.pa_grammar.specs.declared.rule.SynRule.TheVariants.{S1, S2}
use Rattle.pa_tree.specs.Cursors.{Cursor, head}
use Rattle.pa_grammar.specs.Tokens.{is_mark}
use Rattle.pa_grammar.specs.Parser.{rest, Parser, Outcome, ◌>>=◌, ◌>>◌, look, after, needs, mark_at, mark, Done, More, item_at, item_step, many, sees, commas}
use Rattle.pa_grammar.proofs.Local.{Local, LocalAt, local_bind, local_then, local_pure, local_refuse, local_after, local_look, local_if}
use Rattle.pa_grammar.proofs.Meets.{Meets, IfRead, meets_bind, meets_then, meets_pure, meets_refuse, meets_look, meets_if, meets_weaken}
use Rattle.pa_grammar.proofs.Iterated.{Shorter, Shrinks, local_iterate}

abbrev pub Fewer : {A : Type 0} → Cursor → A → Cursor → Type 0
Fewer c a d = length d.ahead < length c.ahead

abbrev pub NoMore : {A : Type 0} → Cursor → A → Cursor → Type 0
NoMore c a d = length d.ahead ≤ length c.ahead

pub record Eats {A : Type 0} (q : Parser A) : Type 0 where
  pub holds : (c : Cursor) → Meets q c (Fewer c)

split_fewer : (f x y : List Token) → x ≡ f ++ y → length y ≤ length x
split_fewer f x y e = let h = ap length e ∙ length-append f y in omega (arith, h)

no_more_at : {A : Type 0} (q : Parser A) (c : Cursor) (o : Outcome A) → LocalAt q c o → IfRead o (NoMore c)
no_more_at q c (Ok r) h = split_fewer h.front c.ahead (r.1).ahead h.split
no_more_at q c (Err s) h = tt

-- what is local lengthens nothing
pub local_no_more : {A : Type 0} {q : Parser A} → Local q → (c : Cursor) → Meets q c (NoMore c)
local_no_more {q = q} h c = record { holds = no_more_at q c (q c) (h.holds c) }

pub eats_left : {A B : Type 0} {q : Parser A} {f : A → Parser B} → Eats q → ((a : A) → Local (f a)) → Eats (q >>= f)
eats_left h g = record { holds = λ c. meets_bind (h.holds c) (λ a m l. meets_weaken (local_no_more (g a) m) (λ b d k. omega (arith, l, k))) }

pub eats_right : {A B : Type 0} {q : Parser A} {f : A → Parser B} → Local q → ((a : A) → Eats (f a)) → Eats (q >>= f)
eats_right h g = record { holds = λ c. meets_bind (local_no_more h c) (λ a m l. meets_weaken ((g a).holds m) (λ b d k. omega (arith, l, k))) }

pub eats_look : {A : Type 0} {f : Option Token → Parser A} → ((h : Option Token) → Eats (f h)) → Eats (look f)
eats_look g = record { holds = λ c. meets_look (λ h e. (g h).holds c) }

after_list : (t : Token) (ts : List Token) → Some t ≡ head ts → length (rest ts) < length ts
after_list t [] e = cc
after_list t (u ∷ us) e = omega arith

-- at its token
pub meets_after_fewer : (t : Token) (c : Cursor) → Some t ≡ head c.ahead → Meets (after t) c (Fewer c)
meets_after_fewer t c e = record { holds = after_list t c.ahead e }

pub meets_needs : {B : Type 0} (n d : ℕ) {q : Parser B} {c : Cursor} {R : B → Cursor → Type 0} → (n ≤ d → Meets q c R) → Meets (needs n d >> q) c R
meets_needs n d {q = q} {c = c} {R = R} g = meets_then {Q = λ _ m. (n ≤ d) × (c ≡ m)} (meets_if (nat_le n d) (λ e. meets_pure (leb-true n d e, refl)) (λ e. meets_refuse)) (λ _ m (le, same). subst (λ x. Meets q x R) same (g le))

mark_by_fewer : (x : Punct) (c : Cursor) (h : Option Token) → h ≡ head c.ahead → Meets (mark_at x h) c (Fewer c)
mark_by_fewer x c None e = meets_refuse
mark_by_fewer x c (Some t) e = meets_if (is_mark x t.kind) (λ q. meets_after_fewer t c e) (λ q. meets_refuse)

pub eats_mark : (x : Punct) → Eats (mark x)
eats_mark x = record { holds = λ c. meets_look (λ h e. mark_by_fewer x c h e) }

mark_at-local : (x : Punct) (h : Option Token) → Local (mark_at x h)
mark_at-local x None = local_refuse S1
mark_at-local x (Some t) = local_if (is_mark x t.kind) (local_after t) (local_refuse S1)

pub mark-local : (x : Punct) → Local (mark x)
mark-local x = local_look (mark_at-local x)

pub needs-local : (n d : ℕ) → Local (needs n d)
needs-local n d = local_if _ (local_pure tt) (local_refuse S2)

module _ {A : Type 0} (more : Option Token → Bool) (item : Parser A) where
  item_at-local : Local item → (items : List A) (h : Option Token) → Local (item_at more item items h)
  item_at-local g items h = local_if (more h) (local_bind g (λ x. local_pure (More (items ++ x ∷ [])))) (local_pure (Done items))

  item_step-local : Local item → (items : List A) → Local (item_step more item items)
  item_step-local g items = local_look (item_at-local g items)

  item_at-fewer : Eats item → (items : List A) (c : Cursor) (h : Option Token) → Meets (item_at more item items h) c (Shorter (item_step more item) c)
  item_at-fewer e items c h = meets_if (more h) (λ q. meets_bind (e.holds c) (λ x m l. record { holds = l })) (λ q. record { holds = tt })

  item_step-fewer : Eats item → (items : List A) (c : Cursor) → Meets (item_step more item items) c (Shorter (item_step more item) c)
  item_step-fewer e items c = meets_look (λ h _. item_at-fewer e items c h)

  pub item_step-shrinks : Eats item → Shrinks (item_step more item)
  item_step-shrinks e = record { holds = item_step-fewer e }

  pub many-local : Local item → Eats item → (items : List A) → Local (many more item items)
  many-local g e items = local_iterate (item_step more item) (item_step-shrinks e) (item_step-local g) items

pub commas-local : {A : Type 0} (item : Parser A) → Local item → Local (commas item)
commas-local item g = local_bind g (λ x. many-local (sees p.Comma) (mark p.Comma >> item) (local_then (mark-local p.Comma) g) (eats_left (eats_mark p.Comma) (λ _. g)) (x ∷ []))
