-- Items one behind the other, and what a list of them is read as.
use Rattle.std.proofs.Common.{◌≡◌, ℕ, List, [], ◌∷◌, ◌++◌, Option, Some, None, Bool, true, refl, sym, ◌∙◌, ap, append_assoc, append-nil}
use Rattle.pa_lex.specs.declared.token.Punct.{Punct}
use Rattle.pa_lex.specs.declared.token.Punct.TheVariants as p
use Rattle.pa_lex.specs.declared.token.Token.{Token}
use Rattle.pa_lex.specs.declared.token.Kind.{Kind}
use Rattle.pa_tree.specs.Cursors.{Cursor, head, Takes, Shifts, Mark}
use Rattle.pa_grammar.specs.Tokens.{is_mark}
use Rattle.pa_grammar.specs.Parser.{Parser, ◌>>◌, after, mark_at, mark, sees, item_at, item_step, many, commas}
use Rattle.pa_grammar.proofs.Tokens.{is_mark-true}
use Rattle.pa_grammar.proofs.Meets.{Meets, meets_bind, meets_then, meets_refuse, meets_look, meets_if, meets_weaken}
use Rattle.pa_grammar.proofs.Iterated.{After, meets_iterate}

-- behind the token that comes next
after_some : (t : Token) (ts : List Token) → Some t ≡ head ts → (us : List Token) × (ts ≡ t ∷ us)
after_some t [] e = cc
after_some t (u ∷ us) e = (us, let h : t ≡ u = cc in rw h refl)

pub meets_after : (t : Token) (c : Cursor) → Some t ≡ head c.ahead → Meets (after t) c (λ _ d. Takes t.kind t.from t.to c d)
meets_after t c e = let s = after_some t c.ahead e in record { holds = record { ahead = rw s.1 refl; ended = refl } }

pub shifts : {k : Kind} {a z : ℕ} {c d : Cursor} → Takes k a z c d → Shifts k c d
shifts {a = a} {z = z} h = record { from = a; to = z; takes = h }

mark_by : (x : Punct) (c : Cursor) (h : Option Token) → h ≡ head c.ahead → Meets (mark_at x h) c (λ _ d. Mark x c d)
mark_by x c None e = meets_refuse
mark_by x c (Some t) e = meets_if (is_mark x t.kind) (λ q. meets_weaken (meets_after t c e) (λ _ m h. shifts (rw (is_mark-true x t.kind q) at h))) (λ q. meets_refuse)

pub meets_mark : (x : Punct) (c : Cursor) → Meets (mark x) c (λ _ d. Mark x c d)
meets_mark x c = meets_look (λ h e. mark_by x c h e)

-- from c to d stand these items
abbrev pub Chain : {A : Type 0} → (A → Cursor → Cursor → Type 0) → List A → Cursor → Cursor → Type 0
Chain R [] c d = c ≡ d
Chain R (x ∷ xs) c d = (m : Cursor) × R x c m × Chain R xs m d

pub chain_snoc : {A : Type 0} (R : A → Cursor → Cursor → Type 0) (xs : List A) (x : A) (c m d : Cursor) → Chain R xs c m → R x m d → Chain R (xs ++ x ∷ []) c d
chain_snoc R [] x c m d h r = (d, rw h r, refl)
chain_snoc R (y ∷ ys) x c m d (n, s, h) r = (n, s, chain_snoc R ys x n m d h r)

-- the items that were added since
pub record Added {A : Type 0} (R : A → Cursor → Cursor → Type 0) (before : List A) (c : Cursor) (all : List A) (d : Cursor) : Type 0 where
  pub items : List A
  pub all_is : all ≡ before ++ items
  pub chain : Chain R items c d

pub nothing_added : {A : Type 0} (R : A → Cursor → Cursor → Type 0) (before : List A) (c : Cursor) → Added R before c before c
nothing_added R before c = record { items = []; all_is = sym (append-nil before); chain = refl }

pub one_added : {A : Type 0} (R : A → Cursor → Cursor → Type 0) (before all : List A) (x : A) (c m d : Cursor) → Added R before c all m → R x m d → Added R before c (all ++ x ∷ []) d
one_added R before all x c m d h r = record {
  items = h.items ++ x ∷ [];
  all_is = ap (λ y. y ++ x ∷ []) h.all_is ∙ append_assoc before h.items (x ∷ []);
  chain = chain_snoc R h.items x c m d h.chain r;
}

module _ {A : Type 0} (R : A → Cursor → Cursor → Type 0) (more : Option Token → Bool) (item : Parser A) (g : (c : Cursor) → more (head c.ahead) ≡ true → Meets item c (λ x d. R x c d)) where
  item_at-adds : (before all : List A) (c m : Cursor) (h : Option Token) → h ≡ head m.ahead → Added R before c all m → Meets (item_at more item all h) m (After (item_step more item) (Added R before c) (Added R before c))
  item_at-adds before all c m h e i = meets_if (more h) (λ q. meets_bind (g m (rw e at q)) (λ x d r. record { holds = one_added R before all x c m d i r })) (λ q. record { holds = i })

  item_step-adds : (before : List A) (c : Cursor) (all : List A) (m : Cursor) → Added R before c all m → Meets (item_step more item all) m (After (item_step more item) (Added R before c) (Added R before c))
  item_step-adds before c all m i = meets_look (λ h e. item_at-adds before all c m h e i)

  pub meets_many_where : (before : List A) (c : Cursor) → Meets (many more item before) c (Added R before c)
  meets_many_where before c = meets_iterate (item_step more item) (Added R before c) (Added R before c) (item_step-adds before c) before c (nothing_added R before c)

pub meets_many : {A : Type 0} (R : A → Cursor → Cursor → Type 0) (more : Option Token → Bool) (item : Parser A) → ((c : Cursor) → Meets item c (λ x d. R x c d)) → (before : List A) (c : Cursor) → Meets (many more item before) c (Added R before c)
meets_many R more item g before c = meets_many_where R more item (λ m _. g m) before c

-- an item behind a comma
abbrev pub Behind : {A : Type 0} → (A → Cursor → Cursor → Type 0) → A → Cursor → Cursor → Type 0
Behind R x c d = (m : Cursor) × Mark p.Comma c m × R x m d

-- one item or more, with commas between
pub record Separated {A : Type 0} (R : A → Cursor → Cursor → Type 0) (c : Cursor) (all : List A) (d : Cursor) : Type 0 where
  pub first : A
  pub others : List A
  pub all_is : all ≡ first ∷ others
  pub middle : Cursor
  pub first_is : R first c middle
  pub chain : Chain (Behind R) others middle d

module _ {A : Type 0} (R : A → Cursor → Cursor → Type 0) (item : Parser A) (g : (c : Cursor) → Meets item c (λ x d. R x c d)) where
  behind_comma : (c : Cursor) → Meets (mark p.Comma >> item) c (λ x d. Behind R x c d)
  behind_comma c = meets_then {q = item} (meets_mark p.Comma c) (λ _ m h. meets_weaken (g m) (λ x d r. (m, h, r)))

  pub meets_commas : (c : Cursor) → Meets (commas item) c (Separated R c)
  meets_commas c = meets_bind (g c) (λ x m r. meets_weaken (meets_many (Behind R) (sees p.Comma) (mark p.Comma >> item) behind_comma (x ∷ []) m) (λ all d a. record { first = x; others = a.items; all_is = a.all_is; middle = m; first_is = r; chain = a.chain }))
