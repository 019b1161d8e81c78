-- An expression has just one typed form, or breaks just one rule at one place first: the two relations are what one function answers.
use Rattle.std.proofs.Common.{◌≡◌, ℕ, Bool, true, false, List, ◌∷◌, map, Option, Some, None, Ok, Err, ◌⊎◌, inl, inr, refl, sym, ap, ◌∙◌}
use Rattle.pa_tree.specs.Exprs.{ExprTree, ExprTrees}
use Rattle.pa_tree.specs.Exprs as tree
use Rattle.pa_ctype.specs.Types.{TypeTree}
use Rattle.pa_ctype.specs.Layouts.{Table}
use Rattle.pa_scope.specs.declared.rule.TypeRule.{TypeRule}
use Rattle.pa_scope.specs.declared.rule.TypeRule.TheVariants.{C24}
use Rattle.pa_scope.specs.Answers.{Answer, Broken, breaks_at, then_with, in_order}
use Rattle.pa_scope.specs.Scope.{Spelling, Scope}
use Rattle.pa_rexpr.specs.Values.{Typed, read}
use Rattle.pa_rexpr.specs.Operators.{conditional}
use Rattle.pa_rexpr.specs.Places.{subscript, member, arrow, stepped, size_of, binary}
use Rattle.pa_rexpr.specs.Calls.{call, cast}
use Rattle.pa_rexpr.specs.Names.{named, integer_literal, only_text, discriminator_value, is_name}
use Rattle.pa_rexpr.specs.Declarators.{CastTarget, Operand}
use Rattle.pa_rexpr.specs.Typing.{typing, typing_each, prefixed, is_discriminator, behind_texts, type_name, discriminator_call, call_by}
use Rattle.pa_rexpr.specs.Rules.{One, Two, Three, Then, Case, OfType, Has, HasEach, Breaks, BreaksEach}

-- an answer says which of two holds
pub Told : {A : Type 0} → (A → Type 0) → (TypeRule → ℕ → Type 0) → Answer A → Type 0
Told Form Flaw (Ok t) = Form t
Told Form Flaw (Err b) = Flaw b.rule b.place

-- ---- constructs of one, two or three parts

told_as : {A : Type 0} (Form : A → Type 0) (Flaw : TypeRule → ℕ → Type 0) (answer : Answer A) → ((t : A) → answer ≡ Ok t → Form t) → ((rule : TypeRule) (at : ℕ) → answer ≡ breaks_at rule at → Flaw rule at) → Told Form Flaw answer
unfolding Told
told_as Form Flaw (Ok t) form flaw = form t refl
told_as Form Flaw (Err b) form flaw = flaw b.rule b.place refl

module _ (Form : Typed → Type 0) (Flaw : TypeRule → ℕ → Type 0) where
  one : (x : Answer Typed) (made : Typed → Answer Typed) → Told Form Flaw x → Told (λ t. One Form made (Ok t)) (λ rule at. Flaw rule at ⊎ One Form made (breaks_at rule at)) (then_with x made)
  unfolding Told
  one (Err b) made h = inl h
  one (Ok u) made h = told_as (λ t. One Form made (Ok t)) (λ rule at. Flaw rule at ⊎ One Form made (breaks_at rule at)) (made u) (λ t e. (u, h, e)) (λ rule at e. inr (u, h, e))

  of_type : (named : Answer TypeTree) (x : Answer Typed) (made : TypeTree → Typed → Answer Typed) → Told Form Flaw x
      → Told (λ t. OfType named (λ w. One Form (made w) (Ok t))) (λ rule at. (named ≡ breaks_at rule at) ⊎ OfType named (λ w. Flaw rule at ⊎ One Form (made w) (breaks_at rule at))) (then_with named (λ w. then_with x (made w)))
  unfolding Told
  of_type (Err b) x made h = inl refl
  of_type (Ok w) (Err b) made h = inr (w, refl, inl h)
  of_type (Ok w) (Ok u) made h =
      told_as (λ t. OfType (Ok w) (λ v. One Form (made v) (Ok t))) (λ rule at. (Ok w ≡ breaks_at rule at) ⊎ OfType (Ok w) (λ v. Flaw rule at ⊎ One Form (made v) (breaks_at rule at))) (made w u) (λ t e. (w, refl, (u, h, e))) (λ rule at e. inr (w, refl, inr (u, h, e)))

type_alone : (named : Answer TypeTree) (made : TypeTree → Answer Typed) → Told (λ t. OfType named (λ w. made w ≡ Ok t)) (λ rule at. (named ≡ breaks_at rule at) ⊎ OfType named (λ w. made w ≡ breaks_at rule at)) (then_with named made)
unfolding Told
type_alone (Err b) made = inl refl
type_alone (Ok w) made = told_as (λ t. OfType (Ok w) (λ v. made v ≡ Ok t)) (λ rule at. (Ok w ≡ breaks_at rule at) ⊎ OfType (Ok w) (λ v. made v ≡ breaks_at rule at)) (made w) (λ t e. (w, refl, e)) (λ rule at e. inr (w, refl, e))

module _ (F : Typed → Type 0) (B : TypeRule → ℕ → Type 0) (G : Typed → Type 0) (C : TypeRule → ℕ → Type 0) where
  two : (x y : Answer Typed) (made : Typed → Typed → Answer Typed) → Told F B x → Told G C y
      → Told (λ t. Two F G made (Ok t)) (λ rule at. B rule at ⊎ (Then F (C rule at) ⊎ Two F G made (breaks_at rule at))) (then_with x (λ u. then_with y (made u)))
  unfolding Told
  two (Err b) y made h k = inl h
  two (Ok u) (Err b) made h k = inr (inl (u, h, k))
  two (Ok u) (Ok v) made h k =
      told_as (λ t. Two F G made (Ok t)) (λ rule at. B rule at ⊎ (Then F (C rule at) ⊎ Two F G made (breaks_at rule at))) (made u v) (λ t e. (u, v, h, k, e)) (λ rule at e. inr (inr (u, v, h, k, e)))

  three : (H : Typed → Type 0) (D : TypeRule → ℕ → Type 0) (x y z : Answer Typed) (made : Typed → Typed → Typed → Answer Typed) → Told F B x → Told G C y → Told H D z
      → Told (λ t. Three F G H made (Ok t)) (λ rule at. B rule at ⊎ (Then F (C rule at) ⊎ (Then F (Then G (D rule at)) ⊎ Three F G H made (breaks_at rule at)))) (then_with x (λ u. then_with y (λ v. then_with z (made u v))))
  unfolding Told
  three H D (Err b) y z made h k l = inl h
  three H D (Ok u) (Err b) z made h k l = inr (inl (u, h, k))
  three H D (Ok u) (Ok v) (Err b) made h k l = inr (inr (inl (u, h, (v, k, l))))
  three H D (Ok u) (Ok v) (Ok w) made h k l =
      told_as (λ t. Three F G H made (Ok t)) (λ rule at. B rule at ⊎ (Then F (C rule at) ⊎ (Then F (Then G (D rule at)) ⊎ Three F G H made (breaks_at rule at)))) (made u v w) (λ t e. (u, v, w, h, k, l, e)) (λ rule at e. inr (inr (inr (u, v, w, h, k, l, e))))

-- ---- arguments and calls

module _ (F : Typed → Type 0) (B : TypeRule → ℕ → Type 0) (Each : List Typed → Type 0) (Flawed : TypeRule → ℕ → Type 0) where
  cons : (x : Answer Typed) (xs : Answer (List Typed)) → Told F B x → Told Each Flawed xs
      → Told (λ ts. (u : Typed) × (us : List Typed) × F u × Each us × (u ∷ us ≡ ts)) (λ rule at. B rule at ⊎ Then F (Flawed rule at)) (then_with x (λ u. then_with xs (λ us. Ok (u ∷ us))))
  unfolding Told
  cons (Err b) xs h k = inl h
  cons (Ok u) (Err b) h k = inr (u, h, k)
  cons (Ok u) (Ok us) h k = (u, us, h, k, refl)

  discriminator_told : (place : ℕ) (text : Option (List ℕ)) (arguments : List (Answer Typed)) → Told Each Flawed (in_order arguments)
      → Told (λ t. (bytes : List ℕ) × (text ≡ Some bytes) × (discriminator_value bytes ≡ t)) (λ rule at. (text ≡ None) × (Flawed rule at ⊎ ((es : List Typed) × Each es × (C24 ≡ rule) × (place ≡ at)))) (discriminator_call place text arguments)
  unfolding Told
  discriminator_told place (Some bytes) arguments h = (bytes, refl, refl)
  discriminator_told place None arguments h = none (in_order arguments) h
    where
      none : (es : Answer (List Typed)) → Told Each Flawed es → Told (λ (t : Typed). (bytes : List ℕ) × (None ≡ Some bytes) × (discriminator_value bytes ≡ t)) (λ rule at. (◌≡◌ {A = Option (List ℕ)} None None) × (Flawed rule at ⊎ ((us : List Typed) × Each us × (C24 ≡ rule) × (place ≡ at)))) (then_with es (λ us. breaks_at C24 place))
      none (Err b) k = (refl, inl k)
      none (Ok us) k = (refl, inr (us, k, refl, refl))

  call_told : (table : Table) (place : ℕ) (by_name : Bool) (f : Answer Typed) (es : Answer (List Typed)) → Told F B f → Told Each Flawed es
      → Told (λ t. (u : Typed) × (us : List Typed) × F u × Each us × (call table place by_name (read u) (map read us) ≡ Ok t)) (λ rule at. B rule at ⊎ (Then F (Flawed rule at) ⊎ ((u : Typed) × (us : List Typed) × F u × Each us × (call table place by_name (read u) (map read us) ≡ breaks_at rule at)))) (then_with f (λ u. then_with es (λ us. call table place by_name (read u) (map read us))))
  unfolding Told
  call_told table place by_name (Err b) es h k = inl h
  call_told table place by_name (Ok u) (Err b) h k = inr (inl (u, h, k))
  call_told table place by_name (Ok u) (Ok us) h k =
      told_as (λ t. (v : Typed) × (vs : List Typed) × F v × Each vs × (call table place by_name (read v) (map read vs) ≡ Ok t)) (λ rule at. B rule at ⊎ (Then F (Flawed rule at) ⊎ ((v : Typed) × (vs : List Typed) × F v × Each vs × (call table place by_name (read v) (map read vs) ≡ breaks_at rule at)))) (call table place by_name (read u) (map read us)) (λ t e. (u, us, h, k, e)) (λ rule at e. inr (inr (u, us, h, k, e)))

  either_call : (b : Bool) (table : Table) (place : ℕ) (by_name : Bool) (text : Option (List ℕ)) (f : Answer Typed) (es : List (Answer Typed)) → Told F B f → Told Each Flawed (in_order es)
      → Told
      (λ t. Case b ((bytes : List ℕ) × (text ≡ Some bytes) × (discriminator_value bytes ≡ t)) ((u : Typed) × (us : List Typed) × F u × Each us × (call table place by_name (read u) (map read us) ≡ Ok t)))
      (λ rule at. Case b ((text ≡ None) × (Flawed rule at ⊎ ((us : List Typed) × Each us × (C24 ≡ rule) × (place ≡ at)))) (B rule at ⊎ (Then F (Flawed rule at) ⊎ ((u : Typed) × (us : List Typed) × F u × Each us × (call table place by_name (read u) (map read us) ≡ breaks_at rule at)))))
      (call_by b table place by_name text f es)
  either_call true table place by_name text f es h k = discriminator_told place text es k
  either_call false table place by_name text f es h k = call_told table place by_name f (in_order es) h k

-- ---- what the function answers is so

alone : (x : Answer Typed) → Told (λ t. x ≡ Ok t) (λ rule at. x ≡ breaks_at rule at) x
alone x = told_as (λ t. x ≡ Ok t) (λ rule at. x ≡ breaks_at rule at) x (λ t e. e) (λ rule at e. e)

mutual
  unfolding typing Told

  pub told : (spelling : Spelling) → (s : Scope) (n : ℕ) (e : ExprTree) → Told (Has spelling s n e) (Breaks spelling s n e) (typing spelling s n e)
  told spelling s n (tree.Identifier name a z) = alone (named s (spelling name) a)
  told spelling s n (tree.Integer v d u l a z) = alone (integer_literal v d u l a)
  told spelling s n (tree.Character value a z) = refl
  told spelling s n (tree.Text bytes a z) = refl
  told spelling s n (tree.Paren inner a z) = told spelling s n inner
  told spelling s n (tree.Index of at a z) = two (Has spelling s n of) (Breaks spelling s n of) (Has spelling s (behind_texts spelling n of) at) (Breaks spelling s (behind_texts spelling n of) at) (typing spelling s n of) (typing spelling s (behind_texts spelling n of) at) (λ x y. subscript s.structs a (read x) (read y)) (told spelling s n of) (told spelling s (behind_texts spelling n of) at)
  told spelling s n (tree.Call of es a z) = either_call (Has spelling s n of) (Breaks spelling s n of) (HasEach spelling s (behind_texts spelling n of) es) (BreaksEach spelling s (behind_texts spelling n of) es) (is_discriminator spelling s of) s.structs a (is_name of) (only_text es) (typing spelling s n of) (typing_each spelling s (behind_texts spelling n of) es) (told spelling s n of) (told_each spelling s (behind_texts spelling n of) es)
  told spelling s n (tree.Dot of name a z) = one (Has spelling s n of) (Breaks spelling s n of) (typing spelling s n of) (member s.structs a (spelling name)) (told spelling s n of)
  told spelling s n (tree.Arrow of name a z) = one (Has spelling s n of) (Breaks spelling s n of) (typing spelling s n of) (λ x. arrow s.structs a (spelling name) (read x)) (told spelling s n of)
  told spelling s n (tree.Postfix op of a z) = one (Has spelling s n of) (Breaks spelling s n of) (typing spelling s n of) (stepped s.structs a op true) (told spelling s n of)
  told spelling s n (tree.Prefix op of a z) = one (Has spelling s n of) (Breaks spelling s n of) (typing spelling s n of) (prefixed s.structs op a) (told spelling s n of)
  told spelling s n (tree.SizeofExpr of a z) = one (Has spelling s n of) (Breaks spelling s n of) (typing spelling s n of) (λ x. size_of s.structs a x.of) (told spelling s n of)
  told spelling s n (tree.SizeofType of a z) = type_alone (type_name spelling Operand s of) (size_of s.structs a)
  told spelling s n (tree.Cast wanted of a z) = of_type (Has spelling s n of) (Breaks spelling s n of) (type_name spelling CastTarget s wanted) (typing spelling s n of) (λ w x. cast s.structs a w (read x)) (told spelling s n of)
  told spelling s n (tree.Binary op l r a z) = two (Has spelling s n l) (Breaks spelling s n l) (Has spelling s (behind_texts spelling n l) r) (Breaks spelling s (behind_texts spelling n l) r) (typing spelling s n l) (typing spelling s (behind_texts spelling n l) r) (binary s.structs op a) (told spelling s n l) (told spelling s (behind_texts spelling n l) r)
  told spelling s n (tree.Conditional x y w a z) =
      three (Has spelling s n x) (Breaks spelling s n x) (Has spelling s (behind_texts spelling n x) y) (Breaks spelling s (behind_texts spelling n x) y) (Has spelling s (behind_texts spelling (behind_texts spelling n x) y) w) (Breaks spelling s (behind_texts spelling (behind_texts spelling n x) y) w) (typing spelling s n x) (typing spelling s (behind_texts spelling n x) y) (typing spelling s (behind_texts spelling (behind_texts spelling n x) y) w) (λ t u v. conditional s.structs a (read t) (read u) (read v)) (told spelling s n x) (told spelling s (behind_texts spelling n x) y) (told spelling s (behind_texts spelling (behind_texts spelling n x) y) w)

  pub told_each : (spelling : Spelling) → (s : Scope) (n : ℕ) (es : ExprTrees) → Told (HasEach spelling s n es) (BreaksEach spelling s n es) (in_order (typing_each spelling s n es))
  told_each spelling s n tree.NoExprs = refl
  told_each spelling s n (tree.ConsExpr e es) = cons (Has spelling s n e) (Breaks spelling s n e) (HasEach spelling s (behind_texts spelling n e) es) (BreaksEach spelling s (behind_texts spelling n e) es) (typing spelling s n e) (in_order (typing_each spelling s (behind_texts spelling n e) es)) (told spelling s n e) (told_each spelling s (behind_texts spelling n e) es)

pub typing_has : (spelling : Spelling) → (s : Scope) (n : ℕ) (e : ExprTree) (t : Typed) → typing spelling s n e ≡ Ok t → Has spelling s n e t
unfolding Told
typing_has spelling s n e t h = rw h at (told spelling s n e)

pub typing_breaks : (spelling : Spelling) → (s : Scope) (n : ℕ) (e : ExprTree) (rule : TypeRule) (at : ℕ) → typing spelling s n e ≡ breaks_at rule at → Breaks spelling s n e rule at
unfolding Told
typing_breaks spelling s n e rule at h = rw h at (told spelling s n e)

-- ---- what is so is what the function answers

has_call : (spelling : Spelling) → (s : Scope) (n : ℕ) (of : ExprTree) (es : ExprTrees) (a : ℕ) (t : Typed) (b : Bool)
    → Case b ((bytes : List ℕ) × (only_text es ≡ Some bytes) × (discriminator_value bytes ≡ t)) ((f : Typed) × (us : List Typed) × Has spelling s n of f × HasEach spelling s (behind_texts spelling n of) es us × (call s.structs a (is_name of) (read f) (map read us) ≡ Ok t))
    → ((f : Typed) → Has spelling s n of f → typing spelling s n of ≡ Ok f) → ((us : List Typed) → HasEach spelling s (behind_texts spelling n of) es us → in_order (typing_each spelling s (behind_texts spelling n of) es) ≡ Ok us)
    → call_by b s.structs a (is_name of) (only_text es) (typing spelling s n of) (typing_each spelling s (behind_texts spelling n of) es) ≡ Ok t
has_call spelling s n of es a t true h k l = rw h.1 (ap Ok h.2)
has_call spelling s n of es a t false h k l = rw (k h.0 h.2, l h.1 h.3) h.4

mutual
  unfolding typing

  pub has_typing : (spelling : Spelling) → (s : Scope) (n : ℕ) (e : ExprTree) (t : Typed) → Has spelling s n e t → typing spelling s n e ≡ Ok t
  has_typing spelling s n (tree.Identifier name a z) t h = h
  has_typing spelling s n (tree.Integer v d u l a z) t h = h
  has_typing spelling s n (tree.Character value a z) t h = ap Ok h
  has_typing spelling s n (tree.Text bytes a z) t h = ap Ok h
  has_typing spelling s n (tree.Paren inner a z) t h = has_typing spelling s n inner t h
  has_typing spelling s n (tree.Index of at a z) t h = rw (has_typing spelling s n of h.0 h.2, has_typing spelling s (behind_texts spelling n of) at h.1 h.3) h.4
  has_typing spelling s n (tree.Call of es a z) t h = has_call spelling s n of es a t (is_discriminator spelling s of) h (λ f k. has_typing spelling s n of f k) (λ us k. has_each spelling s (behind_texts spelling n of) es us k)
  has_typing spelling s n (tree.Dot of name a z) t h = rw (has_typing spelling s n of h.0 h.1) h.2
  has_typing spelling s n (tree.Arrow of name a z) t h = rw (has_typing spelling s n of h.0 h.1) h.2
  has_typing spelling s n (tree.Postfix op of a z) t h = rw (has_typing spelling s n of h.0 h.1) h.2
  has_typing spelling s n (tree.Prefix op of a z) t h = rw (has_typing spelling s n of h.0 h.1) h.2
  has_typing spelling s n (tree.SizeofExpr of a z) t h = rw (has_typing spelling s n of h.0 h.1) h.2
  has_typing spelling s n (tree.SizeofType of a z) t h = rw h.1 h.2
  has_typing spelling s n (tree.Cast wanted of a z) t h = rw (h.1, has_typing spelling s n of h.2.0 h.2.1) h.2.2
  has_typing spelling s n (tree.Binary op l r a z) t h = rw (has_typing spelling s n l h.0 h.2, has_typing spelling s (behind_texts spelling n l) r h.1 h.3) h.4
  has_typing spelling s n (tree.Conditional x y w a z) t h = rw (has_typing spelling s n x h.0 h.3, has_typing spelling s (behind_texts spelling n x) y h.1 h.4, has_typing spelling s (behind_texts spelling (behind_texts spelling n x) y) w h.2 h.5) h.6

  pub has_each : (spelling : Spelling) → (s : Scope) (n : ℕ) (es : ExprTrees) (ts : List Typed) → HasEach spelling s n es ts → in_order (typing_each spelling s n es) ≡ Ok ts
  has_each spelling s n tree.NoExprs ts h = ap Ok h
  has_each spelling s n (tree.ConsExpr e es) ts h = rw (has_typing spelling s n e h.0 h.2, has_each spelling s (behind_texts spelling n e) es h.1 h.3) (ap Ok h.4)

breaks_call : (spelling : Spelling) → (s : Scope) (n : ℕ) (of : ExprTree) (es : ExprTrees) (a : ℕ) (rule : TypeRule) (at : ℕ) (b : Bool)
    → Case b ((only_text es ≡ None) × (BreaksEach spelling s (behind_texts spelling n of) es rule at ⊎ ((us : List Typed) × HasEach spelling s (behind_texts spelling n of) es us × (C24 ≡ rule) × (a ≡ at))))
    (Breaks spelling s n of rule at ⊎ (Then (Has spelling s n of) (BreaksEach spelling s (behind_texts spelling n of) es rule at) ⊎ ((f : Typed) × (us : List Typed) × Has spelling s n of f × HasEach spelling s (behind_texts spelling n of) es us × (call s.structs a (is_name of) (read f) (map read us) ≡ breaks_at rule at))))
    → (Breaks spelling s n of rule at → typing spelling s n of ≡ breaks_at rule at) → (BreaksEach spelling s (behind_texts spelling n of) es rule at → in_order (typing_each spelling s (behind_texts spelling n of) es) ≡ breaks_at rule at)
    → call_by b s.structs a (is_name of) (only_text es) (typing spelling s n of) (typing_each spelling s (behind_texts spelling n of) es) ≡ breaks_at rule at
breaks_call spelling s n of es a rule at true h k l = text (only_text es) h.0 h.1
  where
    text : (o : Option (List ℕ)) → o ≡ None → BreaksEach spelling s (behind_texts spelling n of) es rule at ⊎ ((us : List Typed) × HasEach spelling s (behind_texts spelling n of) es us × (C24 ≡ rule) × (a ≡ at))
        → discriminator_call a o (typing_each spelling s (behind_texts spelling n of) es) ≡ breaks_at rule at
    text o e (inl f) = rw (e, l f) refl
    text o e (inr f) = rw (e, has_each spelling s (behind_texts spelling n of) es f.0 f.1, f.2, f.3) refl
breaks_call spelling s n of es a rule at false (inl h) k l = rw (k h) refl
breaks_call spelling s n of es a rule at false (inr (inl h)) k l = rw (has_typing spelling s n of h.0 h.1, l h.2) refl
breaks_call spelling s n of es a rule at false (inr (inr h)) k l = rw (has_typing spelling s n of h.0 h.2, has_each spelling s (behind_texts spelling n of) es h.1 h.3) h.4

breaks_cast : (spelling : Spelling) → (s : Scope) (n : ℕ) (of : ExprTree) (a : ℕ) (rule : TypeRule) (at : ℕ) (named : Answer TypeTree) (w : TypeTree) → named ≡ Ok w → Breaks spelling s n of rule at ⊎ One (Has spelling s n of) (λ x. cast s.structs a w (read x)) (breaks_at rule at)
    → (Breaks spelling s n of rule at → typing spelling s n of ≡ breaks_at rule at) → then_with named (λ v. then_with (typing spelling s n of) (λ x. cast s.structs a v (read x))) ≡ breaks_at rule at
breaks_cast spelling s n of a rule at named w e (inl h) k = rw (e, k h) refl
breaks_cast spelling s n of a rule at named w e (inr h) k = rw (e, has_typing spelling s n of h.0 h.1) h.2

mutual
  unfolding typing

  pub breaks_typing : (spelling : Spelling) → (s : Scope) (n : ℕ) (e : ExprTree) (rule : TypeRule) (at : ℕ) → Breaks spelling s n e rule at → typing spelling s n e ≡ breaks_at rule at
  breaks_typing spelling s n (tree.Identifier name a z) rule at h = h
  breaks_typing spelling s n (tree.Integer v d u l a z) rule at h = h
  breaks_typing spelling s n (tree.Character value a z) rule at h = absurd h
  breaks_typing spelling s n (tree.Text bytes a z) rule at h = absurd h
  breaks_typing spelling s n (tree.Paren inner a z) rule at h = breaks_typing spelling s n inner rule at h
  breaks_typing spelling s n (tree.Index of index a z) rule at (inl h) = rw (breaks_typing spelling s n of rule at h) refl
  breaks_typing spelling s n (tree.Index of index a z) rule at (inr (inl h)) = rw (has_typing spelling s n of h.0 h.1, breaks_typing spelling s (behind_texts spelling n of) index rule at h.2) refl
  breaks_typing spelling s n (tree.Index of index a z) rule at (inr (inr h)) = rw (has_typing spelling s n of h.0 h.2, has_typing spelling s (behind_texts spelling n of) index h.1 h.3) h.4
  breaks_typing spelling s n (tree.Call of es a z) rule at h = breaks_call spelling s n of es a rule at (is_discriminator spelling s of) h (breaks_typing spelling s n of rule at) (breaks_each spelling s (behind_texts spelling n of) es rule at)
  breaks_typing spelling s n (tree.Dot of name a z) rule at (inl h) = rw (breaks_typing spelling s n of rule at h) refl
  breaks_typing spelling s n (tree.Dot of name a z) rule at (inr h) = rw (has_typing spelling s n of h.0 h.1) h.2
  breaks_typing spelling s n (tree.Arrow of name a z) rule at (inl h) = rw (breaks_typing spelling s n of rule at h) refl
  breaks_typing spelling s n (tree.Arrow of name a z) rule at (inr h) = rw (has_typing spelling s n of h.0 h.1) h.2
  breaks_typing spelling s n (tree.Postfix op of a z) rule at (inl h) = rw (breaks_typing spelling s n of rule at h) refl
  breaks_typing spelling s n (tree.Postfix op of a z) rule at (inr h) = rw (has_typing spelling s n of h.0 h.1) h.2
  breaks_typing spelling s n (tree.Prefix op of a z) rule at (inl h) = rw (breaks_typing spelling s n of rule at h) refl
  breaks_typing spelling s n (tree.Prefix op of a z) rule at (inr h) = rw (has_typing spelling s n of h.0 h.1) h.2
  breaks_typing spelling s n (tree.SizeofExpr of a z) rule at (inl h) = rw (breaks_typing spelling s n of rule at h) refl
  breaks_typing spelling s n (tree.SizeofExpr of a z) rule at (inr h) = rw (has_typing spelling s n of h.0 h.1) h.2
  breaks_typing spelling s n (tree.SizeofType of a z) rule at (inl h) = rw h refl
  breaks_typing spelling s n (tree.SizeofType of a z) rule at (inr h) = rw h.1 h.2
  breaks_typing spelling s n (tree.Cast wanted of a z) rule at (inl h) = rw h refl
  breaks_typing spelling s n (tree.Cast wanted of a z) rule at (inr h) = breaks_cast spelling s n of a rule at (type_name spelling CastTarget s wanted) h.0 h.1 h.2 (breaks_typing spelling s n of rule at)
  breaks_typing spelling s n (tree.Binary op l r a z) rule at (inl h) = rw (breaks_typing spelling s n l rule at h) refl
  breaks_typing spelling s n (tree.Binary op l r a z) rule at (inr (inl h)) = rw (has_typing spelling s n l h.0 h.1, breaks_typing spelling s (behind_texts spelling n l) r rule at h.2) refl
  breaks_typing spelling s n (tree.Binary op l r a z) rule at (inr (inr h)) = rw (has_typing spelling s n l h.0 h.2, has_typing spelling s (behind_texts spelling n l) r h.1 h.3) h.4
  breaks_typing spelling s n (tree.Conditional x y w a z) rule at (inl h) = rw (breaks_typing spelling s n x rule at h) refl
  breaks_typing spelling s n (tree.Conditional x y w a z) rule at (inr (inl h)) = rw (has_typing spelling s n x h.0 h.1, breaks_typing spelling s (behind_texts spelling n x) y rule at h.2) refl
  breaks_typing spelling s n (tree.Conditional x y w a z) rule at (inr (inr (inl h))) = rw (has_typing spelling s n x h.0 h.1, has_typing spelling s (behind_texts spelling n x) y h.2.0 h.2.1, breaks_typing spelling s (behind_texts spelling (behind_texts spelling n x) y) w rule at h.2.2) refl
  breaks_typing spelling s n (tree.Conditional x y w a z) rule at (inr (inr (inr h))) = rw (has_typing spelling s n x h.0 h.3, has_typing spelling s (behind_texts spelling n x) y h.1 h.4, has_typing spelling s (behind_texts spelling (behind_texts spelling n x) y) w h.2 h.5) h.6

  pub breaks_each : (spelling : Spelling) → (s : Scope) (n : ℕ) (es : ExprTrees) (rule : TypeRule) (at : ℕ) → BreaksEach spelling s n es rule at → in_order (typing_each spelling s n es) ≡ breaks_at rule at
  breaks_each spelling s n tree.NoExprs rule at h = absurd h
  breaks_each spelling s n (tree.ConsExpr e es) rule at (inl h) = rw (breaks_typing spelling s n e rule at h) refl
  breaks_each spelling s n (tree.ConsExpr e es) rule at (inr h) = rw (has_typing spelling s n e h.0 h.1, breaks_each spelling s (behind_texts spelling n e) es rule at h.2) refl

-- ---- exactly one of the two, with one form, or one rule and place

ok_one : {A : Type 0} (a b : A) → ◌≡◌ {A = Answer A} (Ok a) (Ok b) → a ≡ b
ok_one {A} a b e = ap (λ x. value_or x a) e
  where
    value_or : Answer A → A → A
    value_or (Ok x) other = x
    value_or (Err e) other = other

err_one : (b c : Broken) → ◌≡◌ {A = Answer Typed} (Err b) (Err c) → b ≡ c
err_one b c e = ap (λ x. broken_or x b) e
  where
    broken_or : Answer Typed → Broken → Broken
    broken_or (Ok x) other = other
    broken_or (Err e) other = e

pub one_form : (spelling : Spelling) → (s : Scope) (n : ℕ) (e : ExprTree) (t u : Typed) → Has spelling s n e t → Has spelling s n e u → t ≡ u
one_form spelling s n e t u h k = ok_one t u (sym (has_typing spelling s n e t h) ∙ has_typing spelling s n e u k)

pub one_flaw : (spelling : Spelling) → (s : Scope) (n : ℕ) (e : ExprTree) (q r : TypeRule) (at other : ℕ) → Breaks spelling s n e q at → Breaks spelling s n e r other → (q ≡ r) × (at ≡ other)
one_flaw spelling s n e q r at other h k =
    let same : record { rule = q; place = at } ≡ record { rule = r; place = other } = err_one (record { rule = q; place = at }) (record { rule = r; place = other }) (sym (breaks_typing spelling s n e q at h) ∙ breaks_typing spelling s n e r other k) in
    (ap (λ (b : Broken). b.rule) same, ap (λ (b : Broken). b.place) same)

pub not_both : (spelling : Spelling) → (s : Scope) (n : ℕ) (e : ExprTree) (t : Typed) (rule : TypeRule) (at : ℕ) → Has spelling s n e t → Breaks spelling s n e rule at → ⊥
not_both spelling s n e t rule at h k = differ (sym (has_typing spelling s n e t h) ∙ breaks_typing spelling s n e rule at k)
  where
    differ : ◌≡◌ {A = Answer Typed} (Ok t) (breaks_at rule at) → ⊥
    differ e = cc
