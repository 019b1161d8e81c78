-- The first entry of a table that begins a text is the longest one, where no entry begins one behind it.
use Rattle.std.proofs.Common.{◌≡◌, ℕ, ◌≤◌, Bool, true, false, cond, not, ◌&&◌, List, [], ◌∷◌, ◌++◌, length, drop, refl, sym, ◌∙◌, ap, arith, Option, Some, None, ◌⊎◌, inl, inr}
use Rattle.std.specs.List.{list_all, find}
use Rattle.std.proofs.lemmas.Slice.Eq.{starts_is}
use Rattle.std.proofs.lemmas.Bool.Decides.{Decides-eqb}
use Rattle.std.proofs.lemmas.Bool.{cases_lt}
use Rattle.pa_lex.specs.Texts.{Text}
use Rattle.pa_lex.specs.Bytes.{begins}
use Rattle.pa_lex.proofs.Runs.{both_true}

pub begins_splits : (t part : Text) → begins t part ≡ true → t ≡ part ++ drop (length part) t
begins_splits t part h = (starts_is Decides-eqb t part (begins t part) refl).0 h

pub begins_joined : (t part rest : Text) → t ≡ part ++ rest → begins t part ≡ true
begins_joined t part rest e = (starts_is Decides-eqb t part (begins t part) refl).1 rest e

-- of two beginnings of a text the shorter one begins the longer one
shorter_begins : (a b x y : Text) → a ++ x ≡ b ++ y → length a ≤ length b → (more : Text) × (b ≡ a ++ more)
shorter_begins [] b x y e h = (b, refl)
shorter_begins (c ∷ a) [] x y e h = absurd (omega arith)
shorter_begins (c ∷ a) (d ∷ b) x y e h =
    let same : c ≡ d = cc in
    let tail : a ++ x ≡ b ++ y = cc in
    let (more, f) = shorter_begins a b x y tail (omega arith) in (more, ap (λ z. z ∷ b) (sym same) ∙ ap (λ z. c ∷ z) f)

total : (a b : ℕ) → (a ≤ b) ⊎ (b ≤ a)
total a b = elim (cases_lt a b) [ inl lt ↦ inl (omega arith) | inr le ↦ inr le ]

not_true : (a : Bool) → not a ≡ true → a ≡ false
not_true true e = cc
not_true false e = refl

-- an entry of a list
abbrev pub Listed : {P : Type 0} → P → List P → Type 0
Listed q [] = ⊥
Listed q (p ∷ ps) = (p ≡ q) ⊎ Listed q ps

module _ {P : Type 0} (text : P → Text) where
  -- the entry begins none of these
  abbrev pub begins_none : P → List P → Bool
  begins_none p others = list_all (λ q. not (begins (text q) (text p))) others

  abbrev pub is_ordered : List P → Bool
  is_ordered [] = true
  is_ordered (p ∷ ps) = begins_none p ps && is_ordered ps

  begins_not : (p q : P) (ps : List P) → begins_none p ps ≡ true → Listed q ps → begins (text q) (text p) ≡ false
  begins_not p q [] h m = elim m [ ]
  begins_not p q (x ∷ ps) h (inl e) = let a = both_true (not (begins (text x) (text p))) (begins_none p ps) h in rw (← e) (not_true (begins (text x) (text p)) a.0)
  begins_not p q (x ∷ ps) h (inr m) = let a = both_true (not (begins (text x) (text p))) (begins_none p ps) h in begins_not p q ps a.1 m

  pub record IsFirst (t : Text) (ps : List P) (p : P) : Type 0 where
    pub here : begins t (text p) ≡ true
    pub longest : (q : P) → Listed q ps → begins t (text q) ≡ true → length (text q) ≤ length (text p)

  front_longest : (t : Text) (p : P) (ps : List P) → begins_none p ps ≡ true → begins t (text p) ≡ true → (q : P) → Listed q (p ∷ ps) → begins t (text q) ≡ true → length (text q) ≤ length (text p)
  front_longest t p ps o h q (inl same) g = rw same (omega arith)
  front_longest t p ps o h q (inr m) g = elim (total (length (text q)) (length (text p))) [
    | inl le ↦ le
    | inr le ↦
        (let (more, e) = shorter_begins (text p) (text q) (drop (length (text p)) t) (drop (length (text q)) t) (sym (begins_splits t (text p) h) ∙ begins_splits t (text q) g) le in
        let bad : begins (text q) (text p) ≡ true = begins_joined (text q) (text p) more e in
        let good : begins (text q) (text p) ≡ false = begins_not p q ps o m in cc)
  ]

  first_by : (t : Text) (p : P) (ps : List P) (b : Bool) → is_ordered (p ∷ ps) ≡ true → begins t (text p) ≡ b → ((x : P) → find (λ q. begins t (text q)) ps ≡ Some x → IsFirst t ps x)
      → (x : P) → cond b (Some p) (find (λ q. begins t (text q)) ps) ≡ Some x → IsFirst t (p ∷ ps) x
  first_by t p ps true o h f x e = let same : p ≡ x = cc in rw (← same) (record { here = h; longest = λ q m g. front_longest t p ps (both_true (begins_none p ps) (is_ordered ps) o).0 h q m g })
  first_by t p ps false o h f x e = let r = f x e in record { here = r.here; longest = λ q m g. later q m g r }
    where
      later : (q : P) → Listed q (p ∷ ps) → begins t (text q) ≡ true → IsFirst t ps x → length (text q) ≤ length (text x)
      later q (inl same) g r = let bad : begins t (text q) ≡ false = rw (← same) h in cc
      later q (inr m) g r = r.longest q m g

  -- the entry that is found begins the text, and no longer one does
  pub first_is : (t : Text) (ps : List P) → is_ordered ps ≡ true → (x : P) → find (λ q. begins t (text q)) ps ≡ Some x → IsFirst t ps x
  first_is t [] o x e = cc
  first_is t (p ∷ ps) o x e = first_by t p ps (begins t (text p)) o refl (first_is t ps (both_true (begins_none p ps) (is_ordered ps) o).1) x e

module _ {P : Type 0} (test : P → Bool) where
  none_by : (p : P) (ps : List P) (b : Bool) → test p ≡ b → cond b (Some p) (find test ps) ≡ None → ((q : P) → Listed q ps → test q ≡ false) → (q : P) → Listed q (p ∷ ps) → test q ≡ false
  none_by p ps true h e f q m = cc
  none_by p ps false h e f q (inl same) = rw (← same) h
  none_by p ps false h e f q (inr m) = f q m

  none_rest : (b : Bool) (p : P) (o : Option P) → cond b (Some p) o ≡ None → o ≡ None
  none_rest true p o e = cc
  none_rest false p o e = e

  -- where none is found, none passes
  pub none_is : (ps : List P) → find test ps ≡ None → (q : P) → Listed q ps → test q ≡ false
  none_is [] e q m = elim m [ ]
  none_is (p ∷ ps) e q m = none_by p ps (test p) refl e (none_is ps (none_rest (test p) p (find test ps) e)) q m

  some_by : (p x : P) (b : Bool) (o : Option P) → test p ≡ b → cond b (Some p) o ≡ Some x → (o ≡ Some x → test x ≡ true) → test x ≡ true
  some_by p x true o h e f = let same : p ≡ x = cc in rw (← same) h
  some_by p x false o h e f = f e

  -- what is found passes
  pub some_is : (ps : List P) (x : P) → find test ps ≡ Some x → test x ≡ true
  some_is [] x e = cc
  some_is (p ∷ ps) x e = some_by p x (test p) (find test ps) refl e (some_is ps x)
