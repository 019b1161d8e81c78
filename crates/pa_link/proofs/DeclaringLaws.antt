-- What is known of a name says which rule its next declaration breaks, and stays known.
use Rattle.std.proofs.Common.{◌≡◌, ℕ, Bool, true, false, cond, not, ◌&&◌, ◌||◌, List, ◌∷◌, Option, Some, None, refl, sym, ap, ◌∙◌}
use Rattle.std.specs.List.{list_any}
use Rattle.std.specs.Option.{option_or}
use Rattle.std.specs.Str.{bytes_eq}
use Rattle.std.proofs.lemmas.Slice.Eq.{bytes_eq-Decides}
use Rattle.pa_ctype.specs.Types.{TypeTree}
use Rattle.pa_ctype.specs.Equality.{same_type}
use Rattle.pa_typed.specs.Units.{DeclaredTree}
use Rattle.pa_link.specs.declared.known.KnownName.{KnownName}
use Rattle.pa_link.specs.Program.{Known, Part, defines, differs, breaks_at, learnt}
use Rattle.pa_link.specs.Declaring.{is_other, broken, IsKnownOf, with_declaration}

or-false : (a : Bool) → (a || false) ≡ a
or-false true = refl
or-false false = refl

or-true : (a : Bool) → (a || true) ≡ true
or-true true = refl
or-true false = refl

or-same : (a : Bool) → (a || a) ≡ a
or-same true = refl
or-same false = refl

not-false : (a : Bool) → not a ≡ false → a ≡ true
not-false true e = refl
not-false false e = cc

names_differ : (a b : List ℕ) → (a ≡ b → ⊥) → bytes_eq a b ≡ false
names_differ a b ne = by (bytes_eq a b) refl
  where
    by : (r : Bool) → bytes_eq a b ≡ r → bytes_eq a b ≡ false
    by true e = absurd (ne ((bytes_eq-Decides a b).0 e))
    by false e = e

names_same : (a b : List ℕ) → a ≡ b → bytes_eq a b ≡ true
names_same a b e = (bytes_eq-Decides a b).1 e

module _ (m : ℕ → TypeTree) (part : Part) (known : Known) (d : DeclaredTree) where
  pub breaks_is : (k : KnownName) → IsKnownOf m known d.name k → breaks_at part known d ≡ broken m k (defines part d) d.of
  breaks_is k h = rw (h.defined, h.types d refl) refl

  -- of another name nothing changes
  pub learnt_other : (name : List ℕ) (k : KnownName) → (name ≡ d.name → ⊥) → IsKnownOf m known name k → IsKnownOf m (learnt part known d) name k
  learnt_other name k ne h = record { defined = h.defined ∙ sym (by_definition (defines part d)); types = other }
    where
      by_definition : (b : Bool) → list_any (bytes_eq name) (cond b (d.name ∷ known.defined) known.defined) ≡ list_any (bytes_eq name) known.defined
      by_definition true = ap (λ r. r || list_any (bytes_eq name) known.defined) (names_differ name d.name ne)
      by_definition false = refl

      other : (e : DeclaredTree) → e.name ≡ name → list_any (differs e) (d ∷ known.types) ≡ is_other m k.of e.of
      other e same = ap (λ r. (r && not (same_type d.of e.of)) || list_any (differs e) known.types) (names_differ d.name e.name (λ f. ne (sym same ∙ sym f))) ∙ h.types e same

  -- of its own name it is known what it adds, where it breaks no rule
  pub learnt_same : (k : KnownName) (of : ℕ) → m of ≡ d.of → ((first : ℕ) → k.of ≡ Some first → same_type (m first) d.of ≡ true → m first ≡ d.of)
      → list_any (differs d) known.types ≡ false → IsKnownOf m known d.name k
      → IsKnownOf m (learnt part known d) d.name (with_declaration k (defines part d) of)
  learnt_same k of is type_is fits h = record { defined = by_definition (defines part d); types = λ e same. by_type k.of refl e same }
    where
      by_definition : (b : Bool) → (k.defined || b) ≡ list_any (bytes_eq d.name) (cond b (d.name ∷ known.defined) known.defined)
      by_definition true = or-true k.defined ∙ sym (ap (λ r. r || list_any (bytes_eq d.name) known.defined) (names_same d.name d.name refl))
      by_definition false = or-false k.defined ∙ h.defined

      here : (e : DeclaredTree) → e.name ≡ d.name → differs e d ≡ not (same_type d.of e.of)
      here e same = ap (λ r. r && not (same_type d.of e.of)) (names_same d.name e.name (sym same))

      by_type : (o : Option ℕ) → k.of ≡ o → (e : DeclaredTree) → e.name ≡ d.name → list_any (differs e) (d ∷ known.types) ≡ is_other m (option_or o (Some of)) e.of
      by_type None none e same =
          let before = h.types e same ∙ ap (λ o. is_other m o e.of) none in
          ap (λ r. r || list_any (differs e) known.types) (here e same) ∙ ap (λ r. not (same_type d.of e.of) || r) before ∙ or-false (not (same_type d.of e.of)) ∙ ap (λ t. not (same_type t e.of)) (sym is)
      by_type (Some first) some e same =
          let before = h.types e same ∙ ap (λ o. is_other m o e.of) some in
          let kept = sym (h.types d refl ∙ ap (λ o. is_other m o d.of) some) ∙ fits in
          let first_is = type_is first some (not-false (same_type (m first) d.of) kept) in
          ap (λ r. r || list_any (differs e) known.types) (here e same) ∙ ap (λ r. not (same_type d.of e.of) || r) before
          ∙ ap (λ t. not (same_type d.of e.of) || not (same_type t e.of)) first_is ∙ or-same (not (same_type d.of e.of)) ∙ ap (λ t. not (same_type t e.of)) (sym first_is)
