-- Public names that are distinct, one mark after the other.
use Rattle.std.proofs.Common.{◌≡◌, ℕ, suc, ◌+◌, ◌<◌, Bool, true, false, ◌&&◌, ◌||◌, List, [], ◌∷◌, ◌++◌, length, get_or, take, drop, filter, refl, sym, ap, subst, ◌∙◌, drop-cons, add-one}
use Rattle.std.specs.Prelude.{IsTrue}
use Rattle.std.specs.List.{IsDistinct, AllByRecursion, list_any}
use Rattle.std.specs.Str.{bytes_eq}
use Rattle.std.proofs.lemmas.Bool.{and_parts}
use Rattle.std.proofs.lemmas.Cmp.{nat_list_eq_equiv}
use Rattle.std.proofs.lemmas.Slice.Eq.{bytes_eq-Decides}
use Rattle.std.proofs.lemmas.List.{append-nil, map-append, take-append-drop}
use Rattle.std.proofs.lemmas.List.Elements.{filter-append}
use Rattle.std.proofs.lemmas.List.Folds.{list_any-append}
use Rattle.std.proofs.lemmas.Map.Keys.{IsDistinct-push}
use Rattle.std.proofs.Math.Seq.{take-suc}
use Rattle.pa_names.specs.declared.key.TextKey.{TextKey}
use Rattle.pa_object.specs.declared.object.Mark.{Mark}
use Rattle.pa_symbols.specs.Symbols.{Text, names_of, public_names}
use Rattle.pa_symbols.specs.Legal.{public_among, hash_of, has_bits, Covers}
use Rattle.pa_symbols.proofs.Found.{and_second, public_here, public_not_here}

-- ---- the table

pub none_covered : (key : TextKey) (table : List ℕ) → Covers key table []
none_covered key table = λ name h. absurd cc

covers_case : (a b c : Bool) → (a ≡ true → c ≡ true) → (b ≡ true → c ≡ true) → (a || (b || false)) ≡ true → c ≡ true
covers_case true b c f g h = f refl
covers_case false true c f g h = g refl
covers_case false false c f g h = absurd cc

pub covers_on : (key : TextKey) (before : List Mark) (mark : Mark) (old new : List ℕ) → Covers key old before → ((hash : ℕ) → has_bits old hash ≡ true → has_bits new hash ≡ true) → (mark.public ≡ true → has_bits new (hash_of key mark.name) ≡ true) → Covers key new (before ++ mark ∷ [])
covers_on key before mark old new c kept put = λ name h.
    covers_case (public_among before name) (mark.public && bytes_eq name mark.name) (has_bits new (hash_of key name)) (λ a. kept (hash_of key name) (c name a))
    (λ b.
    let parts = and_parts mark.public (bytes_eq name mark.name) b in
    let same : name ≡ mark.name = (bytes_eq-Decides name mark.name).0 parts.1 in
    subst (λ (n : Text). has_bits new (hash_of key n) ≡ true) (sym same) (put parts.0))
    (sym (list_any-append (λ (m : Mark). m.public && bytes_eq name m.name) before (mark ∷ [])) ∙ h)

-- ---- public names of marks after marks

pub public_names-append : (xs ys : List Mark) → public_names (xs ++ ys) ≡ public_names xs ++ public_names ys
public_names-append xs ys =
    ap names_of (filter-append (λ (m : Mark). m.public) xs ys) ∙ map-append (λ (m : Mark). m.name) (filter (λ (m : Mark). m.public) xs) (filter (λ (m : Mark). m.public) ys)

among_step : (public : Bool) (mark : Mark) (marks : List Mark) (name : Text) → mark.public ≡ public → list_any (bytes_eq name) (public_names marks) ≡ public_among marks name → list_any (bytes_eq name) (public_names (mark ∷ marks)) ≡ public_among (mark ∷ marks) name
among_step true mark marks name e h = rw (public_here mark marks e) (ap (λ (b : Bool). bytes_eq name mark.name || b) h ∙ ap (λ (b : Bool). (b && bytes_eq name mark.name) || public_among marks name) (sym e))
among_step false mark marks name e h = rw (public_not_here mark marks e) (h ∙ ap (λ (b : Bool). (b && bytes_eq name mark.name) || public_among marks name) (sym e))

pub among_names : (marks : List Mark) (name : Text) → list_any (bytes_eq name) (public_names marks) ≡ public_among marks name
among_names [] name = refl
among_names (mark ∷ marks) name = among_step mark.public mark marks name refl (among_names marks name)

-- ---- one more mark

distinct_step : (public : Bool) (before : List Mark) (mark : Mark) → mark.public ≡ public → IsDistinct bytes_eq (public_names before) → (mark.public && public_among before mark.name) ≡ false → IsDistinct bytes_eq (public_names (before ++ mark ∷ []))
distinct_step true before mark e d f =
    let none = among_names before mark.name ∙ and_second mark.public (public_among before mark.name) e f in
    subst (IsDistinct bytes_eq) (sym (public_names-append before (mark ∷ []) ∙ ap (λ (l : List Text). public_names before ++ l) (public_here mark [] e)))
    (IsDistinct-push {eq = bytes_eq} nat_list_eq_equiv (public_names before) mark.name d none)
distinct_step false before mark e d f =
    subst (IsDistinct bytes_eq) (sym (public_names-append before (mark ∷ []) ∙ ap (λ (l : List Text). public_names before ++ l) (public_not_here mark [] e) ∙ append-nil (public_names before))) d

pub distinct_on : (before : List Mark) (mark : Mark) → IsDistinct bytes_eq (public_names before) → (mark.public && public_among before mark.name) ≡ false → IsDistinct bytes_eq (public_names (before ++ mark ∷ []))
distinct_on before mark d f = distinct_step mark.public before mark refl d f

-- ---- a name that stands twice

all_at : (own : Text) (xs : List Text) (y : Text) (ys : List Text) → AllByRecursion (λ z. bytes_eq own z ≡ false) (xs ++ y ∷ ys) → bytes_eq own y ≡ false
all_at own [] y ys h = h.0
all_at own (x ∷ xs) y ys h = all_at own xs y ys h.1

or_second : (a b : Bool) → a ≡ false → (a || b) ≡ true → b ≡ true
or_second true b e h = absurd cc
or_second false b e h = h

clash : (xs : List Text) (y : Text) (ys : List Text) → IsDistinct bytes_eq (xs ++ y ∷ ys) → list_any (bytes_eq y) xs ≡ true → ⊥
unfolding IsDistinct
clash [] y ys d h = cc
clash (x ∷ xs) y ys d h =
    let other : bytes_eq y x ≡ false = nat_list_eq_equiv.symm y x ∙ all_at x xs y ys d.0 in
    clash xs y ys d.1 (or_second (bytes_eq y x) (list_any (bytes_eq y) xs) other h)

pub not_distinct : (before : List Mark) (mark : Mark) (after : List Mark) → (mark.public && public_among before mark.name) ≡ true → IsDistinct bytes_eq (public_names (before ++ mark ∷ after)) → ⊥
not_distinct before mark after t d =
    let parts = and_parts mark.public (public_among before mark.name) t in
    let whole : public_names (before ++ mark ∷ after) ≡ public_names before ++ mark.name ∷ public_names after = public_names-append before (mark ∷ after) ∙ ap (λ (l : List Text). public_names before ++ l) (public_here mark after parts.0) in
    clash (public_names before) mark.name (public_names after) (subst (IsDistinct bytes_eq) whole d) (among_names before mark.name ∙ parts.1)

-- ---- the loop over the marks

pub no_names : IsDistinct bytes_eq (public_names [])
unfolding IsDistinct
no_names = tt

pub not_true : (P : Type 0) → (P → ⊥) → (IsTrue false → P) × (P → IsTrue false)
not_true P none = (λ t. absurd cc, λ p. absurd (none p))

pub marks_apart : (marks : List Mark) (k : ℕ) (mark : Mark) → k < length marks → mark ≡ get_or marks k mark → marks ≡ take k marks ++ mark ∷ drop (k + 1) marks
marks_apart marks k mark lt is =
    sym (take-append-drop k marks)
    ∙ ap (λ (l : List Mark). take k marks ++ l) (drop-cons marks k mark lt ∙ ap (λ (m : Mark). m ∷ drop (suc k) marks) (sym is) ∙ ap (λ (n : ℕ). mark ∷ drop n marks) (sym (add-one k)))

pub take_on : (marks : List Mark) (k : ℕ) (mark : Mark) → k < length marks → mark ≡ get_or marks k mark → take k marks ++ mark ∷ [] ≡ take (k + 1) marks
take_on marks k mark lt is = ap (λ (m : Mark). take k marks ++ m ∷ []) is ∙ sym (take-suc marks k mark lt) ∙ ap (λ (n : ℕ). take n marks) (sym (add-one k))
