-- References by word.
use Rattle.std.proofs.Common.{◌≡◌, ◌≢◌, ℕ, zero, suc, ◌+◌, ◌<◌, List, [], ◌∷◌, length, drop, set, replicate, refl, sym, ◌∙◌, ap, subst, arith, Option, Some, None, slice_get, ⊎_elim}
use Rattle.std.specs.List.{AllByRecursion}
use Rattle.std.proofs.lemmas.List.{length-set, length-replicate}
use Rattle.std.proofs.lemmas.Bool.{cases_eq, eq-eqb, ne_eqb}
use Rattle.pa_object.specs.declared.object.Ref.{Ref}
use Rattle.pa_linker.specs.Imports.{ref_at}
use Rattle.pa_linker.specs.Tables.{ref_index, IsByWord}

-- ---- lists

set_same : {X : Type 0} (xs : List X) (i : ℕ) (y : X) → i < length xs → slice_get (set xs i y) i ≡ Some y
set_same [] i y h = absurd (omega arith)
set_same (x ∷ xs) zero y h = refl
set_same (x ∷ xs) (suc i) y h = set_same xs i y (omega arith)

set_other : {X : Type 0} (xs : List X) (i j : ℕ) (y : X) → i ≢ j → slice_get (set xs i y) j ≡ slice_get xs j
set_other [] i j y ne = refl
set_other (x ∷ xs) zero zero y ne = absurd (ne refl)
set_other (x ∷ xs) zero (suc j) y ne = refl
set_other (x ∷ xs) (suc i) zero y ne = refl
set_other (x ∷ xs) (suc i) (suc j) y ne = set_other xs i j y (λ e. ne (ap suc e))

get_replicate : {X : Type 0} (n i : ℕ) (y : X) → i < n → slice_get (replicate n y) i ≡ Some y
get_replicate zero i y h = absurd (omega arith)
get_replicate (suc n) zero y h = refl
get_replicate (suc n) (suc i) y h = get_replicate n i y (omega arith)

pub drop_at : {X : Type 0} (xs : List X) (i : ℕ) (x : X) → slice_get xs i ≡ Some x → drop i xs ≡ x ∷ drop (suc i) xs
drop_at [] i x e = cc
drop_at (y ∷ xs) zero x e = let same : y ≡ x = cc in ap (λ z. z ∷ xs) same
drop_at (y ∷ xs) (suc i) x e = drop_at xs i x e

pub drop_all : {X : Type 0} (xs : List X) → drop (length xs) xs ≡ []
drop_all [] = refl
drop_all (x ∷ xs) = drop_all xs

-- what holds of all holds of each
pub at_all : {X : Type 0} (P : X → Type 0) (xs : List X) (i : ℕ) (x : X) → AllByRecursion P xs → slice_get xs i ≡ Some x → P x
at_all P [] i x h e = cc
at_all P (y ∷ xs) zero x h e = let same : y ≡ x = cc in subst P same h.0
at_all P (y ∷ xs) (suc i) x h e = at_all P xs i x h.1 e

-- ---- the table

-- the table of the references from number front on
pub record IsTableFrom (front : ℕ) (refs : List Ref) (words : ℕ) (table : List (Option ℕ)) : Type 0 where
  pub size : length table ≡ words
  pub entries : (at : ℕ) → at < words → slice_get table at ≡ Some (ref_index front (drop front refs) at)

pub none_yet : (refs : List Ref) (words : ℕ) (table : List (Option ℕ)) → table ≡ replicate words None → IsTableFrom (length refs) refs words table
none_yet refs words table empty = record {
  size = ap length empty ∙ length-replicate words None;
  entries = λ at h. ap (λ t. slice_get t at) empty ∙ get_replicate words at None h ∙ ap (λ xs. Some (ref_index (length refs) xs at)) (sym (drop_all refs));
}

index_here : (k at : ℕ) (ref : Ref) (refs : List Ref) → ref.at ≡ at → ref_index k (ref ∷ refs) at ≡ Some k
index_here k at ref refs e = rw (eq-eqb ref.at at e) refl

index_later : (k at : ℕ) (ref : Ref) (refs : List Ref) → ref.at ≢ at → ref_index k (ref ∷ refs) at ≡ ref_index (k + 1) refs at
index_later k at ref refs e = rw (ne_eqb ref.at at e) refl

pub one_more : (refs : List Ref) (table : List (Option ℕ)) (words new : ℕ) (ref : Ref) → slice_get refs new ≡ Some ref → ref.at < words
    → IsTableFrom (new + 1) refs words table → IsTableFrom new refs words (set table ref.at (Some new))
one_more refs table words new ref here inside t =
    let size = t.size in
    let next : suc new ≡ new + 1 = omega arith in
    let front : drop new refs ≡ ref ∷ drop (new + 1) refs = drop_at refs new ref here ∙ ap (λ k. ref ∷ drop k refs) next in
    record {
      size = length-set table ref.at (Some new) ∙ t.size;
      entries = λ (at : ℕ) (h : at < words). ⊎_elim
          (λ same.
          ap (λ k. slice_get (set table ref.at (Some new)) k) same ∙ set_same table ref.at (Some new) (omega arith)
          ∙ ap Some (sym (index_here new at ref (drop (new + 1) refs) (sym same))) ∙ ap (λ xs. Some (ref_index new xs at)) (sym front))
          (λ other.
          let apart : ref.at ≢ at = λ e. other (sym e) in
          set_other table ref.at at (Some new) apart ∙ t.entries at h
          ∙ ap Some (sym (index_later new at ref (drop (new + 1) refs) apart)) ∙ ap (λ xs. Some (ref_index new xs at)) (sym front))
          (cases_eq at ref.at);
    }

pub whole : (refs : List Ref) (words : ℕ) (table : List (Option ℕ)) → IsTableFrom 0 refs words table → IsByWord refs words table
whole refs words table t = (t.size, t.entries)

-- ---- what the table finds

-- the reference of an index
pub record Found (front : ℕ) (refs : List Ref) (at k : ℕ) : Type 0 where
  pub i : ℕ
  pub is : k ≡ front + i
  pub inside : i < length refs
  pub here : slice_get refs i ≡ ref_at refs at

found_from : (front : ℕ) (refs : List Ref) (at k : ℕ) → ref_index front refs at ≡ Some k → Found front refs at k
found_from front [] at k e = cc
found_from front (ref ∷ refs) at k e = ⊎_elim
    (λ same.
    let some : Some front ≡ Some k = sym (index_here front at ref refs same) ∙ e in
    let is : front ≡ k = cc in
    record { i = 0; is = omega arith; inside = omega arith; here = rw (eq-eqb ref.at at same) refl })
    (λ other.
    let later = found_from (front + 1) refs at k (sym (index_later front at ref refs other) ∙ e) in
    let is = later.is in
    let inside = later.inside in
    record { i = suc later.i; is = omega arith; inside = omega arith; here = later.here ∙ rw (ne_eqb ref.at at other) refl })
    (cases_eq ref.at at)

pub found : (refs : List Ref) (at k : ℕ) → ref_index 0 refs at ≡ Some k → (k < length refs) × (slice_get refs k ≡ ref_at refs at)
found refs at k e =
    let f = found_from 0 refs at k e in
    let is = f.is in
    let inside = f.inside in
    let same : k ≡ f.i = omega arith in
    (omega arith, ap (λ i. slice_get refs i) same ∙ f.here)

pub absent : (front : ℕ) (refs : List Ref) (at : ℕ) → ref_index front refs at ≡ None → ref_at refs at ≡ None
absent front [] at e = refl
absent front (ref ∷ refs) at e = ⊎_elim
    (λ same. absurd (let some : Some front ≡ None = sym (index_here front at ref refs same) ∙ e in cc))
    (λ other. rw (ne_eqb ref.at at other) (absent (front + 1) refs at (sym (index_later front at ref refs other) ∙ e)))
    (cases_eq ref.at at)
