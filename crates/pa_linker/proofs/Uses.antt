-- Imports in the order of first use.
use Rattle.std.proofs.Common.{◌≡◌, ℕ, suc, ◌+◌, ◌<◌, true, false, cond, List, [], ◌∷◌, ◌++◌, length, filter, drop, refl, sym, ◌∙◌, ap, arith, Option, Some, None, is_some}
use Rattle.std.specs.Option.{option_or, option_to_list, option_map_or}
use Rattle.std.specs.List.{list_any}
use Rattle.std.specs.Str.{bytes_eq}
use Rattle.std.proofs.lemmas.List.{map-append}
use Rattle.std.proofs.lemmas.List.Elements.{filter-append}
use Rattle.std.proofs.Math.Seq.{drop-cons}
use Rattle.pa_object.specs.declared.object.Ref.{Ref}
use Rattle.pa_object.specs.Linkable.{Text}
use Rattle.pa_linker.specs.Imports.{first_uses, import_index, is_runtime, ref_at, refs_from, ref_names}
use Rattle.pa_linker.specs.Tables.{index_in}
use Rattle.pa_linker.proofs.OnBool.{on_bool}

-- of names one behind another
pub first_uses-append : (seen xs ys : List Text) → first_uses seen (xs ++ ys) ≡ first_uses (first_uses seen xs) ys
first_uses-append seen [] ys = refl
first_uses-append seen (x ∷ xs) ys = first_uses-append (cond (list_any (bytes_eq x) seen) seen (seen ++ x ∷ [])) xs ys

-- of those of the runtime image
pub runtime_uses : (seen xs ys : List Text) → first_uses seen (filter is_runtime (xs ++ ys)) ≡ first_uses (first_uses seen (filter is_runtime xs)) (filter is_runtime ys)
runtime_uses seen xs ys = ap (first_uses seen) (filter-append is_runtime xs ys) ∙ first_uses-append seen (filter is_runtime xs) (filter is_runtime ys)

-- ---- indexes

pub index_none : (i : ℕ) (names : List Text) (name : Text) → index_in i names name ≡ None → list_any (bytes_eq name) names ≡ false
index_none i [] name e = refl
index_none i (x ∷ names) name e = on_bool (bytes_eq name x)
    (λ (h : bytes_eq name x ≡ true). absurd (let some : Some i ≡ None = (rw h at e) in cc))
    (λ (h : bytes_eq name x ≡ false). let none : index_in (i + 1) names name ≡ None = (rw h at e) in rw h (index_none (i + 1) names name none))

pub index_some : (i k : ℕ) (names : List Text) (name : Text) → index_in i names name ≡ Some k → list_any (bytes_eq name) names ≡ true
index_some i k [] name e = cc
index_some i k (x ∷ names) name e = on_bool (bytes_eq name x)
    (λ (h : bytes_eq name x ≡ true). rw h refl)
    (λ (h : bytes_eq name x ≡ false). let some : index_in (i + 1) names name ≡ Some k = (rw h at e) in rw h (index_some (i + 1) k names name some))

pub is_known : (names : List Text) (name : Text) (o : Option ℕ) → o ≡ index_in 0 names name → is_some o ≡ true → list_any (bytes_eq name) names ≡ true
is_known names name (Some k) e h = index_some 0 k names name (sym e)
is_known names name None e h = cc

-- one more name at the end
pub index_push : (i : ℕ) (names : List Text) (own name : Text) → index_in i (names ++ own ∷ []) name ≡ option_or (index_in i names name) (cond (bytes_eq name own) (Some (i + length names)) None)
index_push i [] own name = ap (λ k. cond (bytes_eq name own) (Some k) None) (omega arith)
index_push i (x ∷ names) own name = on_bool (bytes_eq name x)
    (λ (h : bytes_eq name x ≡ true). rw h refl)
    (λ (h : bytes_eq name x ≡ false). rw h (index_push (i + 1) names own name ∙ ap (λ k. option_or (index_in (i + 1) names name) (cond (bytes_eq name own) (Some k) None)) (omega arith)))

-- the index in a list is that of its definition
pub index_is : (i : ℕ) (names : List Text) (name : Text) → option_map_or (λ k. k) (index_in i names name) (i + length names) ≡ i + import_index names name
index_is i [] name = refl
index_is i (x ∷ names) name = on_bool (bytes_eq name x)
    (λ (h : bytes_eq name x ≡ true). rw h (omega arith))
    (λ (h : bytes_eq name x ≡ false). rw h (ap (option_map_or (λ k. k) (index_in (i + 1) names name)) (omega arith) ∙ index_is (i + 1) names name ∙ omega arith))

-- ---- one use

pub use_none : (seen : List Text) (name : Text) → is_runtime name ≡ false → first_uses seen (filter is_runtime (name ∷ [])) ≡ seen
use_none seen name e = rw e refl

pub use_known : (seen : List Text) (name : Text) → list_any (bytes_eq name) seen ≡ true → first_uses seen (filter is_runtime (name ∷ [])) ≡ seen
use_known seen name e = on_bool (is_runtime name)
    (λ (h : is_runtime name ≡ true). rw (h, e) refl)
    (λ (h : is_runtime name ≡ false). rw h refl)

pub use_new : (seen : List Text) (name : Text) → is_runtime name ≡ true → list_any (bytes_eq name) seen ≡ false → first_uses seen (filter is_runtime (name ∷ [])) ≡ seen ++ name ∷ []
use_new seen name h e = rw (h, e) refl

-- ---- references

refs_next : (refs : List Ref) (code : List ℕ) (at : ℕ) → at < length code
    → refs_from refs at (drop at code) ≡ option_to_list (ref_at refs at) ++ refs_from refs (at + 1) (drop (at + 1) code)
refs_next refs code at h =
    let next : suc at ≡ at + 1 = omega arith in
    ap (λ (ws : List ℕ). refs_from refs at ws) (drop-cons code at 0 h) ∙ ap (λ (n : ℕ). option_to_list (ref_at refs at) ++ refs_from refs (at + 1) (drop n code)) next

-- of the references from a word on: first the one there
uses_next : (seen : List Text) (refs : List Ref) (code : List ℕ) (at : ℕ) → at < length code
    → first_uses seen (filter is_runtime (ref_names (refs_from refs at (drop at code))))
    ≡ first_uses (first_uses seen (filter is_runtime (ref_names (option_to_list (ref_at refs at))))) (filter is_runtime (ref_names (refs_from refs (at + 1) (drop (at + 1) code))))
uses_next seen refs code at h =
    let here = option_to_list (ref_at refs at) in
    let behind = refs_from refs (at + 1) (drop (at + 1) code) in
    ap (λ (rs : List Ref). first_uses seen (filter is_runtime (ref_names rs))) (refs_next refs code at h)
    ∙ ap (λ (ns : List Text). first_uses seen (filter is_runtime ns)) (map-append (λ (r : Ref). r.name) here behind)
    ∙ runtime_uses seen (ref_names here) (ref_names behind)

-- the same where a use of the one there has been noted
pub uses_behind : (there : Option Ref) (seen more : List Text) (refs : List Ref) (code : List ℕ) (at : ℕ) → at < length code → ref_at refs at ≡ there
    → more ≡ first_uses seen (filter is_runtime (ref_names (option_to_list there)))
    → first_uses more (filter is_runtime (ref_names (refs_from refs (at + 1) (drop (at + 1) code)))) ≡ first_uses seen (filter is_runtime (ref_names (refs_from refs at (drop at code))))
uses_behind there seen more refs code at h e f =
    let behind = filter is_runtime (ref_names (refs_from refs (at + 1) (drop (at + 1) code))) in
    ap (λ (ns : List Text). first_uses ns behind) f
    ∙ ap (λ (o : Option Ref). first_uses (first_uses seen (filter is_runtime (ref_names (option_to_list o)))) behind) (sym e)
    ∙ sym (uses_next seen refs code at h)
