-- There are at most as many imports as functions of the runtime image.
use Rattle.std.proofs.Common.{◌≡◌, ◌≤◌, Bool, true, false, ◌||◌, List, [], ◌∷◌, ◌++◌, length, filter, refl, sym, subst, ◌∙◌, arith}
use Rattle.std.specs.List.{list_any, AllByRecursion, IsDistinct}
use Rattle.std.specs.Str.{bytes_eq}
use Rattle.std.proofs.lemmas.Cmp.{nat_list_eq_equiv}
use Rattle.std.proofs.lemmas.Slice.Eq.{bytes_eq-Decides}
use Rattle.std.proofs.lemmas.Map.Keys.{IsDistinct-push}
use Rattle.std.proofs.lemmas.Map.Made.{length-le_from_is_member}
use Rattle.std.proofs.lemmas.List.Folds.{list_any-append}
use Rattle.pa_object.specs.declared.object.Object.{Object}
use Rattle.pa_object.specs.Linkable.{Text, runtime}
use Rattle.pa_linker.specs.Imports.{first_uses, import_index, imports_of, is_runtime, used_by_refs, used_by_slots}
use Rattle.pa_linker.proofs.OnBool.{on_bool}

or_case : (a b c : Bool) → (a ≡ true → c ≡ true) → (b ≡ true → c ≡ true) → (a || (b || false)) ≡ true → c ≡ true
or_case true b c f g h = f refl
or_case false true c f g h = g refl
or_case false false c f g h = absurd cc

all_pass : (p : Text → Bool) (names : List Text) → AllByRecursion (λ name. p name ≡ true) (filter p names)
all_pass p [] = tt
all_pass p (name ∷ names) = on_bool (p name)
    (λ (e : p name ≡ true). rw e (e, all_pass p names))
    (λ (e : p name ≡ false). rw e (all_pass p names))

abbrev AreRuntime : List Text → Type 0
AreRuntime seen = (q : Text) → list_any (bytes_eq q) seen ≡ true → is_runtime q ≡ true

one_more : (seen : List Text) (name : Text) → is_runtime name ≡ true → AreRuntime seen → AreRuntime (seen ++ name ∷ [])
one_more seen name here all q e =
    or_case (list_any (bytes_eq q) seen) (bytes_eq q name) (is_runtime q) (all q)
    (λ same. subst (λ n. is_runtime n ≡ true) (sym ((bytes_eq-Decides q name).0 same)) here) (sym (list_any-append (bytes_eq q) seen (name ∷ [])) ∙ e)

uses_few : (seen names : List Text) → IsDistinct bytes_eq seen → AreRuntime seen → AllByRecursion (λ name. is_runtime name ≡ true) names → length (first_uses seen names) ≤ 2
uses_few seen [] d all h = length-le_from_is_member nat_list_eq_equiv seen runtime d all
uses_few seen (name ∷ names) d all h = on_bool (list_any (bytes_eq name) seen)
    (λ (e : list_any (bytes_eq name) seen ≡ true). rw e (uses_few seen names d all h.1))
    (λ (e : list_any (bytes_eq name) seen ≡ false). rw e (uses_few (seen ++ name ∷ []) names (IsDistinct-push {eq = bytes_eq} nat_list_eq_equiv seen name d e) (one_more seen name h.0 all) h.1))

none_twice : IsDistinct bytes_eq []
unfolding IsDistinct
none_twice = tt

uses_distinct : (seen names : List Text) → IsDistinct bytes_eq seen → IsDistinct bytes_eq (first_uses seen names)
uses_distinct seen [] d = d
uses_distinct seen (name ∷ names) d =
    on_bool (list_any (bytes_eq name) seen)
    (λ (e : list_any (bytes_eq name) seen ≡ true). rw e (uses_distinct seen names d))
    (λ (e : list_any (bytes_eq name) seen ≡ false).
    rw e (uses_distinct (seen ++ name ∷ []) names (IsDistinct-push {eq = bytes_eq} nat_list_eq_equiv seen name d e)))

-- each import stands once
pub imports_distinct : (objects : List Object) → IsDistinct bytes_eq (imports_of objects)
imports_distinct objects = uses_distinct [] (filter is_runtime (used_by_refs objects ++ used_by_slots objects)) none_twice

pub few_imports : (objects : List Object) → length (imports_of objects) ≤ 2
few_imports objects =
    let used = used_by_refs objects ++ used_by_slots objects in
    uses_few [] (filter is_runtime used) none_twice (λ q e. absurd (let none : false ≡ true = e in cc)) (all_pass is_runtime used)

pub index_few : (names : List Text) (name : Text) → import_index names name ≤ length names
index_few [] name = omega arith
index_few (first ∷ names) name = on_bool (bytes_eq name first)
    (λ (e : bytes_eq name first ≡ true). rw e (omega arith))
    (λ (e : bytes_eq name first ≡ false). let more = index_few names name in rw e (omega arith))
