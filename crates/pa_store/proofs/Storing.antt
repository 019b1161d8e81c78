-- The object that the map has under an owner is the one of this owner among all objects.
use Rattle.std.proofs.Common.{◌≡◌, ℕ, ◌≤◌, Bool, true, false, IsTrue, ◌↔◌, cond, List, [], ◌∷◌, map, Option, Some, None, IfSome, Bor, option_map, refl, sym, ap, ◌∙◌, subst, arith}
use Rattle.std.specs.Option.{option_copied}
use Rattle.std.specs.Map.{lookup}
use Rattle.pa_ctype.specs.Values as c
use Rattle.pa_ctype.specs.Tables.{TypeTable, AreApart}
use Rattle.pa_store.specs.declared.value.Owner.{Owner}
use Rattle.pa_store.specs.declared.objects.Object.{Object}
use Rattle.pa_store.specs.Views.{owner_tree, owner_bound}
use Rattle.pa_store.specs.Objects.{object_tree, IsObject}
use Rattle.pa_store.specs.Store.{AreEntries}
use Rattle.pa_store.proofs.Naming.{same_owner_tree}

-- it holds of this owner alone
abbrev pub IsTestOf : Owner → (Owner → Bool) → Type 0
IsTestOf owner test = (other : Owner) → IsTrue (test other) ↔ (other ≡ owner)

module _ (t : TypeTable) (owner : Owner) (test : Owner → Bool) where
  pub found_object : (names : ℕ → List ℕ) (entries : List (Owner × Object)) → IsTestOf owner test → AreEntries t entries → owner_bound owner ≤ t.names → AreApart t.names names
      → option_map (object_tree names t) (lookup test entries) ≡ c.object_of (map (λ (e : Owner × Object). object_tree names t e.1) entries) (owner_tree names owner)
  unfolding c.object_of
  found_object names [] law h below apart = refl
  found_object names (e ∷ es) law h below apart = by_test (test e.0) (found_object names es law h.1 below apart) ∙ ap (λ b. cond b (Some (object_tree names t e.1)) (c.object_of (map (λ (x : Owner × Object). object_tree names t x.1) es) (owner_tree names owner))) same
    where
      named : owner_bound e.0 ≤ t.names
      named = h.0.named

      same : test e.0 ≡ c.same_owner (owner_tree names e.1.owner) (owner_tree names owner)
      same =
          subst (λ o. test e.0 ≡ c.same_owner (owner_tree names o) (owner_tree names owner)) (sym h.0.owner)
          (same_owner_tree names e.0 owner (test e.0) (λ i j a b z. apart i j (omega (arith, named)) (omega (arith, named)) z) (law e.0))

      by_test : (b : Bool) → option_map (object_tree names t) (lookup test es) ≡ c.object_of (map (λ (x : Owner × Object). object_tree names t x.1) es) (owner_tree names owner)
          → option_map (object_tree names t) (cond b (Some e.1) (lookup test es)) ≡ cond b (Some (object_tree names t e.1)) (c.object_of (map (λ (x : Owner × Object). object_tree names t x.1) es) (owner_tree names owner))
      by_test true more = refl
      by_test false more = more

  found_well : (entries : List (Owner × Object)) → AreEntries t entries → IfSome (lookup test entries) (λ object. IsObject t object)
  found_well [] h = tt
  found_well (e ∷ es) h = by_test (test e.0) (found_well es h.1)
    where
      by_test : (b : Bool) → IfSome (lookup test es) (λ object. IsObject t object) → IfSome (cond b (Some e.1) (lookup test es)) (λ object. IsObject t object)
      by_test true more = h.0.well
      by_test false more = more

  pub copied_well : (entries : List (Owner × Object)) (found : Option (Bor Object)) → AreEntries t entries → option_copied found ≡ lookup test entries → IfSome found (λ object. IsObject t object.now)
  copied_well entries None h e = tt
  copied_well entries (Some object) h e = subst (λ o. IfSome o (λ x. IsObject t x)) (sym e) (found_well entries h)
