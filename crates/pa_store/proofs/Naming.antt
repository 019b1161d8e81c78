-- Numbers of names tell owners apart as the names do.
use Rattle.std.proofs.Common.{◌≡◌, ℕ, suc, max, Bool, true, false, IsTrue, ◌↔◌, List, refl, sym, ap, subst, arith}
use Rattle.pa_ctype.specs.Values as c
use Rattle.pa_ctype.specs.Tables.{AreApart}
use Rattle.pa_ctype.proofs.Objects.{same_owner_is, same_owner_self}
use Rattle.pa_store.specs.declared.value.Owner.{Owner}
use Rattle.pa_store.specs.declared.value.Owner.TheVariants as owner
use Rattle.pa_store.specs.Views.{owner_tree, owner_bound}

same_name : (i j : ℕ) (names : ℕ → List ℕ) → AreApart (max (suc i) (suc j)) names → names i ≡ names j → i ≡ j
same_name i j names apart e = apart i j (omega arith) (omega arith) e

global_name : (a b : List ℕ) → c.Global a ≡ c.Global b → a ≡ b
global_name a b e = cc

owner_is : (names : ℕ → List ℕ) (a b : Owner) → AreApart (max (owner_bound a) (owner_bound b)) names → owner_tree names a ≡ owner_tree names b → a ≡ b
owner_is names (owner.Global i) (owner.Global j) apart e = ap owner.Global (same_name i j names apart (global_name (names i) (names j) e))
owner_is names (owner.Global i) (owner.Text j) apart e = cc
owner_is names (owner.Global i) (owner.Local j) apart e = cc
owner_is names (owner.Text i) (owner.Global j) apart e = cc
owner_is names (owner.Text i) (owner.Text j) apart e = cc
owner_is names (owner.Text i) (owner.Local j) apart e = cc
owner_is names (owner.Local i) (owner.Global j) apart e = cc
owner_is names (owner.Local i) (owner.Text j) apart e = cc
owner_is names (owner.Local i) (owner.Local j) apart e = cc

pub same_owner_tree : (names : ℕ → List ℕ) (a b : Owner) (same : Bool) → AreApart (max (owner_bound a) (owner_bound b)) names → (IsTrue same ↔ (a ≡ b))
    → same ≡ c.same_owner (owner_tree names a) (owner_tree names b)
same_owner_tree names a b true apart h =
    let e = h.0 refl in
    sym (subst (λ o. c.same_owner (owner_tree names a) (owner_tree names o) ≡ true) e (same_owner_self (owner_tree names a)))
same_owner_tree names a b false apart h = by_test (c.same_owner (owner_tree names a) (owner_tree names b)) refl
  where
    by_test : (b' : Bool) → c.same_owner (owner_tree names a) (owner_tree names b) ≡ b' → false ≡ b'
    by_test true e = let t : IsTrue false = h.1 (owner_is names a b apart (same_owner_is (owner_tree names a) (owner_tree names b) e)) in cc
    by_test false e = refl
