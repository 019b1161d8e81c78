-- The region that an access finds.
use Rattle.std.proofs.Common.{◌≡◌, ℕ, suc, ◌+◌, ◌-◌, ◌<◌, ◌≤◌, List, [], ◌∷◌, length, refl, sym, ap, Option, ◌∙◌, arith, Some, None, position, ◌⊎◌, inl, inr}
use Rattle.std.specs.Prelude.{Bool, true, false, cond, not, ◌&&◌, ◌||◌, ltb, is_some, IfSome, IfNone}
use Rattle.std.specs.List.{list_any, position_or_len}
use Rattle.std.proofs.lemmas.Bool.{leb-true, lt-ltb, le-ltb, cases_lt, and_parts}
use Rattle.std.proofs.lemmas.List.Quantifiers.{position-Some}
use Rattle.std.proofs.lemmas.List.Folds.{list_any_at}
use Rattle.pa_mem.specs.declared.access.Rights.{Rights}
use Rattle.pa_mem.specs.Access.{includes}
use Rattle.pa_mem.specs.Memory.{Region, Right, Read, Write, Run, has, rights_of, allowed, offers, inside}
use Rattle.pa_mem.specs.Place.{IsPlace, IsOffered}

-- one right and no other
abbrev pub only : Right → Rights
only Read = record { read = true; write = false; run = false }
only Write = record { read = false; write = true; run = false }
only Run = record { read = false; write = false; run = true }

and-true : (b : Bool) → (b && true) ≡ b
and-true true = refl
and-true false = refl

pub includes-only : (right : Right) (region : Region) → includes (rights_of region) (only right) ≡ has right region
includes-only Read region = and-true region.reads
includes-only Write region = and-true region.writes
includes-only Run region = refl

pub allowed-inside : (right : Right) (regions : List Region) (at n : ℕ) → allowed right regions at n ≡ inside (only right) regions at n
unfolding allowed inside
allowed-inside right [] at n = refl
allowed-inside right (region ∷ regions) at n = rw (includes-only right region, allowed-inside right regions at n)

ltb-suc : (a b : ℕ) → ltb (suc a) (suc b) ≡ ltb a b
ltb-suc a b = go (cases_lt a b)
  where
    go : ((a < b) ⊎ (b ≤ a)) → ltb (suc a) (suc b) ≡ ltb a b
    go (inl h) = lt-ltb (suc a) (suc b) (omega arith) ∙ sym (lt-ltb a b h)
    go (inr h) = le-ltb (suc a) (suc b) (omega arith) ∙ sym (le-ltb a b h)

is_some-position : {X : Type 0} (p : X → Bool) (xs : List X) → is_some (position p xs) ≡ list_any p xs
is_some-position p [] = refl
is_some-position {X = X} p (x ∷ xs) = go (p x) (is_some-position p xs)
  where
    is_some-cond : {A : Type 0} (b : Bool) (y : A) → is_some (cond b (Some y) None) ≡ b
    is_some-cond true y = refl
    is_some-cond false y = refl

    go : (here : Bool) → is_some (position p xs) ≡ list_any p xs → (let n = cond (not here) (1 + position_or_len p xs) 0 in is_some (cond (ltb n (suc (length xs))) (Some n) None)) ≡ (here || list_any p xs)
    go true e = is_some-cond (ltb 0 (suc (length xs))) 0 ∙ lt-ltb 0 (suc (length xs)) (omega arith)
    go false e =
        let k = position_or_len p xs in
        let next : 1 + k ≡ suc k = omega arith in
        is_some-cond (ltb (1 + k) (suc (length xs))) (1 + k) ∙ ap (λ n. ltb n (suc (length xs))) next ∙ ltb-suc k (length xs) ∙ sym (is_some-cond (ltb k (length xs)) k) ∙ e

inside-position : (rights : Rights) (at n : ℕ) (regions : List Region) → inside rights regions at n ≡ is_some (position (offers rights at n) regions)
unfolding inside
inside-position rights at n regions = sym (is_some-position (offers rights at n) regions)

inside-None : (rights : Rights) (at n : ℕ) (regions : List Region) → None ≡ position (offers rights at n) regions → inside rights regions at n ≡ false
inside-None rights at n regions h = inside-position rights at n regions ∙ ap is_some (sym h)

offered-Some : (rights : Rights) (at n : ℕ) (regions : List Region) (i : ℕ) → Some i ≡ position (offers rights at n) regions → IsOffered rights at n regions i
offered-Some rights at n regions i h =
    let nowhere : Region = record { base = 0; bytes = []; reads = false; writes = false; runs = false } in
    record {
      within = (position-Some (offers rights at n) regions i nowhere (sym h)).0;
      offers = λ d. (position-Some (offers rights at n) regions i d (sym h)).1;
    }

-- what the first region that offers an access tells
pub first-None : (rights : Rights) (at n : ℕ) (regions : List Region) (o : Option ℕ) → o ≡ position (offers rights at n) regions → IfNone o (inside rights regions at n ≡ false)
first-None rights at n regions None h = inside-None rights at n regions h
first-None rights at n regions (Some i) h = tt

pub first-Some : (rights : Rights) (at n : ℕ) (regions : List Region) (o : Option ℕ) → o ≡ position (offers rights at n) regions → IfSome o (IsOffered rights at n regions)
first-Some rights at n regions None h = tt
first-Some rights at n regions (Some i) h = offered-Some rights at n regions i h

pub offered-inside : (rights : Rights) (at n : ℕ) (regions : List Region) (i : ℕ) → IsOffered rights at n regions i → inside rights regions at n ≡ true
unfolding inside
offered-inside rights at n regions i o =
    let nowhere : Region = record { base = 0; bytes = []; reads = false; writes = false; runs = false } in
    list_any_at (offers rights at n) regions i nowhere o.within (o.offers nowhere)

pub offers-low : (rights : Rights) (at n : ℕ) (region : Region) → offers rights at n region ≡ true → region.base ≤ at
offers-low rights at n region h = let p = and_parts _ _ h in leb-true _ _ p.0

pub offers-place : (rights : Rights) (at n : ℕ) (region : Region) → offers rights at n region ≡ true → IsPlace at n (at - region.base) region
offers-place rights at n region h =
    let p = and_parts _ _ h in let q = and_parts _ _ p.1 in
    let low : region.base ≤ at = leb-true _ _ p.0 in
    let high : at + n ≤ region.base + length region.bytes = leb-true _ _ q.0 in
    record { address = omega arith; room = omega arith }

pub allowed-read : (regions : List Region) (at n : ℕ) → allowed Read regions at n ≡ inside (only Read) regions at n
allowed-read = allowed-inside Read

pub allowed-write : (regions : List Region) (at n : ℕ) → allowed Write regions at n ≡ inside (only Write) regions at n
allowed-write = allowed-inside Write

pub allowed-run : (regions : List Region) (at n : ℕ) → allowed Run regions at n ≡ inside (only Run) regions at n
allowed-run = allowed-inside Run

-- what is allowed under a right lies inside under it alone
pub ruleset allowing = (allowed-read, allowed-write, allowed-run)
