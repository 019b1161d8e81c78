-- Where no region may be both written and run, a write that is allowed leaves what is fetched.
use Rattle.std.proofs.Common.{◌≡◌, ℕ, zero, suc, Some, ◌+◌, ◌<◌, ◌≤◌, min, max, List, [], ◌∷◌, length, refl, sym, subst, ◌∙◌, arith, ◌⊎◌, inl, inr}
use Rattle.std.specs.Prelude.{Bool, true, false, not, ◌&&◌, leb, slice_get}
use Rattle.std.specs.Int.{bytes_low_first}
use Rattle.std.proofs.lemmas.Bool.{leb-true, and_parts, and_from, or_cases, or_left, or_right, le-leb, true≢false, cases_Bool, cases_lt}
use Rattle.pa_mem.specs.Memory.{Region, Right, Write, Run, has, allowed, store, with_bytes, fetch, apart, apart_from_all, all_apart, write_xor_run}
use Rattle.pa_mem.proofs.Bytes.{allowed-with_bytes}
use Rattle.pa_mem.proofs.Ranges.{load-with_bytes-other}
use Rattle.pa_mem.proofs.Numbers.{store-with_bytes, length-bytes_low_first}

-- a range that lies in a region with this right
record Lies (right : Right) (region : Region) (at n : ℕ) : Type 0 where
  low : region.base ≤ at
  high : at + n ≤ region.base + length region.bytes
  may : has right region ≡ true

lies : (right : Right) (region : Region) (at n : ℕ) → (leb region.base at && (leb (at + n) (region.base + length region.bytes) && has right region)) ≡ true → Lies right region at n
lies right region at n h =
    let p = and_parts _ _ h in let q = and_parts _ _ p.1 in
    record { low = leb-true _ _ p.0; high = leb-true _ _ q.0; may = q.1 }

-- the ranges don't meet: where the first begins before the second ends, it ends before the second begins
abbrev Misses : ℕ → ℕ → ℕ → ℕ → Type 0
Misses c k at n = c < at + n → c + k ≤ at

apart-misses : (one two : Region) (first second : Right) (at n c k : ℕ) → apart one two ≡ true → Lies first one at (suc n) → Lies second two c (suc k) → Misses c (suc k) at (suc n)
apart-misses one two first second at n c k e p q l =
    let h : min (one.base + length one.bytes) (two.base + length two.bytes) ≤ max one.base two.base = leb-true _ _ e in
    let a = p.low in let b = p.high in let x = q.low in let y = q.high in omega arith

misses-flip : (c k at n : ℕ) → Misses at (suc n) c (suc k) → Misses c (suc k) at (suc n)
misses-flip c k at n m l = go (cases_lt at (c + suc k))
  where
    go : ((at < c + suc k) ⊎ (c + suc k ≤ at)) → c + suc k ≤ at
    go (inl h) = let e = m h in absurd (omega arith)
    go (inr h) = h

-- a region that is apart from all the others
one-misses : (one : Region) (regions : List Region) (first second : Right) (at n c k : ℕ) → apart_from_all one regions ≡ true → Lies first one at (suc n) → allowed second regions c (suc k) ≡ true → Misses c (suc k) at (suc n)
unfolding apart_from_all allowed
one-misses one [] first second at n c k e p h = absurd (true≢false (sym h))
one-misses one (two ∷ regions) first second at n c k e p h =
    let q = and_parts _ _ e in
    go q.0 (λ more. one-misses one regions first second at n c k q.1 p more) (or_cases _ _ h)
  where
    go : apart one two ≡ true → (allowed second regions c (suc k) ≡ true → Misses c (suc k) at (suc n)) → (((leb two.base c && (leb (c + suc k) (two.base + length two.bytes) && has second two)) ≡ true) ⊎ (allowed second regions c (suc k) ≡ true)) → Misses c (suc k) at (suc n)
    go a more (inl here) = apart-misses one two first second at n c k a p (lies second two c (suc k) here)
    go a more (inr there) = more there

-- what may be written and what may be run
pub writes-miss-runs : (regions : List Region) (at n c k : ℕ) → all_apart regions ≡ true → write_xor_run regions ≡ true → allowed Write regions at (suc n) ≡ true → allowed Run regions c (suc k) ≡ true → c < at + suc n → c + suc k ≤ at
unfolding allowed all_apart write_xor_run
writes-miss-runs [] at n c k a x w r l = absurd (true≢false (sym w))
writes-miss-runs (region ∷ regions) at n c k a x w r l =
    let p = and_parts _ _ a in let q = and_parts _ _ x in
    go p.0 q.0 (λ v s. writes-miss-runs regions at n c k p.1 q.1 v s l) (or_cases _ _ w) (or_cases _ _ r)
  where
    never : (a b : Bool) → not (a && b) ≡ true → a ≡ true → b ≡ true → ⊥
    never true true h = λ e f. true≢false (sym h)
    never true false h = λ e f. true≢false (sym f)
    never false b h = λ e f. true≢false (sym e)

    go : apart_from_all region regions ≡ true → not (region.writes && region.runs) ≡ true → (allowed Write regions at (suc n) ≡ true → allowed Run regions c (suc k) ≡ true → c + suc k ≤ at) → (((leb region.base at && (leb (at + suc n) (region.base + length region.bytes) && region.writes)) ≡ true) ⊎ (allowed Write regions at (suc n) ≡ true)) → (((leb region.base c && (leb (c + suc k) (region.base + length region.bytes) && region.runs)) ≡ true) ⊎ (allowed Run regions c (suc k) ≡ true)) → c + suc k ≤ at
    go e one more (inl v) (inl s) = absurd (never _ _ one (lies Write region at (suc n) v).may (lies Run region c (suc k) s).may)
    go e one more (inl v) (inr s) = one-misses region regions Write Run at n c k e (lies Write region at (suc n) v) s l
    go e one more (inr v) (inl s) = misses-flip c k at n (one-misses region regions Run Write c k at n e (lies Run region c (suc k) s) v) l
    go e one more (inr v) (inr s) = more v s

pub fetch-with_bytes : (regions : List Region) (at : ℕ) (bytes : List ℕ) (c : ℕ) → all_apart regions ≡ true → write_xor_run regions ≡ true → allowed Write regions at (length bytes) ≡ true → fetch (with_bytes regions at bytes) c ≡ fetch regions c
unfolding fetch with_bytes
fetch-with_bytes regions at [] c a x w = refl
fetch-with_bytes regions at (byte ∷ bytes) c a x w = go (cases_Bool (allowed Run regions c 4))
  where
    go : ((allowed Run regions c 4 ≡ true) ⊎ (allowed Run regions c 4 ≡ false)) → fetch (with_bytes regions at (byte ∷ bytes)) c ≡ fetch regions c
    go (inl r) =
        let kept = allowed-with_bytes Run regions at (byte ∷ bytes) c 4 in
        let same = load-with_bytes-other 4 regions at (byte ∷ bytes) c (writes-miss-runs regions at (length bytes) c 3 a x w r) in
        rw (kept, same)
    go (inr r) = let kept = allowed-with_bytes Run regions at (byte ∷ bytes) c 4 in rw (kept, r)

-- ---- a region that may not be written, whatever the rights of the others

-- the n bytes from an address on lie in this region, which may be run and may not be written
pub record IsSealed (region : Region) (c n : ℕ) : Type 0 where
  pub low : region.base ≤ c
  pub high : c + n ≤ region.base + length region.bytes
  pub runs : region.runs ≡ true
  pub sealed : region.writes ≡ false

allowed-get : (regions : List Region) (i : ℕ) (region : Region) (c n : ℕ) → slice_get regions i ≡ Some region → IsSealed region c n → allowed Run regions c n ≡ true
unfolding allowed
allowed-get [] i region c n e s = cc
allowed-get (one ∷ regions) zero region c n e s =
    let same : one ≡ region = cc in
    or_left _ _ (subst (λ r. (leb r.base c && (leb (c + n) (r.base + length r.bytes) && r.runs)) ≡ true) (sym same)
    (and_from _ _ (le-leb _ _ s.low) (and_from _ _ (le-leb _ _ s.high) s.runs)))
allowed-get (one ∷ regions) (suc i) region c n e s = or_right _ _ (allowed-get regions i region c n e s)

-- what may be written misses it
writes-miss-sealed : (regions : List Region) (i : ℕ) (region : Region) (at n c k : ℕ) → slice_get regions i ≡ Some region → IsSealed region c (suc k) → all_apart regions ≡ true → allowed Write regions at (suc n) ≡ true → c < at + suc n → c + suc k ≤ at
unfolding allowed all_apart
writes-miss-sealed [] i region at n c k e s a w = absurd (true≢false (sym w))
writes-miss-sealed (one ∷ regions) zero region at n c k e s a w =
    let same : one ≡ region = cc in
    let p = and_parts _ _ a in
    go p.0 (subst (λ r. r.writes ≡ false) (sym same) s.sealed) (subst (λ r. Lies Run r c (suc k)) (sym same) (record { low = s.low; high = s.high; may = s.runs })) (or_cases _ _ w)
  where
    go : apart_from_all one regions ≡ true → one.writes ≡ false → Lies Run one c (suc k) → (((leb one.base at && (leb (at + suc n) (one.base + length one.bytes) && one.writes)) ≡ true) ⊎ (allowed Write regions at (suc n) ≡ true)) → Misses c (suc k) at (suc n)
    go f none l (inl here) = absurd (true≢false (sym (lies Write one at (suc n) here).may ∙ none))
    go f none l (inr there) = misses-flip c k at n (one-misses one regions Run Write c k at n f l there)
writes-miss-sealed (one ∷ regions) (suc i) region at n c k e s a w =
    let p = and_parts _ _ a in
    go p.0 (λ more. writes-miss-sealed regions i region at n c k e s p.1 more) (or_cases _ _ w)
  where
    go : apart_from_all one regions ≡ true → (allowed Write regions at (suc n) ≡ true → Misses c (suc k) at (suc n)) → (((leb one.base at && (leb (at + suc n) (one.base + length one.bytes) && one.writes)) ≡ true) ⊎ (allowed Write regions at (suc n) ≡ true)) → Misses c (suc k) at (suc n)
    go f more (inl here) = one-misses one regions Write Run at n c k f (lies Write one at (suc n) here) (allowed-get regions i region c (suc k) e s)
    go f more (inr there) = more there

pub fetch-sealed : (regions : List Region) (i : ℕ) (region : Region) (at : ℕ) (bytes : List ℕ) (c : ℕ) → slice_get regions i ≡ Some region → IsSealed region c 4 → all_apart regions ≡ true → allowed Write regions at (length bytes) ≡ true → fetch (with_bytes regions at bytes) c ≡ fetch regions c
unfolding fetch with_bytes
fetch-sealed regions i region at [] c e s a w = refl
fetch-sealed regions i region at (byte ∷ bytes) c e s a w =
    let kept = allowed-with_bytes Run regions at (byte ∷ bytes) c 4 in
    let same = load-with_bytes-other 4 regions at (byte ∷ bytes) c (writes-miss-sealed regions i region at (length bytes) c 3 e s a w) in
    rw (kept, same) refl

-- ---- stores

pub fetch-store-sealed : (n : ℕ) (regions : List Region) (i : ℕ) (region : Region) (at value c : ℕ) → slice_get regions i ≡ Some region → IsSealed region c 4 → all_apart regions ≡ true → allowed Write regions at n ≡ true → fetch (store n regions at value) c ≡ fetch regions c
fetch-store-sealed n regions i region at value c e s a w =
    let size = length-bytes_low_first 0 n value in
    rw (store-with_bytes n regions at value) (fetch-sealed regions i region at (bytes_low_first 0 n value) c e s a (rw size w))

pub fetch-store : (n : ℕ) (regions : List Region) (at value c : ℕ) → all_apart regions ≡ true → write_xor_run regions ≡ true → allowed Write regions at n ≡ true → fetch (store n regions at value) c ≡ fetch regions c
fetch-store n regions at value c a x w =
    let size = length-bytes_low_first 0 n value in
    rw (store-with_bytes n regions at value) (fetch-with_bytes regions at (bytes_low_first 0 n value) c a x (rw size w))
