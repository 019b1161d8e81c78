-- Regions in the order of their addresses, and what is read in one of them.
use Rattle.std.proofs.Common.{◌≡◌, ℕ, zero, suc, ◌+◌, ◌%◌, ◌≤◌, Bool, true, false, List, [], ◌∷◌, ◌++◌, length, drop, refl, sym, ap, subst, ◌∙◌, arith, Some}
use Rattle.std.specs.Prelude.{◌||◌}
use Rattle.std.proofs.lemmas.Bool.{le-leb, and_from}
use Rattle.byteorder.specs.Endian.{little_number}
use Rattle.byteorder.specs.Numbers.{little_from-take}
use Rattle.pa_layout.specs.Fields.{number}
use Rattle.pa_mem.specs.declared.access.Rights.{Rights}
use Rattle.pa_mem.specs.Memory.{Region, Right, Run, has, allowed, load, fetch, apart_from_all, all_apart, region_of}
use Rattle.pa_mem.proofs.Apart.{IsAt, apart-after, apart-before, bytes_at-region}
use Rattle.pa_mem.proofs.Numbers.{load-bytes_at}
use Rattle.pa_load.specs.Mapping.{AllBelow}

-- ---- regions below an address

pub below_apart : (base : ℕ) (bytes : List ℕ) (rights : Rights) (regions : List Region) → AllBelow base regions → apart_from_all (region_of base bytes rights) regions ≡ true
unfolding apart_from_all
below_apart base bytes rights [] b = refl
below_apart base bytes rights (region ∷ regions) b =
    rw (apart-after (region_of base bytes rights) region b.0, below_apart base bytes rights regions b.1) refl

pub below_more : (low high : ℕ) (regions : List Region) → low ≤ high → AllBelow low regions → AllBelow high regions
below_more low high [] le b = tt
below_more low high (region ∷ regions) le b = let h = b.0 in (omega arith, below_more low high regions le b.1)

below_last : (limit : ℕ) (regions : List Region) (region : Region) → AllBelow limit regions → region.base + length region.bytes ≤ limit → AllBelow limit (regions ++ region ∷ [])
below_last limit [] region b h = (h, tt)
below_last limit (first ∷ regions) region b h = (b.0, below_last limit regions region b.1 h)

pub below_added : (base limit : ℕ) (regions new : List Region) (region : Region) → new ≡ regions ++ region ∷ [] → AllBelow base regions → base ≤ limit → region.base + length region.bytes ≤ limit → AllBelow limit new
below_added base limit regions new region e b le h = subst (AllBelow limit) (sym e) (below_last limit regions region (below_more base limit regions le b) h)

-- ---- regions that ascend

-- each begins where the one before it ends, or above it
abbrev pub Ascending : (low : ℕ) → List Region → Type 0
Ascending low [] = Unit {0}
Ascending low (region ∷ regions) = (low ≤ region.base) × Ascending (region.base + length region.bytes) regions

above_apart : (one : Region) (low : ℕ) (regions : List Region) → one.base + length one.bytes ≤ low → Ascending low regions → apart_from_all one regions ≡ true
unfolding apart_from_all
above_apart one low [] le a = refl
above_apart one low (region ∷ regions) le a =
    let h = a.0 in
    rw (apart-before one region (omega arith), above_apart one (region.base + length region.bytes) regions (omega arith) a.1) refl

pub ascending_apart : (low : ℕ) (regions : List Region) → Ascending low regions → all_apart regions ≡ true
unfolding all_apart
ascending_apart low [] a = refl
ascending_apart low (region ∷ regions) a =
    rw (above_apart region (region.base + length region.bytes) regions (omega arith) a.1, ascending_apart (region.base + length region.bytes) regions a.1) refl

-- ---- reading in a region

pub or_right : (a b : Bool) → b ≡ true → (a || b) ≡ true
or_right true b e = refl
or_right false b e = e

pub allowed_here : (right : Right) (regions : List Region) (i : ℕ) (region : Region) (at n : ℕ) → IsAt regions i region → region.base ≤ at → at + n ≤ region.base + length region.bytes → has right region ≡ true → allowed right regions at n ≡ true
unfolding allowed
allowed_here right [] i region at n s low high may = let h = s.within in absurd (omega arith)
allowed_here right (first ∷ regions) zero region at n s low high may =
    let same : first ≡ region = s.found in
    subst (λ (r : Region). allowed right (r ∷ regions) at n ≡ true) (sym same)
    (ap (λ (b : Bool). b || allowed right regions at n) (and_from _ _ (le-leb region.base at low) (and_from _ _ (le-leb (at + n) (region.base + length region.bytes) high) may)))
allowed_here right (first ∷ regions) (suc i) region at n s low high may =
    let h = s.within in
    let e : suc i ≡ i + 1 = omega arith in
    or_right _ _ (allowed_here right regions i region at n (record { within = omega arith; found = s.found }) low high may)

pub load_here : (n : ℕ) (regions : List Region) (i : ℕ) (region : Region) (at o : ℕ) → IsAt regions i region → all_apart regions ≡ true → region.base + o ≡ at → o + n ≤ length region.bytes → load n regions at ≡ number n o region.bytes
load_here n regions i region at o s apart place inside =
    load-bytes_at n regions at ∙ ap (little_number n) (bytes_at-region n regions i region at o s apart place inside) ∙ little_from-take 0 n n (drop o region.bytes) (omega arith)

pub fetch_here : (regions : List Region) (i : ℕ) (region : Region) (at o : ℕ) → IsAt regions i region → all_apart regions ≡ true → region.base + o ≡ at → o + 4 ≤ length region.bytes → at % 4 ≡ 0 → region.runs ≡ true → fetch regions at ≡ Some (number 4 o region.bytes)
unfolding fetch
fetch_here regions i region at o s apart place inside even runs =
    let may = allowed_here Run regions i region at 4 s (omega arith) (omega arith) runs in
    rw (may, even) (ap Some (load_here 4 regions i region at o s apart place inside))
