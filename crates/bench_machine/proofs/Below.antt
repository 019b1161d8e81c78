-- Regions below an address.
use Rattle.std.proofs.Common.{◌≡◌, ℕ, ◌+◌, ◌≤◌, true, List, [], ◌∷◌, ◌++◌, length, refl, sym, subst, arith, Result, Ok, Err, OnOk}
use Rattle.pa_mem.specs.declared.access.Rights.{Rights}
use Rattle.pa_mem.specs.Memory.{Region, apart_from_all, region_of}
use Rattle.pa_mem.proofs.Apart.{apart-after}
use Rattle.bench_machine.specs.Layout.{AllBelow}

pub below_apart : (base : ℕ) (bytes : List ℕ) (rights : Rights) (regions : List Region) → AllBelow base regions → apart_from_all (region_of base bytes rights) regions ≡ true
unfolding apart_from_all
below_apart base bytes rights [] b = refl
below_apart base bytes rights (region ∷ regions) b =
    rw (apart-after (region_of base bytes rights) region b.0, below_apart base bytes rights regions b.1) refl

pub below_more : (low high : ℕ) (regions : List Region) → low ≤ high → AllBelow low regions → AllBelow high regions
below_more low high [] le b = tt
below_more low high (region ∷ regions) le b = let h = b.0 in (omega arith, below_more low high regions le b.1)

below_last : (limit : ℕ) (regions : List Region) (region : Region) → AllBelow limit regions → region.base + length region.bytes ≤ limit → AllBelow limit (regions ++ region ∷ [])
below_last limit [] region b h = (h, tt)
below_last limit (first ∷ regions) region b h = (b.0, below_last limit regions region b.1 h)

-- a region that is added behind others
pub below_added : {E : Type 0} (base : ℕ) (bytes : List ℕ) (rights : Rights) (old new : List Region) (r : Result (Unit {0}) E) → AllBelow base old → OnOk r (new ≡ old ++ region_of base bytes rights ∷ []) → OnOk r (AllBelow (base + length bytes) new)
below_added base bytes rights old new (Ok u) b e =
    subst (AllBelow (base + length bytes)) (sym e)
    (below_last (base + length bytes) old (region_of base bytes rights) (below_more base (base + length bytes) old (omega arith) b) (omega arith))
below_added base bytes rights old new (Err x) b e = tt
