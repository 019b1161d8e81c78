-- Regions that are added in the order of their addresses share no address.
use Rattle.std.proofs.Common.{◌≡◌, ◌+◌, ◌≤◌, List, [], ◌∷◌, ◌++◌, length, true}
use Rattle.pa_mem.specs.Memory.{Region, apart_from_all}
use Rattle.pa_mem.proofs.Apart.{apart-after, apart_from_all-append}

pub apart_first : (one : Region) (regions : List Region) → regions ≡ [] → apart_from_all one regions ≡ true
unfolding apart_from_all
apart_first one regions e = rw e

pub apart_next : (one two : Region) (regions : List Region) → apart_from_all one regions ≡ true → two.base + length two.bytes ≤ one.base → apart_from_all one (regions ++ two ∷ []) ≡ true
apart_next one two regions h le = apart_from_all-append one two regions h (apart-after one two le)
