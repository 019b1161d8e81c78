use Rattle.std.proofs.Common.{◌≡◌, ◌+◌, ◌≤◌, List, [], ◌∷◌, ◌++◌, length, true, arith}
use Rattle.pa_mem.specs.Memory.{Region, apart_from_all}
use Rattle.pa_mem.proofs.Apart.{apart-after, apart_from_all-append}
use Rattle.pa_memory_rows.proofs.memory.space.Goals as goal

first : (one : Region) (regions : List Region) → regions ≡ [] → apart_from_all one regions ≡ true
unfolding apart_from_all
first one regions e = rw e

-- the regions are added in the order of their addresses
next : (one two : Region) (regions : List Region) → apart_from_all one regions ≡ true → two.base + length two.bytes ≤ one.base → apart_from_all one (regions ++ two ∷ []) ≡ true
next one two regions h le = apart_from_all-append one two regions h (apart-after one two le)

pub add-requires : goal.add-requires
add-requires c = record { apart = first _ _ c.new-space.ensures }

pub add-requires-2 : goal.add-requires-2
add-requires-2 c = record {
  apart = rw c.in_ok-add.ensures.ok (next _ _ _ (first _ _ c.new-space.ensures) (omega (arith, c.in_ok-counted.ensures)));
}

pub add-requires-3 : goal.add-requires-3
add-requires-3 c = record {
  apart = rw (c.in_ok-add-2.ensures.ok, c.in_ok-add.ensures.ok)
      (next _ _ _ (next _ _ _ (first _ _ c.new-space.ensures) (omega (arith, c.in_ok-counted.ensures))) (omega (arith, c.in_ok-counted-2.ensures)));
}

pub add-requires-4 : goal.add-requires-4
add-requires-4 c = record {
  apart = rw (c.in_ok-add-3.ensures.ok, c.in_ok-add-2.ensures.ok, c.in_ok-add.ensures.ok)
      (next _ _ _ (next _ _ _ (next _ _ _ (first _ _ c.new-space.ensures) (omega (arith, c.in_ok-counted.ensures))) (omega (arith, c.in_ok-counted-2.ensures))) (omega (arith, c.in_ok-counted-3.ensures)));
}
