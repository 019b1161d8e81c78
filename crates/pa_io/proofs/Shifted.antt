-- A list whose items move towards the front, one after another.
use Rattle.std.proofs.Common.{◌≡◌, ℕ, ◌+◌, ◌-◌, ◌<◌, ◌≤◌, List, length, take, drop, get_or, arith}
use Rattle.std.proofs.Math.ListN.{set}
use Rattle.std.proofs.lemmas.List.{ext_get_or, length-take, length-drop}
use Rattle.std.proofs.lemmas.Grind.{common_steps}

-- the items before `at` have come from `count` places behind
pub record Shifted (before now : List ℕ) (count at : ℕ) : Type 0 where
  pub same_length : length now ≡ length before
  pub moved : (k : ℕ) → k < at → get_or now k 0 ≡ get_or before (k + count) 0
  pub kept : (k : ℕ) → at ≤ k → get_or now k 0 ≡ get_or before k 0

pub Shifted-more : (before now : List ℕ) (count at : ℕ) → at + count < length before → Shifted before now count at → Shifted before (set now at (get_or now (at + count) 0)) count (at + 1)
Shifted-more before now count at within s = record {
  same_length = grind (arith, common_steps);
  moved = λ k h. grind (arith, common_steps, s.moved k);
  kept = λ k h. grind (arith, common_steps, s.kept k);
}

pub Shifted-all : (before now : List ℕ) (count : ℕ) → count ≤ length before → Shifted before now count (length before - count) → take (length before - count) now ≡ drop count before
Shifted-all before now count within s =
    ext_get_or 0 _ _ (simp (length-take, length-drop) (omega arith)) (λ i h. grind (arith, common_steps, s.moved i))
