-- Numbers of types in what a name means are below the bound of the blocks.
use Rattle.std.proofs.Common.{◌≡◌, ℕ, ◌≤◌, max, ◌==◌, Bool, true, false, if◌then◌else◌, List, [], ◌∷◌, Option, Some, None, refl, arith}
use Rattle.pa_blocks.specs.declared.meant.Meant.{Meant}
use Rattle.pa_blocks.specs.Blocks.{Named, Blocks, or_else, in_block, in_blocks, meaning, type_bound, types_in, block_types, around_types, types_bound}

pub types_in_block : (block : List Named) (name : ℕ) → types_in (in_block block name) ≤ block_types block
unfolding in_block
types_in_block [] name = omega arith
types_in_block (d ∷ ds) name = by (d.name == name) (types_in_block ds name)
  where
    by : (t : Bool) → types_in (in_block ds name) ≤ block_types ds → types_in (if t then Some d.means else in_block ds name) ≤ max (type_bound d.means) (block_types ds)
    by true h = omega arith
    by false h = omega arith

types_of_two : (a b : Option Meant) (m n : ℕ) → types_in a ≤ m → types_in b ≤ n → types_in (or_else a b) ≤ max m n
types_of_two None b m n h k = omega arith
types_of_two (Some means) b m n h k = omega arith

types_in_blocks : (blocks : List (List Named)) (name : ℕ) → types_in (in_blocks blocks name) ≤ around_types blocks
unfolding in_blocks
types_in_blocks [] name = omega arith
types_in_blocks (block ∷ blocks) name = types_of_two (in_block block name) (in_blocks blocks name) (block_types block) (around_types blocks) (types_in_block block name) (types_in_blocks blocks name)

pub types_of_meaning : (b : Blocks) (name : ℕ) → types_in (meaning b name) ≤ types_bound b
types_of_meaning b name = types_of_two (in_block b.block name) (in_blocks b.around name) (block_types b.block) (around_types b.around) (types_in_block b.block name) (types_in_blocks b.around name)
