-- The names of the blocks that are open at a place of a file (C11 6.2.1p4), names and types by number.
use Rattle.std.specs.Prelude.{ℕ, suc, max, ◌==◌, Bool, if◌then◌else◌, List, [], ◌∷◌, Option, Some, None, is_some}
use Rattle.pa_blocks.specs.declared.meant.Meant.{Meant}
use Rattle.pa_blocks.specs.declared.meant.Meant.TheVariants.{Local, Global, Constant, TypeName, Discriminator}

pub record Named : Type 0 where
  pub name : ℕ
  pub means : Meant

-- the innermost block, and those around it, the file last; the newest name of a block comes first
pub record Blocks : Type 0 where
  pub block : List Named
  pub around : List (List Named)

abbrev pub none : Blocks
none = record { block = []; around = [] }

abbrev pub entered : Blocks → Blocks
entered b = record { block = []; around = b.block ∷ b.around }

abbrev pub left_to : List (List Named) → Blocks → Blocks
left_to [] b = b
left_to (block ∷ around) b = record { block = block; around = around }

-- without the innermost block, where another is around it
abbrev pub left : Blocks → Blocks
left b = left_to b.around b

abbrev pub with_name : ℕ → Meant → Blocks → Blocks
with_name name means b = record { block = record { name = name; means = means } ∷ b.block; around = b.around }

-- ---- what a name means

abbrev pub or_else : {A : Type 0} → Option A → Option A → Option A
or_else None other = other
or_else (Some a) other = Some a

unfoldable pub in_block : List Named → ℕ → Option Meant
in_block [] name = None
in_block (d ∷ ds) name = if d.name == name then Some d.means else in_block ds name

unfoldable pub in_blocks : List (List Named) → ℕ → Option Meant
in_blocks [] name = None
in_blocks (block ∷ blocks) name = or_else (in_block block name) (in_blocks blocks name)

-- the innermost meaning of a name
abbrev pub meaning : Blocks → ℕ → Option Meant
meaning b name = or_else (in_block b.block name) (in_blocks b.around name)

-- ---- an object gets another type

abbrev pub with_type : ℕ → Meant → Meant
with_type of (Local number old) = Local number of
with_type of (Global old) = Global of
with_type of means = means

unfoldable pub retyped_in : ℕ → ℕ → List Named → List Named
retyped_in name of [] = []
retyped_in name of (d ∷ ds) =
    if d.name == name then record d { means = with_type of d.means } ∷ ds else d ∷ retyped_in name of ds

abbrev pub is_in : List Named → ℕ → Bool
is_in block name = is_some (in_block block name)

unfoldable pub retyped_around : ℕ → ℕ → List (List Named) → List (List Named)
retyped_around name of [] = []
retyped_around name of (block ∷ blocks) =
    if is_in block name then retyped_in name of block ∷ blocks else block ∷ retyped_around name of blocks

-- the innermost object or function of the name has this type
abbrev pub retyped : ℕ → ℕ → Blocks → Blocks
retyped name of b =
    if is_in b.block name then record b { block = retyped_in name of b.block } else record b { around = retyped_around name of b.around }

-- ---- numbers of types and names are below these: one more than the largest, or 0 where there is none

abbrev pub type_bound : Meant → ℕ
type_bound (Local number of) = suc of
type_bound (Global of) = suc of
type_bound (TypeName of) = suc of
type_bound means = 0

abbrev pub types_in : Option Meant → ℕ
types_in None = 0
types_in (Some means) = type_bound means

abbrev pub block_types : List Named → ℕ
block_types [] = 0
block_types (d ∷ ds) = max (type_bound d.means) (block_types ds)

abbrev pub around_types : List (List Named) → ℕ
around_types [] = 0
around_types (block ∷ blocks) = max (block_types block) (around_types blocks)

abbrev pub types_bound : Blocks → ℕ
types_bound b = max (block_types b.block) (around_types b.around)

abbrev pub block_names : List Named → ℕ
block_names [] = 0
block_names (d ∷ ds) = max (suc d.name) (block_names ds)

abbrev pub around_names : List (List Named) → ℕ
around_names [] = 0
around_names (block ∷ blocks) = max (block_names block) (around_names blocks)

abbrev pub names_bound : Blocks → ℕ
names_bound b = max (block_names b.block) (around_names b.around)
