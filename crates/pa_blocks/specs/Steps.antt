-- What the table of declarations keeps. No contract of a public call speaks of it.
use Rattle.std.specs.Prelude.{◌≡◌, ℕ, suc, ◌==◌, if◌then◌else◌, List, [], ◌∷◌, Option, Some, None, get_or, reverse}
use Rattle.pa_blocks.specs.declared.meant.Meant.{Meant}
use Rattle.pa_blocks.specs.declared.declarations.Known.{Known}
use Rattle.pa_blocks.specs.declared.declarations.Step.{Step}
use Rattle.pa_blocks.specs.declared.declarations.Step.TheVariants.{Enter, Declare}
use Rattle.pa_blocks.specs.Blocks.{Blocks, none, entered, with_name, with_type}

-- the newest declaration of each name
abbrev pub Newest : Type 0
Newest = ℕ → Option Known

abbrev pub newest_of : List (Option Known) → Newest
newest_of known name = get_or known name None

abbrev pub put : ℕ → Option Known → Newest → Newest
put name known newest other = if other == name then known else newest other

abbrev pub with_known : ℕ → Option Known → Blocks → Blocks
with_known name None b = b
with_known name (Some known) b = with_name name known.means b

-- the open blocks, from the newest declarations and the steps that made them, the last one first
unfoldable pub blocks_of : Newest → List Step → Blocks
blocks_of newest [] = none
blocks_of newest (Enter ∷ steps) = entered (blocks_of newest steps)
blocks_of newest (Declare name before ∷ steps) = with_known name (newest name) (blocks_of (put name before newest) steps)

-- so many blocks are open in the file, each name's newest declaration knows how many were around it, and no name is left
-- once all steps are undone
unfoldable pub AreLevelled : Newest → List Step → ℕ → Type 0
AreLevelled newest [] level = (level ≡ 0) × ((name : ℕ) → newest name ≡ None)
AreLevelled newest (Enter ∷ steps) level = (below : ℕ) × (level ≡ suc below) × AreLevelled newest steps below
AreLevelled newest (Declare name before ∷ steps) level =
    (means : Meant) × (newest name ≡ Some (record { level = level; means = means })) × AreLevelled (put name before newest) steps level

-- what a name is declared as, in any block and in one of that level
abbrev pub means_of : Option Known → Option Meant
means_of None = None
means_of (Some known) = Some known.means

abbrev pub means_at : ℕ → Option Known → Option Meant
means_at level None = None
means_at level (Some known) = if known.level == level then Some known.means else None

abbrev pub with_known_type : ℕ → Known → Known
with_known_type of known = record known { means = with_type of known.means }
