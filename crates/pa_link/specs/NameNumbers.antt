-- The numbers that the names of files have in the program.
use Rattle.std.specs.Prelude.{◌≡◌, ℕ, suc, ◌<◌, List, [], ◌∷◌, ◌++◌, length, map, slice_get, Some}
use Rattle.pa_ctype.specs.Nodes.{AllBelow}
use Rattle.pa_ctype.specs.Tables.{AreApart}
use Rattle.pa_typed.specs.declared.unit.Unit.{Unit as CUnit}
use Rattle.pa_typed.specs.Units.{name_in}
use Rattle.pa_cmean.specs.Calls.{putchar, getchar, main}
use Rattle.pa_link.specs.declared.names.FileNames.{FileNames}
use Rattle.pa_link.specs.Names.{linkage_names}

abbrev pub first_names : List (List ℕ)
first_names = [] ∷ putchar ∷ getchar ∷ main ∷ []

-- the names of the program are told apart, and these are the first ones
pub record AreNamesOfProgram (names : List (List ℕ)) : Type 0 where
  pub apart : AreApart (length names) (name_in names)
  pub more : List (List ℕ)
  pub first : names ≡ first_names ++ more

-- numbers of a file's own names, and of these as those of functions and globals, of which the empty one is the last
pub record AreNumbersOf (names own linkages : List (List ℕ)) (f : FileNames) : Type 0 where
  pub plain : map (name_in names) f.plain ≡ own
  pub linkage : map (name_in names) f.linkage ++ name_in names f.unnamed ∷ [] ≡ linkages
  pub plain_known : AllBelow (length names) f.plain
  pub linkage_known : AllBelow (length names) f.linkage
  pub unnamed_known : f.unnamed < length names

-- those of each file, by its place
abbrev pub EachFile : List (List ℕ) → List CUnit → List FileNames → Type 0
EachFile names units files = (i : ℕ) (u : CUnit) (f : FileNames) → slice_get units i ≡ Some u → slice_get files i ≡ Some f
    → AreNumbersOf names u.names (linkage_names (suc i) u.names u.declared) f

pub record AreFiles (names : List (List ℕ)) (units : List CUnit) (files : List FileNames) : Type 0 where
  pub count : length files ≡ length units
  pub each : EachFile names units files
