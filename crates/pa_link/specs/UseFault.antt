-- The first use of a name without a definition, on the parts of the files.
use Rattle.std.specs.Prelude.{ℕ, suc, List, [], ◌∷◌, map, Option, Some, None}
use Rattle.pa_link.specs.declared.definitions.Definitions.{Definitions}
use Rattle.pa_link.specs.declared.parts.Part.{Part as CPart}
use Rattle.pa_link.specs.declared.rule.LinkFault.{LinkFault}
use Rattle.pa_link.specs.declared.rule.LinkRule.TheVariants.{L1}
use Rattle.pa_link.specs.Missing.{earlier, earliest, global_missing, function_missing}
use Rattle.pa_link.specs.Program.{fault}

module _ (d : Definitions) where
  abbrev pub part_missing : CPart → Option ℕ
  part_missing p = earlier (earliest (map (global_missing d) p.globals)) (earliest (map (function_missing d) p.functions))

  abbrev pub at_or : ℕ → Option ℕ → Option LinkFault → Option LinkFault
  at_or file None more = more
  at_or file (Some place) more = Some (fault L1 file place)

  -- from the file of a number on
  abbrev pub use_fault : ℕ → List CPart → Option LinkFault
  use_fault file [] = None
  use_fault file (p ∷ ps) = at_or file (part_missing p) (use_fault (suc file) ps)
