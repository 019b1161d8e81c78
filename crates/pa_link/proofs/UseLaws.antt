-- The first use without a definition is that of the program.
use Rattle.std.proofs.Common.{◌≡◌, ℕ, suc, List, [], ◌∷◌, Option, Some, None, refl, ap, ◌∙◌}
use Rattle.std.specs.Prelude.{filter_map, option_map}
use Rattle.std.specs.List.{cons_option}
use Rattle.pa_ctype.specs.Types.{TypeTree}
use Rattle.pa_typed.specs.Units.{ProgramTree, name_in}
use Rattle.pa_link.specs.declared.definitions.Definitions.{Definitions}
use Rattle.pa_link.specs.declared.parts.Part.{Part as CPart}
use Rattle.pa_link.specs.declared.rule.LinkRule.TheVariants.{L1}
use Rattle.pa_link.specs.Linked.{part_trees}
use Rattle.pa_link.specs.Missing.{has}
use Rattle.pa_link.specs.Program.{fault, first, is_defined, unit_use_fault}
use Rattle.pa_link.specs.UseFault.{part_missing, at_or, use_fault}
use Rattle.pa_link.proofs.MissingTrees.{unit_first}

pub uses_are : (d : Definitions) (program : ProgramTree) (names : List (List ℕ)) (m : ℕ → TypeTree) → ((i : ℕ) → has d i ≡ is_defined program (name_in names i))
    → (file : ℕ) (ps : List CPart) → first (filter_map (unit_use_fault program) (part_trees names m file ps)) ≡ use_fault d file ps
uses_are d program names m knows file [] = refl
uses_are d program names m knows file (p ∷ ps) =
    ap (λ o. first (cons_option (option_map (fault L1 file) o) (filter_map (unit_use_fault program) (part_trees names m (suc file) ps)))) (unit_first d program (name_in names) m knows p.globals p.functions)
    ∙ by (part_missing d p) (uses_are d program names m knows (suc file) ps)
  where
    by : (o : Option ℕ) → first (filter_map (unit_use_fault program) (part_trees names m (suc file) ps)) ≡ use_fault d (suc file) ps
        → first (cons_option (option_map (fault L1 file) o) (filter_map (unit_use_fault program) (part_trees names m (suc file) ps))) ≡ at_or d file o (use_fault d (suc file) ps)
    by None rest = rest
    by (Some place) rest = refl
