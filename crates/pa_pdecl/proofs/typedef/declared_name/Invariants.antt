use Rattle.std.proofs.Common.{◌≡◌}
use Rattle.pa_tree.specs.Files.{declared_name}
use Rattle.pa_tree.specs.Heights.{declarator_height}
use Rattle.pa_tree.specs.Views.{declarator_tree}
use Rattle.pa_pdecl.proofs.typedef.declared_name.Given as goal

abbrev pub invariant-parts : goal.invariant-parts
invariant-parts l = declared_name (declarator_tree l.at) ≡ declared_name (declarator_tree l.declarator)

abbrev pub decreases-parts : goal.decreases-parts
decreases-parts l = declarator_height (declarator_tree l.at)
