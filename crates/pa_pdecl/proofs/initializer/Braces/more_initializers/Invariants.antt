use Rattle.std.proofs.Common.{◌≡◌, ◌∷◌, [], length, map}
use Rattle.pa_tree.specs.Views.{initializer_tree}
use Rattle.pa_grammar.specs.Parser.{iterate}
use Rattle.pa_file_grammar.specs.Reading as reading
use Rattle.pa_pdecl.specs.Rules as rule
use Rattle.pa_pdecl.proofs.initializer.Braces.more_initializers.Given as goal

abbrev pub invariant-items : goal.invariant-items
invariant-items g l = iterate (reading.more_step (l.self.at.names).now (rule.read_initializer l.self.at)) (map initializer_tree l.items) l.r
    ≡ iterate (reading.more_step (l.self.at.names).now (rule.read_initializer l.self.at)) (initializer_tree l.fn.first ∷ []) l.fn.r

abbrev pub decreases-items : goal.decreases-items
decreases-items g l = length (l.r).ahead
