use Rattle.std.proofs.Common.{◌≡◌, ◌∷◌, [], length, map, None}
use Rattle.pa_tree.specs.Views.{init_declarator_tree}
use Rattle.pa_file_grammar.specs.Reading as reading
use Rattle.pa_pdecl.proofs.declaration.more_declarators.Given as goal

abbrev pub invariant-items : goal.invariant-items
invariant-items l = reading.declared None l.depth l.names (map init_declarator_tree l.items) l.r
    ≡ reading.declared None l.depth l.names (init_declarator_tree l.fn.first ∷ []) l.fn.r

abbrev pub decreases-items : goal.decreases-items
decreases-items l = length (l.r).ahead
