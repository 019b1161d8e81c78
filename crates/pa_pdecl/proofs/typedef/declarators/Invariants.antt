use Rattle.std.proofs.Common.{◌≡◌, length, map}
use Rattle.pa_tree.specs.Files.{behind_all}
use Rattle.pa_tree.specs.Views.{declarator_tree, init_declarator_tree}
use Rattle.pa_file_grammar.specs.Reading as reading
use Rattle.pa_pdecl.proofs.typedef.declarators.Given as goal

abbrev pub invariant-items : goal.invariant-items
invariant-items l = record {
  same : reading.declared l.storage l.depth l.fn.names (map init_declarator_tree l.items) l.r
      ≡ reading.all_declared l.storage l.depth l.fn.names l.from (declarator_tree l.fn.declarator) l.fn.r;
  noted : l.names ≡ behind_all l.storage (map init_declarator_tree l.items) l.fn.names;
}

abbrev pub decreases-items : goal.decreases-items
decreases-items l = length (l.r).ahead
