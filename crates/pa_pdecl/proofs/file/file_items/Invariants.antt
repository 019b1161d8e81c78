use Rattle.std.proofs.Common.{◌≡◌, [], length, map}
use Rattle.pa_tree.specs.Views.{file_item_tree}
use Rattle.pa_grammar.specs.Parser.{iterate}
use Rattle.pa_file_grammar.specs.Reading as reading
use Rattle.pa_pdecl.proofs.file.file_items.Given as goal

abbrev pub invariant-items : goal.invariant-items
invariant-items l = record {
  same : iterate (reading.file_step l.depth) (map file_item_tree l.items) l.r ≡ iterate (reading.file_step l.depth) [] l.fn.r;
  noted : l.names ≡ reading.names_behind l.depth (map file_item_tree l.items) [];
}

abbrev pub decreases-items : goal.decreases-items
decreases-items l = length (l.r).ahead
