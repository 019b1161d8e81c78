use Rattle.std.proofs.Common.{◌≡◌, ◌++◌, length, map}
use Rattle.pa_ctype.specs.Nodes.{AllBelow}
use Rattle.pa_typed.specs.Units.{name_in}
use Rattle.pa_link.specs.Names.{texts_of, IsGrown}
use Rattle.pa_link.proofs.names.numbers_of.Given as goal

abbrev pub invariant-names : goal.invariant-names
invariant-names l = record {
  known : AllBelow (length l.table.keys) l.numbers;
  are : map (name_in (texts_of l.table.keys)) l.numbers ++ l.rest ≡ l.names;
  grows : IsGrown l.initial.table.keys l.table.keys;
}

abbrev pub decreases-names : goal.decreases-names
decreases-names l = length l.rest
