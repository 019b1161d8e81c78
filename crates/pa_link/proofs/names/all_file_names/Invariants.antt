use Rattle.std.proofs.Common.{◌≡◌, ◌≤◌, ◌-◌, length}
use Rattle.pa_link.specs.Names.{texts_of, IsGrown}
use Rattle.pa_link.specs.NameNumbers.{EachFile}
use Rattle.pa_link.proofs.names.all_file_names.Given as goal

abbrev pub invariant-units : goal.invariant-units
invariant-units l = record {
  count : length l.files ≡ l.index;
  within : l.index ≤ length l.units;
  each : EachFile (texts_of l.table.keys) l.units l.files;
  grows : IsGrown l.initial.table.keys l.table.keys;
}

abbrev pub decreases-units : goal.decreases-units
decreases-units l = length l.units - l.index
