use Rattle.std.proofs.Common.{◌≡◌, ◌<◌, ◌^◌, drop}
use Rattle.pa_layout.specs.Fields.{all_have_room}
use Rattle.pa_fixups.specs.Fixups.{entries}
use Rattle.pa_fixups.proofs.fixups.entries_fit.Given as goal

abbrev pub invariant-loop-name : goal.invariant-loop-name
invariant-loop-name l = record {
  small : l.place < 2 ^ 66;
  rest : all_have_room (entries l.place (drop l.name-index l.names)) ≡ all_have_room (entries 1 l.names);
}
