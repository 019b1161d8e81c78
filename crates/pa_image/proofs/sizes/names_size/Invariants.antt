use Rattle.std.proofs.Common.{◌≡◌, ◌+◌, ◌*◌, ◌≤◌, ◌^◌, length, drop}
use Rattle.pa_layout.specs.Names.{ended}
use Rattle.pa_image.specs.Writing.{AllBytes}
use Rattle.pa_image.proofs.sizes.names_size.Given as goal

abbrev pub invariant-loop-name : goal.invariant-loop-name
invariant-loop-name l = record {
  size : l.size + length (ended (drop l.name-index l.names)) ≡ length (ended l.names);
  small : l.size ≤ 2 ^ 64 * l.name-index;
  fit : AllBytes (drop l.name-index l.names) → AllBytes l.names;
}
