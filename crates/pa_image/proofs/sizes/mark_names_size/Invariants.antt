use Rattle.std.proofs.Common.{◌≡◌, ◌+◌, ◌*◌, ◌≤◌, ◌^◌, length, drop}
use Rattle.pa_layout.specs.Names.{ended}
use Rattle.pa_symbols.specs.Symbols.{names_of}
use Rattle.pa_image.specs.Writing.{AllBytes}
use Rattle.pa_image.proofs.sizes.mark_names_size.Given as goal

abbrev pub invariant-loop-mark : goal.invariant-loop-mark
invariant-loop-mark l = record {
  size : l.size + length (ended (names_of (drop l.mark-index l.marks))) ≡ length (ended (names_of l.marks));
  small : l.size ≤ 2 ^ 64 * l.mark-index;
  fit : AllBytes (names_of (drop l.mark-index l.marks)) → AllBytes (names_of l.marks);
}
