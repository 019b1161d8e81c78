use Rattle.std.proofs.Common.{◌≡◌, length, drop}
use Rattle.pa_layout.specs.Flaws.{first}
use Rattle.pa_macho.specs.Reading.{HasRoom, size_checks}
use Rattle.pa_macho.proofs.reading.check_sizes.Given as goal

abbrev pub invariant-loop-shape : goal.invariant-loop-shape
invariant-loop-shape l = record {
  room : HasRoom l.at (drop l.shape-index l.shapes) (length l.bytes);
  flaw : first (size_checks l.at (drop l.shape-index l.shapes)) l.bytes ≡ first (size_checks 32 l.shapes) l.bytes;
}
