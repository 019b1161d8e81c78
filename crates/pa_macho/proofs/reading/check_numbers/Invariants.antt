use Rattle.std.proofs.Common.{◌≡◌, length, drop}
use Rattle.pa_layout.specs.Flaws.{first}
use Rattle.pa_macho.specs.Reading.{HasRoom, number_checks}
use Rattle.pa_macho.proofs.reading.check_numbers.Given as goal

abbrev pub invariant-loop-shape : goal.invariant-loop-shape
invariant-loop-shape l = record {
  room : HasRoom l.at (drop l.shape-index l.shapes) (length l.bytes);
  flaw : first (number_checks l.at (drop l.shape-index l.shapes)) l.bytes ≡ first (number_checks 32 l.shapes) l.bytes;
}
