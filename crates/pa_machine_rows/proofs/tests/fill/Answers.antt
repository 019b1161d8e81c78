use Rattle.std.proofs.Common.{refl, arith}
use Rattle.std.proofs.lemmas.Bool.{lt-ltb}
use Rattle.pa_machine_rows.proofs.tests.fill.Goals as goal

pub returns-clause-line : goal.returns-clause-line
returns-clause-line c = rw (c.in_ok-bytes.ensures, lt-ltb c.args.byte 256 (omega (arith, c.ranges.byte))) refl
