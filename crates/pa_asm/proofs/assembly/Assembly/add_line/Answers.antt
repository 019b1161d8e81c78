use Rattle.std.proofs.Common.{refl, sym}
use Rattle.pa_asm.specs.Parts.{nothing}
use Rattle.pa_asm.specs.Reading.{parts_so_far}
use Rattle.pa_asm.proofs.Going.{joined-nothing}
use Rattle.pa_asm.proofs.assembly.Assembly.add_line.Goals as goal

pub returns-in-Blank-clause-added : goal.returns-in-Blank-clause-added
returns-in-Blank-clause-added c = (nothing, rw c.in-Blank.is refl, sym (joined-nothing (parts_so_far c.args.self.now)))
