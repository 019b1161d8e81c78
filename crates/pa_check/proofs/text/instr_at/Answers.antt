use Rattle.std.proofs.Common.{refl}
use Rattle.pa_check.proofs.Words.{instr_of}
use Rattle.pa_check.proofs.text.instr_at.Goals as goal

pub returns : goal.returns
returns c = rw (instr_of c.args.image.now c.args.k c.requires, c.decode.ensures.instruction, c.as_slice.ensures) refl
