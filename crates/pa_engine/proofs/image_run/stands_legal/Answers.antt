use Rattle.std.proofs.Common.{subst}
use Rattle.pa_image.specs.Writing.{AreBytes}
use Rattle.pa_image.proofs.Laws.{image_legal}
use Rattle.pa_engine.proofs.image_run.stands_legal.Goals as goal

pub returns : goal.returns
returns c = image_legal c.args.image.now c.args.bytes.now c.bytes_fit.ensures (subst AreBytes c.as_slice.ensures c.bytes_fit-2.ensures) c.requires
