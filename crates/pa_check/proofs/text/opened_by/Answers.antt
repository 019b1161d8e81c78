use Rattle.std.proofs.Common.{arith}
use Rattle.pa_check.proofs.Legal.{small}
use Rattle.pa_check.proofs.Words.{length-text}
use Rattle.pa_check.proofs.text.opened_by.Goals as goal

pub place-requires : goal.place-requires
place-requires c = let a = c.requires.function.inside in let b = c.requires.to in let d = length-text c.args.image.now in let s = (small c.args.image.now c.requires.legal).text in omega arith
