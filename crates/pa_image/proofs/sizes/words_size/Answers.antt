use Rattle.std.proofs.Common.{refl, arith}
use Rattle.pa_image.proofs.Made.{words_fit}
use Rattle.pa_image.proofs.sizes.words_size.Goals as goal

pub returns-clause-fit : goal.returns-clause-fit
returns-clause-fit c = words_fit c.args.words.now c.args.words.now refl (λ i. omega (arith, c.type_inv.words i))
