use Rattle.pa_image.proofs.Laws.{legal_has_bytes, has_bytes_legal}
use Rattle.pa_image.proofs.writing.legal.Goals as goal

pub returns-clause-bytes : goal.returns-clause-bytes
returns-clause-bytes c = let e = c.fits.ensures.legal in (λ t. legal_has_bytes c.args.image.now (e.0 t), λ b. e.1 (has_bytes_legal c.args.image.now c.fits.ensures.words.cells b))
