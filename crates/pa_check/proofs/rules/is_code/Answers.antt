use Rattle.std.proofs.Common.{refl, sym}
use Rattle.pa_check.specs.Text.{text_of}
use Rattle.pa_check.proofs.Words.{stub_words_of}
use Rattle.pa_check.proofs.rules.is_code.Goals as goal

pub returns : goal.returns
returns c = rw (c.either.ensures, c.is_entry.ensures, c.is_stub.ensures (text_of c.args.image.now) (sym c.requires.stubs) (rw c.len.ensures (stub_words_of c.args.image.now))) refl
