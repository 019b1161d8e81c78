use Rattle.std.proofs.Common.{◌%◌}
use Rattle.pa_sip.proofs.Words.{filled}
use Rattle.pa_sip.proofs.sip.last_word.Goals as goal

pub returns : goal.returns
returns c = rw (c.copy_from_slice.ensures.after, ← c.requires.rest) (filled c.args.rest.now (c.args.len % 256) c.requires.few)
