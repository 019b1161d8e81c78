use Rattle.std.proofs.Common.{arith, ap, ◌∙◌}
use Rattle.pa_sip.specs.Sip.{siphash, compressed, finalized, word}
use Rattle.pa_sip.proofs.Words.{compressed_more, compressed_all}
use Rattle.pa_sip.proofs.sip.sip24.Goals as goal

pub loop-word-preserved : goal.loop-word-preserved
unfolding word
loop-word-preserved c =
    let e = c.in-Some.ensures.cases in
    rw (c.compress.ensures, c.from_le_bytes.ensures, e.0) (compressed_more c.args.k0 c.args.k1 c.args.bytes.now c.loop-word.state c.loop-word.rest.now (omega arith) c.loop-word.invariant c.in-Some.after.now e.1 e.2)

pub returns : goal.returns
unfolding siphash word
returns c =
    c.finish.ensures ∙ ap finalized (c.compress-2.ensures ∙ ap (compressed c.loop-word.state) c.from_le_bytes-2.ensures ∙ rw c.last_word.ensures (compressed_all c.args.k0 c.args.k1 c.args.bytes.now c.loop-word.state c.loop-word.rest.now c.in_default.ensures.cases c.loop-word.invariant))
