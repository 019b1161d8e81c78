use Rattle.std.proofs.Common.{length}
use Rattle.pa_sip.proofs.Words.{Compressed}
use Rattle.pa_sip.proofs.sip.sip24.Given as goal

abbrev pub invariant-loop-word : goal.invariant-loop-word
invariant-loop-word l = Compressed l.k0 l.k1 l.bytes l.state l.rest

abbrev pub decreases-loop-word : goal.decreases-loop-word
decreases-loop-word l = length l.rest
