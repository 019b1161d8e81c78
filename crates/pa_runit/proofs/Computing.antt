-- What has to unfold where a file is typed by computation: rows name it.
use Rattle.std.specs.Prelude.{ℕ}
use Rattle.pa_sip.specs.Discriminator.{discriminator}
use Rattle.pa_sip.specs.Sip.{siphash, word, initial, sip_round, compressed, finalized}
use Rattle.pa_rexpr.proofs.Computing as expressions
use Rattle.pa_runit.specs.Bodies.{file_specs}
use Rattle.pa_runit.specs.Initializers.{filled}
use Rattle.pa_runit.specs.Statements.{statement}

unfoldable pub computing : ℕ
unfolding expressions.computing file_specs filled statement discriminator siphash word initial sip_round compressed finalized
computing = 0
