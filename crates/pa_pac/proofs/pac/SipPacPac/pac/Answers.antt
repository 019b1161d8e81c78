use Rattle.std.proofs.Common.{◌≡◌, ◌∙◌, ◌^◌, ◌%◌, ap, arith}
use Rattle.pa_sip.specs.Sip.{siphash}
use Rattle.pa_pac.specs.Functions.{sip_value}
use Rattle.pa_pac.proofs.pac.SipPacPac.pac.Goals as goal

pub returns : goal.returns
unfolding sip_value
returns c =
    let whole : c.sip24.result ≡ c.sip24.result % 2 ^ 64 = omega arith in
    whole ∙ ap (λ n. n % 2 ^ 64) (c.sip24.ensures ∙ ap (siphash c.args.self.now.k0 c.args.self.now.k1) c.sip_message.ensures)
