-- The cast's low bits are the two's complement.
use Rattle.std.proofs.Common.{ap, ◌∙◌, of_z, w32, w64}
use Rattle.std.proofs.lemmas.Int.{to_z-of_z}
use Rattle.pa_num.specs.Bits.{truncated}
use Rattle.pa_a64.proofs.TwosComplement.{truncated-signed}
use Rattle.pa_a64.proofs.signed.to_bits.Goals as goal

pub returns-clause-bits : goal.returns-clause-bits
returns-clause-bits c =
    c.trunc.ensures.value
    ∙ (ap (λ z. truncated z c.args.length) (c.cast_unsigned.ensures ∙ ap (of_z w64) (to_z-of_z w64 c.from.result (record { sfits = c.from.type_inv }) ∙ (c.from.ensures ∙ to_z-of_z w32 c.args.value c.ranges.value)))
    ∙ truncated-signed c.args.length c.args.value c.requires.some c.requires.within c.requires.fits)
