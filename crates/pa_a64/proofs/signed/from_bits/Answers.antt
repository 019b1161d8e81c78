-- The extended bits, read as a signed number of 64 bits.
use Rattle.std.proofs.Common.{◌≡◌, ap, sym, subst, ◌∙◌, to_z, of_z, w32, w64, SFits}
use Rattle.std.proofs.lemmas.Int.{to_z-of_z}
use Rattle.pa_a64.specs.Decoding.{IsSigned, signed_of_bits}
use Rattle.pa_a64.proofs.TwosComplement.{signed-extended, IsSigned-signed, SFits-signed}
use Rattle.pa_a64.proofs.signed.from_bits.Goals as goal
use Rattle.pa_a64.proofs.signed.from_bits.Goals.{After-cast_signed}

value : (c : After-cast_signed) → c.cast_signed.result ≡ signed_of_bits c.args.length c.args.bits
value c = c.cast_signed.ensures ∙ (ap (to_z w64) c.sext.ensures.value ∙ signed-extended c.args.length c.args.bits c.requires.some c.requires.within c.requires.fits)

fits : (c : After-cast_signed) → IsSigned c.args.length c.cast_signed.result
fits c = subst (IsSigned c.args.length) (sym (value c)) (IsSigned-signed c.args.length c.args.bits c.requires.some c.requires.fits)

same : (c : After-cast_signed) → to_z w64 (of_z w64 c.cast_signed.result) ≡ c.cast_signed.result
same c = to_z-of_z w64 c.cast_signed.result (record { sfits = c.cast_signed.type_inv })

pub overflow_cast-result : goal.overflow_cast-result
overflow_cast-result c = subst (SFits w32) (sym (same c)) (SFits-signed c.args.length c.cast_signed.result c.requires.within (fits c))

pub returns-clause-value : goal.returns-clause-value
returns-clause-value c =
    ap (λ z. to_z w32 (of_z w32 z)) (same c)
    ∙ (to_z-of_z w32 c.cast_signed.result (SFits-signed c.args.length c.cast_signed.result c.requires.within (fits c)) ∙ value c)

pub returns-clause-fits : goal.returns-clause-fits
returns-clause-fits c =
    subst (IsSigned c.args.length) (sym (returns-clause-value c)) (IsSigned-signed c.args.length c.args.bits c.requires.some c.requires.fits)
