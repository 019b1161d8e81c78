use Rattle.std.proofs.Common.{◌∙◌, arith, refl}
use Rattle.pa_macho.proofs.Laws.{small_sizes, is_found, is_only, none_only, refused}
use Rattle.pa_macho.proofs.reading.read_header.Goals as goal

pub header-requires : goal.header-requires
header-requires c = small_sizes c.in_ok-sizes.sizes c.args.bytes.now (λ i. omega (arith, c.type_inv.bytes i)) c.in_ok-sizes.ensures.value c.in_ok-sizes.ensures.exact

pub returns-clause-found : goal.returns-clause-found
returns-clause-found c = is_found c.args.bytes.now c.header.result (λ i. omega (arith, c.type_inv.bytes i)) (c.header.ensures ∙ c.in_ok-sizes.ensures.value) c.in_ok-sizes.ensures.exact

pub returns-clause-only : goal.returns-clause-only
returns-clause-only c = λ h i. rw (is_only c.args.bytes.now c.header.result (c.header.ensures ∙ c.in_ok-sizes.ensures.value) h i) refl

pub returns-in_err-sizes-clause-only : goal.returns-in_err-sizes-clause-only
returns-in_err-sizes-clause-only c = λ h i. absurd (none_only c.args.bytes.now c.in_err-sizes.field-0.0 c.in_err-sizes.ensures.exact h i)

pub returns-in_err-sizes-clause-flaw : goal.returns-in_err-sizes-clause-flaw
returns-in_err-sizes-clause-flaw c = refused c.args.bytes.now c.from_residual.result c.in_err-sizes.field-0.0 c.from_residual.ensures.1 c.in_err-sizes.ensures.exact
