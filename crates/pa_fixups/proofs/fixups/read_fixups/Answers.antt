use Rattle.std.proofs.Common.{arith}
use Rattle.pa_fixups.proofs.Told.{refused_place}
use Rattle.pa_fixups.proofs.Whole.{is_found, is_only}
use Rattle.pa_fixups.proofs.fixups.read_fixups.Goals as goal

pub returns-clause-found : goal.returns-clause-found
returns-clause-found c = is_found c.args.at c.args.part.now c.read_parts.result (λ i. omega (arith, c.type_inv.part i)) c.read_parts.ensures.value c.read_parts.ensures.exact

pub returns-clause-only : goal.returns-clause-only
returns-clause-only c = is_only c.args.at c.args.part.now c.read_parts.result c.read_parts.ensures.value c.read_parts.ensures.exact

pub returns-clause-place : goal.returns-clause-place
returns-clause-place c = refused_place c.args.at c.args.part.now c.read_parts.result (λ i. omega (arith, c.type_inv.part i)) c.read_parts.ensures.exact
