use Rattle.std.proofs.Common.{arith}
use Rattle.pa_slots.proofs.Whole.{is_found, is_only}
use Rattle.pa_slots.proofs.reading.read_slots.Goals as goal

pub returns-clause-found : goal.returns-clause-found
returns-clause-found c = is_found c.args.at.now c.args.starts.now c.args.bytes.now c.read_parts.result (λ i. omega (arith, c.type_inv.bytes i)) c.requires.size c.requires.inside c.read_parts.ensures.value c.read_parts.ensures.exact

pub returns-clause-only : goal.returns-clause-only
returns-clause-only c = is_only c.args.at.now c.args.starts.now c.args.bytes.now c.read_parts.result c.requires.size c.requires.inside c.read_parts.ensures.value c.read_parts.ensures.exact
