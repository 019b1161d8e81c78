use Rattle.std.proofs.Common.{sym, ◌∙◌, arith}
use Rattle.pa_fixups.proofs.Trip.{is_found, is_only}
use Rattle.pa_fixups.proofs.chain.read_chain.Goals as goal

pub returns-clause-found : goal.returns-clause-found
returns-clause-found c =
    is_found c.args.bounds.now c.args.page.now c.args.first c.read_slots.result (λ i. omega (arith, c.type_inv.page i)) (sym c.allows.ensures ∙ c.if-not-allows.false) c.read_slots.ensures.value c.read_slots.ensures.exact

pub returns-clause-only : goal.returns-clause-only
returns-clause-only c =
    is_only c.args.bounds.now c.args.page.now c.args.first c.read_slots.result c.requires.short c.read_slots.ensures.value c.read_slots.ensures.exact
