use Rattle.std.proofs.Common.{sym, ap, subst, ◌∙◌, Some, List, ℕ}
use Rattle.pa_layout.specs.declared.checks.Flaw.{Flaw}
use Rattle.pa_layout.specs.Flaws.{flaw_at}
use Rattle.pa_fixups.specs.declared.bounds.Bounds.{Bounds}
use Rattle.pa_fixups.specs.Chain.{IsChain, chain_flaw}
use Rattle.pa_slots.specs.Pages.{bounds_of, Below}
use Rattle.pa_slots.proofs.Chains.{chain_taken, no_chain, page_told, page_none, flaw_place, chain_writable, writable_below}
use Rattle.pa_slots.proofs.reading.read_page.Goals as goal

pub returns-then-start-eq-NO_SLOT-clause-value : goal.returns-then-start-eq-NO_SLOT-clause-value
returns-then-start-eq-NO_SLOT-clause-value c = c.new.ensures ∙ sym (no_chain c.args.at.now c.args.page c.args.start c.args.bytes.now c.if-start-eq-NO_SLOT.true).0

pub returns-then-start-eq-NO_SLOT-clause-exact : goal.returns-then-start-eq-NO_SLOT-clause-exact
returns-then-start-eq-NO_SLOT-clause-exact c = (no_chain c.args.at.now c.args.page c.args.start c.args.bytes.now c.if-start-eq-NO_SLOT.true).1

pub told_place-requires-clause-place : goal.told_place-requires-clause-place
told_place-requires-clause-place c = flaw_place c.bounds.result c.args.bytes.now c.args.start c.in-Err-Refused.place c.in-Err-Refused.rule c.requires.size (rw c.in-Err-Refused.field-0-is at c.in-Err-Refused.ensures.flaw)

pub returns-in-Ok-clause-value : goal.returns-in-Ok-clause-value
returns-in-Ok-clause-value c =
    chain_taken c.args.at.now c.args.page c.args.start c.args.bytes.now c.in-Ok.fixes c.requires.size c.if-start-eq-NO_SLOT.false
    (subst (λ (b : Bounds). IsChain b c.args.bytes.now c.args.start c.in-Ok.fixes) c.bounds.ensures c.in-Ok.ensures.found)

pub returns-in-Ok-clause-writable : goal.returns-in-Ok-clause-writable
returns-in-Ok-clause-writable c = chain_writable c.bounds.result c.args.bytes.now c.args.start c.in-Ok.fixes c.in-Ok.ensures.found

pub returns-in-Ok-clause-below : goal.returns-in-Ok-clause-below
returns-in-Ok-clause-below c = subst (λ (n : ℕ). Below n c.in-Ok.fixes) c.requires.size (writable_below _ c.in-Ok.fixes (chain_writable c.bounds.result c.args.bytes.now c.args.start c.in-Ok.fixes c.in-Ok.ensures.found))

pub returns-in-Ok-clause-exact : goal.returns-in-Ok-clause-exact
returns-in-Ok-clause-exact c =
    page_none c.args.at.now c.args.page c.args.start c.args.bytes.now c.if-start-eq-NO_SLOT.false
    (ap (λ (b : Bounds). chain_flaw b c.args.bytes.now c.args.start) (sym c.bounds.ensures) ∙ c.in-Ok.ensures.flaw)

pub returns-in-Err-Refused-clause-exact : goal.returns-in-Err-Refused-clause-exact
returns-in-Err-Refused-clause-exact c =
    page_told c.args.at.now c.args.page c.args.start c.in-Err-Refused.place c.in-Err-Refused.rule c.args.bytes.now c.if-start-eq-NO_SLOT.false
    (ap (λ (b : Bounds). chain_flaw b c.args.bytes.now c.args.start) (sym c.bounds.ensures) ∙ (rw c.in-Err-Refused.field-0-is at c.in-Err-Refused.ensures.flaw))
    ∙ ap (λ (n : ℕ). Some (flaw_at c.in-Err-Refused.rule n)) (sym c.told_place.ensures)
