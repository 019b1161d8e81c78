use Rattle.std.proofs.Common.{sym, ◌∙◌, refl, subst, List, ℕ, length}
use Rattle.pa_fixups.specs.Chain.{Linked}
use Rattle.pa_fixups.proofs.Written.{slots_linked, with_slots-none}
use Rattle.pa_fixups.proofs.write.write_chain.Goals as goal

pub returns-clause-linked : goal.returns-clause-linked
returns-clause-linked c =
    let none = with_slots-none c.loop-fix.page c.loop-fix.rest.now c.in_default.ensures.cases in
    subst (λ (p : List ℕ). Linked p c.args.fixes.now) (sym c.loop-fix.invariant.2 ∙ none) (slots_linked (length c.args.page.now) c.args.fixes.now c.args.page.now refl c.requires.short c.requires.fits)
