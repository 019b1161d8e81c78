use Rattle.std.proofs.Common.{sym, ap, ◌∙◌, List, ℕ}
use Rattle.pa_fixups.specs.Chain.{with_slots}
use Rattle.pa_fixups.proofs.Written.{written_again, without_slots-none}
use Rattle.pa_fixups.proofs.write.erase_slots.Goals as goal

pub returns-clause-again : goal.returns-clause-again
returns-clause-again c bytes l =
    let none = without_slots-none c.loop-fix.page c.loop-fix.rest.now c.in_default.ensures.cases in
    ap (λ (p : List ℕ). with_slots p c.args.fixes.now) (sym none ∙ c.loop-fix.invariant.1) ∙ written_again c.args.fixes.now c.args.page.now bytes c.requires.fits l
