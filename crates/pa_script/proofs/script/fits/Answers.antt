use Rattle.std.proofs.Common.{sym, ap, ◌∙◌}
use Rattle.std.specs.Prelude.{position, not}
use Rattle.pa_object.specs.declared.script.Item.{Item}
use Rattle.pa_object.specs.Script.{deed_fits}
use Rattle.pa_script.proofs.AllFit.{unfit_none, if_none}
use Rattle.pa_script.proofs.script.fits.Goals as goal

pub returns-in_err-index-clause-all : goal.returns-in_err-index-clause-all
returns-in_err-index-clause-all c =
    if_none c.from_residual.result (unfit_none c.args.script.now c.args.space.now
    (sym (c.in_err-index.ensures.index ∙ ap (position (λ (item : Item). not (deed_fits item.deed c.args.space.now))) c.as_slice.ensures.items)))
