use Rattle.std.proofs.Common.{◌≡◌, refl, subst, Some}
use Rattle.pa_image.specs.declared.image.Image.{Image}
use Rattle.pa_load.specs.Loaded.{first_missing}
use Rattle.pa_engine.proofs.image_run.load_program.Goals as goal

pub returns-in-Err-Refused-clause-missing : goal.returns-in-Err-Refused-clause-missing
returns-in-Err-Refused-clause-missing g c =
    let m = rw c.in-Err-Refused.field-0-is at c.in-Err-Refused.ensures.missing in
    let e = subst (λ (runtime : Image). first_missing c.args.image.now runtime ≡ Some c.in-Err-Refused.place) c.in_ok-runtime.ensures.value m.1 in
    rw (c.refused.ensures, m.0, e) refl
