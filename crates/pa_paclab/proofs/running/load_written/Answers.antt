-- What was read is the image that was written.
use Rattle.std.proofs.Common.{◌≡◌, sym, subst}
use Rattle.std.specs.Prelude.{IfOk}
use Rattle.pa_image.specs.declared.image.Image.{Image}
use Rattle.pa_image.specs.Bytes.{IsImage}
use Rattle.pa_image.proofs.Laws.{one_image}
use Rattle.pa_image.specs.Pal.{pal}
use Rattle.pa_load.specs.Loaded.{IsLoaded, state_of}
use Rattle.pa_straight_image.specs.Image.{image_of}
use Rattle.pa_paclab.proofs.running.load_written.Goals as goal

pub load_program-requires : goal.load_program-requires
load_program-requires g c =
    let written = subst (IsImage (image_of c.args.program.now)) (sym c.deref.ensures.value) c.in_ok-bytes.ensures in
    (c.args.program.now, c.requires, one_image c.in_ok-image.image (image_of c.args.program.now) c.deref.result.now c.in_ok-image.ensures written)

pub returns : goal.returns
returns g c =
    let written = subst (IsImage (image_of c.args.program.now)) (sym c.deref.ensures.value) c.in_ok-bytes.ensures in
    let same : c.in_ok-image.image ≡ image_of c.args.program.now = one_image c.in_ok-image.image (image_of c.args.program.now) c.deref.result.now c.in_ok-image.ensures written in
    subst (λ (image : Image). IfOk c.load_program.result (λ loaded. IsLoaded (g.P.Pac.code c.args.p.now) image pal c.args.slide (state_of loaded))) same c.load_program.ensures
