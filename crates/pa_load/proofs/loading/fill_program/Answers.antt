use Rattle.std.proofs.Common.{◌≡◌, ℕ, List, ◌-◌, ◌∙◌, ap, sym, subst, length}
use Rattle.pa_fixups.specs.declared.kind.Fix.{Fix}
use Rattle.pa_image.specs.Writing.{bytes_of}
use Rattle.pa_load.specs.declared.segments.Segments.{Segments}
use Rattle.pa_load.specs.Mapping.{segments_of}
use Rattle.pa_load.specs.Ready.{AllReady}
use Rattle.pa_load.proofs.Whole.{length-contents}
use Rattle.pa_load.proofs.loading.fill_program.Goals as goal

pub fill-requires-clause-ready : goal.fill-requires-clause-ready
fill-requires-clause-ready g c =
    let value = c.deref_mut.ensures.value in
    let items = c.into_vec-bytes.ensures in
    let part = c.in_ok-text.contents-is in
    let made = ap (λ (s : Segments). s.contents) c.in_ok-text.ensures in
    let contents : c.deref_mut.result.now ≡ (segments_of c.args.places.now (bytes_of c.args.main.now)).contents = cc in
    let len : length c.deref_mut.result.now ≡ c.args.places.now.linkedit - c.args.places.now.got = ap length contents ∙ length-contents c.args.main.now c.args.places.now c.requires.places c.requires.legal in
    subst (λ (fixes : List Fix). AllReady c.args.placed.now (length c.deref_mut.result.now) fixes) (sym c.as_slice-fixes.ensures)
    (subst (λ (n : ℕ). AllReady c.args.placed.now n c.args.main.now.fixes) (sym len) c.requires.ready)
