use Rattle.std.proofs.Common.{◌∙◌, ap, sym, subst, length, arith}
use Rattle.pa_macho.specs.declared.places.Places.{Places}
use Rattle.pa_macho.proofs.Laws.{header_ends}
use Rattle.pa_image.specs.Bytes.{header_of, IsImage}
use Rattle.pa_image.proofs.Laws.{bytes_spelled}
use Rattle.pa_load.specs.Mapping.{segments_of}
use Rattle.pa_load.proofs.segments.Segments.of.Goals as goal

pub cut-requires-clause-inside : goal.cut-requires-clause-inside
cut-requires-clause-inside c =
    let end = header_ends (header_of c.args.image.now) c.in_ok-bytes.bytes.items c.in_ok-bytes.ensures.header in
    let same = ap (λ (p : Places). p.end) c.requires.places in
    let bytes = ap length c.deref.ensures.value in
    omega arith

pub returns : goal.returns
returns c =
    let spells = subst (IsImage c.args.image.now) (sym c.deref.ensures.value) c.in_ok-bytes.ensures in
    c.in_ok-segments.ensures.segments ∙ ap (segments_of c.args.places.now) (bytes_spelled c.args.image.now c.deref.result.now c.in_ok-segments.ensures.bytes spells)
