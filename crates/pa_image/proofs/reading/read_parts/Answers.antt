use Rattle.std.proofs.Common.{◌≡◌, ◌∙◌, ap, refl, sym, List, length, None, Some, arith}
use Rattle.pa_fixups.specs.declared.tables.Fixups.{Fixups}
use Rattle.pa_fixups.specs.Fixups.{fixups_with}
use Rattle.pa_object.specs.declared.object.Mark.{Mark}
use Rattle.pa_slots.specs.declared.slots.Slots.{Slots}
use Rattle.pa_slots.specs.Slots.{slots_with, slots_flaw}
use Rattle.pa_symbols.specs.Reading.{symbols_flaw}
use Rattle.pa_image.specs.Bytes.{part, slots_at, text_at}
use Rattle.pa_image.specs.Reading.{symbols_at, parts_flaw}
use Rattle.pa_image.proofs.Cut.{starts_known}
use Rattle.pa_image.proofs.Whole.{err_flaw, err_only, fixups_first, slots_first, symbols_first, slots_moved, stands_made, image_only, text_only, stubs_only, consts_only, marks_at, inside_at}
use Rattle.pa_image.proofs.reading.read_parts.Goals as goal

pub returns-in_err-starts-clause-flaw : goal.returns-in_err-starts-clause-flaw
returns-in_err-starts-clause-flaw c =
    err_flaw Fixups c.from_residual.result c.in_err-starts.field-0.0 _ (parts_flaw c.args.header.now c.args.places.now c.args.bytes.now) c.from_residual.ensures.1 c.in_err-starts.ensures.flaw (λ f e. fixups_first c.args.header.now c.args.places.now c.args.bytes.now f e)

pub overflow_cast-len : goal.overflow_cast-len
overflow_cast-len c =
    let few = (starts_known c.args.header.now c.args.places.now c.in_ok-starts.field-0 c.args.bytes.now c.requires.known c.in_ok-starts.ensures.found).imports_few in
    omega (arith, few, c.len.ensures)

pub read_slots-requires-clause-pages : goal.read_slots-requires-clause-pages
read_slots-requires-clause-pages c = rw c.as_slice.ensures (starts_known c.args.header.now c.args.places.now c.in_ok-starts.field-0 c.args.bytes.now c.requires.known c.in_ok-starts.ensures.found).few

pub read_slots-requires-clause-size : goal.read_slots-requires-clause-size
read_slots-requires-clause-size c = rw (c.part.ensures, c.as_slice.ensures) (starts_known c.args.header.now c.args.places.now c.in_ok-starts.field-0 c.args.bytes.now c.requires.known c.in_ok-starts.ensures.found).size

pub read_slots-requires-clause-inside : goal.read_slots-requires-clause-inside
read_slots-requires-clause-inside c =
    inside_at c.slots_at.result (slots_at c.args.header.now c.args.places.now (length c.in_ok-starts.field-0.imports)) c.part.result.now (part c.args.places.now.got c.args.places.now.linkedit c.args.bytes.now) (c.slots_at.ensures ∙ ap (slots_at c.args.header.now c.args.places.now) c.len.ensures) c.part.ensures (starts_known c.args.header.now c.args.places.now c.in_ok-starts.field-0 c.args.bytes.now c.requires.known c.in_ok-starts.ensures.found).inside

pub returns-in_err-cells-clause-only : goal.returns-in_err-cells-clause-only
returns-in_err-cells-clause-only c = λ x s.
    err_only Slots (slots_with x.cells x.fixes) c.from_residual-in_err-cells.result c.in_err-cells.field-0.0 x c.from_residual-in_err-cells.ensures.1
    (c.in_err-cells.ensures.only (slots_with x.cells x.fixes) (rw (c.slots_at.ensures, c.len.ensures, c.as_slice.ensures, c.part.ensures) (slots_moved c.args.header.now c.args.places.now c.args.bytes.now x c.in_ok-starts.field-0.starts c.in_ok-starts.field-0.imports s (c.in_ok-starts.ensures.only (fixups_with s.starts x.imports) s.fixups))))

pub returns-in_err-cells-clause-flaw : goal.returns-in_err-cells-clause-flaw
returns-in_err-cells-clause-flaw c =
    let same : slots_flaw (slots_at c.args.header.now c.args.places.now (length c.in_ok-starts.field-0.imports)) c.in_ok-starts.field-0.starts (part c.args.places.now.got c.args.places.now.linkedit c.args.bytes.now) ≡ slots_flaw c.slots_at.result c.as_slice.result.now c.part.result.now = rw (c.slots_at.ensures, c.len.ensures, c.as_slice.ensures, c.part.ensures) refl in
    err_flaw Slots c.from_residual-in_err-cells.result c.in_err-cells.field-0.0 _ (parts_flaw c.args.header.now c.args.places.now c.args.bytes.now) c.from_residual-in_err-cells.ensures.1 c.in_err-cells.ensures.flaw
    (λ f e. slots_first c.args.header.now c.args.places.now c.args.bytes.now c.in_ok-starts.field-0.starts c.in_ok-starts.field-0.imports f c.in_ok-starts.ensures.found (same ∙ e))

pub returns-in_err-marks-clause-flaw : goal.returns-in_err-marks-clause-flaw
returns-in_err-marks-clause-flaw c =
    let same : slots_flaw (slots_at c.args.header.now c.args.places.now (length c.in_ok-starts.field-0.imports)) c.in_ok-starts.field-0.starts (part c.args.places.now.got c.args.places.now.linkedit c.args.bytes.now) ≡ slots_flaw c.slots_at.result c.as_slice.result.now c.part.result.now = rw (c.slots_at.ensures, c.len.ensures, c.as_slice.ensures, c.part.ensures) refl in
    let same' : symbols_flaw (text_at c.args.header.now) (symbols_at c.args.places.now) (part c.args.places.now.symbols c.args.places.now.symbols_end c.args.bytes.now) (part c.args.places.now.strings c.args.places.now.end c.args.bytes.now) ≡ symbols_flaw c.text_at.result c.symbols_at.result c.part-2.result.now c.part-3.result.now = rw (c.text_at.ensures, c.symbols_at.ensures, c.part-2.ensures, c.part-3.ensures) refl in
    err_flaw (List Mark) c.from_residual-in_err-marks.result c.in_err-marks.field-0.0 _ (parts_flaw c.args.header.now c.args.places.now c.args.bytes.now) c.from_residual-in_err-marks.ensures.1 c.in_err-marks.ensures.flaw
    (λ f e. symbols_first c.args.header.now c.args.places.now c.args.bytes.now c.in_ok-starts.field-0.starts c.in_ok-starts.field-0.imports (Some f) c.in_ok-starts.ensures.found (same ∙ c.in_ok-cells.ensures.flaw) (same' ∙ e))

pub returns-clause-found : goal.returns-clause-found
returns-clause-found c =
    stands_made c.args.header.now c.args.places.now c.args.bytes.now c.in_ok-text.text c.in_ok-stubs.stubs c.in_ok-consts.consts c.in_ok-cells.field-0.cells c.in_ok-marks.marks c.in_ok-starts.field-0.imports c.in_ok-cells.field-0.fixes c.in_ok-starts.field-0.starts c.requires.known (λ i. omega (arith, c.type_inv.bytes i))
    c.in_ok-text.ensures c.in_ok-stubs.ensures (c.in_ok-consts.ensures ∙ c.part-4.ensures) c.in_ok-starts.ensures.found (rw (c.slots_at.ensures, c.len.ensures, c.as_slice.ensures, c.part.ensures) at c.in_ok-cells.ensures.found) (marks_at c.text_at.result (text_at c.args.header.now) c.part-2.result.now (part c.args.places.now.symbols c.args.places.now.symbols_end c.args.bytes.now) c.part-3.result.now (part c.args.places.now.strings c.args.places.now.end c.args.bytes.now) c.in_ok-marks.marks c.text_at.ensures c.part-2.ensures c.part-3.ensures c.in_ok-marks.ensures.found)

pub returns-clause-only : goal.returns-clause-only
returns-clause-only c = λ x s.
    let e = c.in_ok-starts.ensures.only (fixups_with s.starts x.imports) s.fixups in
    image_only c.args.header.now c.in_ok-text.text c.in_ok-stubs.stubs c.in_ok-consts.consts c.in_ok-cells.field-0.cells c.in_ok-marks.marks c.in_ok-starts.field-0.imports c.in_ok-cells.field-0.fixes c.in_ok-starts.field-0.starts x s.starts s.role s.got_size
    (text_only c.args.header.now c.args.places.now c.args.bytes.now c.in_ok-text.text x s c.in_ok-text.ensures) (stubs_only c.args.header.now c.args.places.now c.args.bytes.now c.in_ok-stubs.stubs x s c.in_ok-stubs.ensures)
    (consts_only c.args.header.now c.args.places.now c.args.bytes.now c.in_ok-consts.consts x c.requires.known s (c.in_ok-consts.ensures ∙ c.part-4.ensures)) e
    (c.in_ok-cells.ensures.only (slots_with x.cells x.fixes) (rw (c.slots_at.ensures, c.len.ensures, c.as_slice.ensures, c.part.ensures) (slots_moved c.args.header.now c.args.places.now c.args.bytes.now x c.in_ok-starts.field-0.starts c.in_ok-starts.field-0.imports s e)))
    (c.in_ok-marks.ensures.only x.marks (marks_at (text_at c.args.header.now) c.text_at.result (part c.args.places.now.symbols c.args.places.now.symbols_end c.args.bytes.now) c.part-2.result.now (part c.args.places.now.strings c.args.places.now.end c.args.bytes.now) c.part-3.result.now x.marks (sym c.text_at.ensures) (sym c.part-2.ensures) (sym c.part-3.ensures) s.marks))

pub returns-clause-flaw : goal.returns-clause-flaw
returns-clause-flaw c =
    let same : slots_flaw (slots_at c.args.header.now c.args.places.now (length c.in_ok-starts.field-0.imports)) c.in_ok-starts.field-0.starts (part c.args.places.now.got c.args.places.now.linkedit c.args.bytes.now) ≡ slots_flaw c.slots_at.result c.as_slice.result.now c.part.result.now = rw (c.slots_at.ensures, c.len.ensures, c.as_slice.ensures, c.part.ensures) refl in
    let same' : symbols_flaw (text_at c.args.header.now) (symbols_at c.args.places.now) (part c.args.places.now.symbols c.args.places.now.symbols_end c.args.bytes.now) (part c.args.places.now.strings c.args.places.now.end c.args.bytes.now) ≡ symbols_flaw c.text_at.result c.symbols_at.result c.part-2.result.now c.part-3.result.now = rw (c.text_at.ensures, c.symbols_at.ensures, c.part-2.ensures, c.part-3.ensures) refl in
    symbols_first c.args.header.now c.args.places.now c.args.bytes.now c.in_ok-starts.field-0.starts c.in_ok-starts.field-0.imports None c.in_ok-starts.ensures.found (same ∙ c.in_ok-cells.ensures.flaw) (same' ∙ c.in_ok-marks.ensures.flaw)
