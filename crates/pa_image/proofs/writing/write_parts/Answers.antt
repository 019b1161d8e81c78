use Rattle.std.proofs.Common.{◌∙◌, ◌*◌, ap, ℕ, length, arith}
use Rattle.pa_macho.specs.Layout.{page_count}
use Rattle.pa_slots.specs.Pages.{page_size}
use Rattle.pa_image.specs.Bytes.{slots_at}
use Rattle.pa_image.proofs.Made.{writable, inside_pages, fits_moved, held_moved, written_made}
use Rattle.pa_image.proofs.writing.write_parts.Goals as goal

pub overflow_cast-len : goal.overflow_cast-len
overflow_cast-len c = let f = (writable c.args.image.now c.args.header.now c.args.places.now c.requires.header c.requires.places c.requires.legal).imports_few in omega (arith, f, c.len.ensures)

pub slots_at-requires-clause-small : goal.slots_at-requires-clause-small
slots_at-requires-clause-small c = let f = (writable c.args.image.now c.args.header.now c.args.places.now c.requires.header c.requires.places c.requires.legal).end in omega arith

pub overflow_cast-pages : goal.overflow_cast-pages
overflow_cast-pages c = let f = (writable c.args.image.now c.args.header.now c.args.places.now c.requires.header c.requires.places c.requires.legal).pages in omega (arith, f, c.pages.ensures)

pub write_slots-requires-clause-pages : goal.write_slots-requires-clause-pages
write_slots-requires-clause-pages c = let f = (writable c.args.image.now c.args.header.now c.args.places.now c.requires.header c.requires.places c.requires.legal).pages in omega (arith, f, c.pages.ensures)

pub write_slots-requires-clause-inside : goal.write_slots-requires-clause-inside
write_slots-requires-clause-inside c = inside_pages c.slots_at.result (slots_at c.args.header.now c.args.places.now (length c.args.image.now.imports)) c.pages.result (page_count c.args.places.now) (c.slots_at.ensures ∙ ap (slots_at c.args.header.now c.args.places.now) c.len.ensures) c.pages.ensures (writable c.args.image.now c.args.header.now c.args.places.now c.requires.header c.requires.places c.requires.legal).inside

pub write_slots-requires-clause-fits : goal.write_slots-requires-clause-fits
write_slots-requires-clause-fits c = fits_moved c.slots_at.result (slots_at c.args.header.now c.args.places.now (length c.args.image.now.imports)) c.as_slice.result.now c.args.image.now.cells c.as_slice-2.result.now c.args.image.now.fixes (c.slots_at.ensures ∙ ap (slots_at c.args.header.now c.args.places.now) c.len.ensures) c.as_slice.ensures c.as_slice-2.ensures (writable c.args.image.now c.args.header.now c.args.places.now c.requires.header c.requires.places c.requires.legal).parts.slots

pub put_text-requires-clause-small : goal.put_text-requires-clause-small
put_text-requires-clause-small c = (writable c.args.image.now c.args.header.now c.args.places.now c.requires.header c.requires.places c.requires.legal).end

pub put_linkedit-requires-clause-small : goal.put_linkedit-requires-clause-small
put_linkedit-requires-clause-small c = (writable c.args.image.now c.args.header.now c.args.places.now c.requires.header c.requires.places c.requires.legal).end

pub returns : goal.returns
returns c =
    written_made c.args.image.now c.args.header.now c.args.places.now c.in_ok-bytes.field-0.bytes.items c.in_ok-bytes.field-0.starts c.in_ok-out.out.items c.put_text.new.out.items c.extend_from_slice.new.self.items c.put_linkedit.new.out.items
    c.requires.header c.requires.places c.requires.legal (c.in_ok-bytes.ensures.size ∙ ap (λ (n : ℕ). page_size * n) c.pages.ensures) (c.in_ok-bytes.ensures.pages ∙ c.pages.ensures) c.in_ok-bytes.ensures.starts
    (held_moved c.slots_at.result (slots_at c.args.header.now c.args.places.now (length c.args.image.now.imports)) c.in_ok-bytes.field-0.starts c.in_ok-bytes.field-0.bytes.items c.as_slice.result.now c.args.image.now.cells c.as_slice-2.result.now c.args.image.now.fixes (c.slots_at.ensures ∙ ap (slots_at c.args.header.now c.args.places.now) c.len.ensures) c.as_slice.ensures c.as_slice-2.ensures c.in_ok-bytes.ensures.held)
    c.in_ok-out.ensures.bytes_are c.in_ok-put_text.ensures (rw c.deref.ensures.value at c.in_ok-extend_from_slice.ensures.items) (rw c.as_slice-3.ensures at c.in_ok-put_linkedit.ensures)
