use Rattle.pa_fixups.specs.Fixups.{fixups_bytes, fixups_with}
use Rattle.pa_symbols.specs.Symbols.{symbols_of, strings_of}
use Rattle.pa_image.specs.Bytes.{data_at, text_at}
use Rattle.pa_image.specs.Writing.{gap}
use Rattle.pa_image.proofs.Made.{five_put}
use Rattle.pa_image.proofs.writing.put_linkedit.Goals as goal

pub returns : goal.returns
returns c =
    let i = c.args.image.now in
    let h = c.args.header.now in
    let p = c.args.places.now in
    five_put c.args.out.now.items c.put_fixups.new.out.items c.put_gap.new.out.items c.put_symbols.new.out.items c.put_gap-2.new.out.items c.put_strings.new.out.items
    (fixups_bytes (data_at h.role p) (fixups_with c.args.starts.now i.imports)) (gap p.fixups_end p.symbols) (symbols_of (text_at h) i.marks) (gap p.symbols_end p.strings) (strings_of i.marks)
    (rw (c.as_slice.ensures, c.data_at.ensures) at c.in_ok-put_fixups.ensures) c.in_ok-put_gap.ensures (rw (c.as_slice-marks.ensures, c.text_at.ensures) at c.in_ok-put_symbols.ensures) c.in_ok-put_gap-2.ensures (rw c.as_slice-marks.ensures at c.in_ok-put_strings.ensures)
