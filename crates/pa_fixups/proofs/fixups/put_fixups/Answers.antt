use Rattle.std.proofs.Common.{length, arith}
use Rattle.pa_fixups.proofs.Whole.{count_small, parts_put}
use Rattle.pa_fixups.proofs.fixups.put_fixups.Goals as goal

pub overflow_cast-imports : goal.overflow_cast-imports
overflow_cast-imports c = omega (arith, count_small c.args.at (length c.args.imports.now) c.requires.header)

pub returns : goal.returns
returns c =
    let header = rw c.header_fields.ensures at c.in_ok-put_fields.ensures in
    let segments = rw c.segment_fields.ensures at c.in_ok-put_fields-2.ensures in
    let pages = rw c.page_fields.ensures at c.in_ok-put_fields-3.ensures in
    let padding = rw (c.imports.ensures, c.starts_end.ensures) at c.in_ok-put_zeros.ensures in
    parts_put c.args.at c.args.starts.now c.args.imports.now c.args.out.now.items c.put_fields.new.out.items c.put_fields-2.new.out.items c.put_fields-3.new.out.items c.put_starts.new.out.items c.put_zeros.new.out.items c.put_entries.new.out.items c.put_zeros-2.new.out.items c.put_names.new.out.items
    header segments pages c.in_ok-put_starts.ensures padding c.in_ok-put_entries.ensures c.in_ok-put_zeros-2.ensures c.in_ok-put_names.ensures
