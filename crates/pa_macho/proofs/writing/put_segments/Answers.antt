use Rattle.pa_layout.specs.Fields.{spelled}
use Rattle.pa_macho.specs.Layout.{header_of, text_shape, data_shape, bare_shape, fixups_shape, symbols_shape, text_segment, text_section, stubs_section, consts_section, data_segment, got_section, cells_section, linkedit_segment, fixups_command, symbols_command}
use Rattle.pa_macho.specs.Writing.{command}
use Rattle.pa_macho.proofs.Front.{parts_put}
use Rattle.pa_macho.proofs.writing.put_segments.Goals as goal

pub returns : goal.returns
returns c =
    parts_put c.args.out.now.items c.put_command.new.out.items c.put_fields.new.out.items c.put_fields-2.new.out.items c.put_fields-3.new.out.items c.put_fields-4.new.out.items c.put_command-2.new.out.items c.put_fields-5.new.out.items c.put_fields-6.new.out.items c.put_fields-7.new.out.items c.put_command-3.new.out.items c.put_fields-8.new.out.items c.put_command-4.new.out.items c.put_fields-9.new.out.items c.put_command-5.new.out.items c.put_fields-10.new.out.items
    (command text_shape)
    (spelled (text_segment (header_of c.args.sizes.now) c.args.places.now c.args.places.now.end))
    (spelled (text_section (header_of c.args.sizes.now)))
    (spelled (stubs_section (header_of c.args.sizes.now) c.args.places.now))
    (spelled (consts_section (header_of c.args.sizes.now) c.args.places.now))
    (command data_shape)
    (spelled (data_segment (header_of c.args.sizes.now) c.args.places.now c.args.places.now.end))
    (spelled (got_section (header_of c.args.sizes.now) c.args.places.now))
    (spelled (cells_section (header_of c.args.sizes.now) c.args.places.now))
    (command bare_shape)
    (spelled (linkedit_segment (header_of c.args.sizes.now) c.args.places.now c.args.places.now.end))
    (command fixups_shape)
    (spelled (fixups_command (header_of c.args.sizes.now) c.args.places.now))
    (command symbols_shape)
    (spelled (symbols_command (header_of c.args.sizes.now) c.args.places.now))
    c.in_ok-put_command.ensures
    (rw c.fields.ensures at c.in_ok-put_fields.ensures)
    (rw c.fields-2.ensures at c.in_ok-put_fields-2.ensures)
    (rw c.fields-3.ensures at c.in_ok-put_fields-3.ensures)
    (rw c.fields-4.ensures at c.in_ok-put_fields-4.ensures)
    c.in_ok-put_command-2.ensures
    (rw c.fields-5.ensures at c.in_ok-put_fields-5.ensures)
    (rw c.fields-6.ensures at c.in_ok-put_fields-6.ensures)
    (rw c.fields-7.ensures at c.in_ok-put_fields-7.ensures)
    c.in_ok-put_command-3.ensures
    (rw c.fields-8.ensures at c.in_ok-put_fields-8.ensures)
    c.in_ok-put_command-4.ensures
    (rw c.fixups_command.ensures at c.in_ok-put_fields-9.ensures)
    c.in_ok-put_command-5.ensures
    (rw c.symbols_command.ensures at c.in_ok-put_fields-10.ensures)
