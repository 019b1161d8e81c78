use Rattle.pa_macho.proofs.Front.{is_front, front_written}
use Rattle.pa_macho.proofs.writing.write_header.Goals as goal

pub returns : goal.returns
returns c =
    is_front c.args.header.now c.put_header.new.out.items c.requires
    (front_written c.args.header.now c.sizes-sizes.result c.places.result c.new-out.result.items c.put_header.new.out.items c.new-out.ensures.items c.in_ok-put_header.ensures c.places.ensures.value c.sizes-sizes.ensures)
