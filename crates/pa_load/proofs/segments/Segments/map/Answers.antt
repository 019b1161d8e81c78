use Rattle.std.proofs.Common.{◌+◌, arith}
use Rattle.pa_mem.specs.Memory.{region_of}
use Rattle.pa_load.specs.Loaded.{text_rights, data_rights}
use Rattle.pa_load.specs.Mapping.{AllBelow}
use Rattle.pa_load.proofs.Regions.{below_added}
use Rattle.pa_load.proofs.segments.Segments.map.Goals as goal

pub add-requires-2 : goal.add-requires-2
add-requires-2 c =
    let fits = c.requires.fits in
    below_added c.args.base (c.args.base + c.args.places.now.got) c.args.space.now c.add.new.space (region_of c.args.base c.args.self.text text_rights) c.in_ok-add.ensures c.requires.above (omega arith) (omega arith)

pub add-requires-3 : goal.add-requires-3
add-requires-3 c =
    let fits = c.requires.fits in
    let order = fits.order in
    let first : AllBelow (c.args.base + c.args.places.now.got) c.add.new.space =
    below_added c.args.base (c.args.base + c.args.places.now.got) c.args.space.now c.add.new.space (region_of c.args.base c.args.self.text text_rights) c.in_ok-add.ensures c.requires.above (omega arith) (omega arith) in
    below_added (c.args.base + c.args.places.now.got) (c.args.base + c.args.places.now.linkedit) c.add.new.space c.add-2.new.space (region_of (c.args.base + c.args.places.now.got) c.args.self.contents data_rights) c.in_ok-add-2.ensures first (omega arith) (omega arith)
