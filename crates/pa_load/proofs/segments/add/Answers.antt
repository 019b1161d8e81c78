use Rattle.pa_load.proofs.Regions.{below_apart}
use Rattle.pa_load.proofs.segments.add.Goals as goal

pub add-requires : goal.add-requires
add-requires c = record { apart = below_apart c.args.base c.args.bytes c.args.rights c.args.space.now c.requires }
