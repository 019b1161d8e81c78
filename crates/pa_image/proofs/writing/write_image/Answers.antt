use Rattle.pa_image.proofs.Small.{legal_small}
use Rattle.pa_image.proofs.writing.write_image.Goals as goal

pub header-header-requires : goal.header-header-requires
header-header-requires c = legal_small c.args.image.now c.requires
