use Rattle.pa_image.proofs.Small.{legal_small}
use Rattle.pa_image.proofs.extent.places.Goals as goal

pub header-requires : goal.header-requires
header-requires c = legal_small c.args.image.now c.requires
