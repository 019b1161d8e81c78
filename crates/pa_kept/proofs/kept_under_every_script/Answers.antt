use Rattle.pa_kept.proofs.Begun as begun
use Rattle.pa_kept.proofs.kept_under_every_script.Goals as goal

pub returns : goal.returns
returns c = record { pairs = begun.secure; programs = begun.programs }
