use Rattle.std.proofs.Common.{arith}
use Rattle.std.proofs.lemmas.Grind.{common_steps}
use Rattle.pa_io.specs.Files.{file_of}
use Rattle.pa_io.proofs.files.find_file.Goals as goal

pub returns-in_err-file : goal.returns-in_err-file
unfolding file_of
returns-in_err-file c = grind (arith, common_steps)

pub returns : goal.returns
unfolding file_of
returns c = grind (arith, common_steps)
