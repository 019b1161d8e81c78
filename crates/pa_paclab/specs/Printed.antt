-- What a command prints where it is done.
use Rattle.std.specs.Prelude.{ℕ, List, ◌++◌, codes, decimal}
use Rattle.pa_engine.specs.Report.{report_text}
use Rattle.pa_paclab.specs.declared.printed.Printed.{Printed}
use Rattle.pa_paclab.specs.declared.printed.Printed.TheVariants.{Report, Disc}
use Rattle.pa_paclab.specs.Runs.{is_short}

-- the line of a string discriminator
unfoldable pub disc_line : ℕ → List ℕ
disc_line disc = codes "disc " ++ decimal disc ++ codes "\n"

abbrev pub text_of : Printed → List ℕ
text_of (Report ran form) = report_text ran.output ran.end ran.log.entries (is_short form)
text_of (Disc disc) = disc_line disc
