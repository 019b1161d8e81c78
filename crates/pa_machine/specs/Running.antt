-- What contracts see of a machine.
use Rattle.std.specs.Prelude.{ℕ, Option, Some, None}
use Rattle.pa_object.specs.declared.end.End.{End}
use Rattle.pa_object.specs.Machine as definition
use Rattle.pa_machine.specs.declared.went.Went.{Went}
use Rattle.pa_machine.specs.declared.went.Went.TheVariants.{Goes, Ended}

-- the machine, how many steps it can make before it takes more memory, and the function for its authentication codes
pub record Running (P : Type 0) : Type 0 where
  pub machine : definition.Machine
  pub spare : ℕ
  pub pac : P

-- whether a machine goes on
abbrev pub went : Option End → Went
went None = Goes
went (Some end) = Ended end
