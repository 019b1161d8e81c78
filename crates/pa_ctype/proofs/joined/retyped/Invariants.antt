use Rattle.std.proofs.Common.{◌≡◌, ◌≤◌, ◌++◌, length, map}
use Rattle.pa_ctype.specs.Tables.{types_bound}
use Rattle.pa_ctype.specs.Joined.{with_type}
use Rattle.pa_ctype.proofs.joined.retyped.Given as goal

abbrev pub invariant-members : goal.invariant-members
invariant-members l = record {
  known : types_bound l.rest ≤ length l.numbers;
  made : l.made ++ map (with_type l.numbers) l.rest ≡ map (with_type l.numbers) l.members;
}

abbrev pub decreases-members : goal.decreases-members
decreases-members l = length l.rest
