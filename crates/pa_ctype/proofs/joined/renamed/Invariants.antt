use Rattle.std.proofs.Common.{◌≡◌, ◌≤◌, ◌++◌, length, map}
use Rattle.pa_ctype.specs.Tables.{names_bound}
use Rattle.pa_ctype.specs.Joined.{with_name}
use Rattle.pa_ctype.proofs.joined.renamed.Given as goal

abbrev pub invariant-members : goal.invariant-members
invariant-members l = record {
  known : names_bound l.rest ≤ length l.names;
  made : l.made ++ map (with_name l.names) l.rest ≡ map (with_name l.names) l.members;
}

abbrev pub decreases-members : goal.decreases-members
decreases-members l = length l.rest
