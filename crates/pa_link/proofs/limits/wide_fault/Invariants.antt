use Rattle.std.proofs.Common.{◌≡◌, length}
use Rattle.pa_link.specs.Limits.{wide_fault}
use Rattle.pa_link.proofs.limits.wide_fault.Given as goal

abbrev pub invariant-functions : goal.invariant-functions
invariant-functions l = wide_fault l.file l.rest ≡ wide_fault l.file l.functions

abbrev pub decreases-functions : goal.decreases-functions
decreases-functions l = length l.rest
