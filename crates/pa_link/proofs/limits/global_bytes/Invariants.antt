use Rattle.std.proofs.Common.{◌≡◌, ◌+◌, ◌<◌, ◌^◌, length}
use Rattle.pa_link.specs.Limits.{globals_bytes}
use Rattle.pa_link.proofs.limits.global_bytes.Given as goal

abbrev pub invariant-globals : goal.invariant-globals
invariant-globals l = record {
  same : l.total + globals_bytes l.rest ≡ l.before + globals_bytes l.globals;
  fits : l.total < 2 ^ 64;
}

abbrev pub decreases-globals : goal.decreases-globals
decreases-globals l = length l.rest
