use Rattle.std.proofs.Common.{◌≤◌, length, arith}
use Rattle.pa_pspec.proofs.Voids.{two_or_more}
use Rattle.pa_pspec.proofs.parameter.is_only_void.Goals as goal

pub returns-in_default-2 : goal.returns-in_default-2
returns-in_default-2 c = let h : 2 ≤ length c.args.parameters.now = omega (arith, c.in_default.len_at_least) in two_or_more c.args.parameters.now h
