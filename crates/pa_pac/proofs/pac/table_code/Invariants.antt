use Rattle.std.proofs.Common.{◌≡◌, length}
use Rattle.pa_pac.specs.Functions.{table_value}
use Rattle.pa_pac.proofs.pac.table_code.Given as goal

abbrev pub invariant-loop-row : goal.invariant-loop-row
invariant-loop-row l = table_value l.fn.rows l.key l.pointer l.modifier ≡ table_value l.rest l.key l.pointer l.modifier

abbrev pub decreases-loop-row : goal.decreases-loop-row
decreases-loop-row l = length l.rest
