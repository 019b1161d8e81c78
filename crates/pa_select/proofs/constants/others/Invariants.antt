use Rattle.std.proofs.Common.{◌≡◌, ◌≤◌, ◌++◌}
use Rattle.arrayvec.specs.ArrayVec.{array_vec_len}
use Rattle.pa_select.specs.Constants as spec
use Rattle.pa_select.proofs.Others.{others_from}
use Rattle.pa_select.proofs.constants.others.Given as goal

abbrev pub invariant-loop-k : goal.invariant-loop-k
invariant-loop-k l = record {
  parts : l.others.items ++ others_from l.inverted l.value l.k ≡ spec.others l.inverted l.value;
  few : array_vec_len l.others ≤ l.k;
}
