use Rattle.std.proofs.Common.{◌≡◌, ◌+◌, ◌%◌, ◌≤◌, length}
use Rattle.std.specs.List.{sum_by}
use Rattle.pa_lir.specs.Parts.{rounded}
use Rattle.pa_lir.proofs.counts.are_few_bytes.Given as goal

-- what is left and what was taken make the most
abbrev pub invariant-locals : goal.invariant-locals
invariant-locals l = record {
  total : sum_by rounded l.locals + l.left ≡ sum_by rounded l.rest + 1048576;
  aligned : l.left % 8 ≡ 0;
}

abbrev pub decreases-locals : goal.decreases-locals
decreases-locals l = length l.rest
