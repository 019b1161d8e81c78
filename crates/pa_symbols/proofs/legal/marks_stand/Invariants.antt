use Rattle.std.proofs.Common.{◌≡◌, ◌<◌, ◌^◌, drop}
use Rattle.pa_symbols.specs.Legal.{marks_stand}
use Rattle.pa_symbols.proofs.legal.marks_stand.Given as goal

abbrev pub invariant-loop-mark : goal.invariant-loop-mark
invariant-loop-mark l =
    (l.place < 2 ^ 66) × (marks_stand l.text l.place l.least (drop l.mark-index l.marks) ≡ marks_stand l.text 1 0 l.marks)
