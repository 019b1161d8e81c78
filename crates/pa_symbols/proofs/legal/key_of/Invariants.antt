-- What was taken makes with the message of the marks ahead that of all.
use Rattle.std.proofs.Common.{◌≡◌, ◌++◌, ℕ, List, drop}
use Rattle.pa_names.specs.Key.{Took}
use Rattle.pa_symbols.specs.Legal.{message}
use Rattle.pa_symbols.proofs.legal.key_of.Given as goal

abbrev pub invariant-loop-mark : goal.invariant-loop-mark
invariant-loop-mark l = (taken : List ℕ) × Took l.digest taken × (taken ++ message (drop l.mark-index l.marks) ≡ message l.marks)
