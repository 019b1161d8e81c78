use Rattle.std.proofs.Common.{◌≡◌, ◌++◌, drop}
use Rattle.pa_layout.specs.Names.{ended}
use Rattle.pa_symbols.specs.Symbols.{names_of, strings_of}
use Rattle.pa_symbols.proofs.writing.put_strings.Given as goal

abbrev pub invariant-loop-mark : goal.invariant-loop-mark
invariant-loop-mark l = l.out.items ++ ended (names_of (drop l.mark-index l.marks)) ≡ l.fn.out.items ++ strings_of l.marks
