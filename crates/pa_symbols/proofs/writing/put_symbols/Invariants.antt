use Rattle.std.proofs.Common.{◌≡◌, ◌++◌, drop}
use Rattle.pa_layout.specs.Fields.{spelled, AllFit}
use Rattle.pa_symbols.specs.Symbols.{entries}
use Rattle.pa_symbols.proofs.writing.put_symbols.Given as goal

abbrev pub invariant-loop-mark : goal.invariant-loop-mark
invariant-loop-mark l =
    AllFit (entries l.place l.text.address (drop l.mark-index l.marks))
    × (l.out.items ++ spelled (entries l.place l.text.address (drop l.mark-index l.marks)) ≡ l.fn.out.items ++ spelled (entries 1 l.text.address l.marks))
