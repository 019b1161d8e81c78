use Rattle.std.proofs.Common.{◌≡◌, ◌+◌, ◌*◌, ◌++◌, drop}
use Rattle.pa_linker.specs.Linked.{code_from}
use Rattle.pa_linker.specs.Tables.{layout_in}
use Rattle.pa_linker.proofs.text.put_code.Given as goal

abbrev pub invariant-loop-at : goal.invariant-loop-at
invariant-loop-at l =
    l.out ++ code_from (layout_in l.layout) l.object.refs l.at (l.place + 4 * l.at) (drop l.at l.object.code)
    ≡ l.fn.out ++ code_from (layout_in l.layout) l.object.refs 0 l.place l.object.code
