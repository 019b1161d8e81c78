use Rattle.std.proofs.Common.{take}
use Rattle.std.specs.List.{IsDistinct}
use Rattle.std.specs.Str.{bytes_eq}
use Rattle.pa_symbols.specs.Legal.{Covers}
use Rattle.pa_symbols.specs.Symbols.{public_names}
use Rattle.pa_symbols.proofs.legal.are_distinct_by.Given as goal

abbrev pub invariant-loop-k : goal.invariant-loop-k
invariant-loop-k l = record { covers : Covers l.key l.table (take l.k l.marks); distinct : IsDistinct bytes_eq (public_names (take l.k l.marks)) }
