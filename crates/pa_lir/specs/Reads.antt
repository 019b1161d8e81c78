-- The temporaries that an operation reads, as the code hands them on.
use Rattle.std.specs.Prelude.{ℕ, List, ◌++◌, Option}
use Rattle.std.specs.Option.{option_to_list}
use Rattle.pa_lir.specs.declared.counts.Reads.{Reads}

abbrev pub both : Option ℕ → Option ℕ → List ℕ
both first second = option_to_list first ++ option_to_list second

abbrev pub all : Reads → List ℕ
all r = both r.first r.second ++ r.others.now
