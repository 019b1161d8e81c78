-- The largest number among the temporaries that an operation reads.
use Rattle.std.proofs.Common.{◌≡◌, ℕ, List, [], ◌∷◌, ◌++◌, max, ap, ◌∙◌, arith}
use Rattle.std.specs.Option.{option_to_list}
use Rattle.pa_lir.specs.Parts.{above}
use Rattle.pa_lir.specs.Reads.{all, both}
use Rattle.pa_lir.specs.declared.counts.Reads.{Reads}

pub above_append : (xs ys : List ℕ) → above (xs ++ ys) ≡ max (above xs) (above ys)
unfolding above
above_append [] ys = omega arith
above_append (x ∷ xs) ys = omega (arith, above_append xs ys)

pub above_reads : (r : Reads) → above (all r) ≡ max (max (above (option_to_list r.first)) (above (option_to_list r.second))) (above r.others.now)
above_reads r = above_append (both r.first r.second) r.others.now ∙ ap (λ n. max n (above r.others.now)) (above_append (option_to_list r.first) (option_to_list r.second))
