use Rattle.std.proofs.Common.{◌≡◌, ◌++◌, drop, map}
use Rattle.pa_layout.specs.Fields.{spelled, AllFit, four}
use Rattle.pa_image.proofs.writing.put_words.Given as goal

abbrev pub invariant-loop-word : goal.invariant-loop-word
invariant-loop-word l =
    AllFit (map four (drop l.word-index l.words)) × (l.out.items ++ spelled (map four (drop l.word-index l.words)) ≡ l.fn.out.items ++ spelled (map four l.words))
