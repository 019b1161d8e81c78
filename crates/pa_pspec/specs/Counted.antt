-- The words of an integer type, counted from the left.
use Rattle.std.specs.Prelude.{List, [], ◌∷◌}
use Rattle.pa_tree.specs.declared.operator.IntegerWord.{IntegerWord}
use Rattle.pa_tree.specs.Operators.{Words, with_word}
use Rattle.pa_pspec.specs.declared.word.WordCounts.{WordCounts}

abbrev pub counted : WordCounts → Words
counted n = record { chars = n.chars; shorts = n.shorts; ints = n.ints; longs = n.longs; signs = n.signs }

-- with these words too
abbrev pub with_words : Words → List IntegerWord → Words
with_words n [] = n
with_words n (x ∷ xs) = with_words (with_word n x) xs
