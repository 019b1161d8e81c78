use Rattle.std.proofs.Common.{◌≡◌, ◌∷◌, [], length, true}
use Rattle.pa_tree.specs.Operators.{no_words, goes_with, is_integer_type}
use Rattle.pa_pspec.specs.Counted.{counted, with_words}
use Rattle.pa_grammar.specs.Parser.{iterate}
use Rattle.pa_grammar.specs.Reading.{word_step}
use Rattle.pa_pspec.proofs.word.integer_words.Given as goal

abbrev pub invariant-words : goal.invariant-words
invariant-words l = record {
  same : iterate word_step l.words l.r ≡ iterate word_step (l.fn.first ∷ []) l.initial.r;
  counts : counted l.counts ≡ with_words no_words l.words;
  goes : goes_with no_words l.words ≡ true;
  fine : is_integer_type (counted l.counts) ≡ true;
}

abbrev pub decreases-words : goal.decreases-words
decreases-words l = length (l.r).ahead
