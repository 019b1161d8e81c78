use Rattle.std.proofs.Common.{◌≡◌, ◌∷◌, [], ◌++◌, ◌∙◌, ap}
use Rattle.pa_tree.specs.Operators.{with_word, no_words, is_integer_type}
use Rattle.pa_pspec.specs.Counted.{counted}
use Rattle.pa_grammar.specs.Parser.{iterate}
use Rattle.pa_grammar.specs.Reading.{word_step}
use Rattle.pa_pspec.proofs.Words.{first_goes, first_type}
use Rattle.pa_pspec.proofs.word.integer_words.Goals as goal

pub words-init : goal.words-init
words-init c = let e : c.push.new.self ≡ c.args.first ∷ [] = c.in_ok-push.ensures.ok ∙ ap (λ x. x ++ c.args.first ∷ []) c.new-words.ensures in
    let f : counted c.with-counts.result ≡ with_word no_words c.args.first = c.with-counts.ensures ∙ ap (λ n. with_word n c.args.first) c.none.ensures in
    record {
      same = ap (λ x. iterate word_step x c.args.r.now) e;
      counts = rw e f;
      goes = rw e (first_goes c.args.first);
      fine = ap is_integer_type f ∙ first_type c.args.first;
    }
