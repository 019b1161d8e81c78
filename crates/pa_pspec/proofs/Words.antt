-- The words of an integer type, one more at a time.
use Rattle.std.proofs.Common.{◌≡◌, ◌≤◌, List, [], ◌∷◌, ◌++◌, Bool, true, false, ◌&&◌, refl, ◌∙◌, ap, arith}
use Rattle.std.proofs.lemmas.Grind.{common_steps}
use Rattle.pa_tree.specs.declared.operator.IntegerWord.{IntegerWord}
use Rattle.pa_tree.specs.declared.operator.IntegerWord.TheVariants as word
use Rattle.pa_tree.specs.Cursors.{Cursor}
use Rattle.pa_tree.specs.Operators.{Words, no_words, with_word, is_integer_type, goes_with, are_integer_type}
use Rattle.pa_pspec.specs.Counted.{with_words}
use Rattle.pa_grammar.specs.Parser.{and_then, goes, iterate}
use Rattle.pa_grammar.specs.Reading.{word_step}
use Rattle.pa_grammar.proofs.Iterated.{one_turn}
use Rattle.pa_grammar.proofs.LocalReading.{word-shrinks}

pub word_turn : (all : List IntegerWord) (c : Cursor) → iterate word_step all c ≡ and_then (word_step all c) (goes (iterate word_step))
word_turn all c = one_turn word_step word-shrinks all c

-- the words of an integer type are few
pub few_words : (n : Words) → is_integer_type n ≡ true → (n.chars ≤ 1) × (n.shorts ≤ 1) × (n.ints ≤ 1) × (n.longs ≤ 2) × (n.signs ≤ 1)
few_words n h = grind (arith, common_steps)

pub counts_more : (n : Words) (xs : List IntegerWord) (x : IntegerWord) → with_words n (xs ++ x ∷ []) ≡ with_word (with_words n xs) x
counts_more n [] x = refl
counts_more n (y ∷ ys) x = counts_more (with_word n y) ys x

both : (b c d : Bool) → b && (c && d) ≡ (b && c) && d
both true c d = refl
both false c d = refl

and_true : (b : Bool) → b && true ≡ b
and_true true = refl
and_true false = refl

goes_snoc : (n : Words) (xs : List IntegerWord) (x : IntegerWord) → goes_with n (xs ++ x ∷ []) ≡ goes_with n xs && is_integer_type (with_word (with_words n xs) x)
goes_snoc n [] x = and_true (is_integer_type (with_word n x))
goes_snoc n (y ∷ ys) x = ap (λ b. is_integer_type (with_word n y) && b) (goes_snoc (with_word n y) ys x) ∙ both (is_integer_type (with_word n y)) (goes_with (with_word n y) ys) _

pub goes_more : (xs : List IntegerWord) (x : IntegerWord) → goes_with no_words xs ≡ true → is_integer_type (with_word (with_words no_words xs) x) ≡ true → goes_with no_words (xs ++ x ∷ []) ≡ true
goes_more xs x g h = goes_snoc no_words xs x ∙ rw (g, h) refl

snoc_type : (xs : List IntegerWord) (x : IntegerWord) → are_integer_type (xs ++ x ∷ []) ≡ goes_with no_words (xs ++ x ∷ [])
snoc_type [] x = refl
snoc_type (y ∷ ys) x = refl

pub one_more : (xs : List IntegerWord) (x : IntegerWord) → goes_with no_words xs ≡ true → are_integer_type (xs ++ x ∷ []) ≡ is_integer_type (with_word (with_words no_words xs) x)
one_more xs x g = snoc_type xs x ∙ goes_snoc no_words xs x ∙ rw g refl

-- any word begins an integer type
pub first_type : (x : IntegerWord) → is_integer_type (with_word no_words x) ≡ true
first_type word.Char = refl
first_type word.Short = refl
first_type word.Int = refl
first_type word.Long = refl
first_type word.Signed = refl
first_type word.Unsigned = refl

pub first_goes : (x : IntegerWord) → goes_with no_words (x ∷ []) ≡ true
first_goes x = rw (first_type x) refl
