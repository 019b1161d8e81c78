-- The words of a text, by number, and the marks of a legal image.
use Rattle.std.proofs.Common.{◌≡◌, ℕ, zero, suc, ◌+◌, ◌≤◌, ◌<◌, List, [], ◌∷◌, length, get_or, map, refl, sym, ap, subst, ◌∙◌, arith, Some, None, ◌⊎◌, inl, inr}
use Rattle.std.specs.Prelude.{Bool, true, false, cond, eqb, slice_get, nat_lt}
use Rattle.std.proofs.lemmas.Bool.{true≢false, ne_eqb, eq-eqb, cases_lt, or_left, or_right}
use Rattle.std.proofs.lemmas.Option.{slice_get-get_or, slice_get_past}
use Rattle.pa_a64.specs.Decoding.{decoded}
use Rattle.pa_object.specs.declared.object.Mark.{Mark}
use Rattle.pa_object.specs.Linkable.{Ascends}
use Rattle.std.specs.Prelude.{codes}
use Rattle.pa_macho.specs.Layout.{places_of}
use Rattle.pa_image.specs.declared.image.Image.{Image}
use Rattle.pa_image.specs.Bytes.{header_of}
use Rattle.pa_image.specs.Places.{function_at}
use Rattle.pa_check.specs.declared.word.Word.{Word}
use Rattle.pa_check.specs.Text.{is_marked, words_from, start_size, text_of, word_at, marked_in, number_at, nth, is_entry}

-- ---- words

pub length-words_from : (marks : List Mark) (k : ℕ) (words : List ℕ) → length (words_from marks k words) ≡ length words
unfolding words_from
length-words_from marks k [] = refl
length-words_from marks k (word ∷ words) = ap suc (length-words_from marks (suc k) words)

abbrev no_word : Word
no_word = record { marked = false; instr = None }

get_or-words_from : (marks : List Mark) (k : ℕ) (words : List ℕ) (j : ℕ) → j < length words → get_or (words_from marks k words) j no_word ≡ record { marked = is_marked marks (k + j); instr = decoded (get_or words j 0) }
unfolding words_from
get_or-words_from marks k [] j l = absurd (omega arith)
get_or-words_from marks k (word ∷ words) zero l = let e : k + 0 ≡ k = omega arith in rw e refl
get_or-words_from marks k (word ∷ words) (suc j) l = let e : suc k + j ≡ k + suc j = omega arith in subst (λ z. get_or (words_from marks (suc k) words) j no_word ≡ record { marked = is_marked marks z; instr = decoded (get_or words j 0) }) e (get_or-words_from marks (suc k) words j (omega arith))

pub length-text : (image : Image) → length (text_of image).words ≡ length image.text
unfolding text_of
length-text image = length-words_from image.marks 0 image.text

pub word_of : (image : Image) (k : ℕ) → k < length image.text → word_at (text_of image) k ≡ record { marked = is_marked image.marks k; instr = decoded (get_or image.text k 0) }
unfolding text_of
word_of image k l = let e : 0 + k ≡ k = omega arith in subst (λ z. get_or (words_from image.marks 0 image.text) k no_word ≡ record { marked = is_marked image.marks z; instr = decoded (get_or image.text k 0) }) e (get_or-words_from image.marks 0 image.text k l)

pub instr_of : (image : Image) (k : ℕ) → k < length image.text → (word_at (text_of image) k).instr ≡ decoded (get_or image.text k 0)
instr_of image k l = ap (λ (w : Word). w.instr) (word_of image k l)

pub marked_of : (image : Image) (k : ℕ) → k < length image.text → (word_at (text_of image) k).marked ≡ is_marked image.marks k
marked_of image k l = ap (λ (w : Word). w.marked) (word_of image k l)

-- a mark at a word, where there is one of this number
pub marked_in_text : (image : Image) (k : ℕ) → marked_in (slice_get (text_of image).words k) ≡ cond (nat_lt k (length image.text)) (is_marked image.marks k) false
marked_in_text image k = go (cases_lt k (length image.text))
  where
    go : ((k < length image.text) ⊎ (length image.text ≤ k)) → marked_in (slice_get (text_of image).words k) ≡ cond (nat_lt k (length image.text)) (is_marked image.marks k) false
    go (inl l) = let n = length-text image in let m : k < length (text_of image).words = omega arith in ap marked_in (slice_get-get_or (text_of image).words k no_word m) ∙ marked_of image k l ∙ grind (arith, l)
    go (inr l) = let n = length-text image in ap marked_in (slice_get_past (text_of image).words k (omega arith)) ∙ grind (arith, l)

-- ---- marks

abbrev no_mark : Mark
no_mark = record { name = []; at = 0; public = false }

abbrev pub mark_at : List Mark → ℕ → ℕ
mark_at marks i = (get_or marks i no_mark).at

-- those behind the first are behind it
behind_first : (m : Mark) (marks : List Mark) (i : ℕ) → Ascends (map (λ mark. mark.at) (m ∷ marks)) → i < length marks → m.at < mark_at marks i
unfolding Ascends
behind_first m [] i a l = absurd (omega arith)
behind_first m (n ∷ marks) zero a l = a.0
behind_first m (n ∷ marks) (suc i) a l = let b = a.0 in let c = behind_first n marks i a.1 (omega arith) in omega arith

ascends_tail : (m : Mark) (marks : List Mark) → Ascends (map (λ mark. mark.at) (m ∷ marks)) → Ascends (map (λ mark. mark.at) marks)
unfolding Ascends
ascends_tail m [] a = tt
ascends_tail m (n ∷ marks) a = a.1

pub ascending : (marks : List Mark) (i j : ℕ) → Ascends (map (λ mark. mark.at) marks) → i < j → j < length marks → mark_at marks i < mark_at marks j
ascending [] i j a l h = absurd (omega arith)
ascending (m ∷ marks) i zero a l h = absurd (omega arith)
ascending (m ∷ marks) zero (suc j) a l h = behind_first m marks j a (omega arith)
ascending (m ∷ marks) (suc i) (suc j) a l h = ascending marks i j (ascends_tail m marks a) (omega arith) (omega arith)

pub marked_here : (marks : List Mark) (i k : ℕ) → i < length marks → mark_at marks i ≡ k → is_marked marks k ≡ true
marked_here [] i k l e = absurd (omega arith)
marked_here (m ∷ marks) zero k l e = or_left _ _ (eq-eqb m.at k e)
marked_here (m ∷ marks) (suc i) k l e = or_right _ _ (marked_here marks i k (omega arith) e)

pub marked_nowhere : (marks : List Mark) (k : ℕ) → ((i : ℕ) → i < length marks → mark_at marks i ≡ k → ⊥) → is_marked marks k ≡ false
marked_nowhere [] k h = refl
marked_nowhere (m ∷ marks) k h = let a : eqb m.at k ≡ false = ne_eqb m.at k (h 0 (omega arith)) in rw a (marked_nowhere marks k (λ i l e. h (suc i) (omega arith) e))

-- what a search by halves knows at its end
pub found : (marks : List Mark) (k low : ℕ) → ((i : ℕ) → i < low → i < length marks → mark_at marks i < k) → ((i : ℕ) → low ≤ i → i < length marks → k ≤ mark_at marks i) → Ascends (map (λ mark. mark.at) marks) → low < length marks → is_marked marks k ≡ eqb (mark_at marks low) k
found marks k low under over a l = go (eqb (mark_at marks low) k) refl
  where
    go : (b : Bool) → eqb (mark_at marks low) k ≡ b → is_marked marks k ≡ b
    go true e = marked_here marks low k l (grind (arith, e))
    go false e = marked_nowhere marks k (λ i h q. at i h q (cases_lt i low) (cases_lt low i))
      where
        at : (i : ℕ) → i < length marks → mark_at marks i ≡ k → ((i < low) ⊎ (low ≤ i)) → ((low < i) ⊎ (i ≤ low)) → ⊥
        at i h q (inl b) c = let d = under i b h in omega arith
        at i h q (inr b) (inl c) = let d = ascending marks low i a c h in let f = over low (omega arith) l in omega arith
        at i h q (inr b) (inr c) = let d : i ≡ low = omega arith in true≢false (sym (eq-eqb (mark_at marks low) k (subst (λ z. mark_at marks z ≡ k) d q)) ∙ e)

pub not_found : (marks : List Mark) (k : ℕ) → ((i : ℕ) → i < length marks → mark_at marks i < k) → is_marked marks k ≡ false
not_found marks k under = marked_nowhere marks k (λ i h q. let d = under i h in omega arith)

pub up_to : (marks : List Mark) (i j : ℕ) → Ascends (map (λ mark. mark.at) marks) → i ≤ j → j < length marks → mark_at marks i ≤ mark_at marks j
up_to marks i j a l h = go (cases_lt i j)
  where
    go : ((i < j) ⊎ (j ≤ i)) → mark_at marks i ≤ mark_at marks j
    go (inl b) = let c = ascending marks i j a b h in omega arith
    go (inr b) = let c : i ≡ j = omega arith in subst (λ z. mark_at marks i ≤ mark_at marks z) c (omega arith)

pub item_at : (marks : List Mark) (i : ℕ) (d : Mark) → i < length marks → (get_or marks i d).at ≡ mark_at marks i
item_at [] i d l = absurd (omega arith)
item_at (m ∷ marks) zero d l = refl
item_at (m ∷ marks) (suc i) d l = item_at marks i d (omega arith)

pub stub_words_of : (image : Image) → (text_of image).stub_words ≡ length image.stubs
unfolding text_of
stub_words_of image = refl

-- a function begins at a place whose word has this number
pub entry_of : (image : Image) (at k : ℕ) → number_at at ≡ Some k → is_entry (text_of image) at ≡ cond (nat_lt k (length image.text)) (is_marked image.marks k) false
entry_of image at k e = ap (λ o. marked_in (nth (text_of image).words o)) e ∙ marked_in_text image k

pub no_entry : (image : Image) (at : ℕ) → number_at at ≡ None → is_entry (text_of image) at ≡ false
no_entry image at e = ap (λ o. marked_in (nth (text_of image).words o)) e

pub text_main : (image : Image) → (text_of image).main ≡ function_at 0 image.marks (codes "_main")
unfolding text_of
text_main image = refl

pub text_start : (image : Image) → (text_of image).start ≡ start_size image.role
unfolding text_of
text_start image = refl

pub text_stubs : (image : Image) → (text_of image).stubs ≡ (places_of (header_of image)).stubs
unfolding text_of
text_stubs image = refl
