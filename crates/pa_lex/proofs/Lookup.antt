-- The table of names has the number of each name.
use Rattle.std.proofs.Common.{◌≡◌, ℕ, zero, suc, Bool, true, false, cond, List, [], ◌∷◌, ◌++◌, length, slice_get, Option, Some, None, refl, sym, ◌∙◌, ap, ◌||◌}
use Rattle.std.proofs.lemmas.List.{map-append}
use Rattle.std.proofs.lemmas.List.Folds.{list_any-append}
use Rattle.std.proofs.lemmas.Map.Keys.{any_passes_from_place}
use Rattle.std.proofs.lemmas.Map.Text.{is_eq-slice_cmp}
use Rattle.std.proofs.lemmas.Slice.Eq.{bytes_eq-Decides}
use Rattle.std.specs.BTreeMap as tree
use Rattle.std.specs.List.{list_any}
use Rattle.std.specs.Str.{bytes_eq}
use denote.Ref.{Bor}
use Rattle.pa_lex.specs.declared.names.Names.TheInside.{Inside}
use Rattle.pa_lex.specs.Inside.{texts, texts_of, order, number_of, IsNumberTable}
use Rattle.pa_lex.specs.Numbering.{with_name}
use Rattle.pa_lex.specs.Texts.{Text}

same_text : (text : Text) → bytes_eq text text ≡ true
same_text text = (bytes_eq-Decides text text).1 refl

-- a name that has a number is noted already
pub known : (names : List Text) (n : ℕ) (text : Text) → slice_get names n ≡ Some text → names ≡ with_name names text
known names n text e = sym (ap (λ b. cond b names (names ++ text ∷ [])) (any_passes_from_place (bytes_eq text) names n text e (same_text text)))

-- another name goes to the end
pub unknown : (names : List Text) (text : Text) → list_any (bytes_eq text) names ≡ false → names ++ text ∷ [] ≡ with_name names text
unknown names text e = sym (ap (λ b. cond b names (names ++ text ∷ [])) e)

get_before : (names more : List Text) (n : ℕ) (text : Text) → slice_get names n ≡ Some text → slice_get (names ++ more) n ≡ Some text
get_before [] more n text e = cc
get_before (t ∷ ts) more zero text e = e
get_before (t ∷ ts) more (suc n) text e = get_before ts more n text e

pub get_last : (names : List Text) (text : Text) → slice_get (names ++ text ∷ []) (length names) ≡ Some text
get_last [] text = refl
get_last (t ∷ ts) text = get_last ts text

is_same : (text other : Text) (b : Bool) → bytes_eq text other ≡ b → bytes_eq other text ≡ true → b ≡ true
is_same text other b e same = sym e ∙ (bytes_eq-Decides text other).1 (sym ((bytes_eq-Decides other text).0 same))

not_same : (text other : Text) (b : Bool) → bytes_eq text other ≡ false → bytes_eq other text ≡ b → bytes_eq other text ≡ false
not_same text other true e same = let bad : false ≡ true = is_same text other false e same in cc
not_same text other false e same = same

-- a number of the table with one more name
number_by : (names : List Text) (text other : Text) (b : Bool) (before : Option ℕ) (n : ℕ) → bytes_eq text other ≡ b → ((m : ℕ) → before ≡ Some m → slice_get names m ≡ Some other)
    → cond b (Some (length names)) before ≡ Some n → slice_get (names ++ text ∷ []) n ≡ Some other
number_by names text other true before n e h s =
    let place : length names ≡ n = cc in
    ap (slice_get (names ++ text ∷ [])) (sym place) ∙ get_last names text ∙ ap Some ((bytes_eq-Decides text other).0 e)
number_by names text other false before n e h s = get_before names (text ∷ []) n other (h n s)

absent_by : (names : List Text) (text other : Text) (b : Bool) (before : Option ℕ) → bytes_eq text other ≡ b → (before ≡ None → list_any (bytes_eq other) names ≡ false)
    → cond b (Some (length names)) before ≡ None → list_any (bytes_eq other) (names ++ text ∷ []) ≡ false
absent_by names text other true before e h s = cc
absent_by names text other false before e h s =
    list_any-append (bytes_eq other) names (text ∷ []) ∙ ap (λ b. b || (bytes_eq other text || false)) (h s) ∙ ap (λ b. b || false) (not_same text other (bytes_eq other text) e refl)

-- a name that equals the one of this number
pub kept_same : (names : List Text) (n : ℕ) (kept text : Text) → slice_get names n ≡ Some kept → bytes_eq kept text ≡ true → slice_get names n ≡ Some text
kept_same names n kept text e same = e ∙ ap Some ((bytes_eq-Decides kept text).0 same)

pub texts_push : (items : List (Bor Text)) (text : Bor Text) → texts (items ++ text ∷ []) ≡ texts items ++ text.now ∷ []
texts_push items text = map-append (λ t. t.now) items (text ∷ [])

pub texts_length : (items : List (Bor Text)) → length (texts items) ≡ length items
texts_length [] = refl
texts_length (t ∷ ts) = ap suc (texts_length ts)

-- the table with one more name
pub inserted : (old new : Inside) (text : Bor Text) (n : ℕ) → IsNumberTable old → n ≡ length old.texts.items → new.texts.items ≡ old.texts.items ++ text ∷ []
    → tree.Updates order old.numbers new.numbers text (Some n) → IsNumberTable new
inserted old new text n h place t u = record {
  number = λ other m e. ap (λ names. slice_get names m) longer ∙ number_by (texts_of old) text.now other.now (bytes_eq text.now other.now) (number_of old other) m refl (h.number other) (sym (after other) ∙ e);
  absent = λ other e. ap (list_any (bytes_eq other.now)) longer ∙ absent_by (texts_of old) text.now other.now (bytes_eq text.now other.now) (number_of old other) refl (h.absent other) (sym (after other) ∙ e);
}
  where
    longer : texts_of new ≡ texts_of old ++ text.now ∷ []
    longer = ap texts t ∙ texts_push old.texts.items text

    last : n ≡ length (texts_of old)
    last = place ∙ sym (texts_length old.texts.items)

    after : (other : Bor Text) → number_of new other ≡ cond (bytes_eq text.now other.now) (Some (length (texts_of old))) (number_of old other)
    after other = u.0 other ∙ ap (λ b. cond b (Some n) (number_of old other)) (is_eq-slice_cmp text.now other.now)
        ∙ ap (λ m. cond (bytes_eq text.now other.now) (Some m) (number_of old other)) last
