-- The marks of an image rise, and stand in its text.
use Rattle.std.proofs.Common.{ℕ, ◌+◌, ◌<◌, ◌≤◌, List, [], ◌∷◌, ◌++◌, length, map, sym, subst, arith}
use Rattle.std.specs.List.{AllByRecursion}
use Rattle.std.proofs.lemmas.List.{map-append}
use Rattle.std.proofs.lemmas.List.Elements.{recursion_from_All}
use Rattle.pa_object.specs.declared.object.Object.{Object}
use Rattle.pa_object.specs.declared.object.Mark.{Mark}
use Rattle.pa_object.specs.Linkable.{Text, Linkable, IsCode, Ascends, names, functions_of, data_of}
use Rattle.pa_linker.specs.Layout.{start_words, words_after, marks_behind, marks_from, marks_of}
use Rattle.pa_linker.proofs.Rising.{RisesFrom, lower, rises, ascends}
use Rattle.pa_linker.proofs.Words.{least}

-- ---- marks

abbrev places : List Mark → List ℕ
places marks = map (λ m. m.at) marks

-- an object's marks, moved behind words, and what stands behind the object
moved_rise : (low words size : ℕ) (marks : List Mark) (behind : List ℕ) → RisesFrom low (places marks) → AllByRecursion (λ m. m.at < size) marks → low ≤ size
    → RisesFrom (words + size) behind → RisesFrom (words + low) (places (marks_behind words marks) ++ behind)
moved_rise low words size [] behind r inside h next = lower (words + low) (words + size) behind (omega arith) next
moved_rise low words size (m ∷ marks) behind r inside h next =
    let here = r.0 in
    let at = inside.0 in (
      omega arith,
      lower (words + m.at + 1) (words + (m.at + 1)) (places (marks_behind words marks) ++ behind) (omega arith) (moved_rise (m.at + 1) words size marks behind r.1 inside.1 (omega arith) next),
    )

marks_rise : (F D : List Text) (words : ℕ) (objects : List Object) → AllByRecursion (IsCode F D) objects → RisesFrom words (places (marks_from words objects))
marks_rise F D words [] h = tt
marks_rise F D words (o ∷ objects) h =
    let next : ℕ = words + length o.code in
    let behind = places (marks_from next objects) in
    let more = marks_rise F D next objects h.1 in
    let whole = moved_rise 0 words (length o.code) o.marks behind (rises (places o.marks) h.0.marks_ascend) (recursion_from_All _ o.marks h.0.marks_at_words) (omega arith) more in
    subst (λ (xs : List ℕ). RisesFrom words xs) (sym (map-append (λ (m : Mark). m.at) (marks_behind words o.marks) (marks_from next objects)))
    (lower words (words + 0) (places (marks_behind words o.marks) ++ behind) (omega arith) whole)

pub marks_ascend : (objects : List Object) → Linkable objects → Ascends (map (λ m. m.at) (marks_of objects))
marks_ascend objects l =
    ascends start_words (places (marks_of objects)) (marks_rise (names (functions_of objects)) (names (data_of objects)) start_words objects (recursion_from_All _ objects l.code))

-- ---- in the text

abbrev StandBelow : ℕ → List Mark → Type 0
StandBelow words marks = AllByRecursion (λ m. m.at < words) marks

stand_append : (words : ℕ) (xs ys : List Mark) → StandBelow words xs → StandBelow words ys → StandBelow words (xs ++ ys)
stand_append words [] ys h k = k
stand_append words (x ∷ xs) ys h k = (h.0, stand_append words xs ys h.1 k)

stand_moved : (words size most : ℕ) (marks : List Mark) → AllByRecursion (λ m. m.at < size) marks → words + size ≤ most → StandBelow most (marks_behind words marks)
stand_moved words size most [] h low = tt
stand_moved words size most (m ∷ marks) h low = let here = h.0 in (omega arith, stand_moved words size most marks h.1 low)

stand_all : (F D : List Text) (words : ℕ) (objects : List Object) → AllByRecursion (IsCode F D) objects → StandBelow (words_after words objects) (marks_from words objects)
stand_all F D words [] h = tt
stand_all F D words (o ∷ objects) h =
    let next : ℕ = words + length o.code in
    stand_append (words_after next objects) (marks_behind words o.marks) (marks_from next objects)
    (stand_moved words (length o.code) (words_after next objects) o.marks (recursion_from_All _ o.marks h.0.marks_at_words) (least next objects))
    (stand_all F D next objects h.1)

-- each mark stands at a word of the text
pub marks_stand : (objects : List Object) → Linkable objects → AllByRecursion (λ m. m.at < words_after start_words objects) (marks_of objects)
marks_stand objects l = stand_all (names (functions_of objects)) (names (data_of objects)) start_words objects (recursion_from_All _ objects l.code)
