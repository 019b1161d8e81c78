-- What linkable objects have, object by object, and that their layout is small.
use Rattle.std.proofs.Common.{◌≡◌, ℕ, ◌+◌, ◌<◌, ◌≤◌, ◌^◌, Bool, true, false, List, [], ◌∷◌, ◌++◌, length, sym, subst, arith}
use Rattle.std.specs.Prelude.{IfSome}
use Rattle.std.specs.List.{AllByRecursion, sum_by}
use Rattle.std.specs.Str.{bytes_eq}
use Rattle.std.proofs.lemmas.List.Elements.{recursion_from_All}
use Rattle.std.proofs.lemmas.List.Sums.{sum_by-cons}
use Rattle.pa_object.specs.declared.object.Object.{Object}
use Rattle.pa_object.specs.declared.object.Mark.{Mark}
use Rattle.pa_object.specs.declared.object.Ref.{Ref}
use Rattle.pa_object.specs.declared.object.Global.{Global}
use Rattle.pa_object.specs.Linkable.{Text, Named, Linkable, IsCode, IsRef, IsGlobal, names, functions_of, data_of, globals_of}
use Rattle.pa_linker.specs.declared.section.Section.{Section}
use Rattle.pa_linker.specs.Imports.{imports_of}
use Rattle.pa_linker.specs.Layout.{start_words, words_after, Laid, end_of, laid_behind, laid_from, laid_end, globals_that, is_of, find, Symbol, functions_from, globals_from, marks_behind, marks_from, marks_of, symbols_with, sections_of, Layout, layout_of}
use Rattle.pa_linker.specs.Tables.{RefsStand, MarksStand, all_shown, IsSection, most_words, most_data, room_of, CanFill, Follow, Fits, IsSmall}
use Rattle.pa_linker.proofs.Few.{few_imports, index_few}
use Rattle.pa_linker.proofs.Room.{aligned, room_cons, up_high, all_aligned, all_fill, all_follow, all_filter, room_filter}
use Rattle.pa_linker.proofs.Small.{places_small}
use Rattle.pa_linker.proofs.Words.{least}
use Rattle.pa_linker.proofs.OnBool.{on_bool}

-- ---- object by object

refs_stand : (F D : List Text) (code : List ℕ) (refs : List Ref) → AllByRecursion (IsRef code F D) refs → AllByRecursion (λ ref. ref.at < length code) refs
refs_stand F D code [] h = tt
refs_stand F D code (ref ∷ refs) h = (h.0.stands, refs_stand F D code refs h.1)

stand : (F D : List Text) (objects : List Object) → AllByRecursion (IsCode F D) objects → AllByRecursion RefsStand objects
stand F D [] h = tt
stand F D (o ∷ objects) h = (refs_stand F D o.code o.refs (recursion_from_All _ o.refs h.0.refs), stand F D objects h.1)

marks_stand : (F D : List Text) (objects : List Object) → AllByRecursion (IsCode F D) objects → AllByRecursion MarksStand objects
marks_stand F D [] h = tt
marks_stand F D (o ∷ objects) h = (recursion_from_All _ o.marks h.0.marks_at_words, marks_stand F D objects h.1)

words_are : (words : ℕ) (objects : List Object) → words_after words objects ≡ words + sum_by (λ o. length o.code) objects
words_are words [] = omega arith
words_are words (o ∷ objects) =
    let more = words_are (words + length o.code) objects in
    let whole = sum_by-cons (λ (o : Object). length o.code) o objects in
    omega arith

pub are_globals : (objects : List Object) → Linkable objects → AllByRecursion (IsGlobal (functions_of objects) (data_of objects)) (globals_of objects)
are_globals objects l = recursion_from_All _ (globals_of objects) l.globals

pub fits : (objects : List Object) → Linkable objects → Fits objects
fits objects l =
    let code = recursion_from_All _ objects l.code in
    let few = l.few_words in
    let small = l.small_data in
    let words = words_are start_words objects in
    record {
      refs = stand (names (functions_of objects)) (names (data_of objects)) objects code;
      marks = marks_stand (names (functions_of objects)) (names (data_of objects)) objects code;
      words = omega arith;
      globals = record { aligned = all_aligned (functions_of objects) (data_of objects) (globals_of objects) (are_globals objects l); fit = omega arith };
    }

-- ---- globals of a section

pub section_fill : (objects : List Object) (constant : Bool) → Linkable objects → AllByRecursion CanFill (laid_from 0 (globals_that constant objects))
section_fill objects constant l =
    let small = l.small_data in
    let part = room_filter (is_of constant) (globals_of objects) in
    all_fill (functions_of objects) (data_of objects) 0 (globals_that constant objects) (all_filter _ (is_of constant) (globals_of objects) (are_globals objects l)) (omega arith)

pub section_follow : (objects : List Object) (constant : Bool) → Linkable objects → Follow 0 (laid_from 0 (globals_that constant objects))
section_follow objects constant l =
    all_follow (functions_of objects) (data_of objects) 0 (globals_that constant objects) (all_filter _ (is_of constant) (globals_of objects) (are_globals objects l))

-- ---- places

abbrev AreLow : List Symbol → Type 0
AreLow symbols = AllByRecursion (λ s. s.place < 2 ^ 24) symbols

low_append : (xs ys : List Symbol) → AreLow xs → AreLow ys → AreLow (xs ++ ys)
low_append [] ys h k = k
low_append (x ∷ xs) ys h k = (h.0, low_append xs ys h.1 k)

low_found : (symbols : List Symbol) (name : Text) → AreLow symbols → IfSome (find symbols name) (λ place. place < 2 ^ 24)
low_found [] name h = tt
low_found (s ∷ symbols) name h = on_bool (bytes_eq name s.name)
    (λ (e : bytes_eq name s.name ≡ true). rw e h.0)
    (λ (e : bytes_eq name s.name ≡ false). rw e (low_found symbols name h.1))

abbrev MarksBelow : ℕ → List Mark → Type 0
MarksBelow most marks = AllByRecursion (λ m. m.at < most) marks

marks_low : (marks : List Mark) → MarksBelow most_words marks → AreLow (functions_from marks)
marks_low [] h = tt
marks_low (m ∷ marks) h = let here = h.0 in (omega arith, marks_low marks h.1)

behind_below : (words size : ℕ) (marks : List Mark) → AllByRecursion (λ m. m.at < size) marks → words + size ≤ most_words → MarksBelow most_words (marks_behind words marks)
behind_below words size [] h room = tt
behind_below words size (m ∷ marks) h room = let here = h.0 in (omega arith, behind_below words size marks h.1 room)

below_append : (xs ys : List Mark) → MarksBelow most_words xs → MarksBelow most_words ys → MarksBelow most_words (xs ++ ys)
below_append [] ys h k = k
below_append (x ∷ xs) ys h k = (h.0, below_append xs ys h.1 k)

marks_below : (words : ℕ) (objects : List Object) → AllByRecursion MarksStand objects → words_after words objects ≤ most_words → MarksBelow most_words (marks_from words objects)
marks_below words [] h few = tt
marks_below words (o ∷ objects) h few =
    let more = least (words + length o.code) objects in
    below_append (marks_behind words o.marks) (marks_from (words + length o.code) objects) (behind_below words (length o.code) o.marks h.0 (omega arith)) (marks_below (words + length o.code) objects h.1 few)

globals_low : (section : ℕ) (laid : List Laid) → section < 2 ^ 23 → AllByRecursion CanFill laid → AreLow (globals_from section laid)
globals_low section [] low h = tt
globals_low section (l ∷ laid) low h = let ends = h.0.ends in (omega arith, globals_low section laid low h.1)

-- where globals end
end_low : (F D : List Named) (end : ℕ) (globals : List Global) → AllByRecursion (IsGlobal F D) globals → end + room_of globals ≤ most_data → laid_end end globals ≤ most_data
end_low F D end [] h room = omega arith
end_low F D end (g ∷ globals) h room =
    let high = up_high g.align end (aligned F D g h.0) in
    let whole = room_cons g globals in
    end_low F D (end_of (laid_behind end g)) globals h.1 (omega arith)

pub section_small : (objects : List Object) (constant : Bool) → Linkable objects → laid_end 0 (globals_that constant objects) ≤ most_data
section_small objects constant l =
    let small = l.small_data in
    let part = room_filter (is_of constant) (globals_of objects) in
    end_low (functions_of objects) (data_of objects) 0 (globals_that constant objects) (all_filter _ (is_of constant) (globals_of objects) (are_globals objects l)) (omega arith)

pub small : (objects : List Object) → Linkable objects → IsSmall (layout_of objects)
unfolding layout_of sections_of
small objects l =
    let few = few_imports objects in
    let f = fits objects l in
    let places = places_small (words_after start_words objects) (length (imports_of objects)) (laid_end 0 (globals_that true objects)) (laid_end 0 (globals_that false objects)) f.words few (section_small objects true l) in
    let marks = marks_low (marks_of objects) (marks_below start_words objects f.marks f.words) in
    record {
      stubs = places.stubs;
      consts = places.consts;
      got = places.got;
      cells = places.cells;
      order = places.order;
      imports = few;
      index = λ name. let i = index_few (imports_of objects) name in omega arith;
      find = λ name. low_found (symbols_with (sections_of objects) objects) name (low_append _ _ marks (low_append _ _ (globals_low _ _ places.consts (section_fill objects true l)) (globals_low _ _ places.cells (section_fill objects false l))));
    }

-- ---- what the code makes

fill_low : (laid : List Laid) → AllByRecursion CanFill laid → AllByRecursion (λ l. l.at ≤ most_data) laid
fill_low [] h = tt
fill_low (l ∷ laid) h = let ends = h.0.ends in (omega arith, fill_low laid h.1)

pub made_fill : (made : List Laid) (objects : List Object) (constant : Bool) → Linkable objects → made ≡ laid_from 0 (globals_that constant objects) → AllByRecursion CanFill made
made_fill made objects constant l e = subst (λ (ls : List Laid). AllByRecursion CanFill ls) (sym e) (section_fill objects constant l)

pub made_follow : (made : List Laid) (objects : List Object) (constant : Bool) → Linkable objects → made ≡ laid_from 0 (globals_that constant objects) → Follow 0 made
made_follow made objects constant l e = subst (λ (ls : List Laid). Follow 0 ls) (sym e) (section_follow objects constant l)

pub made_section : (section : Section) (objects : List Object) (constant : Bool) → Linkable objects → all_shown section.globals ≡ laid_from 0 (globals_that constant objects)
    → section.end ≡ laid_end 0 (globals_that constant objects) → section.end ≤ most_data → IsSection section constant objects
made_section section objects constant l globals end low =
    record { globals = globals; end = end; small = low; low = fill_low (all_shown section.globals) (made_fill (all_shown section.globals) objects constant l globals) }

pub made_small : (layout : Layout) (objects : List Object) → Linkable objects → layout ≡ layout_of objects → IsSmall layout
made_small layout objects l e = subst (λ (x : Layout). IsSmall x) (sym e) (small objects l)
