-- Words of objects, and names of objects one behind another.
use Rattle.std.proofs.Common.{◌≡◌, ℕ, ◌+◌, ◌≤◌, true, false, List, [], ◌∷◌, ◌++◌, length, refl, sym, ◌∙◌, ap, arith, Option}
use Rattle.std.specs.Option.{option_or}
use Rattle.std.specs.Str.{bytes_eq}
use Rattle.std.proofs.lemmas.List.{map-append}
use Rattle.pa_object.specs.declared.object.Object.{Object}
use Rattle.pa_object.specs.declared.object.Mark.{Mark}
use Rattle.pa_object.specs.Linkable.{Text}
use Rattle.pa_names.proofs.Kept.{or-assoc}
use Rattle.pa_linker.proofs.OnBool.{on_bool}
use Rattle.pa_linker.specs.Layout.{words_after, Symbol, symbol, find, functions_from, mark_place}

pub least : (words : ℕ) (objects : List Object) → words ≤ words_after words objects
least words [] = omega arith
least words (object ∷ objects) = let more = least (words + length object.code) objects in omega arith

-- how many words behind none
pub words_more : (words : ℕ) (objects : List Object) → words_after words objects ≡ words + words_after 0 objects
words_more words [] = omega arith
words_more words (object ∷ objects) =
    let here = words_more (words + length object.code) objects in
    let there = words_more (0 + length object.code) objects in
    omega arith

pub find-append : (xs ys : List Symbol) (name : Text) → find (xs ++ ys) name ≡ option_or (find xs name) (find ys name)
find-append [] ys name = refl
find-append (x ∷ xs) ys name = on_bool (bytes_eq name x.name)
    (λ (h : bytes_eq name x.name ≡ true). rw h refl)
    (λ (h : bytes_eq name x.name ≡ false). rw h (find-append xs ys name))

-- functions behind others, where a name may have a place before them
pub find_more : (before after : Option ℕ) (xs ys : List Mark) (name : Text) → after ≡ option_or before (find (functions_from xs) name)
    → option_or after (find (functions_from ys) name) ≡ option_or before (find (functions_from (xs ++ ys)) name)
find_more before after xs ys name e =
    ap (λ o. option_or o (find (functions_from ys) name)) e ∙ or-assoc before (find (functions_from xs) name) (find (functions_from ys) name)
    ∙ ap (option_or before) (sym (find-append (functions_from xs) (functions_from ys) name) ∙ ap (λ s. find s name) (sym (map-append (λ (m : Mark). symbol m.name (mark_place m)) xs ys)))
