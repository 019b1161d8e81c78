-- Globals one behind another.
use Rattle.std.proofs.Common.{◌≡◌, ℕ, ◌+◌, ◌≤◌, Bool, List, [], ◌∷◌, ◌++◌, length, filter, refl, sym, ◌∙◌, ap, append_assoc, arith}
use Rattle.std.specs.List.{AllByRecursion}
use Rattle.std.proofs.lemmas.List.Sums.{sum_by-append}
use Rattle.std.proofs.lemmas.List.Elements.{filter-append}
use Rattle.pa_object.specs.declared.object.Global.{Global}
use Rattle.pa_linker.specs.Layout.{Laid, end_of, is_of, laid_behind, laid_from, laid_end}
use Rattle.pa_linker.specs.Tables.{room_of, HaveRoom}

pub laid_from-append : (end : ℕ) (xs ys : List Global) → laid_from end (xs ++ ys) ≡ laid_from end xs ++ laid_from (laid_end end xs) ys
laid_from-append end [] ys = refl
laid_from-append end (x ∷ xs) ys = ap (λ ls. laid_behind end x ∷ ls) (laid_from-append (end_of (laid_behind end x)) xs ys)

pub laid_end-append : (end : ℕ) (xs ys : List Global) → laid_end end (xs ++ ys) ≡ laid_end (laid_end end xs) ys
laid_end-append end [] ys = refl
laid_end-append end (x ∷ xs) ys = laid_end-append (end_of (laid_behind end x)) xs ys

-- ---- room

all_front : {X : Type 0} (P : X → Type 0) (xs ys : List X) → AllByRecursion P (xs ++ ys) → AllByRecursion P xs
all_front P [] ys h = tt
all_front P (x ∷ xs) ys h = (h.0, all_front P xs ys h.1)

all_behind : {X : Type 0} (P : X → Type 0) (xs ys : List X) → AllByRecursion P (xs ++ ys) → AllByRecursion P ys
all_behind P [] ys h = h
all_behind P (x ∷ xs) ys h = all_behind P xs ys h.1

room-append : (xs ys : List Global) → room_of (xs ++ ys) ≡ room_of xs + room_of ys
room-append xs ys = sum_by-append (λ (g : Global). g.align + length g.bytes) xs ys

-- there is room for the first of globals, and behind them for the others
pub room_front : (end : ℕ) (xs ys : List Global) → HaveRoom end (xs ++ ys) → HaveRoom end xs
room_front end xs ys h =
    let whole = room-append xs ys in
    let fit = h.fit in
    record { aligned = all_front _ xs ys h.aligned; fit = omega arith }

pub room_behind : (end end' : ℕ) (xs ys : List Global) → HaveRoom end (xs ++ ys) → end' ≤ end + room_of xs → HaveRoom end' ys
room_behind end end' xs ys h low =
    let whole = room-append xs ys in
    let fit = h.fit in
    record { aligned = all_behind _ xs ys h.aligned; fit = omega arith }

-- ---- some of the globals, laid

pub laid_more : (constant : Bool) (end end' : ℕ) (before after : List Laid) (xs ys : List Global)
    → after ≡ before ++ laid_from end (filter (is_of constant) xs) → end' ≡ laid_end end (filter (is_of constant) xs)
    → after ++ laid_from end' (filter (is_of constant) ys) ≡ before ++ laid_from end (filter (is_of constant) (xs ++ ys))
laid_more constant end end' before after xs ys e f =
    let one = filter (is_of constant) xs in
    let two = filter (is_of constant) ys in
    ap (λ (ls : List Laid). ls ++ laid_from end' two) e ∙ append_assoc before (laid_from end one) (laid_from end' two)
    ∙ ap (λ (n : ℕ). before ++ (laid_from end one ++ laid_from n two)) f
    ∙ ap (λ (ls : List Laid). before ++ ls) (sym (laid_from-append end one two))
    ∙ ap (λ (gs : List Global). before ++ laid_from end gs) (sym (filter-append (is_of constant) xs ys))

pub end_more : (constant : Bool) (end end' : ℕ) (xs ys : List Global) → end' ≡ laid_end end (filter (is_of constant) xs)
    → laid_end end' (filter (is_of constant) ys) ≡ laid_end end (filter (is_of constant) (xs ++ ys))
end_more constant end end' xs ys f =
    let one = filter (is_of constant) xs in
    let two = filter (is_of constant) ys in
    ap (λ (n : ℕ). laid_end n two) f ∙ sym (laid_end-append end one two) ∙ ap (laid_end end) (sym (filter-append (is_of constant) xs ys))
