-- The two passes over a function's operations.
use Rattle.std.proofs.Common.{◌≡◌, ℕ, suc, ◌+◌, ◌-◌, ◌≤◌, ◌<◌, ◌^◌, Bool, true, false, cond, List, [], ◌∷◌, ◌++◌, length, take, drop, get_or, Option, Some, None, refl, sym, ap, ◌∙◌, arith}
use Rattle.std.specs.Prelude.{option_and_then, IfSome}
use Rattle.std.proofs.lemmas.List.{length-append, append_assoc, take_all}
use Rattle.pa_a64.specs.declared.instr.Instr.{Instr}
use Rattle.pa_object.specs.declared.object.Ref.{Ref}
use Rattle.pa_lir.specs.declared.op.Op.{Op}
use Rattle.pa_lir.specs.declared.function.LirFn.{LirFn}
use Rattle.pa_lir.specs.Flow.{is_label}
use Rattle.pa_lir.specs.Placing.{Places, kept, or_else, noted}
use Rattle.pa_lir.specs.Ready.{most_words}
use Rattle.pa_select.specs.Selected.{words_of, words_to, label_from, label_at, label_of, target_of, code_to, body, count_of_words}
use Rattle.pa_select.specs.Objects.{refs_of, refs_from, target_in}
use Rattle.pa_select.specs.Selectable.{IsSelectable}
use Rattle.pa_select.proofs.Lengths.{length-code_of}
use Rattle.pa_select.proofs.Ranges.{target_near}

-- ---- the first pass

-- an operation at a place, and the others behind it
pub label_more : (f : LirFn) (g : Option ℕ) (o : Op) (os : List Op) (at l : ℕ) → or_else (or_else g (noted o at l)) (label_from f (at + words_of f o) os l) ≡ or_else g (label_from f at (o ∷ os) l)
unfolding label_from
label_more f (Some n) o os at l = refl
label_more f None o os at l = go (is_label l o)
  where
    go : (b : Bool) → or_else (cond b (Some at) None) (label_from f (at + words_of f o) os l) ≡ cond b (Some at) (label_from f (at + words_of f o) os l)
    go true = refl
    go false = refl

-- behind the last one
pub label_none : (f : LirFn) (g : Option ℕ) (at l : ℕ) → or_else g (label_from f at [] l) ≡ g
unfolding label_from
label_none f None at l = refl
label_none f (Some n) at l = refl

-- the length of the code with one operation more
pub longer : (f : LirFn) (code : List Instr) (o : Op) (to : Option ℕ) → length (code ++ code_to f (length code) to o) ≡ length code + words_of f o
longer f code o to = length-append code (code_to f (length code) to o) ∙ ap (λ n. length code + n) (length-code_of f (words_to (length code + words_of f o - 1) to) o)

-- ---- the second pass

pub same_target : (f : LirFn) (labels : Places) (o : Op) → ((l : ℕ) → kept labels l ≡ label_at f l) → target_in labels o ≡ target_of f o
same_target f labels o h = go (label_of o)
  where
    go : (label : Option ℕ) → option_and_then (kept labels) label ≡ option_and_then (label_at f) label
    go None = refl
    go (Some l) = h l

pub target_small : (f : LirFn) (o : Op) (to : Option ℕ) → IsSelectable f → count_of_words f ≤ most_words → to ≡ target_of f o → IfSome to (λ k. k < 2 ^ 24)
target_small f o None h few e = tt
target_small f o (Some k) h few e = omega (arith, target_near f h few o k (sym e))

pub body_more : (f : LirFn) (code : List Instr) (o : Op) (os : List Op) (to : Option ℕ) → to ≡ target_of f o
    → (code ++ code_to f (length code) to o) ++ body f (length (code ++ code_to f (length code) to o)) os ≡ code ++ body f (length code) (o ∷ os)
unfolding body
body_more f code o os to e =
    ap (λ n. (code ++ code_to f (length code) to o) ++ body f n os) (longer f code o to)
    ∙ (append_assoc code (code_to f (length code) to o) (body f (length code + words_of f o) os)
    ∙ ap (λ t. code ++ (code_to f (length code) t o ++ body f (length code + words_of f o) os)) e)

pub refs_more : (f : LirFn) (code : List Instr) (refs : List Ref) (o : Op) (os : List Op) (to : Option ℕ)
    → (refs ++ refs_of f (length code) o) ++ refs_from f (length (code ++ code_to f (length code) to o)) os ≡ refs ++ refs_from f (length code) (o ∷ os)
unfolding refs_from
refs_more f code refs o os to =
    ap (λ n. (refs ++ refs_of f (length code) o) ++ refs_from f n os) (longer f code o to)
    ∙ append_assoc refs (refs_of f (length code) o) (refs_from f (length code + words_of f o) os)

-- ---- the list of operations that are left

pub cons_of : (os : List Op) (o : Op) → o ≡ get_or os 0 o → 1 ≤ length os → os ≡ o ∷ take (length os - 1) (drop 1 os)
cons_of [] o e some = absurd (no_item some)
  where
    no_item : 1 ≤ 0 → ⊥
    no_item h = omega arith
cons_of (p ∷ os) o e some =
    let less : suc (length os) - 1 ≡ length os = omega arith in
    ap (λ x. x ∷ os) (sym e) ∙ (ap (λ x. o ∷ x) (sym (take_all (length os) os (omega arith))) ∙ ap (λ n. o ∷ take n os) (sym less))

pub none_of : (os : List Op) → length os < 1 → os ≡ []
none_of [] h = refl
none_of (o ∷ os) h = absurd (too_long os h)
  where
    too_long : (os : List Op) → suc (length os) < 1 → ⊥
    too_long os h = omega arith
