-- What is known of a part once its checks have passed.
use Rattle.std.proofs.Common.{◌≡◌, ℕ, zero, suc, ◌+◌, ◌-◌, ◌≤◌, ◌<◌, eqb, take, drop, refl, ap, ◌∙◌, List, length, None, arith}
use Rattle.std.specs.List.{after_first}
use Rattle.std.proofs.lemmas.List.{length-take, length-drop}
use Rattle.std.proofs.lemmas.Bool.{leb-true, ltb-true}
use Rattle.pa_num.specs.declared.fault.ImageRule.TheVariants.{F1, F2}
use Rattle.pa_layout.specs.Flaws.{Zeros, Holds, first, flaw_of}
use Rattle.pa_layout.specs.Names.{is_zero, name_length, behind}
use Rattle.pa_layout.proofs.Facts.{each_none, holds_true}
use Rattle.pa_fixups.specs.declared.tables.DataAt.{DataAt}
use Rattle.pa_fixups.specs.Fixups.{starts_end, imports_at, names_at, count_in, text_in, starts_checks, table_checks, entry_checks, name_checks, fixups_flaw}

pub starts_room : (at : DataAt) (part : List ℕ) → first (starts_checks at (length part)) part ≡ None → starts_end at ≤ length part
unfolding starts_checks
starts_room at part e = leb-true _ _ (holds_true F1 32 _ part (each_none (starts_checks at (length part)) part e).1.1.0)

pub tables_room : (at : DataAt) (count : ℕ) (part : List ℕ) → first (table_checks at count (length part)) part ≡ None → names_at at count < length part
unfolding table_checks
tables_room at count part e = ltb-true _ _ (holds_true F1 (names_at at count) _ part (each_none (table_checks at count (length part)) part e).1.1.1.1.0)

-- where the checks before the last find nothing, the first flaw is that of the last one
pub parts_flaw : (at : DataAt) (part text : List ℕ) (count entries names left : ℕ) → count ≡ count_in part → entries ≡ imports_at at → names ≡ names_at at count → text ≡ drop (names + 1) part → left ≡ length (behind count text)
    → first (starts_checks at (length part)) part ≡ None → first (table_checks at count (length part)) part ≡ None → first (entry_checks count entries part) part ≡ None → flaw_of (Zeros F2 names (names + 1)) part ≡ None
    → first (name_checks count entries 1 part text) part ≡ None → fixups_flaw at part ≡ flaw_of (Holds F1 (length part - left) (eqb left 0)) part
unfolding fixups_flaw
parts_flaw at part text count entries names left ec ee en et el f1 f2 f3 f4 f5 =
    let en' : names ≡ names_at at (count_in part) = en ∙ ap (names_at at) ec in
    let et' : text ≡ text_in at part = et ∙ ap (λ (n : ℕ). drop (n + 1) part) en' in
    let f2' = rw ec at f2 in
    let f3' = rw (ec, ee) at f3 in
    let f4' = rw en' at f4 in
    let f5' = rw (ec, ee, et') at f5 in
    let el' = rw (ec, et') at el in
    rw (f1, f2', f3', f4', f5', el') refl

behind_le : (n : ℕ) (text : List ℕ) → length (behind n text) ≤ length text
behind_le zero text = omega arith
behind_le (suc n) text = omega (arith, behind_le n (after_first is_zero text), length-drop (name_length text + 1) text)

pub left_le : (count left at : ℕ) (part : List ℕ) → left ≡ length (behind count (take (length part - at) (drop at part))) → left ≤ length part
left_le count left at part e = omega (arith, behind_le count (take (length part - at) (drop at part)), length-take (length part - at) (drop at part), length-drop at part)
