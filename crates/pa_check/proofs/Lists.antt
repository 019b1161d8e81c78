-- The first flaw of stubs and slots, one after the other.
use Rattle.std.proofs.Common.{◌≡◌, ℕ, zero, suc, ◌+◌, ◌-◌, ◌*◌, ◌%◌, ◌≤◌, ◌<◌, List, [], ◌∷◌, length, get_or, drop, drop-cons, refl, ap, subst, ◌∙◌, arith, Some, None, ◌⊎◌, inl, inr, All}
use Rattle.std.specs.Prelude.{Bool, true, false, cond, ◌&&◌, ◌||◌, eqb}
use Rattle.std.specs.Option.{option_or}
use Rattle.std.proofs.lemmas.List.Elements.{All-head, All-tail}
use Rattle.std.proofs.lemmas.Bool.{ne_eqb, eqb-true, cases_lt, and_parts}
use Rattle.pa_a64.specs.Decoding.{decoded}
use Rattle.pa_fixups.specs.declared.kind.Fix.{Fix}
use Rattle.pa_fixups.specs.Chain.{Rising}
use Rattle.pa_slots.specs.Pages.{AreRising}
use Rattle.pa_check.specs.declared.rule.CheckRule.{CheckRule}
use Rattle.pa_check.specs.Text.{Text}
use Rattle.pa_check.specs.Rules.{stub_rule}
use Rattle.pa_check.specs.Slots.{is_import, has_import, first_no_import, may_hold, first_unsafe, no_fix}
use Rattle.pa_check.specs.Windowed.{flaw_of, first_stub}

-- ---- stubs

pub stub_step : (t : Text) (from slots : ℕ) (words : List ℕ) (k : ℕ) → k < length words → first_stub t from slots k (drop k words) ≡ option_or (flaw_of (t.stubs + 4 * k) (stub_rule t from slots k (decoded (get_or words k 0)))) (first_stub t from slots (k + 1) (drop (k + 1) words))
unfolding first_stub
stub_step t from slots words k l = let q : suc k ≡ k + 1 = omega arith in rw (drop-cons words k 0 l) (ap (λ z. option_or (flaw_of (t.stubs + 4 * k) (stub_rule t from slots k (decoded (get_or words k 0)))) (first_stub t from slots z (drop z words))) q)

drop_past : {A : Type 0} (xs : List A) (k : ℕ) → length xs ≤ k → drop k xs ≡ []
drop_past [] zero l = refl
drop_past [] (suc k) l = refl
drop_past (x ∷ xs) zero l = absurd (omega arith)
drop_past (x ∷ xs) (suc k) l = drop_past xs k (omega arith)

pub stub_past : (t : Text) (from slots : ℕ) (words : List ℕ) (k : ℕ) → length words ≤ k → first_stub t from slots k (drop k words) ≡ None
unfolding first_stub
stub_past t from slots words k l = rw (drop_past words k l) refl

-- ---- slots behind one another

abbrev pub at_of : List Fix → ℕ → ℕ
at_of fixes i = (get_or fixes i no_fix).at

rising_first : (fix : Fix) (fixes : List Fix) (i : ℕ) → Rising fix fixes → i < length fixes → fix.at < at_of fixes i
rising_first fix [] i r l = absurd (omega arith)
rising_first fix (x ∷ fixes) zero r l = r.0
rising_first fix (x ∷ fixes) (suc i) r l = let a = r.0 in let b = rising_first x fixes i r.1 (omega arith) in omega arith

rising_tail : (fix : Fix) (fixes : List Fix) → Rising fix fixes → AreRising fixes
rising_tail fix [] r = tt
rising_tail fix (x ∷ fixes) r = r.1

rising : (fixes : List Fix) (i j : ℕ) → AreRising fixes → i < j → j < length fixes → at_of fixes i < at_of fixes j
rising [] i j r l h = absurd (omega arith)
rising (x ∷ fixes) i zero r l h = absurd (omega arith)
rising (x ∷ fixes) zero (suc j) r l h = rising_first x fixes j r (omega arith)
rising (x ∷ fixes) (suc i) (suc j) r l h = rising fixes i j (rising_tail x fixes r) (omega arith) (omega arith)

aligned_at : (fixes : List Fix) (i : ℕ) → All (λ fix. fix.at % 8 ≡ 0) fixes → i < length fixes → at_of fixes i % 8 ≡ 0
aligned_at [] i a l = absurd (omega arith)
aligned_at (x ∷ fixes) zero a l = All-head (λ fix. fix.at % 8 ≡ 0) x fixes a
aligned_at (x ∷ fixes) (suc i) a l = aligned_at fixes i (All-tail (λ fix. fix.at % 8 ≡ 0) x fixes a) (omega arith)

-- multiples of 8 that rise
at_least : (fixes : List Fix) (i : ℕ) → AreRising fixes → All (λ fix. fix.at % 8 ≡ 0) fixes → i < length fixes → 8 * i ≤ at_of fixes i
at_least fixes zero r a l = omega arith
at_least fixes (suc i) r a l =
    let b = at_least fixes i r a (omega arith) in
    let c = rising fixes i (suc i) r (omega arith) l in
    let d = aligned_at fixes i a (omega arith) in
    let e = aligned_at fixes (suc i) a l in
    omega arith

-- ---- imports

has_nowhere : (fixes : List Fix) (at : ℕ) → ((j : ℕ) → j < length fixes → at_of fixes j ≡ at → ⊥) → has_import fixes at ≡ false
has_nowhere [] at h = refl
has_nowhere (x ∷ fixes) at h = let a : eqb x.at at ≡ false = ne_eqb x.at at (h 0 (omega arith)) in rw a (has_nowhere fixes at (λ j l e. h (suc j) (omega arith) e))

has_only : (fixes : List Fix) (i at : ℕ) → i < length fixes → ((j : ℕ) → j < length fixes → (j ≡ i → ⊥) → at_of fixes j ≡ at → ⊥) → has_import fixes at ≡ (eqb (at_of fixes i) at && is_import (get_or fixes i no_fix).kind)
has_only [] i at l h = absurd (omega arith)
has_only (x ∷ fixes) zero at l h = rw (has_nowhere fixes at (λ j m e. h (suc j) (omega arith) (λ z. absurd (omega arith)) e)) (or_false (eqb x.at at && is_import x.kind))
  where
    or_false : (b : Bool) → (b || false) ≡ b
    or_false true = refl
    or_false false = refl
has_only (x ∷ fixes) (suc i) at l h = let a : eqb x.at at ≡ false = ne_eqb x.at at (h 0 (omega arith) (λ z. absurd (omega arith))) in rw a (has_only fixes i at (omega arith) (λ j m n e. h (suc j) (omega arith) (λ z. n (omega arith)) e))

any_default : (xs : List Fix) (i : ℕ) (d e : Fix) → i < length xs → get_or xs i d ≡ get_or xs i e
any_default [] i d e l = absurd (omega arith)
any_default (x ∷ xs) zero d e l = refl
any_default (x ∷ xs) (suc i) d e l = any_default xs i d e (omega arith)

-- the slot of number i, where those before it stand one behind the other
pub has_here : (fixes : List Fix) (i : ℕ) (d : Fix) → AreRising fixes → All (λ fix. fix.at % 8 ≡ 0) fixes → ((j : ℕ) → j < i → at_of fixes j ≡ 8 * j) → i < length fixes → has_import fixes (8 * i) ≡ (eqb (get_or fixes i d).at (8 * i) && is_import (get_or fixes i d).kind)
has_here fixes i d r a b l = rw (any_default fixes i d no_fix l) (has_only fixes i (8 * i) l (λ j m n e. go j m n e (cases_lt j i)))
  where
    go : (j : ℕ) → j < length fixes → (j ≡ i → ⊥) → at_of fixes j ≡ 8 * i → ((j < i) ⊎ (i ≤ j)) → ⊥
    go j m n e (inl u) = let c = b j u in omega arith
    go j m n e (inr u) = let v : i < j = omega (arith, n) in let c = rising fixes i j r v m in let d = at_least fixes i r a l in omega arith

pub has_past : (fixes : List Fix) (i : ℕ) → ((j : ℕ) → j < i → at_of fixes j ≡ 8 * j) → length fixes ≤ i → has_import fixes (8 * i) ≡ false
has_past fixes i b l = has_nowhere fixes (8 * i) (λ j m e. let c = b j (omega arith) in omega arith)

pub there_at : (fixes : List Fix) (i : ℕ) (d : Fix) → i < length fixes → (eqb (get_or fixes i d).at (8 * i) && is_import (get_or fixes i d).kind) ≡ true → at_of fixes i ≡ 8 * i
there_at fixes i d l e = let a = eqb-true _ _ (and_parts _ _ e).0 in ap (λ (f : Fix). f.at) (any_default fixes i no_fix d l) ∙ a

pub no_import_stops : (fixes : List Fix) (i n : ℕ) → i < n → has_import fixes (8 * i) ≡ false → first_no_import fixes (8 * i) (n - i) ≡ Some (8 * i)
unfolding first_no_import
no_import_stops fixes i n l e = let q : n - i ≡ suc (n - (i + 1)) = omega arith in rw (q, e) refl

pub no_import_goes : (fixes : List Fix) (i n : ℕ) → i < n → has_import fixes (8 * i) ≡ true → first_no_import fixes (8 * i) (n - i) ≡ first_no_import fixes (8 * (i + 1)) (n - (i + 1))
unfolding first_no_import
no_import_goes fixes i n l e = let q : n - i ≡ suc (n - (i + 1)) = omega arith in let r : 8 * i + 8 ≡ 8 * (i + 1) = omega arith in rw (q, e) (ap (λ z. first_no_import fixes z (n - (i + 1))) r)

pub no_import_ends : (fixes : List Fix) (i n : ℕ) → n ≤ i → first_no_import fixes (8 * i) (n - i) ≡ None
unfolding first_no_import
no_import_ends fixes i n l = let q : n - i ≡ 0 = omega arith in rw q refl

-- ---- other slots

pub unsafe_step : (t : Text) (base got : ℕ) (fixes : List Fix) (k : ℕ) (d : Fix) → k < length fixes → first_unsafe t base got (drop k fixes) ≡ cond (may_hold t base got (get_or fixes k d)) (first_unsafe t base got (drop (k + 1) fixes)) (Some (get_or fixes k d).at)
unfolding first_unsafe
unsafe_step t base got fixes k d l = let q : suc k ≡ k + 1 = omega arith in rw (drop-cons fixes k d l) (ap (λ z. cond (may_hold t base got (get_or fixes k d)) (first_unsafe t base got (drop z fixes)) (Some (get_or fixes k d).at)) q)

pub unsafe_past : (t : Text) (base got : ℕ) (fixes : List Fix) (k : ℕ) → length fixes ≤ k → first_unsafe t base got (drop k fixes) ≡ None
unfolding first_unsafe
unsafe_past t base got fixes k l = rw (drop_past fixes k l) refl

pub one_more : (fixes : List Fix) (i : ℕ) → ((j : ℕ) → j < i → at_of fixes j ≡ 8 * j) → at_of fixes i ≡ 8 * i → (j : ℕ) → j < i + 1 → at_of fixes j ≡ 8 * j
one_more fixes i b h j l = go (cases_lt j i)
  where
    go : ((j < i) ⊎ (i ≤ j)) → at_of fixes j ≡ 8 * j
    go (inl a) = b j a
    go (inr a) = let e : i ≡ j = omega arith in subst (λ z. at_of fixes z ≡ 8 * z) e h

-- ---- what loops take from it

pub stub_stops : (t : Text) (from slots : ℕ) (words : List ℕ) (k : ℕ) (r : CheckRule) → k < length words → stub_rule t from slots k (decoded (get_or words k 0)) ≡ Some r → first_stub t from slots k (drop k words) ≡ Some (record { offset = t.stubs + 4 * k; rule = r })
stub_stops t from slots words k r l e = stub_step t from slots words k l ∙ rw e refl

pub stub_goes : (t : Text) (from slots : ℕ) (words : List ℕ) (k : ℕ) → k < length words → stub_rule t from slots k (decoded (get_or words k 0)) ≡ None → first_stub t from slots k (drop k words) ≡ first_stub t from slots (k + 1) (drop (k + 1) words)
stub_goes t from slots words k l e = stub_step t from slots words k l ∙ rw e refl

pub unsafe_stops : (t : Text) (base got : ℕ) (fixes : List Fix) (k : ℕ) (d : Fix) → k < length fixes → may_hold t base got (get_or fixes k d) ≡ false → first_unsafe t base got (drop k fixes) ≡ Some (get_or fixes k d).at
unsafe_stops t base got fixes k d l e = unsafe_step t base got fixes k d l ∙ rw e refl

pub unsafe_goes : (t : Text) (base got : ℕ) (fixes : List Fix) (k : ℕ) (d : Fix) → k < length fixes → may_hold t base got (get_or fixes k d) ≡ true → first_unsafe t base got (drop k fixes) ≡ first_unsafe t base got (drop (k + 1) fixes)
unsafe_goes t base got fixes k d l e = unsafe_step t base got fixes k d l ∙ rw e refl
