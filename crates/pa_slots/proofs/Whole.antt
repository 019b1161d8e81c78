-- The pages with the bytes of __data among them.
use Rattle.std.proofs.Common.{◌≡◌, ℕ, ◌+◌, ◌-◌, ◌*◌, ◌≤◌, List, [], ◌∷◌, ◌++◌, length, take, drop, replicate, Option, Some, None, Result, Ok, Err, refl, sym, ap, subst, ◌∙◌, arith}
use Rattle.std.specs.Prelude.{IfOk}
use Rattle.std.proofs.lemmas.List.{length-take-le, length-drop, length-append, length-replicate, take_at, drop_at, take-append-drop, drop-drop, append-nil}
use Rattle.pa_num.specs.declared.fault.ImageRule.{ImageRule}
use Rattle.pa_num.specs.declared.fault.Fault.{Fault}
use Rattle.pa_num.specs.declared.fault.Fault.TheVariants.{Refused, Memory}
use Rattle.pa_layout.specs.declared.checks.Flaw.{Flaw}
use Rattle.pa_layout.specs.Fields.{nonzero_in, IsAt}
use Rattle.pa_layout.specs.Flaws.{AnswersOrMemory, GivesOrMemory, ◌then◌}
use Rattle.pa_layout.proofs.Laws.{IsBytes, IsAt-itself, zeros-stand, zeros-read}
use Rattle.pa_layout.proofs.Facts.{then_none, none_then}
use Rattle.pa_layout.proofs.Pieces.{Piece, piece, Chained, AllAt, joined, pieces-whole, pieces-apart, length-joined}
use Rattle.pa_fixups.specs.declared.kind.Fix.{Fix}
use Rattle.pa_slots.specs.declared.slots.Slots.{Slots}
use Rattle.pa_slots.specs.declared.slots.SlotsAt.{SlotsAt}
use Rattle.pa_slots.specs.Pages.{page_size, cells_from, ArePages, pages_flaw, slots_in, plain_in}
use Rattle.pa_slots.specs.Slots.{plain_of, slots_with, AreSlots, beside_at, beside, slots_flaw, taken}
use Rattle.pa_slots.proofs.Pages.{pages_found, pages_again, StartsAt}

-- ---- the bytes beside the slots, in three parts

abbrev pub pieces : SlotsAt → ℕ → List ℕ → List Piece
pieces at count cells =
    piece 0 (replicate (cells_from at) 0) ∷ piece (cells_from at) cells ∷ piece (cells_from at + at.cells) (replicate (page_size * count - (cells_from at + at.cells)) 0) ∷ []

pub chained : (at : SlotsAt) (count : ℕ) (cells : List ℕ) → length cells ≡ at.cells → cells_from at + at.cells ≤ page_size * count → Chained 0 (pieces at count cells) (page_size * count)
chained at count cells e le =
    let a : length {A = ℕ} (replicate (cells_from at) 0) ≡ cells_from at = length-replicate {A = ℕ} (cells_from at) 0 in
    let n = page_size * count - (cells_from at + at.cells) in
    let b : length {A = ℕ} (replicate n 0) ≡ n = length-replicate {A = ℕ} n 0 in
    (refl, (omega arith, (omega arith, omega arith)))

pub plain_joined : (at : SlotsAt) (count : ℕ) (cells : List ℕ) → joined (pieces at count cells) ≡ plain_of at count cells
unfolding plain_of
plain_joined at count cells =
    let n = page_size * count - (cells_from at + at.cells) in
    ap (λ (l : List ℕ). replicate (cells_from at) 0 ++ (cells ++ l)) (append-nil (replicate n 0))

beside_none : (at : SlotsAt) (o : Option ℕ) → beside_at at o ≡ None → o ≡ None
beside_none at None e = refl
beside_none at (Some place) e = absurd cc

middle : (low n : ℕ) (bytes : List ℕ) → low + n ≤ length bytes → IsAt bytes low (take n (drop low bytes))
middle low n bytes le =
    let len : length (take n (drop low bytes)) ≡ n = length-take-le n (drop low bytes) (omega (arith, length-drop low bytes)) in
    record {
      inside = omega arith;
      reads = sym (take-append-drop n (drop low bytes)) ∙ ap (λ (l : List ℕ). take n (drop low bytes) ++ l) (drop-drop n low bytes ∙ ap (λ (k : ℕ). drop k bytes) (omega arith));
    }

three_nones : (a b c : Option Flaw) → (a then b then c) ≡ None → (a ≡ None) × (b ≡ None) × (c ≡ None)
three_nones a b c e =
    let p = then_none a (b then c) e in
    let q = then_none b c p.1 in
    (p.0, q.0, q.1)

pub slots_found : (at : SlotsAt) (starts bytes : List ℕ) → IsBytes bytes → length bytes ≡ page_size * length starts → cells_from at + at.cells ≤ length bytes → slots_flaw at starts bytes ≡ None → AreSlots at starts (taken at starts bytes) bytes
unfolding slots_flaw taken
slots_found at starts bytes fits size inside e =
    let count = length starts in
    let low = cells_from at in
    let high = cells_from at + at.cells in
    let plain = plain_in at 0 starts bytes in
    let cells = take at.cells (drop low plain) in
    let n = three_nones (pages_flaw at 0 starts bytes) (beside at 0 low plain) (beside at high (page_size * count) plain) e in
    let all = pages_found at 0 starts bytes fits size n.0 in
    let len : length plain ≡ page_size * count = all.size ∙ size in
    let le : high ≤ page_size * count = omega arith in
    let front : IsAt plain 0 (replicate (low - 0) 0) = zeros-stand 0 (low - 0) plain (omega arith) (beside_none at _ n.1) in
    let front' : IsAt plain 0 (replicate low 0) = subst (λ (k : ℕ). IsAt plain 0 (replicate k 0)) (omega arith) front in
    let back : IsAt plain high (replicate (page_size * count - high) 0) = zeros-stand high (page_size * count - high) plain (omega arith) (beside_none at _ n.2) in
    let mid = middle low at.cells plain (omega arith) in
    let lc : length cells ≡ at.cells = length-take-le at.cells (drop low plain) (omega (arith, length-drop low plain)) in
    let whole : plain ≡ joined (pieces at count cells) = pieces-whole plain (pieces at count cells) (subst (Chained 0 (pieces at count cells)) (sym len) (chained at count cells lc le)) (front', (mid, (back, tt))) in
    record {
      cells = lc;
      rising = all.rising;
      pages = subst (ArePages at 0 starts (slots_in at 0 starts bytes) bytes) (whole ∙ plain_joined at count cells) all.pages;
    }

-- ---- what is there is read

record Parts (at : SlotsAt) (count : ℕ) (cells plain : List ℕ) : Type 0 where
  pub front : nonzero_in 0 (cells_from at - 0) plain ≡ None
  pub cells_are : take at.cells (drop (cells_from at) plain) ≡ cells
  pub back : nonzero_in (cells_from at + at.cells) (page_size * count - (cells_from at + at.cells)) plain ≡ None

plain_parts : (at : SlotsAt) (count : ℕ) (cells plain : List ℕ) → length cells ≡ at.cells → cells_from at + at.cells ≤ page_size * count → plain ≡ plain_of at count cells → Parts at count cells plain
plain_parts at count cells plain e le p =
    let here : IsAt plain 0 (joined (pieces at count cells)) = subst (IsAt plain 0) (p ∙ sym (plain_joined at count cells)) (IsAt-itself plain) in
    let a = pieces-apart plain 0 (pieces at count cells) (page_size * count) (chained at count cells e le) here in
    let front : IsAt plain 0 (replicate (cells_from at - 0) 0) = subst (λ (k : ℕ). IsAt plain 0 (replicate k 0)) (omega arith) a.0 in
    record {
      front = zeros-read 0 (cells_from at - 0) plain front;
      cells_are = ap (take at.cells) a.1.0.reads ∙ take_at cells (drop (cells_from at + length cells) plain) at.cells e;
      back = zeros-read (cells_from at + at.cells) (page_size * count - (cells_from at + at.cells)) plain a.1.1.0;
    }

starts_zero : (fixes : List Fix) → StartsAt (page_size * 0) fixes
starts_zero [] = tt
starts_zero (fix ∷ fixes) = omega arith

slots_eq : (c1 c2 : List ℕ) (f1 f2 : List Fix) → c1 ≡ c2 → f1 ≡ f2 → slots_with c1 f1 ≡ slots_with c2 f2
slots_eq c1 c2 f1 f2 c f = cc

pub slots_again : (at : SlotsAt) (starts : List ℕ) (slots : Slots) (bytes : List ℕ) → cells_from at + at.cells ≤ page_size * length starts → AreSlots at starts slots bytes → (slots_flaw at starts bytes ≡ None) × (taken at starts bytes ≡ slots)
unfolding slots_flaw taken
slots_again at starts slots bytes le s =
    let plain = plain_of at (length starts) slots.cells in
    let all = pages_again at 0 starts slots.fixes bytes plain (starts_zero slots.fixes) s.rising s.pages in
    let parts = plain_parts at (length starts) slots.cells (plain_in at 0 starts bytes) s.cells le all.without in (
      none_then _ _ all.flaw (none_then _ _ (ap (beside_at at) parts.front) (ap (beside_at at) parts.back)),
      slots_eq _ slots.cells _ slots.fixes parts.cells_are all.slots,
    )

-- ---- answers

pub is_found : (at : SlotsAt) (starts bytes : List ℕ) (result : Result Slots (Fault ImageRule)) → IsBytes bytes → length bytes ≡ page_size * length starts → cells_from at + at.cells ≤ length bytes → IfOk result (λ slots. slots ≡ taken at starts bytes) → AnswersOrMemory result (slots_flaw at starts bytes)
    → IfOk result (λ slots. AreSlots at starts slots bytes)
is_found at starts bytes (Ok slots) fits size inside v a = subst (λ (s : Slots). AreSlots at starts s bytes) (sym v) (slots_found at starts bytes fits size inside a)
is_found at starts bytes (Err fault) fits size inside v a = tt

pub is_only : (at : SlotsAt) (starts bytes : List ℕ) (result : Result Slots (Fault ImageRule)) → length bytes ≡ page_size * length starts → cells_from at + at.cells ≤ length bytes → IfOk result (λ slots. slots ≡ taken at starts bytes) → AnswersOrMemory result (slots_flaw at starts bytes)
    → (slots : Slots) → AreSlots at starts slots bytes → GivesOrMemory slots result
is_only at starts bytes (Ok given) size inside v a slots s = v ∙ (slots_again at starts slots bytes (omega arith) s).1
is_only at starts bytes (Err (Refused rule place)) size inside v a slots s = let e = (slots_again at starts slots bytes (omega arith) s).0 in absurd cc
is_only at starts bytes (Err Memory) size inside v a slots s = tt
