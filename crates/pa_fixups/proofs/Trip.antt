-- A chain that is written is read, and one that is read was written so.
use Rattle.std.proofs.Common.{◌≡◌, ℕ, zero, suc, ◌+◌, ◌-◌, ◌*◌, ◌/◌, ◌≤◌, ◌<◌, ◌^◌, ◌%◌, Bool, true, false, cond, eqb, ◌||◌, not, List, [], ◌∷◌, length, None, Result, Ok, Err, refl, sym, ap, subst, ◌∙◌, arith, map}
use Rattle.std.specs.Prelude.{IfOk}
use Rattle.std.proofs.lemmas.Bool.{eqb-true, eqb-false, eq-eqb, ne_eqb, and_parts}
use Rattle.pa_num.specs.declared.fault.ImageRule.{ImageRule}
use Rattle.pa_num.specs.declared.fault.ImageRule.TheVariants.{F3, F4, F5, F6}
use Rattle.pa_num.specs.declared.fault.Fault.{Fault}
use Rattle.pa_num.specs.declared.fault.Fault.TheVariants.{Refused, Memory}
use Rattle.pa_layout.specs.Flaws.{Holds, flaw_of, first, AnswersOrMemory, GivesOrMemory}
use Rattle.pa_layout.proofs.Laws.{IsBytes, number-lt}
use Rattle.pa_layout.proofs.Facts.{then_none, each_none, holds_true}
use Rattle.pa_fixups.specs.declared.kind.FixKind.{FixKind}
use Rattle.pa_fixups.specs.declared.kind.Fix.{Fix}
use Rattle.pa_fixups.specs.declared.bounds.Bounds.{Bounds}
use Rattle.pa_fixups.specs.Slots.{kind_of, zeros_hold, slot_of, packed, parts_of, FieldsFit}
use Rattle.pa_fixups.specs.Chain.{may_stand, links_on, ordinal_fits, target_fits, word_at, link_at, fix_at, places, chain_places, slot_checks, first_at, slots_flaw, Linked, FixFits, AllFit, Rising, IsChain}
use Rattle.pa_fixups.proofs.SlotLaws.{slot_of-packed, IsWordOf-kind_of}
use Rattle.pa_fixups.proofs.Walk.{slot_ok, stands_inside, ends_at, goes_on, fixes_from}

stands_even : (bounds : Bounds) (len at : ℕ) → may_stand bounds len at ≡ true → at % 8 ≡ 0
unfolding may_stand
stands_even bounds len at e = eqb-true _ _ (and_parts _ _ e).0

-- ---- what is written is read

-- what is read where a slot's word was written
record Holding (page : List ℕ) (fix : Fix) (link : ℕ) : Type 0 where
  pub fix_is : fix_at page fix.at ≡ fix
  pub link_is : link_at page fix.at ≡ link
  pub zeros : flaw_of (Holds F3 fix.at (zeros_hold (word_at page fix.at))) page ≡ None

abbrev fix_of : ℕ → FixKind → Fix
fix_of at kind = record { at = at; kind = kind }

holding : (page : List ℕ) (fix : Fix) (link : ℕ) → FieldsFit fix.kind → link < 2 ^ 11 → word_at page fix.at ≡ packed (parts_of fix.kind link) → Holding page fix link
holding page fix link fits lt e =
    let again : slot_of (word_at page fix.at) ≡ Ok (fix.kind, link) = ap slot_of e ∙ slot_of-packed fix.kind link fits lt in
    let s = slot_ok (word_at page fix.at) fix.at page (fix.kind, link) (sym again) in
    record { fix_is = ap (λ (x : FixKind × ℕ). fix_of fix.at x.0) (sym s.0); link_is = ap (λ (x : FixKind × ℕ). x.1) (sym s.0); zeros = s.1 }

passes : (rule : ImageRule) (place : ℕ) (holds : Bool) (page : List ℕ) → holds ≡ true → flaw_of (Holds rule place holds) page ≡ None
unfolding flaw_of
passes rule place holds page e = rw e refl

slot_passes : (bounds : Bounds) (page : List ℕ) (fix : Fix) (link : ℕ) → Holding page fix link → FixFits bounds (length page) fix → links_on bounds (length page) fix.at link ≡ true → first (slot_checks bounds page fix.at) page ≡ None
unfolding slot_checks
slot_passes bounds page fix link h fits on =
    let k : kind_of (word_at page fix.at) ≡ fix.kind = ap (λ (x : Fix). x.kind) h.fix_is in
    let o = passes F5 fix.at (ordinal_fits bounds (kind_of (word_at page fix.at))) page (ap (ordinal_fits bounds) k ∙ fits.ordinal) in
    let t = passes F6 fix.at (target_fits bounds (kind_of (word_at page fix.at))) page (ap (target_fits bounds) k ∙ fits.target) in
    let l = passes F4 fix.at (links_on bounds (length page) fix.at (link_at page fix.at)) page (ap (links_on bounds (length page) fix.at) h.link_is ∙ on) in
    rw (h.zeros, o, t, l) refl

-- the places from a slot on say the slots that were written
record Again (n : ℕ) (bounds : Bounds) (page : List ℕ) (fix : Fix) (fixes : List Fix) : Type 0 where
  pub fixes_are : map (λ at. fix_at page at) (places n bounds page fix.at) ≡ fix ∷ fixes
  pub flaw : first_at (λ at. slot_checks bounds page at) page (places n bounds page fix.at) ≡ None

again_last : (n : ℕ) (bounds : Bounds) (page : List ℕ) (fix : Fix) → Holding page fix 0 → FixFits bounds (length page) fix → Again (suc n) bounds page fix []
again_last n bounds page fix h fits =
    let z : eqb (link_at page fix.at) 0 ≡ true = eq-eqb _ _ h.link_is in
    let p = slot_passes bounds page fix 0 h fits refl in
    record { fixes_are = rw z (ap (λ (x : Fix). x ∷ []) h.fix_is); flaw = rw (z, p) refl }

again_on : (n : ℕ) (bounds : Bounds) (page : List ℕ) (fix next : Fix) (more : List Fix) (link : ℕ) → Holding page fix link → FixFits bounds (length page) fix → (link ≡ 0 → ⊥) → fix.at + 8 * link ≡ next.at → may_stand bounds (length page) next.at ≡ true → Again n bounds page next more
    → Again (suc n) bounds page fix (next ∷ more)
again_on n bounds page fix next more link h fits ne there stands rest =
    let z : eqb link 0 ≡ false = ne_eqb _ _ ne in
    let e = h.link_is in
    let on : links_on bounds (length page) fix.at link ≡ true = rw (z, there) stands in
    let p = slot_passes bounds page fix link h fits on in
    let one : places (suc n) bounds page fix.at ≡ fix.at ∷ places n bounds page next.at = rw (e, z, there, stands) refl in
    record {
      fixes_are = ap (map (λ at. fix_at page at)) one ∙ ap (λ (l : List Fix). fix_at page fix.at ∷ l) rest.fixes_are ∙ ap (λ (x : Fix). x ∷ next ∷ more) h.fix_is;
      flaw = ap (first_at (λ at. slot_checks bounds page at) page) one ∙ rw p rest.flaw;
    }

chain_again : (n : ℕ) (bounds : Bounds) (page : List ℕ) (fix : Fix) (fixes : List Fix) → length page ≤ 0x4000 → length page - fix.at ≤ n → AllFit bounds (length page) (fix ∷ fixes) → Rising fix fixes → Linked page (fix ∷ fixes) → Again n bounds page fix fixes
chain_again zero bounds page fix fixes short enough fits rise l = let i = stands_inside bounds (length page) fix.at fits.0.stands in absurd (omega arith)
chain_again (suc n) bounds page fix [] short enough fits rise l = again_last n bounds page fix (holding page fix 0 fits.0.fields (omega arith) l.0) fits.0
chain_again (suc n) bounds page fix (next ∷ more) short enough fits rise l =
    let i = stands_inside bounds (length page) fix.at fits.0.stands in
    let j = stands_inside bounds (length page) next.at fits.1.0.stands in
    let fe = stands_even bounds (length page) fix.at fits.0.stands in
    let ge = stands_even bounds (length page) next.at fits.1.0.stands in
    let link = (next.at - fix.at) / 8 in
    let lt : fix.at < next.at = rise.0 in
    let h = holding page fix link fits.0.fields (omega arith) l.0 in
    let rest = chain_again n bounds page next more short (omega arith) fits.1 rise.1 l.1 in
    again_on n bounds page fix next more link h fits.0 (λ z. omega arith) (omega arith) fits.1.0.stands rest

-- ---- what is read was written

-- a slot that passes its checks
record Passed (bounds : Bounds) (page : List ℕ) (at : ℕ) : Type 0 where
  pub fits : FixFits bounds (length page) (fix_at page at)
  pub word : word_at page at ≡ packed (parts_of (kind_of (word_at page at)) (link_at page at))
  pub on : links_on bounds (length page) at (link_at page at) ≡ true

slot_passed : (bounds : Bounds) (page : List ℕ) (at : ℕ) → IsBytes page → may_stand bounds (length page) at ≡ true → first (slot_checks bounds page at) page ≡ None → Passed bounds page at
unfolding slot_checks
slot_passed bounds page at bytes h e =
    let n = each_none (slot_checks bounds page at) page e in
    let z = holds_true F3 at (zeros_hold (word_at page at)) page n.0 in
    let w = IsWordOf-kind_of (word_at page at) (number-lt 8 at page bytes) z in
    record {
      fits = record { stands = h; fields = w.fields; ordinal = holds_true F5 at _ page n.1.0; target = holds_true F6 at _ page n.1.1.0 };
      word = sym w.packs;
      on = holds_true F4 at _ page n.1.1.1.0;
    }

record Taken (bounds : Bounds) (page : List ℕ) (at : ℕ) (ats : List ℕ) : Type 0 where
  pub fits : AllFit bounds (length page) (map (λ at. fix_at page at) (at ∷ ats))
  pub linked : Linked page (map (λ at. fix_at page at) (at ∷ ats))
  pub rising : Rising (fix_at page at) (map (λ at. fix_at page at) ats)

stops : (x y : Bool) → (x || not y) ≡ true → (x || y) ≡ true → x ≡ true
stops true y p q = refl
stops false true p q = absurd cc
stops false false p q = absurd cc

taken_last : (bounds : Bounds) (page : List ℕ) (at : ℕ) → Passed bounds page at → link_at page at ≡ 0 → Taken bounds page at []
taken_last bounds page at p z = record { fits = (p.fits, tt); linked = (p.word ∙ ap (λ (l : ℕ). packed (parts_of (kind_of (word_at page at)) l)) z, tt); rising = tt }

taken_on : (bounds : Bounds) (page : List ℕ) (at next : ℕ) (ats : List ℕ) → Passed bounds page at → (link_at page at ≡ 0 → ⊥) → next ≡ at + 8 * link_at page at → Taken bounds page next ats → Taken bounds page at (next ∷ ats)
taken_on bounds page at next ats p ne e t =
    let l : link_at page at ≡ (next - at) / 8 = omega arith in
    record {
      fits = (p.fits, t.fits);
      linked = (p.word ∙ ap (λ (l : ℕ). packed (parts_of (kind_of (word_at page at)) l)) l, t.linked);
      rising = (omega arith, t.rising);
    }

abbrev after : ℕ → Bounds → List ℕ → ℕ → List ℕ
after n bounds page at = cond (ends_at bounds page at) [] (places n bounds page (at + 8 * link_at page at))

chain_taken : (n : ℕ) (bounds : Bounds) (page : List ℕ) (at : ℕ) → IsBytes page → may_stand bounds (length page) at ≡ true → length page - at ≤ suc n → first_at (λ at. slot_checks bounds page at) page (places (suc n) bounds page at) ≡ None
    → Taken bounds page at (after n bounds page at)
chain_taken zero bounds page at bytes h enough e = let i = stands_inside bounds (length page) at h in absurd (omega arith)
chain_taken (suc n) bounds page at bytes h enough e =
    let i = stands_inside bounds (length page) at h in
    let s = then_none (first (slot_checks bounds page at) page) (first_at (λ at. slot_checks bounds page at) page (after (suc n) bounds page at)) e in
    let p = slot_passed bounds page at bytes h s.0 in
    let next = at + 8 * link_at page at in
    let go : (t : Bool) → ends_at bounds page at ≡ t → first_at (λ at. slot_checks bounds page at) page (cond t [] (places (suc n) bounds page next)) ≡ None → Taken bounds page at (cond t [] (places (suc n) bounds page next)) =
    λ t. elim t as (λ t. ends_at bounds page at ≡ t → first_at (λ at. slot_checks bounds page at) page (cond t [] (places (suc n) bounds page next)) ≡ None → Taken bounds page at (cond t [] (places (suc n) bounds page next))) [
      | true ↦ λ q f. taken_last bounds page at p (eqb-true _ _ (stops (eqb (link_at page at) 0) (may_stand bounds (length page) next) q p.on))
      | false ↦ λ q f.
          let g = goes_on (eqb (link_at page at) 0) (may_stand bounds (length page) next) q in
          let ne = eqb-false (link_at page at) 0 g.0 in
          taken_on bounds page at next (after n bounds page next) p ne refl (chain_taken n bounds page next bytes g.1 (omega arith) f)
    ] in
    go (ends_at bounds page at) refl s.1

-- ---- the chain

places_are : (k n : ℕ) (bounds : Bounds) (page : List ℕ) (at : ℕ) → k ≡ suc n → places k bounds page at ≡ at ∷ after n bounds page at
places_are k n bounds page at e = rw e refl

-- where no check fails, the slots that are read are the page's chain
pub chain_found : (bounds : Bounds) (page : List ℕ) (from : ℕ) → IsBytes page → may_stand bounds (length page) from ≡ true → slots_flaw bounds page from ≡ None → IsChain bounds page from (fixes_from bounds page from)
unfolding chain_places
chain_found bounds page from bytes h e =
    let i = stands_inside bounds (length page) from h in
    let n = length page - from - 1 in
    let k : length page - from ≡ suc n = omega arith in
    let one = places_are (length page - from) n bounds page from k in
    let t = chain_taken n bounds page from bytes h (omega arith) (rw k at e) in
    subst (λ (l : List ℕ). IsChain bounds page from (map (λ at. fix_at page at) l)) (sym one) (refl, t.rising, t.fits, t.linked)

-- where the page has a chain, it is the one that is read, and no check fails
pub chain_only : (bounds : Bounds) (page : List ℕ) (from : ℕ) (fixes : List Fix) → length page ≤ 0x4000 → IsChain bounds page from fixes
    → (may_stand bounds (length page) from ≡ true) × (fixes_from bounds page from ≡ fixes) × (slots_flaw bounds page from ≡ None)
unfolding chain_places
chain_only bounds page from [] short c = absurd c
chain_only bounds page from (fix ∷ fixes) short c =
    let a = chain_again (length page - fix.at) bounds page fix fixes short (omega arith) c.2 c.1 c.3 in (
      ap (may_stand bounds (length page)) (sym c.0) ∙ c.2.0.stands,
      ap (λ (n : ℕ). map (λ at. fix_at page at) (places (length page - n) bounds page n)) (sym c.0) ∙ a.fixes_are,
      ap (λ (n : ℕ). first_at (λ at. slot_checks bounds page at) page (places (length page - n) bounds page n)) (sym c.0) ∙ a.flaw,
    )

-- ---- answers

pub is_found : (bounds : Bounds) (page : List ℕ) (from : ℕ) (result : Result (List Fix) (Fault ImageRule)) → IsBytes page → may_stand bounds (length page) from ≡ true
    → IfOk result (λ fixes. fixes ≡ fixes_from bounds page from) → AnswersOrMemory result (slots_flaw bounds page from) → IfOk result (IsChain bounds page from)
is_found bounds page from (Ok fixes) bytes h v a = subst (IsChain bounds page from) (sym v) (chain_found bounds page from bytes h a)
is_found bounds page from (Err fault) bytes h v a = tt

pub is_only : (bounds : Bounds) (page : List ℕ) (from : ℕ) (result : Result (List Fix) (Fault ImageRule)) → length page ≤ 0x4000
    → IfOk result (λ fixes. fixes ≡ fixes_from bounds page from) → AnswersOrMemory result (slots_flaw bounds page from) → (fixes : List Fix) → IsChain bounds page from fixes → GivesOrMemory fixes result
is_only bounds page from (Ok given) short v a fixes c = v ∙ (chain_only bounds page from fixes short c).1
is_only bounds page from (Err (Refused rule place)) short v a fixes c = let e = (chain_only bounds page from fixes short c).2 in absurd cc
is_only bounds page from (Err Memory) short v a fixes c = tt
