-- The slots of a chain, one after the other.
use Rattle.std.proofs.Common.{◌≡◌, ℕ, zero, suc, ◌+◌, ◌-◌, ◌*◌, ◌≤◌, Bool, true, false, cond, eqb, ◌||◌, not, List, [], ◌∷◌, ◌++◌, length, Some, None, Ok, Err, refl, sym, ap, subst, ◌∙◌, arith, map, append_assoc}
use Rattle.std.proofs.lemmas.Bool.{leb-true, eqb-false, eq-eqb, ne_eqb, and_parts}
use Rattle.pa_num.specs.declared.fault.ImageRule.{ImageRule}
use Rattle.pa_num.specs.declared.fault.ImageRule.TheVariants.{F3, F4}
use Rattle.pa_layout.specs.declared.checks.Flaw.{Flaw}
use Rattle.pa_layout.specs.Flaws.{Holds, flaw_of, first, flaw_at}
use Rattle.pa_layout.proofs.Facts.{each_none, holds_true}
use Rattle.pa_fixups.specs.declared.kind.FixKind.{FixKind}
use Rattle.pa_fixups.specs.declared.kind.Fix.{Fix}
use Rattle.pa_fixups.specs.declared.bounds.Bounds.{Bounds}
use Rattle.pa_fixups.specs.Slots.{kind_of, next_of, zeros_hold, slot_of}
use Rattle.pa_fixups.specs.Chain.{may_stand, links_on, link_at, fix_at, places, chain_places, slot_checks, first_at, slots_flaw}

-- ---- one slot

slot_made : (b : Bool) (x y : FixKind × ℕ) → cond b (Ok x) (Err F3) ≡ Ok y → (b ≡ true) × (y ≡ x)
slot_made true x y e = (refl, cc)
slot_made false x y e = absurd cc

slot_refused : (b : Bool) (x : FixKind × ℕ) (rule : ImageRule) → cond b (Ok x) (Err F3) ≡ Err rule → (b ≡ false) × (rule ≡ F3)
slot_refused true x rule e = absurd cc
slot_refused false x rule e = (refl, cc)

pub slot_ok : (w place : ℕ) (page : List ℕ) (x : FixKind × ℕ) → Ok x ≡ slot_of w → (x ≡ (kind_of w, next_of w)) × (flaw_of (Holds F3 place (zeros_hold w)) page ≡ None)
unfolding flaw_of
slot_ok w place page x e = let g = slot_made (zeros_hold w) (kind_of w, next_of w) x (sym e) in (g.1, rw g.0 refl)

pub slot_err : (w place : ℕ) (page : List ℕ) (rule : ImageRule) → Err rule ≡ slot_of w → flaw_of (Holds F3 place (zeros_hold w)) page ≡ Some (flaw_at rule place)
unfolding flaw_of
slot_err w place page rule e =
    let g = slot_refused (zeros_hold w) (kind_of w, next_of w) rule (sym e) in
    rw (g.0, g.1) refl

pub stands_inside : (bounds : Bounds) (len at : ℕ) → may_stand bounds len at ≡ true → at + 8 ≤ len
unfolding may_stand
stands_inside bounds len at e = leb-true _ _ (and_parts _ _ (and_parts _ _ e).1).0

-- ---- the places of a chain

abbrev pub ends_at : Bounds → List ℕ → ℕ → Bool
ends_at bounds page at = (eqb (link_at page at) 0) || not (may_stand bounds (length page) (at + 8 * link_at page at))

pub goes_on : (x y : Bool) → (x || not y) ≡ false → (x ≡ false) × (y ≡ true)
goes_on true y e = absurd cc
goes_on false true e = (refl, refl)
goes_on false false e = absurd cc

-- any count that is large enough gives the same places
places_more : (n m : ℕ) (bounds : Bounds) (page : List ℕ) (at : ℕ) → may_stand bounds (length page) at ≡ true → length page - at ≤ n → length page - at ≤ m → places n bounds page at ≡ places m bounds page at
places_more zero m bounds page at h ln lm = let i = stands_inside bounds (length page) at h in absurd (omega arith)
places_more (suc n) zero bounds page at h ln lm = let i = stands_inside bounds (length page) at h in absurd (omega arith)
places_more (suc n) (suc m) bounds page at h ln lm =
    let i = stands_inside bounds (length page) at h in
    let next = at + 8 * link_at page at in
    let go : (t : Bool) → ends_at bounds page at ≡ t → cond t [] (places n bounds page next) ≡ cond t [] (places m bounds page next) =
    λ t. elim t as (λ t. ends_at bounds page at ≡ t → cond t [] (places n bounds page next) ≡ cond t [] (places m bounds page next)) [
      | true ↦ λ e. refl
      | false ↦ λ e.
          let g = goes_on (eqb (link_at page at) 0) (may_stand bounds (length page) next) e in
          let ne = eqb-false (link_at page at) 0 g.0 in
          places_more n m bounds page next g.1 (omega arith) (omega arith)
    ] in
    ap (λ (r : List ℕ). at ∷ r) (go (ends_at bounds page at) refl)

places_on : (k n : ℕ) (bounds : Bounds) (page : List ℕ) (at : ℕ) → k ≡ suc n → eqb (link_at page at) 0 ≡ false → may_stand bounds (length page) (at + 8 * link_at page at) ≡ true → places k bounds page at ≡ at ∷ places n bounds page (at + 8 * link_at page at)
places_on k n bounds page at e z h = rw (e, z, h) refl

places_end : (k n : ℕ) (bounds : Bounds) (page : List ℕ) (at : ℕ) → k ≡ suc n → eqb (link_at page at) 0 ≡ true → places k bounds page at ≡ at ∷ []
places_end k n bounds page at e z = rw (e, z) refl

-- the last check at a slot
last_holds : (bounds : Bounds) (page : List ℕ) (at : ℕ) → first (slot_checks bounds page at) page ≡ None → links_on bounds (length page) at (link_at page at) ≡ true
unfolding slot_checks
last_holds bounds page at e = holds_true F4 at _ page (each_none (slot_checks bounds page at) page e).1.1.1.0

pub chain_step : (bounds : Bounds) (page : List ℕ) (at link : ℕ) → may_stand bounds (length page) at ≡ true → link ≡ link_at page at → (link ≡ 0 → ⊥) → links_on bounds (length page) at link ≡ true
    → (may_stand bounds (length page) (at + 8 * link) ≡ true) × (chain_places bounds page at ≡ at ∷ chain_places bounds page (at + 8 * link))
unfolding chain_places
chain_step bounds page at link h e ne on =
    let i = stands_inside bounds (length page) at h in
    let z : eqb link 0 ≡ false = ne_eqb link 0 ne in
    let there : may_stand bounds (length page) (at + 8 * link) ≡ true = rw z at on in
    let z' : eqb (link_at page at) 0 ≡ false = rw (← e) z in
    let there' : may_stand bounds (length page) (at + 8 * link_at page at) ≡ true = rw (← e) there in
    let one = places_on (length page - at) (length page - at - 1) bounds page at (omega arith) z' there' in
    let two = places_more (length page - at - 1) (length page - (at + 8 * link)) bounds page (at + 8 * link) there (omega arith) (omega arith) in
    (there, one ∙ ap (λ (l : ℕ). at ∷ places (length page - at - 1) bounds page (at + 8 * l)) (sym e) ∙ ap (λ (r : List ℕ). at ∷ r) two)

pub chain_last : (bounds : Bounds) (page : List ℕ) (at link : ℕ) → may_stand bounds (length page) at ≡ true → link ≡ link_at page at → link ≡ 0 → chain_places bounds page at ≡ at ∷ []
unfolding chain_places
chain_last bounds page at link h e z =
    let i = stands_inside bounds (length page) at h in
    places_end (length page - at) (length page - at - 1) bounds page at (omega arith) (eq-eqb _ _ (sym e ∙ z))

places_head : (k n : ℕ) (bounds : Bounds) (page : List ℕ) (at : ℕ) → k ≡ suc n → (rest : List ℕ) × (places k bounds page at ≡ at ∷ rest)
places_head k n bounds page at e = (cond (ends_at bounds page at) [] (places n bounds page (at + 8 * link_at page at)), rw e refl)

pub chain_head : (bounds : Bounds) (page : List ℕ) (at : ℕ) → may_stand bounds (length page) at ≡ true → (rest : List ℕ) × (chain_places bounds page at ≡ at ∷ rest)
unfolding chain_places
chain_head bounds page at h =
    let i = stands_inside bounds (length page) at h in
    places_head (length page - at) (length page - at - 1) bounds page at (omega arith)

-- ---- the walk

-- the fixes of the slots from a place on
abbrev pub fixes_from : Bounds → List ℕ → ℕ → List Fix
fixes_from bounds page from = map (λ at. fix_at page at) (chain_places bounds page from)

-- what a walk along the links keeps: a slot may stand where it is, and what was read and what is left are the whole
pub record Walked (bounds : Bounds) (page : List ℕ) (from at : ℕ) (fixes : List Fix) : Type 0 where
  pub here : may_stand bounds (length page) at ≡ true
  pub read : fixes ++ fixes_from bounds page at ≡ fixes_from bounds page from
  pub flaw : slots_flaw bounds page at ≡ slots_flaw bounds page from

head_flaw : (told : Flaw) (bounds : Bounds) (page : List ℕ) (at : ℕ) → may_stand bounds (length page) at ≡ true → first (slot_checks bounds page at) page ≡ Some told → slots_flaw bounds page at ≡ Some told
head_flaw told bounds page at h e =
    let p = chain_head bounds page at h in
    ap (first_at (λ n. slot_checks bounds page n) page) p.1 ∙ rw e refl

-- it ends at the first flaw
pub walk_ends : (told : Flaw) (bounds : Bounds) (page : List ℕ) (from at : ℕ) (fixes : List Fix) → Walked bounds page from at fixes
    → first (slot_checks bounds page at) page ≡ Some told → slots_flaw bounds page from ≡ Some told
walk_ends told bounds page from at fixes w e = sym w.flaw ∙ head_flaw told bounds page at w.here e

-- or follows the link
pub walk_on : (bounds : Bounds) (page : List ℕ) (from at link : ℕ) (fixes : List Fix) → Walked bounds page from at fixes → link ≡ link_at page at → (link ≡ 0 → ⊥)
    → first (slot_checks bounds page at) page ≡ None → Walked bounds page from (at + 8 * link) (fixes ++ fix_at page at ∷ [])
walk_on bounds page from at link fixes w e ne none =
    let on : links_on bounds (length page) at link ≡ true = rw e (last_holds bounds page at none) in
    let s = chain_step bounds page at link w.here e ne on in
    record {
      here = s.0;
      read = append_assoc fixes (fix_at page at ∷ []) (fixes_from bounds page (at + 8 * link)) ∙ ap (λ (l : List ℕ). fixes ++ map (λ n. fix_at page n) l) (sym s.1) ∙ w.read;
      flaw = sym (ap (first_at (λ n. slot_checks bounds page n) page) s.1 ∙ rw none refl) ∙ w.flaw;
    }

-- or ends with the last slot
pub walk_done : (bounds : Bounds) (page : List ℕ) (from at link : ℕ) (fixes : List Fix) → Walked bounds page from at fixes → link ≡ link_at page at → link ≡ 0
    → first (slot_checks bounds page at) page ≡ None → (fixes ++ fix_at page at ∷ [] ≡ fixes_from bounds page from) × (slots_flaw bounds page from ≡ None)
walk_done bounds page from at link fixes w e z none =
    let l = chain_last bounds page at link w.here e z in
    (ap (λ (l : List ℕ). fixes ++ map (λ n. fix_at page n) l) (sym l) ∙ w.read, sym w.flaw ∙ ap (first_at (λ n. slot_checks bounds page n) page) l ∙ rw none refl)

-- ---- the same, as the loop sees it

fixes_pushed : (page : List ℕ) (at : ℕ) (old new : List Fix) (slot : Fix × ℕ) → slot ≡ (fix_at page at, link_at page at) → new ≡ old ++ slot.0 ∷ [] → new ≡ old ++ fix_at page at ∷ []
fixes_pushed page at old new slot v n = n ∙ ap (λ (s : Fix × ℕ). old ++ s.0 ∷ []) v

pub pushed_on : (bounds : Bounds) (page : List ℕ) (from at : ℕ) (old new : List Fix) (slot : Fix × ℕ) → Walked bounds page from at old → slot ≡ (fix_at page at, link_at page at)
    → new ≡ old ++ slot.0 ∷ [] → (slot.1 ≡ 0 → ⊥) → first (slot_checks bounds page at) page ≡ None → Walked bounds page from (at + 8 * slot.1) new
pushed_on bounds page from at old new slot w v n ne none =
    subst (Walked bounds page from (at + 8 * slot.1)) (sym (fixes_pushed page at old new slot v n)) (walk_on bounds page from at slot.1 old w (ap (λ (s : Fix × ℕ). s.1) v) ne none)

pub pushed_done : (bounds : Bounds) (page : List ℕ) (from at : ℕ) (old new : List Fix) (slot : Fix × ℕ) → Walked bounds page from at old → slot ≡ (fix_at page at, link_at page at)
    → new ≡ old ++ slot.0 ∷ [] → slot.1 ≡ 0 → first (slot_checks bounds page at) page ≡ None → (new ≡ fixes_from bounds page from) × (slots_flaw bounds page from ≡ None)
pushed_done bounds page from at old new slot w v n z none =
    let d = walk_done bounds page from at slot.1 old w (ap (λ (s : Fix × ℕ). s.1) v) z none in
    (fixes_pushed page at old new slot v n ∙ d.0, d.1)
