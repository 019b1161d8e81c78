-- The chain of one page.
use Rattle.std.proofs.Common.{inl, inr, ◌⊎◌, ◌%◌, ◌-◌, ◌^◌, ◌≡◌, ℕ, zero, suc, ◌+◌, ◌*◌, ◌≤◌, ◌<◌, Bool, true, false, cond, eqb, ◌||◌, not, List, [], ◌∷◌, length, get_or, Option, Some, None, refl, sym, ap, subst, ◌∙◌, arith, map}
use Rattle.std.proofs.lemmas.Bool.{eqb-true, eq-eqb, ne_eqb, and_parts}
use Rattle.pa_num.specs.declared.fault.ImageRule.{ImageRule}
use Rattle.pa_num.specs.declared.fault.ImageRule.TheVariants.{F3, F4, F5, F6}
use Rattle.pa_layout.specs.declared.checks.Flaw.{Flaw}
use Rattle.pa_layout.specs.Flaws.{Check, Holds, unless, flaw_at, flaw_of, first, ◌then◌}
use Rattle.pa_layout.specs.Fields.{nonzero_in}
use Rattle.pa_fixups.specs.declared.kind.Fix.{Fix}
use Rattle.pa_fixups.specs.declared.bounds.Bounds.{Bounds}
use Rattle.pa_fixups.specs.Slots.{kind_of, zeros_hold}
use Rattle.pa_fixups.specs.Chain.{may_stand, ordinal_fits, target_fits, links_on, word_at, link_at, fix_at, places, chain_places, slot_checks, first_at, slots_flaw, no_place, chain_flaw, FixFits, AllFit, Rising, IsChain, CanStand, AreWritable}
use Rattle.pa_fixups.proofs.Walk.{stands_inside, ends_at, goes_on, fixes_from}
use Rattle.pa_fixups.proofs.Trip.{chain_only, chain_found}
use Rattle.pa_slots.specs.declared.slots.SlotsAt.{SlotsAt}
use Rattle.pa_slots.specs.Pages.{page_size, no_slot, bounds_of, Below, told_place, told, page_flaw, chain_in}

stands_even : (bounds : Bounds) (len at : ℕ) → may_stand bounds len at ≡ true → at % 8 ≡ 0
unfolding may_stand
stands_even bounds len at e = eqb-true _ _ (and_parts _ _ e).0

-- the slots of a chain can be written
pub fits_writable : (bounds : Bounds) (len : ℕ) (fix : Fix) (fixes : List Fix) → AllFit bounds len (fix ∷ fixes) → Rising fix fixes → AreWritable len (fix ∷ fixes)
fits_writable bounds len fix [] f r =
    (record { even = stands_even bounds len fix.at f.0.stands; inside = stands_inside bounds len fix.at f.0.stands; fields = f.0.fields }, r, tt)
fits_writable bounds len fix (next ∷ fixes) f r =
    (record { even = stands_even bounds len fix.at f.0.stands; inside = stands_inside bounds len fix.at f.0.stands; fields = f.0.fields }, r, fits_writable bounds len next fixes f.1 r.1)

pub chain_writable : (bounds : Bounds) (page : List ℕ) (from : ℕ) (fixes : List Fix) → IsChain bounds page from fixes → AreWritable (length page) fixes
chain_writable bounds page from [] c = tt
chain_writable bounds page from (fix ∷ fixes) c = fits_writable bounds (length page) fix fixes c.2 c.1

pub writable_below : (len : ℕ) (fixes : List Fix) → AreWritable len fixes → Below len fixes
writable_below len [] w = tt
writable_below len (fix ∷ fixes) w = let i = w.0.inside in (omega arith, writable_below len fixes w.2)

-- ---- the place of a flaw

then_some : (a b : Option Flaw) (f : Flaw) → a then b ≡ Some f → (a ≡ Some f) ⊎ (b ≡ Some f)
then_some None b f e = inr e
then_some (Some g) b f e = inl e

unless_place : (b : Bool) (rule : ImageRule) (place : ℕ) (f : Flaw) → unless b rule place ≡ Some f → f.place ≡ place
unless_place true rule place f e = absurd cc
unless_place false rule place f e = let same : flaw_at rule place ≡ f = cc in ap (λ (x : Flaw). x.place) (sym same)

holds_at : ℕ → List (ImageRule × Bool) → List Check
holds_at at [] = []
holds_at at (test ∷ tests) = Holds test.0 at test.1 ∷ holds_at at tests

holds_place : (rule : ImageRule) (place : ℕ) (b : Bool) (page : List ℕ) (f : Flaw) → flaw_of (Holds rule place b) page ≡ Some f → f.place ≡ place
unfolding flaw_of
holds_place rule place b page f e = unless_place b rule place f e

first_place : (at : ℕ) (tests : List (ImageRule × Bool)) (page : List ℕ) (f : Flaw) → first (holds_at at tests) page ≡ Some f → f.place ≡ at
unfolding holds_at
first_place at [] page f e = absurd cc
first_place at (test ∷ tests) page f e =
    elim (then_some (flaw_of (Holds test.0 at test.1) page) (first (holds_at at tests) page) f e) [
      | inl p ↦ holds_place test.0 at test.1 page f p
      | inr q ↦ first_place at tests page f q
    ]

slot_place : (bounds : Bounds) (page : List ℕ) (at : ℕ) (f : Flaw) → first (slot_checks bounds page at) page ≡ Some f → f.place ≡ at
unfolding slot_checks holds_at
slot_place bounds page at f e =
    first_place at
    ((F3, zeros_hold (word_at page at)) ∷ (F5, ordinal_fits bounds (kind_of (word_at page at))) ∷ (F6, target_fits bounds (kind_of (word_at page at))) ∷ (F4, links_on bounds (length page) at (link_at page at)) ∷ [])
    page f e

places_flaw : (n : ℕ) (bounds : Bounds) (page : List ℕ) (at : ℕ) (f : Flaw) → may_stand bounds (length page) at ≡ true → first_at (λ at. slot_checks bounds page at) page (places n bounds page at) ≡ Some f → f.place < length page
places_flaw zero bounds page at f h e = absurd cc
places_flaw (suc n) bounds page at f h e =
    let i = stands_inside bounds (length page) at h in
    let next = at + 8 * link_at page at in
    let go : (t : Bool) → ends_at bounds page at ≡ t → first_at (λ at. slot_checks bounds page at) page (cond t [] (places n bounds page next)) ≡ Some f → f.place < length page =
    λ t. elim t as (λ t. ends_at bounds page at ≡ t → first_at (λ at. slot_checks bounds page at) page (cond t [] (places n bounds page next)) ≡ Some f → f.place < length page) [
      | true ↦ λ q r. absurd cc
      | false ↦ λ q r. places_flaw n bounds page next f (goes_on (eqb (link_at page at) 0) (may_stand bounds (length page) next) q).1 r
    ] in
    elim (then_some (first (slot_checks bounds page at) page) (first_at (λ at. slot_checks bounds page at) page (cond (ends_at bounds page at) [] (places n bounds page next))) f e) [
      | inl p ↦ let s = slot_place bounds page at f p in omega arith
      | inr q ↦ go (ends_at bounds page at) refl q
    ]

chain_flaw_place : (t : Bool) (bounds : Bounds) (page : List ℕ) (from : ℕ) (f : Flaw) → may_stand bounds (length page) from ≡ t → cond t (slots_flaw bounds page from) (Some (flaw_at F4 no_place)) ≡ Some f → length page ≤ page_size → f.place < 2 ^ 32
unfolding chain_places
chain_flaw_place true bounds page from f h e short = let p = places_flaw (length page - from) bounds page from f h e in omega arith
chain_flaw_place false bounds page from f h e short =
    let same : flaw_at F4 no_place ≡ f = cc in
    let p : no_place ≡ f.place = ap (λ (x : Flaw). x.place) same in
    omega arith

pub flaw_place : (bounds : Bounds) (page : List ℕ) (from place : ℕ) (rule : ImageRule) → length page ≡ page_size → chain_flaw bounds page from ≡ Some (flaw_at rule place) → place < 2 ^ 32
flaw_place bounds page from place rule size e = chain_flaw_place (may_stand bounds (length page) from) bounds page from (flaw_at rule place) refl e (omega arith)

-- ---- the page

pub chain_taken : (at : SlotsAt) (i start : ℕ) (page : List ℕ) (fixes : List Fix) → length page ≡ page_size → (start ≡ no_slot → ⊥) → IsChain (bounds_of at i) page start fixes → fixes ≡ chain_in at i start page
unfolding chain_in
chain_taken at i start page fixes size ne c =
    let no : eqb start no_slot ≡ false = ne_eqb _ _ ne in
    rw no (sym (chain_only (bounds_of at i) page start fixes (omega arith) c).1)

pub no_chain : (at : SlotsAt) (i start : ℕ) (page : List ℕ) → start ≡ no_slot → (chain_in at i start page ≡ []) × (page_flaw at i start page ≡ None)
unfolding chain_in page_flaw
no_chain at i start page e = let yes : eqb start no_slot ≡ true = eq-eqb _ _ e in (rw yes refl, rw yes refl)

pub page_told : (at : SlotsAt) (i start place : ℕ) (rule : ImageRule) (page : List ℕ) → (start ≡ no_slot → ⊥) → chain_flaw (bounds_of at i) page start ≡ Some (flaw_at rule place) → page_flaw at i start page ≡ Some (flaw_at rule (told_place at i place))
unfolding page_flaw
page_told at i start place rule page ne e =
    let no : eqb start no_slot ≡ false = ne_eqb _ _ ne in
    rw (no, e) refl

pub page_none : (at : SlotsAt) (i start : ℕ) (page : List ℕ) → (start ≡ no_slot → ⊥) → chain_flaw (bounds_of at i) page start ≡ None → page_flaw at i start page ≡ None
unfolding page_flaw
page_none at i start page ne e =
    let no : eqb start no_slot ≡ false = ne_eqb _ _ ne in
    rw (no, e) refl

-- ---- zeros

nonzero_case : (t : Bool) (at n : ℕ) (bytes : List ℕ) (place : ℕ) → cond t (nonzero_in (at + 1) n bytes) (Some at) ≡ Some place → (nonzero_in (at + 1) n bytes ≡ Some place → place < at + suc n) → place < at + suc n
nonzero_case true at n bytes place e more = more e
nonzero_case false at n bytes place e more = let same : at ≡ place = cc in omega arith

pub nonzero_below : (at n : ℕ) (bytes : List ℕ) (place : ℕ) → nonzero_in at n bytes ≡ Some place → place < at + n
nonzero_below at zero bytes place e = absurd cc
nonzero_below at (suc n) bytes place e =
    nonzero_case (eqb (get_or bytes at 0) 0) at n bytes place e (λ r. let b = nonzero_below (at + 1) n bytes place r in omega arith)
