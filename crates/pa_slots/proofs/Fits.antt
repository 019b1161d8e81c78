-- Slots that fit, page by page.
use Rattle.std.proofs.Common.{◌≡◌, ℕ, zero, suc, ◌+◌, ◌-◌, ◌*◌, ◌/◌, ◌%◌, ◌≤◌, ◌<◌, Bool, true, false, cond, leb, ltb, ◌&&◌, ◌||◌, List, [], ◌∷◌, length, arith, inl, inr, refl, sym, ap, subst, ◌∙◌, map}
use Rattle.std.proofs.lemmas.Bool.{leb-true, and_parts, ltb-true, ltb-false}
use Rattle.pa_fixups.specs.declared.kind.Fix.{Fix}
use Rattle.pa_fixups.specs.declared.bounds.Bounds.{Bounds}
use Rattle.pa_fixups.specs.Chain.{FixFits, AllFit, AreWritable, Rising, may_stand}
use Rattle.pa_slots.specs.declared.slots.SlotsAt.{SlotsAt}
use Rattle.pa_slots.specs.Pages.{page_size, bounds_of, cells_from, of_page, before, from, page_slots, later_slots, Below, AreRising}
use Rattle.pa_slots.specs.Writing.{page_of, SlotFits, EachFits, PagesWritable}
use Rattle.pa_slots.proofs.Chains.{fits_writable}
use Rattle.pa_slots.proofs.Pages.{StartsAt, cut_off, next_starts, next_rising}

-- a slot stands in one of the sections
pub record InSection (at : SlotsAt) (place : ℕ) : Type 0 where
  pub inside : place + 8 ≤ cells_from at + at.cells
  pub low : place < cells_from at → place + 8 ≤ at.got

either : (place got cells size : ℕ) (a b c : Bool) → a ≡ leb (place + 8) got → b ≡ leb cells place → c ≡ leb (place + 8) (cells + size) → got ≤ cells → (a || (b && c)) ≡ true → (place + 8 ≤ cells + size) × (place < cells → place + 8 ≤ got)
either place got cells size true b c ea eb ec le e =
    let h : place + 8 ≤ got = leb-true _ _ (sym ea) in
    (omega arith, λ lt. h)
either place got cells size false true true ea eb ec le e =
    let h : cells ≤ place = leb-true _ _ (sym eb) in
    let k : place + 8 ≤ cells + size = leb-true _ _ (sym ec) in
    (k, λ lt. absurd (omega arith))
either place got cells size false true false ea eb ec le e = absurd cc
either place got cells size false false c ea eb ec le e = absurd cc

stands_in : (at : SlotsAt) (i len place : ℕ) → may_stand (bounds_of at i) len place ≡ true → InSection at (page_size * i + place)
unfolding may_stand
stands_in at i len place e =
    let h = either (page_size * i + place) at.got (cells_from at) at.cells _ _ _ refl refl refl (omega arith) (and_parts _ _ (and_parts _ _ e).1).1 in
    record { inside = h.0; low = h.1 }

page_place : (fix : Fix) → page_size * page_of fix + (fix.at - page_size * page_of fix) ≡ fix.at
page_place fix = omega arith

pub in_section : (at : SlotsAt) (fix : Fix) → FixFits (bounds_of at (page_of fix)) page_size (of_page (page_of fix) fix) → InSection at fix.at
in_section at fix f = subst (InSection at) (page_place fix) (stands_in at (page_of fix) page_size (fix.at - page_size * page_of fix) f.stands)

pub inside_cells : (at : SlotsAt) (fix : Fix) → FixFits (bounds_of at (page_of fix)) page_size (of_page (page_of fix) fix) → fix.at + 8 ≤ cells_from at + at.cells
inside_cells at fix f = (in_section at fix f).inside

-- ---- a page's slots

pub page_is : (i : ℕ) (fix : Fix) → page_size * i ≤ fix.at → fix.at < page_size * (i + 1) → page_of fix ≡ i
page_is i fix le lt = omega arith

pub record PageFits (at : SlotsAt) (i : ℕ) (slots : List Fix) : Type 0 where
  pub all : AllFit (bounds_of at i) page_size slots
  pub rising : AreRising slots

page_rising_as : (t : Bool) (i : ℕ) (fix next : Fix) (fixes : List Fix) → page_size * i ≤ fix.at → Rising fix (next ∷ fixes) → Rising (of_page i next) (map (of_page i) (before (page_size * (i + 1)) fixes))
    → Rising (of_page i fix) (map (of_page i) (cond t (next ∷ before (page_size * (i + 1)) fixes) []))
page_rising_as true i fix next fixes le r h = let lt = r.0 in (omega arith, h)
page_rising_as false i fix next fixes le r h = tt

page_rising : (i : ℕ) (fix : Fix) (fixes : List Fix) → page_size * i ≤ fix.at → Rising fix fixes → Rising (of_page i fix) (map (of_page i) (before (page_size * (i + 1)) fixes))
page_rising i fix [] le r = tt
page_rising i fix (next ∷ fixes) le r = page_rising_as (ltb next.at (page_size * (i + 1))) i fix next fixes le r (page_rising i next fixes (let lt = r.0 in omega arith) r.1)

page_fits_as : (t : Bool) (at : SlotsAt) (cells : List ℕ) (i : ℕ) (fix : Fix) (fixes : List Fix) → page_size * i ≤ fix.at → Rising fix fixes → EachFits at cells (fix ∷ fixes) → ltb fix.at (page_size * (i + 1)) ≡ t
    → PageFits at i (page_slots i fixes) → PageFits at i (map (of_page i) (cond t (fix ∷ before (page_size * (i + 1)) fixes) []))
page_fits_as true at cells i fix fixes s r e t p =
    let same = page_is i fix s (ltb-true _ _ t) in
    record {
      all = (subst (λ (k : ℕ). FixFits (bounds_of at k) page_size (of_page k fix)) same e.0.fits, p.all);
      rising = page_rising i fix fixes s r;
    }
page_fits_as false at cells i fix fixes s r e t p = record { all = tt; rising = tt }

pub page_fits : (at : SlotsAt) (cells : List ℕ) (i : ℕ) (fixes : List Fix) → StartsAt (page_size * i) fixes → AreRising fixes → EachFits at cells fixes → PageFits at i (page_slots i fixes)
page_fits at cells i [] s r e = record { all = tt; rising = tt }
page_fits at cells i (fix ∷ fixes) s r e =
    page_fits_as (ltb fix.at (page_size * (i + 1))) at cells i fix fixes s r e refl (page_fits at cells i fixes (next_starts (page_size * i) fix fixes s r) (next_rising fix fixes r) e.1)

each_from_as : (t : Bool) (at : SlotsAt) (cells : List ℕ) (limit : ℕ) (fix : Fix) (fixes : List Fix) → EachFits at cells (fix ∷ fixes) → EachFits at cells (from limit fixes) → EachFits at cells (cond t (from limit fixes) (fix ∷ fixes))
each_from_as true at cells limit fix fixes e h = h
each_from_as false at cells limit fix fixes e h = e

pub each_from : (at : SlotsAt) (cells : List ℕ) (limit : ℕ) (fixes : List Fix) → EachFits at cells fixes → EachFits at cells (from limit fixes)
each_from at cells limit [] e = tt
each_from at cells limit (fix ∷ fixes) e = each_from_as (ltb fix.at limit) at cells limit fix fixes e (each_from at cells limit fixes e.1)

pub writable : (at : SlotsAt) (i : ℕ) (slots : List Fix) → PageFits at i slots → AreWritable page_size slots
writable at i [] p = tt
writable at i (fix ∷ fixes) p = fits_writable (bounds_of at i) page_size fix fixes p.all p.rising

pub pages_writable : (at : SlotsAt) (cells : List ℕ) (i n : ℕ) (fixes : List Fix) → StartsAt (page_size * i) fixes → AreRising fixes → EachFits at cells fixes → PagesWritable i n fixes
pages_writable at cells i zero fixes s r e = tt
pages_writable at cells i (suc n) fixes s r e =
    let c = cut_off i fixes s r in
    (writable at i (page_slots i fixes) (page_fits at cells i fixes s r e), pages_writable at cells (i + 1) n (later_slots i fixes) c.starts c.rising (each_from at cells (page_size * (i + 1)) fixes e))
