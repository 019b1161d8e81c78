-- Beside the slots the bytes of __DATA are what stands beside them.
use Rattle.std.proofs.Common.{inl, inr, ◌⊎◌, replicate, ◌≡◌, ℕ, zero, suc, ◌+◌, ◌-◌, ◌*◌, ◌≤◌, ◌<◌, Bool, true, false, cond, eqb, ltb, List, [], ◌∷◌, ◌++◌, length, take, drop, get_or, None, refl, sym, ap, subst, ◌∙◌, arith, map}
use Rattle.std.proofs.lemmas.Bool.{cases_lt, eq-eqb, ltb-true, ltb-false}
use Rattle.std.proofs.lemmas.List.{get_or-take, get_or-drop, get_or_append_left, get_or-append_right, length-take-le, length-drop, length-append, length-replicate}
use Rattle.pa_layout.specs.Fields.{nonzero_in, IsAt}
use Rattle.pa_layout.proofs.Laws.{zeros-stand}
use Rattle.pa_fixups.specs.declared.kind.Fix.{Fix}
use Rattle.pa_fixups.specs.declared.bounds.Bounds.{Bounds}
use Rattle.pa_fixups.specs.Chain.{AreWritable, without_slots, put_at}
use Rattle.pa_fixups.proofs.Written.{length-put_at}
use Rattle.pa_slots.specs.declared.slots.Slots.{Slots}
use Rattle.pa_slots.specs.declared.slots.SlotsAt.{SlotsAt}
use Rattle.pa_slots.specs.Pages.{page_size, bounds_of, cells_from, of_page, before, from, page_slots, later_slots, AreRising, IsPage, ArePages}
use Rattle.pa_slots.specs.Slots.{plain_of, AreSlots}
use Rattle.pa_slots.specs.Writing.{SlotFits, EachFits, SlotsFit}
use Rattle.pa_slots.proofs.Chains.{chain_writable}
use Rattle.pa_slots.proofs.Pages.{StartsAt, cut_off, next_starts, next_rising}
use Rattle.pa_slots.proofs.Fits.{InSection, in_section}

-- the place is in none of the slots
abbrev pub Outside : ℕ → List Fix → Type 0
Outside k [] = Unit {0}
Outside k (fix ∷ fixes) = ((k < fix.at) ⊎ (fix.at + 8 ≤ k)) × Outside k fixes

pub put_outside : (at k : ℕ) (part page : List ℕ) → at + length part ≤ length page → (k < at) ⊎ (at + length part ≤ k) → get_or (put_at at part page) k 0 ≡ get_or page k 0
put_outside at k part page le (inl lt) =
    let l : length (take at page) ≡ at = length-take-le at page (omega arith) in
    get_or_append_left (take at page) (part ++ drop (at + length part) page) 0 k (omega arith) ∙ get_or-take at page k 0 lt
put_outside at k part page le (inr ge) =
    let l : length (take at page) ≡ at = length-take-le at page (omega arith) in
    let back = drop (at + length part) page in
    get_or-append_right (take at page) (part ++ back) at k 0 l (omega arith) ∙ get_or-append_right part back (length part) (k - at) 0 refl (omega arith)
    ∙ get_or-drop (at + length part) page (k - at - length part) 0 ∙ ap (λ (n : ℕ). get_or page n 0) (omega arith)

erased_outside : (len k : ℕ) (fixes : List Fix) (page : List ℕ) → length page ≡ len → AreWritable len fixes → Outside k fixes → get_or (without_slots page fixes) k 0 ≡ get_or page k 0
unfolding without_slots
erased_outside len k [] page e w o = refl
erased_outside len k (fix ∷ fixes) page e w o =
    let i = w.0.inside in
    let zeros : List ℕ = replicate 8 0 in
    erased_outside len k fixes (put_at fix.at zeros page) (length-put_at fix.at zeros page (omega arith) ∙ e) w.2 o.1 ∙ put_outside fix.at k zeros page (omega arith) o.0

page_outside : (bounds : Bounds) (start k : ℕ) (slots : List Fix) (page plain : List ℕ) → IsPage bounds start slots page plain → Outside k slots → get_or page k 0 ≡ get_or plain k 0
page_outside bounds start k [] page plain p o = ap (λ (l : List ℕ). get_or l k 0) p.1
page_outside bounds start k (fix ∷ fixes) page plain p o =
    sym (erased_outside (length page) k (fix ∷ fixes) page refl (chain_writable bounds page start (fix ∷ fixes) p.0) o) ∙ ap (λ (l : List ℕ). get_or l k 0) p.1

-- ---- over all pages

outside_page_as : (t : Bool) (i k : ℕ) (fix : Fix) (fixes : List Fix) → page_size * i ≤ fix.at → (page_size * i + k < fix.at) ⊎ (fix.at + 8 ≤ page_size * i + k) → Outside k (page_slots i fixes) → Outside k (map (of_page i) (cond t (fix ∷ before (page_size * (i + 1)) fixes) []))
outside_page_as true i k fix fixes s (inl lt) o = (inl (omega arith), o)
outside_page_as true i k fix fixes s (inr ge) o = (inr (omega arith), o)
outside_page_as false i k fix fixes s h o = tt

outside_page : (i k : ℕ) (fixes : List Fix) → StartsAt (page_size * i) fixes → AreRising fixes → Outside (page_size * i + k) fixes → Outside k (page_slots i fixes)
outside_page i k [] s r o = tt
outside_page i k (fix ∷ fixes) s r o = outside_page_as (ltb fix.at (page_size * (i + 1))) i k fix fixes s o.0 (outside_page i k fixes (next_starts (page_size * i) fix fixes s r) (next_rising fix fixes r) o.1)

outside_later_as : (t : Bool) (k limit : ℕ) (fix : Fix) (fixes : List Fix) → Outside k (fix ∷ fixes) → Outside k (from limit fixes) → Outside k (cond t (from limit fixes) (fix ∷ fixes))
outside_later_as true k limit fix fixes o h = h
outside_later_as false k limit fix fixes o h = o

outside_later : (k limit : ℕ) (fixes : List Fix) → Outside k fixes → Outside k (from limit fixes)
outside_later k limit [] o = tt
outside_later k limit (fix ∷ fixes) o = outside_later_as (ltb fix.at limit) k limit fix fixes o (outside_later k limit fixes o.1)

pages_outside : (at : SlotsAt) (i k : ℕ) (starts : List ℕ) (fixes : List Fix) (bytes plain : List ℕ) → StartsAt (page_size * i) fixes → AreRising fixes → ArePages at i starts fixes bytes plain → Outside (page_size * i + k) fixes → get_or bytes k 0 ≡ get_or plain k 0
pages_outside at i k [] fixes bytes plain s r p o = ap (λ (l : List ℕ). get_or l k 0) (p.1 ∙ sym p.2)
pages_outside at i k (start ∷ starts) fixes bytes plain s r p o =
    elim (cases_lt k page_size) [
      | inl lt ↦
          sym (get_or-take page_size bytes k 0 lt) ∙ page_outside (bounds_of at i) start k (page_slots i fixes) (take page_size bytes) (take page_size plain) p.0 (outside_page i k fixes s r o) ∙ get_or-take page_size plain k 0 lt
      | inr ge ↦
          let cut = cut_off i fixes s r in
          let there : page_size * i + k ≡ page_size * (i + 1) + (k - page_size) = omega arith in
          let back : page_size + (k - page_size) ≡ k = omega arith in
          let o' = outside_later (page_size * (i + 1) + (k - page_size)) (page_size * (i + 1)) fixes (subst (λ (n : ℕ). Outside n fixes) there o) in
          let ih = pages_outside at (i + 1) (k - page_size) starts (later_slots i fixes) (drop page_size bytes) (drop page_size plain) cut.starts cut.rising p.1 o' in
          ap (λ (n : ℕ). get_or bytes n 0) (sym back) ∙ sym (get_or-drop page_size bytes (k - page_size) 0) ∙ ih ∙ get_or-drop page_size plain (k - page_size) 0 ∙ ap (λ (n : ℕ). get_or plain n 0) back
    ]

-- ---- zeros

outside_low : (at : SlotsAt) (cells : List ℕ) (k : ℕ) (fixes : List Fix) → EachFits at cells fixes → at.got ≤ k → k < cells_from at → Outside k fixes
outside_low at cells k [] e low high = tt
outside_low at cells k (fix ∷ fixes) e low high =
    let i = in_section at fix e.0.fits in (
      elim (cases_lt fix.at (cells_from at)) [
        | inl lt ↦ let h = i.low lt in inr (omega arith)
        | inr ge ↦ inl (omega arith)
      ],
      outside_low at cells k fixes e.1 low high,
    )

outside_high : (at : SlotsAt) (cells : List ℕ) (k : ℕ) (fixes : List Fix) → EachFits at cells fixes → cells_from at + at.cells ≤ k → Outside k fixes
outside_high at cells k [] e low = tt
outside_high at cells k (fix ∷ fixes) e low = let i = (in_section at fix e.0.fits).inside in (inr (omega arith), outside_high at cells k fixes e.1 low)

zeros-at : (m i : ℕ) → get_or (replicate {A = ℕ} m 0) i 0 ≡ 0
zeros-at zero i = refl
zeros-at (suc m) zero = refl
zeros-at (suc m) (suc i) = zeros-at m i

plain_low : (at : SlotsAt) (count k : ℕ) (cells : List ℕ) → k < cells_from at → get_or (plain_of at count cells) k 0 ≡ 0
unfolding plain_of
plain_low at count k cells lt =
    let l : length {A = ℕ} (replicate (cells_from at) 0) ≡ cells_from at = length-replicate {A = ℕ} (cells_from at) 0 in
    get_or_append_left (replicate (cells_from at) 0) (cells ++ replicate (page_size * count - (cells_from at + at.cells)) 0) 0 k (omega arith) ∙ zeros-at (cells_from at) k

plain_high : (at : SlotsAt) (count k : ℕ) (cells : List ℕ) → length cells ≡ at.cells → cells_from at + at.cells ≤ k → get_or (plain_of at count cells) k 0 ≡ 0
unfolding plain_of
plain_high at count k cells e le =
    let n = page_size * count - (cells_from at + at.cells) in
    let l : length {A = ℕ} (replicate (cells_from at) 0) ≡ cells_from at = length-replicate {A = ℕ} (cells_from at) 0 in
    get_or-append_right (replicate (cells_from at) 0) (cells ++ replicate n 0) (cells_from at) k 0 l (omega arith) ∙ get_or-append_right cells (replicate n 0) at.cells (k - cells_from at) 0 e (omega arith) ∙ zeros-at n (k - cells_from at - at.cells)

none_nonzero : (low n : ℕ) (bytes : List ℕ) → ((k : ℕ) → low ≤ k → k < low + n → get_or bytes k 0 ≡ 0) → nonzero_in low n bytes ≡ None
none_nonzero low zero bytes h = refl
none_nonzero low (suc n) bytes h =
    let z : eqb (get_or bytes low 0) 0 ≡ true = eq-eqb _ _ (h low (omega arith) (omega arith)) in
    rw z (none_nonzero (low + 1) n bytes (λ k a b. h k (omega arith) (omega arith)))

starts_zero : (fixes : List Fix) → StartsAt (page_size * 0) fixes
starts_zero [] = tt
starts_zero (fix ∷ fixes) = omega arith

pub beside_is : (at : SlotsAt) (starts : List ℕ) (slots : Slots) (bytes : List ℕ) (k : ℕ) → AreSlots at starts slots bytes → Outside k slots.fixes → get_or bytes k 0 ≡ get_or (plain_of at (length starts) slots.cells) k 0
beside_is at starts slots bytes k s o =
    let same : k ≡ page_size * 0 + k = omega arith in
    pages_outside at 0 k starts slots.fixes bytes (plain_of at (length starts) slots.cells) (starts_zero slots.fixes) s.rising s.pages (subst (λ (n : ℕ). Outside n slots.fixes) same o)

-- between the sections, and after them
pub gap_zeros : (at : SlotsAt) (starts : List ℕ) (slots : Slots) (bytes : List ℕ) → cells_from at ≤ length bytes → SlotsFit at slots → AreSlots at starts slots bytes → IsAt bytes at.got (replicate (cells_from at - at.got) 0)
gap_zeros at starts slots bytes le f s =
    zeros-stand at.got (cells_from at - at.got) bytes (omega arith)
    (none_nonzero at.got (cells_from at - at.got) bytes (λ k low high. beside_is at starts slots bytes k s (outside_low at slots.cells k slots.fixes f.each low (omega arith)) ∙ plain_low at (length starts) k slots.cells (omega arith)))

pub end_zeros : (at : SlotsAt) (starts : List ℕ) (slots : Slots) (bytes : List ℕ) → cells_from at + at.cells ≤ length bytes → SlotsFit at slots → AreSlots at starts slots bytes
    → IsAt bytes (cells_from at + at.cells) (replicate (length bytes - (cells_from at + at.cells)) 0)
end_zeros at starts slots bytes le f s =
    let low = cells_from at + at.cells in
    zeros-stand low (length bytes - low) bytes (omega arith)
    (none_nonzero low (length bytes - low) bytes (λ k a b. beside_is at starts slots bytes k s (outside_high at slots.cells k slots.fixes f.each a) ∙ plain_high at (length starts) k slots.cells f.cells a))

-- ---- __data

plain_cells : (at : SlotsAt) (count k : ℕ) (cells : List ℕ) → k < length cells → get_or (plain_of at count cells) (cells_from at + k) 0 ≡ get_or cells k 0
unfolding plain_of
plain_cells at count k cells lt =
    let n = page_size * count - (cells_from at + at.cells) in
    let l : length {A = ℕ} (replicate (cells_from at) 0) ≡ cells_from at = length-replicate {A = ℕ} (cells_from at) 0 in
    get_or-append_right (replicate (cells_from at) 0) (cells ++ replicate n 0) (cells_from at) (cells_from at + k) 0 l (omega arith)
    ∙ ap (λ (m : ℕ). get_or (cells ++ replicate n 0) m 0) (omega arith) ∙ get_or_append_left cells (replicate n 0) 0 k lt

-- its bytes beside the slots are those of the image
pub cells_beside : (at : SlotsAt) (starts : List ℕ) (slots : Slots) (bytes : List ℕ) (k : ℕ) → AreSlots at starts slots bytes → k < length slots.cells → Outside (cells_from at + k) slots.fixes → get_or bytes (cells_from at + k) 0 ≡ get_or slots.cells k 0
cells_beside at starts slots bytes k s lt o = beside_is at starts slots bytes (cells_from at + k) s o ∙ plain_cells at (length starts) k slots.cells lt
