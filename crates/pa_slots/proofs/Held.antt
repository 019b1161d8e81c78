-- Pages that are written hold the slots and the bytes, and pages that hold them are so written.
use Rattle.std.proofs.Common.{replicate, ◌≡◌, ℕ, zero, suc, ◌+◌, ◌-◌, ◌*◌, ◌^◌, ◌≤◌, ◌<◌, Bool, true, false, cond, eqb, ltb, ◌||◌, List, [], ◌∷◌, ◌++◌, length, take, drop, get_or, None, refl, sym, ap, subst, ◌∙◌, append_assoc, arith, map}
use Rattle.std.proofs.lemmas.Bool.{eqb-true, eq-eqb, ltb-true, ltb-false, lt-ltb, le-ltb}
use Rattle.std.proofs.lemmas.List.{length-take-le, length-take, length-drop, length-append, take_at, drop_at, take-append-drop, drop-drop, drop-append-le, drop-replicate, length-replicate, nil_from_length}
use Rattle.byteorder.specs.Endian.{little_from, little_number}
use Rattle.byteorder.specs.Numbers.{little_from-append}
use Rattle.pa_layout.specs.Fields.{number, two, IsAt, AllFit as FieldsAllFit}
use Rattle.pa_layout.proofs.Laws.{IsBytes, IsAt-itself, number-within}
use Rattle.pa_layout.proofs.Pieces.{joined, pieces-apart, length-joined}
use Rattle.pa_fixups.specs.declared.kind.Fix.{Fix}
use Rattle.pa_fixups.specs.declared.bounds.Bounds.{Bounds}
use Rattle.pa_fixups.specs.Chain.{Rising, FixFits, AllFit, AreWritable, Linked, IsChain, with_slots, without_slots}
use Rattle.pa_fixups.proofs.Walk.{stands_inside}
use Rattle.pa_fixups.proofs.Written.{AreClear, erased_clear, length-with_slots, slots_linked, without_slots-with_slots, clear_without, written_again}
use Rattle.pa_slots.specs.declared.slots.Slots.{Slots}
use Rattle.pa_slots.specs.declared.slots.SlotsAt.{SlotsAt}
use Rattle.pa_slots.specs.Pages.{page_size, no_slot, bounds_of, cells_from, of_page, before, from, page_slots, later_slots, Below, AreRising, IsPage, ArePages}
use Rattle.pa_slots.specs.Slots.{plain_of, AreSlots}
use Rattle.pa_slots.specs.Writing.{page_of, is_clear, SlotFits, EachFits, SlotsFit, start_of, starts_of, pages_of, PagesWritable}
use Rattle.pa_slots.proofs.Chains.{chain_writable}
use Rattle.pa_slots.proofs.Pages.{StartsAt, IsBytes-take, IsBytes-drop, cut_off, CutOff, next_starts, next_rising, take_before}
use Rattle.pa_slots.proofs.Fits.{PageFits, page_is, page_fits, pages_writable, each_from, writable, InSection, in_section}
use Rattle.pa_slots.proofs.Whole.{pieces, chained, plain_joined}

-- ---- the loop that writes pages

pub record Writing (pages : ℕ) (fixes : List Fix) (plain : List ℕ) (page : ℕ) (rest : List Fix) (left bytes starts : List ℕ) : Type 0 where
  pub size : length left ≡ page_size * (pages - page)
  pub fits : PagesWritable page (pages - page) rest
  pub bytes_are : bytes ++ pages_of page (pages - page) rest left ≡ pages_of 0 pages fixes plain
  pub starts_are : starts ++ starts_of page (pages - page) rest ≡ starts_of 0 pages fixes

pub writable_now : (pages : ℕ) (fixes : List Fix) (plain : List ℕ) (page : ℕ) (rest : List Fix) (left bytes starts : List ℕ) (here slots : List Fix) → Writing pages fixes plain page rest left bytes starts → page < pages
    → here ≡ take (length (before (page_size * (page + 1)) rest)) rest → slots ≡ map (of_page page) here → AreWritable page_size slots
writable_now pages fixes plain page rest left bytes starts here slots w lt eh es =
    let k : pages - page ≡ suc (pages - (page + 1)) = omega arith in
    let f = rw k at w.fits in
    let e : slots ≡ page_slots page rest = es ∙ ap (map (of_page page)) (eh ∙ (take_before (page_size * (page + 1)) rest).0) in
    subst (AreWritable page_size) (sym e) f.0

pub front_length : (pages : ℕ) (page : ℕ) (left : List ℕ) → length left ≡ page_size * (pages - page) → page < pages → length (take page_size left) ≡ page_size
front_length pages page left e lt = length-take-le page_size left (omega arith)

pub write_on : (pages : ℕ) (fixes : List Fix) (plain : List ℕ) (page : ℕ) (rest : List Fix) (left bytes starts : List ℕ) (here later slots : List Fix) (front more bytes' starts' : List ℕ) → Writing pages fixes plain page rest left bytes starts → page < pages
    → here ≡ take (length (before (page_size * (page + 1)) rest)) rest → later ≡ drop (length (before (page_size * (page + 1)) rest)) rest → slots ≡ map (of_page page) here → front ≡ take page_size left → more ≡ drop page_size left
    → bytes' ≡ bytes ++ with_slots front slots → starts' ≡ starts ++ start_of slots ∷ [] → Writing pages fixes plain (page + 1) later more bytes' starts'
write_on pages fixes plain page rest left bytes starts here later slots front more bytes' starts' w lt eh el es ef em eb et =
    let k : pages - page ≡ suc (pages - (page + 1)) = omega arith in
    let t = take_before (page_size * (page + 1)) rest in
    let e : slots ≡ page_slots page rest = es ∙ ap (map (of_page page)) (eh ∙ t.0) in
    let l : later ≡ later_slots page rest = el ∙ t.1 in
    let f = rw k at w.fits in
    let b = rw k at w.bytes_are in
    let s = rw k at w.starts_are in
    record {
      size = ap length em ∙ omega (arith, length-drop page_size left, w.size);
      fits = subst (PagesWritable (page + 1) (pages - (page + 1))) (sym l) f.1;
      bytes_are =
          rw (eb, ef, em, l, e) (append_assoc bytes (with_slots (take page_size left) (page_slots page rest)) (pages_of (page + 1) (pages - (page + 1)) (later_slots page rest) (drop page_size left)) ∙ b);
      starts_are = rw (et, l, e) (append_assoc starts (start_of (page_slots page rest) ∷ []) (starts_of (page + 1) (pages - (page + 1)) (later_slots page rest)) ∙ s);
    }

-- ---- bytes beside slots that are zero

-- each slot's bytes are zero, where the bytes are those from page i on
abbrev pub AllClear : ℕ → List ℕ → List Fix → Type 0
AllClear i plain [] = Unit {0}
AllClear i plain (fix ∷ fixes) = (number 8 (fix.at - page_size * i) plain ≡ 0) × AllClear i plain fixes

number-take : (place n : ℕ) (bytes : List ℕ) → place + 8 ≤ n → n ≤ length bytes → number 8 place (take n bytes) ≡ number 8 place bytes
number-take place n bytes le inside =
    let front = take n bytes in
    let l : length front ≡ n = length-take-le n bytes inside in
    let long : 8 ≤ length (drop place front) = omega (arith, length-drop place front) in
    sym (ap (λ (x : List ℕ). number 8 place x) (sym (take-append-drop n bytes)) ∙ ap (little_number 8) (drop-append-le place front (drop n bytes) (omega arith)) ∙ little_from-append 8 (drop place front) (drop n bytes) long)

number-later : (i at : ℕ) (plain : List ℕ) → page_size * (i + 1) ≤ at → number 8 (at - page_size * (i + 1)) (drop page_size plain) ≡ number 8 (at - page_size * i) plain
number-later i at plain le = ap (little_number 8) (drop-drop (at - page_size * (i + 1)) page_size plain ∙ ap (λ (n : ℕ). drop n plain) (omega arith))

clear_page_as : (t : Bool) (bounds : Bounds) (i : ℕ) (plain : List ℕ) (fix : Fix) (fixes : List Fix) → page_size ≤ length plain → AllClear i plain (fix ∷ fixes) → AllFit bounds page_size (map (of_page i) (cond t (fix ∷ before (page_size * (i + 1)) fixes) []))
    → (AllFit bounds page_size (page_slots i fixes) → AreClear (take page_size plain) (page_slots i fixes)) → AreClear (take page_size plain) (map (of_page i) (cond t (fix ∷ before (page_size * (i + 1)) fixes) []))
clear_page_as true bounds i plain fix fixes le c f h =
    let inside = stands_inside bounds page_size (fix.at - page_size * i) f.0.stands in
    (number-take (fix.at - page_size * i) page_size plain inside le ∙ c.0, h f.1)
clear_page_as false bounds i plain fix fixes le c f h = tt

clear_page : (bounds : Bounds) (i : ℕ) (plain : List ℕ) (fixes : List Fix) → page_size ≤ length plain → AllClear i plain fixes → AllFit bounds page_size (page_slots i fixes) → AreClear (take page_size plain) (page_slots i fixes)
clear_page bounds i plain [] le c f = tt
clear_page bounds i plain (fix ∷ fixes) le c f = clear_page_as (ltb fix.at (page_size * (i + 1))) bounds i plain fix fixes le c f (clear_page bounds i plain fixes le c.1)

clear_from_as : (t : Bool) (i limit : ℕ) (plain : List ℕ) (fix : Fix) (fixes : List Fix) → AllClear i plain (fix ∷ fixes) → AllClear i plain (from limit fixes) → AllClear i plain (cond t (from limit fixes) (fix ∷ fixes))
clear_from_as true i limit plain fix fixes c h = h
clear_from_as false i limit plain fix fixes c h = c

clear_from : (i limit : ℕ) (plain : List ℕ) (fixes : List Fix) → AllClear i plain fixes → AllClear i plain (from limit fixes)
clear_from i limit plain [] c = tt
clear_from i limit plain (fix ∷ fixes) c = clear_from_as (ltb fix.at limit) i limit plain fix fixes c (clear_from i limit plain fixes c.1)

clear_later : (i : ℕ) (plain : List ℕ) (fixes : List Fix) → StartsAt (page_size * (i + 1)) fixes → AreRising fixes → AllClear i plain fixes → AllClear (i + 1) (drop page_size plain) fixes
clear_later i plain [] s r c = tt
clear_later i plain (fix ∷ fixes) s r c = (number-later i fix.at plain s ∙ c.0, clear_later i plain fixes (next_starts (page_size * (i + 1)) fix fixes s r) (next_rising fix fixes r) c.1)

later_clear : (i : ℕ) (plain : List ℕ) (fixes : List Fix) → StartsAt (page_size * (i + 1)) fixes → AreRising fixes → AllClear (i + 1) (drop page_size plain) fixes → AllClear i plain fixes
later_clear i plain [] s r c = tt
later_clear i plain (fix ∷ fixes) s r c = (sym (number-later i fix.at plain s) ∙ c.0, later_clear i plain fixes (next_starts (page_size * (i + 1)) fix fixes s r) (next_rising fix fixes r) c.1)

-- ---- what is written holds the slots

chain_of : (bounds : Bounds) (slots : List Fix) (plain : List ℕ) → IsBytes plain → length plain ≡ page_size → AllFit bounds page_size slots → AreRising slots → AreWritable page_size slots → AreClear plain slots → IsPage bounds (start_of slots) slots (with_slots plain slots) plain
unfolding with_slots
chain_of bounds [] plain bytes len f r w c = (refl, refl)
chain_of bounds (fix ∷ fixes) plain bytes len f r w c =
    let slots : List Fix = fix ∷ fixes in
    let long : length (with_slots plain slots) ≡ page_size = length-with_slots page_size slots plain len w in (
      (refl, r, subst (λ (n : ℕ). AllFit bounds n slots) (sym long) f, slots_linked page_size slots plain len (omega arith) w),
      without_slots-with_slots page_size slots plain len w ∙ clear_without page_size slots plain bytes len w c,
    )

below_from_as : (t : Bool) (top limit : ℕ) (fix : Fix) (fixes : List Fix) → Below top (fix ∷ fixes) → Below top (from limit fixes) → Below top (cond t (from limit fixes) (fix ∷ fixes))
below_from_as true top limit fix fixes b h = h
below_from_as false top limit fix fixes b h = b

below_from : (top limit : ℕ) (fixes : List Fix) → Below top fixes → Below top (from limit fixes)
below_from top limit [] b = tt
below_from top limit (fix ∷ fixes) b = below_from_as (ltb fix.at limit) top limit fix fixes b (below_from top limit fixes b.1)

none_left : (low top : ℕ) (fixes : List Fix) → top ≤ low → StartsAt low fixes → Below top fixes → fixes ≡ []
none_left low top [] le s b = refl
none_left low top (fix ∷ fixes) le s b = let lt = b.0 in absurd (omega arith)

pub length-starts_of : (i n : ℕ) (fixes : List Fix) → length (starts_of i n fixes) ≡ n
length-starts_of i zero fixes = refl
length-starts_of i (suc n) fixes = ap suc (length-starts_of (i + 1) n (later_slots i fixes))

pages_held : (at : SlotsAt) (cells : List ℕ) (i n : ℕ) (fixes : List Fix) (plain : List ℕ) → IsBytes plain → length plain ≡ page_size * n → StartsAt (page_size * i) fixes → AreRising fixes → EachFits at cells fixes → AllClear i plain fixes
    → Below (page_size * (i + n)) fixes → ArePages at i (starts_of i n fixes) fixes (pages_of i n fixes plain) plain
pages_held at cells i zero fixes plain bytes len s r e c b = (none_left (page_size * i) (page_size * (i + 0)) fixes (omega arith) s b, refl, nil_from_length plain (omega arith))
pages_held at cells i (suc n) fixes plain bytes len s r e c b =
    let slots = page_slots i fixes in
    let later = later_slots i fixes in
    let front = take page_size plain in
    let cut = cut_off i fixes s r in
    let p = page_fits at cells i fixes s r e in
    let w = writable at i slots p in
    let lf : length front ≡ page_size = length-take-le page_size plain (omega arith) in
    let clear = clear_page (bounds_of at i) i plain fixes (omega arith) c p.all in
    let page = chain_of (bounds_of at i) slots front (IsBytes-take page_size plain bytes) lf p.all p.rising w clear in
    let lw : length (with_slots front slots) ≡ page_size = length-with_slots page_size slots front lf w in
    let rest = pages_of (i + 1) n later (drop page_size plain) in
    let t : take page_size (with_slots front slots ++ rest) ≡ with_slots front slots = take_at (with_slots front slots) rest page_size lw in
    let d : drop page_size (with_slots front slots ++ rest) ≡ rest = drop_at (with_slots front slots) rest page_size lw in
    let top : page_size * (i + suc n) ≡ page_size * (i + 1 + n) = omega arith in
    let b' : Below (page_size * (i + 1 + n)) later = subst (λ (k : ℕ). Below k later) top (below_from (page_size * (i + suc n)) (page_size * (i + 1)) fixes b) in
    let ih = pages_held at cells (i + 1) n later (drop page_size plain) (IsBytes-drop page_size plain bytes) (omega (arith, length-drop page_size plain)) cut.starts cut.rising (each_from at cells (page_size * (i + 1)) fixes e) (clear_later i plain later cut.starts cut.rising (clear_from i (page_size * (i + 1)) plain fixes c)) b' in
    (subst (λ (l : List ℕ). IsPage (bounds_of at i) (start_of slots) slots l front) (sym t) page, subst (λ (l : List ℕ). ArePages at (i + 1) (starts_of (i + 1) n later) later l (drop page_size plain)) (sym d) ih)

-- ---- zeros among the bytes beside the slots

zeros-at : (m i : ℕ) → get_or (replicate {A = ℕ} m 0) i 0 ≡ 0
zeros-at zero i = refl
zeros-at (suc m) zero = refl
zeros-at (suc m) (suc i) = zeros-at m i

little-zeros : (n i m : ℕ) → little_from i n (replicate {A = ℕ} m 0) ≡ 0
little-zeros zero i m = refl
little-zeros (suc n) i m = let z = zeros-at m i in let h = little-zeros n (suc i) m in omega arith

number-zeros : (place m : ℕ) → number 8 place (replicate {A = ℕ} m 0) ≡ 0
number-zeros place m = ap (little_number 8) (drop-replicate place m 0) ∙ little-zeros 8 0 (m - place)

record PlainParts (at : SlotsAt) (cells plain : List ℕ) : Type 0 where
  pub front : IsAt plain 0 (replicate (cells_from at) 0)
  pub cells_at : IsAt plain (cells_from at) cells

plain_parts : (at : SlotsAt) (count : ℕ) (cells : List ℕ) → length cells ≡ at.cells → cells_from at + at.cells ≤ page_size * count → PlainParts at cells (plain_of at count cells)
plain_parts at count cells e le =
    let plain = plain_of at count cells in
    let here : IsAt plain 0 (joined (pieces at count cells)) = subst (IsAt plain 0) (sym (plain_joined at count cells)) (IsAt-itself plain) in
    let a = pieces-apart plain 0 (pieces at count cells) (page_size * count) (chained at count cells e le) here in
    record { front = a.0; cells_at = a.1.0 }

pub length-plain_of : (at : SlotsAt) (count : ℕ) (cells : List ℕ) → length cells ≡ at.cells → cells_from at + at.cells ≤ page_size * count → length (plain_of at count cells) ≡ page_size * count
length-plain_of at count cells e le = let l = length-joined 0 (pieces at count cells) (page_size * count) (chained at count cells e le) in sym (ap length (plain_joined at count cells)) ∙ omega arith

-- where a slot stands the bytes are zero exactly where it hides none of __data
number-front : (at : SlotsAt) (cells plain : List ℕ) (place : ℕ) → PlainParts at cells plain → place + 8 ≤ cells_from at → number 8 place plain ≡ 0
number-front at cells plain place p le =
    let l : length {A = ℕ} (replicate (cells_from at) 0) ≡ cells_from at = length-replicate {A = ℕ} (cells_from at) 0 in
    ap (λ (n : ℕ). number 8 n plain) (omega arith) ∙ number-within 8 0 place plain (replicate (cells_from at) 0) p.front (omega arith) ∙ number-zeros place (cells_from at)

number-cells : (at : SlotsAt) (cells plain : List ℕ) (place : ℕ) → PlainParts at cells plain → cells_from at ≤ place → place + 8 ≤ cells_from at + length cells → number 8 place plain ≡ number 8 (place - cells_from at) cells
number-cells at cells plain place p low high =
    ap (λ (n : ℕ). number 8 n plain) (omega arith) ∙ number-within 8 (cells_from at) (place - cells_from at) plain cells p.cells_at (omega arith)

clear_as : (t : Bool) (at : SlotsAt) (cells plain : List ℕ) (fix : Fix) → length cells ≡ at.cells → PlainParts at cells plain → InSection at fix.at → ltb fix.at (cells_from at) ≡ t → (t || eqb (number 8 (fix.at - cells_from at) cells) 0) ≡ true → number 8 fix.at plain ≡ 0
clear_as true at cells plain fix e p i t c = let h = i.low (ltb-true _ _ t) in number-front at cells plain fix.at p (omega arith)
clear_as false at cells plain fix e p i t c = let low = ltb-false _ _ t in let h = i.inside in number-cells at cells plain fix.at p low (omega arith) ∙ eqb-true _ _ c

clear_back : (t : Bool) (at : SlotsAt) (cells plain : List ℕ) (fix : Fix) → length cells ≡ at.cells → PlainParts at cells plain → InSection at fix.at → ltb fix.at (cells_from at) ≡ t → number 8 fix.at plain ≡ 0 → (t || eqb (number 8 (fix.at - cells_from at) cells) 0) ≡ true
clear_back true at cells plain fix e p i t z = refl
clear_back false at cells plain fix e p i t z = let low = ltb-false _ _ t in let h = i.inside in eq-eqb _ _ (sym (number-cells at cells plain fix.at p low (omega arith)) ∙ z)

all_clear : (at : SlotsAt) (cells plain : List ℕ) (fixes : List Fix) → length cells ≡ at.cells → PlainParts at cells plain → EachFits at cells fixes → AllClear 0 plain fixes
all_clear at cells plain [] e p f = tt
all_clear at cells plain (fix ∷ fixes) e p f =
    let z = clear_as (ltb fix.at (cells_from at)) at cells plain fix e p (in_section at fix f.0.fits) refl f.0.clear in
    (ap (λ (n : ℕ). number 8 n plain) (omega arith) ∙ z, all_clear at cells plain fixes e p f.1)

each_below : (at : SlotsAt) (cells : List ℕ) (top : ℕ) (fixes : List Fix) → cells_from at + at.cells ≤ top → EachFits at cells fixes → Below top fixes
each_below at cells top [] le f = tt
each_below at cells top (fix ∷ fixes) le f = let i = (in_section at fix f.0.fits).inside in (omega arith, each_below at cells top fixes le f.1)

IsBytes-zeros : (n : ℕ) → IsBytes (replicate n 0)
IsBytes-zeros n i = let z = zeros-at n i in omega arith

IsBytes-append : (xs ys : List ℕ) → IsBytes xs → IsBytes ys → IsBytes (xs ++ ys)
IsBytes-append [] ys a b i = b i
IsBytes-append (x ∷ xs) ys a b zero = a 0
IsBytes-append (x ∷ xs) ys a b (suc i) = IsBytes-append xs ys (λ k. a (suc k)) b i

IsBytes-plain_of : (at : SlotsAt) (count : ℕ) (cells : List ℕ) → IsBytes cells → IsBytes (plain_of at count cells)
unfolding plain_of
IsBytes-plain_of at count cells b =
    let n = page_size * count - (cells_from at + at.cells) in
    IsBytes-append (replicate (cells_from at) 0) (cells ++ replicate n 0) (IsBytes-zeros (cells_from at)) (IsBytes-append cells (replicate n 0) b (IsBytes-zeros n))

starts_zero : (fixes : List Fix) → StartsAt (page_size * 0) fixes
starts_zero [] = tt
starts_zero (fix ∷ fixes) = omega arith

-- the bytes that are written hold what was to be written
pub slots_held : (at : SlotsAt) (slots : Slots) (count : ℕ) → IsBytes slots.cells → cells_from at + at.cells ≤ page_size * count → SlotsFit at slots
    → AreSlots at (starts_of 0 count slots.fixes) slots (pages_of 0 count slots.fixes (plain_of at count slots.cells))
slots_held at slots count bytes le f =
    let cells : List ℕ = slots.cells in
    let fixes : List Fix = slots.fixes in
    let plain = plain_of at count cells in
    let p = plain_parts at count cells f.cells le in
    let l = length-starts_of 0 count fixes in
    let held = pages_held at cells 0 count fixes plain (IsBytes-plain_of at count cells bytes) (length-plain_of at count cells f.cells le) (starts_zero fixes) f.rising f.each (all_clear at cells plain fixes f.cells p f.each) (each_below at cells (page_size * (0 + count)) fixes (omega arith) f.each) in
    record {
      cells = f.cells;
      rising = f.rising;
      pages = subst (λ (n : ℕ). ArePages at 0 (starts_of 0 count fixes) fixes (pages_of 0 count fixes plain) (plain_of at n cells)) (sym l) held;
    }

pub slots_written : (at : SlotsAt) (slots : Slots) (count : ℕ) (cells starts bytes : List ℕ) → cells ≡ slots.cells → IsBytes cells → cells_from at + at.cells ≤ page_size * count → SlotsFit at slots
    → bytes ≡ pages_of 0 count slots.fixes (plain_of at count slots.cells) → starts ≡ starts_of 0 count slots.fixes → AreSlots at starts slots bytes
slots_written at slots count cells starts bytes ec fits le f eb es =
    let held = slots_held at slots count (subst IsBytes ec fits) le f in
    subst (λ (l : List ℕ). AreSlots at starts slots l) (sym eb) (subst (λ (l : List ℕ). AreSlots at l slots (pages_of 0 count slots.fixes (plain_of at count slots.cells))) (sym es) held)

pub all_writable : (at : SlotsAt) (slots : Slots) (count : ℕ) → SlotsFit at slots → PagesWritable 0 count slots.fixes
all_writable at slots count f = pages_writable at slots.cells 0 count slots.fixes (starts_zero slots.fixes) f.rising f.each

-- ---- what is held can be written

abbrev EachStands : SlotsAt → List Fix → Type 0
EachStands at [] = Unit {0}
EachStands at (fix ∷ fixes) = FixFits (bounds_of at (page_of fix)) page_size (of_page (page_of fix) fix) × EachStands at fixes

page_parts : (bounds : Bounds) (start : ℕ) (slots : List Fix) (page plain : List ℕ) → length page ≡ page_size → IsPage bounds start slots page plain → (AllFit bounds page_size slots) × (AreClear plain slots)
page_parts bounds start [] page plain len p = (tt, tt)
page_parts bounds start (fix ∷ fixes) page plain len p =
    let slots : List Fix = fix ∷ fixes in
    let w = subst (λ (n : ℕ). AreWritable n slots) len (chain_writable bounds page start slots p.0) in
    (subst (λ (n : ℕ). AllFit bounds n slots) len p.0.2, subst (λ (l : List ℕ). AreClear l slots) p.1 (erased_clear page_size slots page len w))

stands_all_as : (t : Bool) (at : SlotsAt) (i : ℕ) (fix : Fix) (fixes : List Fix) → page_size * i ≤ fix.at → ltb fix.at (page_size * (i + 1)) ≡ t → AllFit (bounds_of at i) page_size (map (of_page i) (cond t (fix ∷ before (page_size * (i + 1)) fixes) [])) → EachStands at (cond t (from (page_size * (i + 1)) fixes) (fix ∷ fixes))
    → (AllFit (bounds_of at i) page_size (page_slots i fixes) → EachStands at (later_slots i fixes) → EachStands at fixes) → EachStands at (fix ∷ fixes)
stands_all_as true at i fix fixes s t a e h = (subst (λ (k : ℕ). FixFits (bounds_of at k) page_size (of_page k fix)) (sym (page_is i fix s (ltb-true _ _ t))) a.0, h a.1 e)
stands_all_as false at i fix fixes s t a e h = e

stands_all : (at : SlotsAt) (i : ℕ) (fixes : List Fix) → StartsAt (page_size * i) fixes → AreRising fixes → AllFit (bounds_of at i) page_size (page_slots i fixes) → EachStands at (later_slots i fixes) → EachStands at fixes
stands_all at i [] s r a e = tt
stands_all at i (fix ∷ fixes) s r a e = stands_all_as (ltb fix.at (page_size * (i + 1))) at i fix fixes s refl a e (stands_all at i fixes (next_starts (page_size * i) fix fixes s r) (next_rising fix fixes r))

clear_all_as : (t : Bool) (bounds : Bounds) (i : ℕ) (plain : List ℕ) (fix : Fix) (fixes : List Fix) → page_size ≤ length plain → AllFit bounds page_size (map (of_page i) (cond t (fix ∷ before (page_size * (i + 1)) fixes) [])) → AreClear (take page_size plain) (map (of_page i) (cond t (fix ∷ before (page_size * (i + 1)) fixes) []))
    → AllClear i plain (cond t (from (page_size * (i + 1)) fixes) (fix ∷ fixes)) → (AllFit bounds page_size (page_slots i fixes) → AreClear (take page_size plain) (page_slots i fixes) → AllClear i plain (later_slots i fixes) → AllClear i plain fixes) → AllClear i plain (fix ∷ fixes)
clear_all_as true bounds i plain fix fixes le a c e h =
    let inside = stands_inside bounds page_size (fix.at - page_size * i) a.0.stands in
    (sym (number-take (fix.at - page_size * i) page_size plain inside le) ∙ c.0, h a.1 c.1 e)
clear_all_as false bounds i plain fix fixes le a c e h = e

clear_all : (bounds : Bounds) (i : ℕ) (plain : List ℕ) (fixes : List Fix) → page_size ≤ length plain → AllFit bounds page_size (page_slots i fixes) → AreClear (take page_size plain) (page_slots i fixes) → AllClear i plain (later_slots i fixes) → AllClear i plain fixes
clear_all bounds i plain [] le a c e = tt
clear_all bounds i plain (fix ∷ fixes) le a c e = clear_all_as (ltb fix.at (page_size * (i + 1))) bounds i plain fix fixes le a c e (clear_all bounds i plain fixes le)

record Fitting (at : SlotsAt) (i : ℕ) (fixes : List Fix) (plain : List ℕ) : Type 0 where
  pub stand : EachStands at fixes
  pub clear : AllClear i plain fixes

nothing_fits : (at : SlotsAt) (i : ℕ) (fixes : List Fix) (plain : List ℕ) → fixes ≡ [] → Fitting at i fixes plain
nothing_fits at i fixes plain e = subst (λ (l : List Fix). Fitting at i l plain) (sym e) (record { stand = tt; clear = tt })

pages_fit : (at : SlotsAt) (i : ℕ) (starts : List ℕ) (fixes : List Fix) (bytes plain : List ℕ) → length bytes ≡ page_size * length starts → length plain ≡ page_size * length starts → StartsAt (page_size * i) fixes → AreRising fixes → ArePages at i starts fixes bytes plain → Fitting at i fixes plain
pages_fit at i [] fixes bytes plain lb lp s r p = nothing_fits at i fixes plain p.0
pages_fit at i (start ∷ starts) fixes bytes plain lb lp s r p =
    let later = later_slots i fixes in
    let cut = cut_off i fixes s r in
    let len : length (take page_size bytes) ≡ page_size = length-take-le page_size bytes (omega arith) in
    let page = page_parts (bounds_of at i) start (page_slots i fixes) (take page_size bytes) (take page_size plain) len p.0 in
    let ih = pages_fit at (i + 1) starts later (drop page_size bytes) (drop page_size plain) (omega (arith, length-drop page_size bytes)) (omega (arith, length-drop page_size plain)) cut.starts cut.rising p.1 in
    record {
      stand = stands_all at i fixes s r page.0 ih.stand;
      clear = clear_all (bounds_of at i) i plain fixes (omega arith) page.0 page.1 (later_clear i plain later cut.starts cut.rising ih.clear);
    }

each_from_parts : (at : SlotsAt) (cells plain : List ℕ) (fixes : List Fix) → length cells ≡ at.cells → PlainParts at cells plain → EachStands at fixes → AllClear 0 plain fixes → EachFits at cells fixes
each_from_parts at cells plain [] e p s c = tt
each_from_parts at cells plain (fix ∷ fixes) e p s c =
    let z : number 8 fix.at plain ≡ 0 = ap (λ (n : ℕ). number 8 n plain) (omega arith) ∙ c.0 in
    (record { fits = s.0; clear = clear_back (ltb fix.at (cells_from at)) at cells plain fix e p (in_section at fix s.0) refl z }, each_from_parts at cells plain fixes e p s.1 c.1)

pub held_fit : (at : SlotsAt) (starts : List ℕ) (slots : Slots) (bytes : List ℕ) → length bytes ≡ page_size * length starts → cells_from at + at.cells ≤ page_size * length starts → AreSlots at starts slots bytes → SlotsFit at slots
held_fit at starts slots bytes size le s =
    let count = length starts in
    let cells : List ℕ = slots.cells in
    let fixes : List Fix = slots.fixes in
    let plain = plain_of at count cells in
    let f = pages_fit at 0 starts fixes bytes plain size (length-plain_of at count cells s.cells le) (starts_zero fixes) s.rising s.pages in
    record { cells = s.cells; rising = s.rising; each = each_from_parts at cells plain fixes s.cells (plain_parts at count cells s.cells le) f.stand f.clear }

-- ---- one spelling

page_spelled : (bounds : Bounds) (start : ℕ) (slots : List Fix) (page plain : List ℕ) → IsBytes page → IsPage bounds start slots page plain → (page ≡ with_slots plain slots) × (start ≡ start_of slots)
unfolding with_slots
page_spelled bounds start [] page plain b p = (p.1, p.0)
page_spelled bounds start (fix ∷ fixes) page plain b p =
    let slots : List Fix = fix ∷ fixes in
    let w = chain_writable bounds page start slots p.0 in
    (sym (written_again slots page b w p.0.3) ∙ ap (λ (l : List ℕ). with_slots l slots) p.1, sym p.0.0)

pages_spelled : (at : SlotsAt) (i : ℕ) (starts : List ℕ) (fixes : List Fix) (bytes plain : List ℕ) → IsBytes bytes → ArePages at i starts fixes bytes plain → (bytes ≡ pages_of i (length starts) fixes plain) × (starts ≡ starts_of i (length starts) fixes)
pages_spelled at i [] fixes bytes plain b p = (p.1, refl)
pages_spelled at i (start ∷ starts) fixes bytes plain b p =
    let slots = page_slots i fixes in
    let page = page_spelled (bounds_of at i) start slots (take page_size bytes) (take page_size plain) (IsBytes-take page_size bytes b) p.0 in
    let ih = pages_spelled at (i + 1) starts (later_slots i fixes) (drop page_size bytes) (drop page_size plain) (IsBytes-drop page_size bytes b) p.1 in (
      sym (take-append-drop page_size bytes) ∙ ap (λ (l : List ℕ). l ++ drop page_size bytes) page.0 ∙ ap (λ (l : List ℕ). with_slots (take page_size plain) slots ++ l) ih.0,
      ap (λ (n : ℕ). n ∷ starts) page.1 ∙ ap (λ (l : List ℕ). start_of slots ∷ l) ih.1,
    )

-- slots and bytes have one spelling
pub slots_spelled : (at : SlotsAt) (starts : List ℕ) (slots : Slots) (bytes : List ℕ) → IsBytes bytes → AreSlots at starts slots bytes
    → (bytes ≡ pages_of 0 (length starts) slots.fixes (plain_of at (length starts) slots.cells)) × (starts ≡ starts_of 0 (length starts) slots.fixes)
slots_spelled at starts slots bytes b s = pages_spelled at 0 starts slots.fixes bytes (plain_of at (length starts) slots.cells) b s.pages

-- ---- sizes

pub length-pages_of : (i n : ℕ) (fixes : List Fix) (plain : List ℕ) → PagesWritable i n fixes → length plain ≡ page_size * n → length (pages_of i n fixes plain) ≡ page_size * n
length-pages_of i zero fixes plain w e = omega arith
length-pages_of i (suc n) fixes plain w e =
    let front = take page_size plain in
    let lf : length front ≡ page_size = length-take-le page_size plain (omega arith) in
    let lw : length (with_slots front (page_slots i fixes)) ≡ page_size = length-with_slots page_size (page_slots i fixes) front lf w.0 in
    let ih = length-pages_of (i + 1) n (later_slots i fixes) (drop page_size plain) w.1 (omega (arith, length-drop page_size plain)) in
    omega (arith, length-append (with_slots front (page_slots i fixes)) (pages_of (i + 1) n (later_slots i fixes) (drop page_size plain)))

start_small : (slots : List Fix) → AreWritable page_size slots → start_of slots < 2 ^ 16
start_small [] w = omega arith
start_small (fix ∷ fixes) w = let i = w.0.inside in omega arith

pub starts_fit : (i n : ℕ) (fixes : List Fix) → PagesWritable i n fixes → FieldsAllFit (map two (starts_of i n fixes))
starts_fit i zero fixes w = tt
starts_fit i (suc n) fixes w = (start_small (page_slots i fixes) w.0, refl, starts_fit (i + 1) n (later_slots i fixes) w.1)
