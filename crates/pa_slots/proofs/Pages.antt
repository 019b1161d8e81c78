-- The pages of __DATA, one after the other.
use Rattle.std.proofs.Common.{replicate, ◌≡◌, ℕ, zero, suc, ◌+◌, ◌-◌, ◌*◌, ◌≤◌, ◌<◌, Bool, true, false, cond, eqb, ltb, List, [], ◌∷◌, ◌++◌, length, take, drop, get_or, Option, Some, None, refl, sym, ap, subst, ◌∙◌, arith, map}
use Rattle.std.proofs.lemmas.Bool.{eqb-true, eqb-false, eq-eqb, ne_eqb, ltb-true, lt-ltb, le-ltb, ltb-false}
use Rattle.std.proofs.lemmas.List.{length-take, length-take-le, length-drop, length-append, take_at, drop_at, take-append-drop, get_or-drop, nil_from_length}
use Rattle.pa_num.specs.declared.fault.ImageRule.TheVariants.{F4}
use Rattle.pa_layout.specs.declared.checks.Flaw.{Flaw}
use Rattle.pa_layout.specs.Flaws.{flaw_at, ◌then◌}
use Rattle.pa_layout.proofs.Laws.{IsBytes}
use Rattle.pa_layout.proofs.Facts.{then_none, none_then}
use Rattle.pa_fixups.specs.declared.kind.FixKind.{FixKind}
use Rattle.pa_fixups.specs.declared.kind.Fix.{Fix}
use Rattle.pa_fixups.specs.declared.bounds.Bounds.{Bounds}
use Rattle.pa_fixups.specs.Chain.{may_stand, slots_flaw, no_place, chain_flaw, Rising, IsChain, AreWritable, without_slots, put_at}
use Rattle.pa_fixups.proofs.Walk.{stands_inside, fixes_from}
use Rattle.pa_fixups.proofs.Trip.{chain_only, chain_found}
use Rattle.pa_fixups.proofs.Written.{length-put_at}
use Rattle.pa_slots.specs.declared.slots.SlotsAt.{SlotsAt}
use Rattle.pa_slots.specs.Pages.{page_size, no_slot, bounds_of, in_page, of_page, before, from, page_slots, later_slots, Below, AreRising, IsPage, ArePages, told, page_flaw, pages_flaw, chain_in, slots_in, plain_in}
use Rattle.pa_slots.proofs.Chains.{chain_writable, writable_below}

-- ---- bytes in parts

pub IsBytes-take : (n : ℕ) (bytes : List ℕ) → IsBytes bytes → IsBytes (take n bytes)
IsBytes-take zero bytes fits i = omega arith
IsBytes-take (suc n) [] fits i = omega arith
IsBytes-take (suc n) (x ∷ xs) fits zero = fits 0
IsBytes-take (suc n) (x ∷ xs) fits (suc i) = IsBytes-take n xs (λ k. fits (suc k)) i

pub IsBytes-drop : (n : ℕ) (bytes : List ℕ) → IsBytes bytes → IsBytes (drop n bytes)
IsBytes-drop n bytes fits i = rw get_or-drop (fits (n + i))

page_length : (n : ℕ) (bytes : List ℕ) → length bytes ≡ page_size * suc n → length (take page_size bytes) ≡ page_size
page_length n bytes e = length-take-le page_size bytes (omega arith)

rest_length : (n : ℕ) (bytes : List ℕ) → length bytes ≡ page_size * suc n → length (drop page_size bytes) ≡ page_size * n
rest_length n bytes e = omega (arith, length-drop page_size bytes)

length-zeros : length {A = ℕ} (replicate 8 0) ≡ 8
length-zeros = refl

pub length-without_slots : (len : ℕ) (fixes : List Fix) (page : List ℕ) → length page ≡ len → AreWritable len fixes → length (without_slots page fixes) ≡ len
unfolding without_slots
length-without_slots len [] page e w = e
length-without_slots len (fix ∷ fixes) page e w =
    let i = w.0.inside in
    let z = length-zeros in
    length-without_slots len fixes (put_at fix.at (replicate 8 0) page) (length-put_at fix.at (replicate 8 0) page (omega arith) ∙ e) w.2

-- ---- slots in a page and by their places in __DATA

abbrev fix_of : ℕ → FixKind → Fix
fix_of at kind = record { at = at; kind = kind }

in_and_of : (i : ℕ) (fix : Fix) → of_page i (in_page i fix) ≡ fix
in_and_of i fix = let e : page_size * i + fix.at - page_size * i ≡ fix.at = omega arith in ap (λ (n : ℕ). fix_of n fix.kind) e

of_and_in : (i : ℕ) (fix : Fix) → page_size * i ≤ fix.at → in_page i (of_page i fix) ≡ fix
of_and_in i fix le = let e : page_size * i + (fix.at - page_size * i) ≡ fix.at = omega arith in ap (λ (n : ℕ). fix_of n fix.kind) e

of_in_all : (i : ℕ) (fixes : List Fix) → map (of_page i) (map (in_page i) fixes) ≡ fixes
of_in_all i [] = refl
of_in_all i (fix ∷ fixes) = let a = in_and_of i fix in let b = of_in_all i fixes in cc

-- the first slot stands at a place or after it
abbrev pub StartsAt : ℕ → List Fix → Type 0
StartsAt low [] = Unit {0}
StartsAt low (fix ∷ fixes) = low ≤ fix.at

starts_less : (low lower : ℕ) (fixes : List Fix) → lower ≤ low → StartsAt low fixes → StartsAt lower fixes
starts_less low lower [] le s = tt
starts_less low lower (fix ∷ fixes) le s = omega arith

take_before_as : (t : Bool) (limit : ℕ) (fix : Fix) (fixes : List Fix) → (take (length (before limit fixes)) fixes ≡ before limit fixes) × (drop (length (before limit fixes)) fixes ≡ from limit fixes)
    → (take (length (cond t (fix ∷ before limit fixes) [])) (fix ∷ fixes) ≡ cond t (fix ∷ before limit fixes) []) × (drop (length (cond t (fix ∷ before limit fixes) [])) (fix ∷ fixes) ≡ cond t (from limit fixes) (fix ∷ fixes))
take_before_as true limit fix fixes h = (ap (λ (l : List Fix). fix ∷ l) h.0, h.1)
take_before_as false limit fix fixes h = (refl, refl)

-- slots before a place and from it on are a front and what is after it
pub take_before : (limit : ℕ) (fixes : List Fix) → (take (length (before limit fixes)) fixes ≡ before limit fixes) × (drop (length (before limit fixes)) fixes ≡ from limit fixes)
take_before limit [] = (refl, refl)
take_before limit (fix ∷ fixes) = take_before_as (ltb fix.at limit) limit fix fixes (take_before limit fixes)

-- slots of a page before others are cut off
record Cut (i : ℕ) (fixes slots rest : List Fix) : Type 0 where
  pub slots_are : before (page_size * (i + 1)) fixes ≡ slots
  pub rest_is : from (page_size * (i + 1)) fixes ≡ rest

cut_none : (i : ℕ) (rest : List Fix) → StartsAt (page_size * (i + 1)) rest → Cut i rest [] rest
cut_none i [] s = record { slots_are = refl; rest_is = refl }
cut_none i (fix ∷ rest) s =
    let no : ltb fix.at (page_size * (i + 1)) ≡ false = le-ltb _ _ s in
    record { slots_are = rw no refl; rest_is = rw no refl }

cut_next : (i : ℕ) (fix : Fix) (fixes slots rest : List Fix) → fix.at < page_size * (i + 1) → Cut i fixes slots rest → Cut i (fix ∷ fixes) (fix ∷ slots) rest
cut_next i fix fixes slots rest lt c =
    let yes : ltb fix.at (page_size * (i + 1)) ≡ true = lt-ltb _ _ lt in
    record { slots_are = rw yes (ap (λ (l : List Fix). fix ∷ l) c.slots_are); rest_is = rw yes c.rest_is }

cut_page : (i : ℕ) (fixes rest : List Fix) → Below page_size fixes → StartsAt (page_size * (i + 1)) rest → Cut i (map (in_page i) fixes ++ rest) (map (in_page i) fixes) rest
cut_page i [] rest b s = cut_none i rest s
cut_page i (fix ∷ fixes) rest b s =
    let lt = b.0 in
    cut_next i (in_page i fix) (map (in_page i) fixes ++ rest) (map (in_page i) fixes) rest (omega arith) (cut_page i fixes rest b.1 s)

pub page_slots_are : (i : ℕ) (fixes rest : List Fix) → Below page_size fixes → StartsAt (page_size * (i + 1)) rest → (page_slots i (map (in_page i) fixes ++ rest) ≡ fixes) × (later_slots i (map (in_page i) fixes ++ rest) ≡ rest)
page_slots_are i fixes rest b s =
    let c = cut_page i fixes rest b s in
    (ap (map (of_page i)) c.slots_are ∙ of_in_all i fixes, c.rest_is)

-- ---- a page that is read

chain_parts : (t : Bool) (x : Option Flaw) → cond t x (Some (flaw_at F4 no_place)) ≡ None → (t ≡ true) × (x ≡ None)
chain_parts true x e = (refl, e)
chain_parts false x e = absurd cc

told_none : (at : SlotsAt) (i : ℕ) (f : Option Flaw) → told at i f ≡ None → f ≡ None
told_none at i None e = refl
told_none at i (Some f) e = absurd cc

chain_is_page : (bounds : Bounds) (start : ℕ) (fixes : List Fix) (page : List ℕ) → IsChain bounds page start fixes → IsPage bounds start fixes page (without_slots page fixes)
chain_is_page bounds start [] page c = absurd c
chain_is_page bounds start (fix ∷ fixes) page c = (c, refl)

record Read (at : SlotsAt) (i start : ℕ) (page : List ℕ) : Type 0 where
  pub page_is : IsPage (bounds_of at i) start (chain_in at i start page) page (without_slots page (chain_in at i start page))
  pub writable : AreWritable (length page) (chain_in at i start page)
  pub rising : AreRising (chain_in at i start page)

chain_rising : (bounds : Bounds) (page : List ℕ) (start : ℕ) (fixes : List Fix) → IsChain bounds page start fixes → AreRising fixes
chain_rising bounds page start [] c = tt
chain_rising bounds page start (fix ∷ fixes) c = c.1

page_read_as : (t : Bool) (at : SlotsAt) (i start : ℕ) (page : List ℕ) → IsBytes page → eqb start no_slot ≡ t → page_flaw at i start page ≡ None → Read at i start page
unfolding chain_in page_flaw without_slots
page_read_as true at i start page fits t e =
    let s : start ≡ no_slot = eqb-true _ _ t in
    record { page_is = rw t (s, refl); writable = rw t tt; rising = rw t tt }
page_read_as false at i start page fits t e =
    let c = chain_parts (may_stand (bounds_of at i) (length page) start) (slots_flaw (bounds_of at i) page start) (told_none at i _ (rw t at e)) in
    let chain = chain_found (bounds_of at i) page start fits c.0 c.1 in
    record {
      page_is = rw t (chain_is_page (bounds_of at i) start (fixes_from (bounds_of at i) page start) page chain);
      writable = rw t (chain_writable (bounds_of at i) page start (fixes_from (bounds_of at i) page start) chain);
      rising = rw t (chain_rising (bounds_of at i) page start (fixes_from (bounds_of at i) page start) chain);
    }

page_read : (at : SlotsAt) (i start : ℕ) (page : List ℕ) → IsBytes page → page_flaw at i start page ≡ None → Read at i start page
page_read at i start page fits e = page_read_as (eqb start no_slot) at i start page fits refl e

-- ---- all pages that are read

in_page_starts : (i : ℕ) (fixes rest : List Fix) → StartsAt (page_size * (i + 1)) rest → StartsAt (page_size * i) (map (in_page i) fixes ++ rest)
in_page_starts i [] rest s = starts_less (page_size * (i + 1)) (page_size * i) rest (omega arith) s
in_page_starts i (fix ∷ fixes) rest s = omega arith

pub slots_start : (at : SlotsAt) (i : ℕ) (starts bytes : List ℕ) → StartsAt (page_size * i) (slots_in at i starts bytes)
slots_start at i [] bytes = tt
slots_start at i (start ∷ starts) bytes =
    in_page_starts i (chain_in at i start (take page_size bytes)) (slots_in at (i + 1) starts (drop page_size bytes)) (slots_start at (i + 1) starts (drop page_size bytes))

rising_page : (i : ℕ) (fix : Fix) (fixes rest : List Fix) → Rising fix fixes → Below page_size (fix ∷ fixes) → StartsAt (page_size * (i + 1)) rest → AreRising rest → Rising (in_page i fix) (map (in_page i) fixes ++ rest)
rising_page i fix [] [] r b s a = tt
rising_page i fix [] (next ∷ rest) r b s a = let lt = b.0 in (omega arith, a)
rising_page i fix (next ∷ fixes) rest r b s a = let lt = r.0 in (omega arith, rising_page i next fixes rest r.1 b.1 s a)

rising_pages : (i : ℕ) (fixes rest : List Fix) → AreRising fixes → Below page_size fixes → StartsAt (page_size * (i + 1)) rest → AreRising rest → AreRising (map (in_page i) fixes ++ rest)
rising_pages i [] rest r b s a = a
rising_pages i (fix ∷ fixes) rest r b s a = rising_page i fix fixes rest r b s a

pub record AllRead (at : SlotsAt) (i : ℕ) (starts bytes : List ℕ) : Type 0 where
  pub pages : ArePages at i starts (slots_in at i starts bytes) bytes (plain_in at i starts bytes)
  pub rising : AreRising (slots_in at i starts bytes)
  pub size : length (plain_in at i starts bytes) ≡ length bytes

nil_of : (bytes : List ℕ) → length bytes ≡ page_size * 0 → bytes ≡ []
nil_of bytes e = nil_from_length bytes (omega arith)

pub pages_found : (at : SlotsAt) (i : ℕ) (starts bytes : List ℕ) → IsBytes bytes → length bytes ≡ page_size * length starts → pages_flaw at i starts bytes ≡ None → AllRead at i starts bytes
pages_found at i [] bytes fits size e = record { pages = (refl, nil_of bytes size, refl); rising = tt; size = omega arith }
pages_found at i (start ∷ starts) bytes fits size e =
    let page = take page_size bytes in
    let more = drop page_size bytes in
    let c = chain_in at i start page in
    let rest = slots_in at (i + 1) starts more in
    let plain = without_slots page c in
    let n = then_none (page_flaw at i start page) (pages_flaw at (i + 1) starts more) e in
    let r = page_read at i start page (IsBytes-take page_size bytes fits) n.0 in
    let len : length page ≡ page_size = page_length (length starts) bytes size in
    let b : Below page_size c = subst (λ (k : ℕ). Below k c) len (writable_below (length page) c r.writable) in
    let s = slots_start at (i + 1) starts more in
    let cut = page_slots_are i c rest b s in
    let ih = pages_found at (i + 1) starts more (IsBytes-drop page_size bytes fits) (rest_length (length starts) bytes size) n.1 in
    let lp : length plain ≡ page_size = length-without_slots page_size c page len (subst (λ (k : ℕ). AreWritable k c) len r.writable) in
    let t : take page_size (plain ++ plain_in at (i + 1) starts more) ≡ plain = take_at plain (plain_in at (i + 1) starts more) page_size lp in
    let d : drop page_size (plain ++ plain_in at (i + 1) starts more) ≡ plain_in at (i + 1) starts more = drop_at plain (plain_in at (i + 1) starts more) page_size lp in
    record {
      pages = (
        subst (λ (l : List Fix). IsPage (bounds_of at i) start l page (take page_size (plain ++ plain_in at (i + 1) starts more))) (sym cut.0) (subst (IsPage (bounds_of at i) start c page) (sym t) r.page_is),
        subst (λ (l : List Fix). ArePages at (i + 1) starts l more (drop page_size (plain ++ plain_in at (i + 1) starts more))) (sym cut.1) (subst (ArePages at (i + 1) starts rest more) (sym d) ih.pages),
      );
      rising = rising_pages i c rest r.rising b s ih.rising;
      size = omega (arith, length-append plain (plain_in at (i + 1) starts more), ih.size, length-drop page_size bytes);
    }

-- ---- pages that are there are read

record Again (at : SlotsAt) (i start : ℕ) (fixes : List Fix) (page plain : List ℕ) : Type 0 where
  pub flaw : page_flaw at i start page ≡ None
  pub slots : chain_in at i start page ≡ fixes
  pub bytes : without_slots page (chain_in at i start page) ≡ plain

stands_short : (bounds : Bounds) (page : List ℕ) (start : ℕ) → length page ≤ page_size → may_stand bounds (length page) start ≡ true → start ≡ no_slot → ⊥
stands_short bounds page start short m e = let i = stands_inside bounds (length page) start m in omega arith

page_again : (at : SlotsAt) (i start : ℕ) (fixes : List Fix) (page plain : List ℕ) → length page ≤ page_size → IsPage (bounds_of at i) start fixes page plain → Again at i start fixes page plain
unfolding chain_in page_flaw without_slots
page_again at i start [] page plain short p =
    let yes : eqb start no_slot ≡ true = eq-eqb _ _ p.0 in
    record { flaw = rw yes refl; slots = rw yes refl; bytes = rw yes p.1 }
page_again at i start (fix ∷ fixes) page plain short p =
    let only = chain_only (bounds_of at i) page start (fix ∷ fixes) short p.0 in
    let no : eqb start no_slot ≡ false = ne_eqb _ _ (stands_short (bounds_of at i) page start short only.0) in
    let stands = only.0 in
    let none = only.2 in
    let slots : chain_in at i start page ≡ fix ∷ fixes = rw no only.1 in
    record { flaw = rw (no, stands, none) refl; slots = slots; bytes = ap (without_slots page) slots ∙ p.1 }

pub next_rising : (fix : Fix) (fixes : List Fix) → Rising fix fixes → AreRising fixes
next_rising fix [] r = tt
next_rising fix (next ∷ fixes) r = r.1

-- what is cut off stands where the page begins, and what is left rises and stands after the page
pub record CutOff (i : ℕ) (fixes : List Fix) : Type 0 where
  pub whole : map (in_page i) (page_slots i fixes) ++ later_slots i fixes ≡ fixes
  pub rising : AreRising (later_slots i fixes)
  pub starts : StartsAt (page_size * (i + 1)) (later_slots i fixes)

pub next_starts : (low : ℕ) (fix : Fix) (fixes : List Fix) → low ≤ fix.at → Rising fix fixes → StartsAt low fixes
next_starts low fix [] le r = tt
next_starts low fix (next ∷ fixes) le r = let lt = r.0 in omega arith

cut_off_as : (t : Bool) (i : ℕ) (fix : Fix) (fixes : List Fix) → page_size * i ≤ fix.at → Rising fix fixes → ltb fix.at (page_size * (i + 1)) ≡ t → CutOff i fixes → CutOff i (fix ∷ fixes)
cut_off_as true i fix fixes s r t c =
    let same = of_and_in i fix s in
    let whole = c.whole in
    let rising = c.rising in
    let starts = c.starts in
    record { whole = rw (t, same, whole) refl; rising = rw t rising; starts = rw t starts }
cut_off_as false i fix fixes s r t c =
    let high : page_size * (i + 1) ≤ fix.at = ltb-false _ _ t in
    record { whole = rw t refl; rising = rw t r; starts = rw t high }

pub cut_off : (i : ℕ) (fixes : List Fix) → StartsAt (page_size * i) fixes → AreRising fixes → CutOff i fixes
cut_off i [] s r = record { whole = refl; rising = tt; starts = tt }
cut_off i (fix ∷ fixes) s r = cut_off_as (ltb fix.at (page_size * (i + 1))) i fix fixes s r refl (cut_off i fixes (next_starts (page_size * i) fix fixes s r) (next_rising fix fixes r))

pub record AllAgain (at : SlotsAt) (i : ℕ) (starts : List ℕ) (fixes : List Fix) (bytes plain : List ℕ) : Type 0 where
  pub flaw : pages_flaw at i starts bytes ≡ None
  pub slots : slots_in at i starts bytes ≡ fixes
  pub without : plain_in at i starts bytes ≡ plain

pub pages_again : (at : SlotsAt) (i : ℕ) (starts : List ℕ) (fixes : List Fix) (bytes plain : List ℕ) → StartsAt (page_size * i) fixes → AreRising fixes → ArePages at i starts fixes bytes plain → AllAgain at i starts fixes bytes plain
pages_again at i [] fixes bytes plain s r p = record { flaw = refl; slots = sym p.0; without = sym p.2 }
pages_again at i (start ∷ starts) fixes bytes plain s r p =
    let page = take page_size bytes in
    let more = drop page_size bytes in
    let short : length page ≤ page_size = omega (arith, length-take page_size bytes) in
    let a = page_again at i start (page_slots i fixes) page (take page_size plain) short p.0 in
    let c = cut_off i fixes s r in
    let ih = pages_again at (i + 1) starts (later_slots i fixes) more (drop page_size plain) c.starts c.rising p.1 in
    record {
      flaw = none_then (page_flaw at i start page) (pages_flaw at (i + 1) starts more) a.flaw ih.flaw;
      slots = ap (λ (l : List Fix). map (in_page i) l ++ slots_in at (i + 1) starts more) a.slots ∙ ap (λ (l : List Fix). map (in_page i) (page_slots i fixes) ++ l) ih.slots ∙ c.whole;
      without = ap (λ (l : List ℕ). l ++ plain_in at (i + 1) starts more) a.bytes ∙ ap (λ (l : List ℕ). take page_size plain ++ l) ih.without ∙ take-append-drop page_size plain;
    }
