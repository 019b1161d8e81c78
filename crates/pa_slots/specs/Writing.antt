-- Which slots and bytes __DATA can hold, and the pages that hold them.
use Rattle.std.specs.Prelude.{◌≡◌, ℕ, zero, suc, ◌+◌, ◌-◌, ◌*◌, ◌/◌, ◌≤◌, ◌<◌, ◌++◌, Bool, true, ◌||◌, ◌==◌, nat_lt, List, [], ◌∷◌, length, take, drop}
use Rattle.pa_layout.specs.Fields.{number}
use Rattle.pa_fixups.specs.declared.kind.Fix.{Fix}
use Rattle.pa_fixups.specs.Chain.{FixFits, AreWritable, with_slots}
use Rattle.pa_slots.specs.declared.slots.Slots.{Slots}
use Rattle.pa_slots.specs.declared.slots.SlotsAt.{SlotsAt}
use Rattle.pa_slots.specs.Pages.{page_size, no_slot, bounds_of, cells_from, of_page, page_slots, later_slots, AreRising}

-- the page where a slot stands
abbrev pub page_of : Fix → ℕ
page_of fix = fix.at / page_size

-- where it stands in __data the bytes are zero
abbrev pub is_clear : SlotsAt → List ℕ → Fix → Bool
is_clear at cells fix = nat_lt fix.at (cells_from at) || (number 8 (fix.at - cells_from at) cells == 0)

-- it may stand there, and hides no byte of __data
pub record SlotFits (at : SlotsAt) (cells : List ℕ) (fix : Fix) : Type 0 where
  pub fits : FixFits (bounds_of at (page_of fix)) page_size (of_page (page_of fix) fix)
  pub clear : is_clear at cells fix ≡ true

abbrev pub EachFits : SlotsAt → List ℕ → List Fix → Type 0
EachFits at cells [] = Unit {0}
EachFits at cells (fix ∷ fixes) = SlotFits at cells fix × EachFits at cells fixes

-- __data has its size, and the slots stand one after the other where they may
pub record SlotsFit (at : SlotsAt) (slots : Slots) : Type 0 where
  pub cells : length slots.cells ≡ at.cells
  pub rising : AreRising slots.fixes
  pub each : EachFits at slots.cells slots.fixes

-- ---- pages

abbrev pub start_of : List Fix → ℕ
start_of [] = no_slot
start_of (fix ∷ fixes) = fix.at

-- the starts of n pages from page i on
abbrev pub starts_of : (i n : ℕ) → List Fix → List ℕ
starts_of i zero fixes = []
starts_of i (suc n) fixes = start_of (page_slots i fixes) ∷ starts_of (i + 1) n (later_slots i fixes)

-- their bytes, where these stand beside the slots
abbrev pub pages_of : (i n : ℕ) → List Fix → List ℕ → List ℕ
pages_of i zero fixes plain = []
pages_of i (suc n) fixes plain =
    with_slots (take page_size plain) (page_slots i fixes)
    ++ pages_of (i + 1) n (later_slots i fixes) (drop page_size plain)

-- the slots of each of n pages from page i on can be written into it
abbrev pub PagesWritable : (i n : ℕ) → List Fix → Type 0
PagesWritable i zero fixes = Unit {0}
PagesWritable i (suc n) fixes = AreWritable page_size (page_slots i fixes) × PagesWritable (i + 1) n (later_slots i fixes)
