-- The pages of __DATA, each with the chain of its slots (mach-o/fixup-chains.h: dyld_chained_starts_in_segment).
use Rattle.std.specs.Prelude.{◌≡◌, ℕ, zero, suc, ◌+◌, ◌-◌, ◌*◌, ◌/◌, ◌<◌, ◌++◌, Bool, true, ◌==◌, nat_lt, if◌then◌else◌, List, [], ◌∷◌, length, take, drop, map, Option, Some, None}
use Rattle.pa_num.specs.declared.fault.ImageRule.TheVariants.{H3}
use Rattle.pa_layout.specs.declared.checks.Flaw.{Flaw}
use Rattle.pa_layout.specs.Flaws.{flaw_at, ◌then◌}
use Rattle.pa_fixups.specs.declared.kind.Fix.{Fix}
use Rattle.pa_fixups.specs.declared.bounds.Bounds.{Bounds}
use Rattle.pa_fixups.specs.Chain.{up16, fix_at, chain_places, chain_flaw, no_place, Rising, IsChain, without_slots}
use Rattle.pa_slots.specs.declared.slots.SlotsAt.{SlotsAt}

abbrev pub page_size : ℕ
page_size = 0x4000

-- the start that tells that a page has no slot
abbrev pub no_slot : ℕ
no_slot = 0xFFFF

abbrev pub bounds_of : SlotsAt → ℕ → Bounds
bounds_of at i = record {
  page = page_size * i;
  got = at.got;
  cells = at.cells;
  imports = at.imports;
  base = at.base;
  size = at.size;
}

-- where __data begins in __DATA
abbrev pub cells_from : SlotsAt → ℕ
cells_from at = up16 at.got

-- ---- slots by pages

-- a slot whose place in page i is given
abbrev pub in_page : ℕ → Fix → Fix
in_page i fix = record { at = page_size * i + fix.at; kind = fix.kind }

-- the slots before a place, and those from it on, of slots that stand one after the other
abbrev pub before : ℕ → List Fix → List Fix
before limit [] = []
before limit (fix ∷ fixes) = if nat_lt fix.at limit then fix ∷ before limit fixes else []

abbrev pub from : ℕ → List Fix → List Fix
from limit [] = []
from limit (fix ∷ fixes) = if nat_lt fix.at limit then from limit fixes else fix ∷ fixes

-- a slot by its place in page i
abbrev pub of_page : ℕ → Fix → Fix
of_page i fix = record { at = fix.at - page_size * i; kind = fix.kind }

abbrev pub page_slots : ℕ → List Fix → List Fix
page_slots i fixes = map (of_page i) (before (page_size * (i + 1)) fixes)

abbrev pub later_slots : ℕ → List Fix → List Fix
later_slots i fixes = from (page_size * (i + 1)) fixes

-- each slot stands before a place
abbrev pub Below : ℕ → List Fix → Type 0
Below limit [] = Unit {0}
Below limit (fix ∷ fixes) = (fix.at < limit) × Below limit fixes

-- the slots stand one after the other
abbrev pub AreRising : List Fix → Type 0
AreRising [] = Unit {0}
AreRising (fix ∷ fixes) = Rising fix fixes

-- ---- what a page is

-- a page without a slot is its bytes; one with slots is their chain, and with zeros for each slot it is its bytes
abbrev pub IsPage : Bounds → (start : ℕ) → List Fix → (page plain : List ℕ) → Type 0
IsPage bounds start [] page plain = (start ≡ no_slot) × (page ≡ plain)
IsPage bounds start (fix ∷ fixes) page plain =
    IsChain bounds page start (fix ∷ fixes) × (without_slots page (fix ∷ fixes) ≡ plain)

-- the pages from page i on, each with its start, with these slots and these bytes beside them
abbrev pub ArePages : SlotsAt → (i : ℕ) → (starts : List ℕ) → List Fix → (bytes plain : List ℕ) → Type 0
ArePages at i [] fixes bytes plain = (fixes ≡ []) × (bytes ≡ []) × (plain ≡ [])
ArePages at i (start ∷ starts) fixes bytes plain =
    IsPage (bounds_of at i) start (page_slots i fixes) (take page_size bytes) (take page_size plain)
    × ArePages at (i + 1) starts (later_slots i fixes) (drop page_size bytes) (drop page_size plain)

-- ---- reading

-- a flaw in page i, told by its place in the file; where the page's first slot may not stand where it should, its start tells
-- it
abbrev pub told_place : SlotsAt → ℕ → ℕ → ℕ
told_place at i place = if place == no_place then at.starts + 2 * i else at.place + (page_size * i + place)

abbrev pub told : SlotsAt → ℕ → Option Flaw → Option Flaw
told at i None = None
told at i (Some flaw) = Some (flaw_at flaw.rule (told_place at i flaw.place))

unfoldable pub page_flaw : SlotsAt → (i start : ℕ) → List ℕ → Option Flaw
page_flaw at i start page = if start == no_slot then None else told at i (chain_flaw (bounds_of at i) page start)

-- page by page
abbrev pub pages_flaw : SlotsAt → ℕ → List ℕ → List ℕ → Option Flaw
pages_flaw at i [] bytes = None
pages_flaw at i (start ∷ starts) bytes =
    page_flaw at i start (take page_size bytes) then pages_flaw at (i + 1) starts (drop page_size bytes)

-- the slots that the links of a page lead to
unfoldable pub chain_in : SlotsAt → (i start : ℕ) → List ℕ → List Fix
chain_in at i start page =
    if start == no_slot then [] else map (λ place. fix_at page place) (chain_places (bounds_of at i) page start)

abbrev pub slots_in : SlotsAt → ℕ → List ℕ → List ℕ → List Fix
slots_in at i [] bytes = []
slots_in at i (start ∷ starts) bytes =
    map (in_page i) (chain_in at i start (take page_size bytes)) ++ slots_in at (i + 1) starts (drop page_size bytes)

-- the bytes with zeros for each slot
abbrev pub plain_in : SlotsAt → ℕ → List ℕ → List ℕ → List ℕ
plain_in at i [] bytes = []
plain_in at i (start ∷ starts) bytes =
    without_slots (take page_size bytes) (chain_in at i start (take page_size bytes))
    ++ plain_in at (i + 1) starts (drop page_size bytes)
