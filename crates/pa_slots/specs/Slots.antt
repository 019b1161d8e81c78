-- What __DATA holds, and the first flaw of its bytes.
use Rattle.std.specs.Prelude.{◌≡◌, ℕ, ◌+◌, ◌-◌, ◌*◌, ◌≤◌, ◌++◌, List, [], length, take, drop, replicate, Option, Some, None}
use Rattle.pa_num.specs.declared.fault.ImageRule.TheVariants.{H3}
use Rattle.pa_layout.specs.declared.checks.Flaw.{Flaw}
use Rattle.pa_layout.specs.Fields.{nonzero_in}
use Rattle.pa_layout.specs.Flaws.{flaw_at, ◌then◌}
use Rattle.pa_fixups.specs.declared.kind.Fix.{Fix}
use Rattle.pa_slots.specs.declared.slots.Slots.{Slots}
use Rattle.pa_slots.specs.declared.slots.SlotsAt.{SlotsAt}
use Rattle.pa_slots.specs.Pages.{page_size, cells_from, AreRising, ArePages, pages_flaw, slots_in, plain_in}

-- __auth_got and what is after it up to __data, __data, and what is after it up to the segment's end: beside the slots all
-- but __data is zero
unfoldable pub plain_of : SlotsAt → (count : ℕ) → List ℕ → List ℕ
plain_of at count cells =
    replicate (cells_from at) 0 ++ (cells ++ replicate (page_size * count - (cells_from at + at.cells)) 0)

abbrev pub slots_with : List ℕ → List Fix → Slots
slots_with cells fixes = record { cells = cells; fixes = fixes }

-- the bytes of __DATA with the starts of its pages hold just this
pub record AreSlots (at : SlotsAt) (starts : List ℕ) (slots : Slots) (bytes : List ℕ) : Type 0 where
  pub cells : length slots.cells ≡ at.cells
  pub rising : AreRising slots.fixes
  pub pages : ArePages at 0 starts slots.fixes bytes (plain_of at (length starts) slots.cells)

-- the first byte beside slots and __data that isn't zero, told by its place in the file
abbrev pub beside_at : SlotsAt → Option ℕ → Option Flaw
beside_at at None = None
beside_at at (Some place) = Some (flaw_at H3 (at.place + place))

abbrev pub beside : SlotsAt → (low high : ℕ) → List ℕ → Option Flaw
beside at low high plain = beside_at at (nonzero_in low (high - low) plain)

unfoldable pub slots_flaw : SlotsAt → List ℕ → List ℕ → Option Flaw
slots_flaw at starts bytes =
    let plain = plain_in at 0 starts bytes in
    pages_flaw at 0 starts bytes
    then beside at 0 (cells_from at) plain
    then beside at (cells_from at + at.cells) (page_size * length starts) plain

unfoldable pub taken : SlotsAt → List ℕ → List ℕ → Slots
taken at starts bytes =
    record { cells = take at.cells (drop (cells_from at) (plain_in at 0 starts bytes)); fixes = slots_in at 0 starts bytes }
