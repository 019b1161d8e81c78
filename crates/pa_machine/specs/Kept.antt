-- What is kept of the instructions that were met.
use Rattle.std.specs.Prelude.{◌≡◌, ◌<◌, ◌≤◌, ℕ, ◌+◌, ◌*◌, List, length, map, Some, true, false, slice_get}
use Rattle.pa_a64.specs.declared.instr.Instr.{Instr}
use Rattle.pa_mem.specs.declared.mapping.Extent.{Extent}
use Rattle.pa_mem.specs.Extents.{extent_of}
use Rattle.pa_mem.specs.Memory.{Region, all_apart}
use Rattle.pa_processor.specs.Processor.{instruction_at}
use Rattle.pa_machine.specs.declared.kept.Table.{Table}
use Rattle.pa_machine.specs.declared.kept.Kept.{Kept}

-- each instruction in the table is the one that stands at its place
abbrev pub IsRight : List Region → Table → Type 0
IsRight memory table =
    (k : ℕ) (instr : Instr) → slice_get table.entries.items k ≡ Some (Some instr) → instruction_at memory (table.base + 4 * k) ≡ Some instr

-- the table is of a region that may be run and may not be written, and has no entry for what lies behind it
pub record IsOf (memory : List Region) (table : Table) : Type 0 where
  pub number : ℕ
  pub extent : Extent
  pub stands : slice_get (map extent_of memory) number ≡ Some extent
  pub base : table.base ≡ extent.base
  pub room : 4 * length table.entries.items ≤ extent.len
  pub runs : extent.rights.run ≡ true
  pub sealed : extent.rights.write ≡ false

abbrev pub AllRight : List Region → List Table → Type 0
AllRight memory tables = (t : ℕ) (table : Table) → slice_get tables t ≡ Some table → IsRight memory table

abbrev pub AllOf : List Region → List Table → Type 0
AllOf memory tables = (t : ℕ) (table : Table) → slice_get tables t ≡ Some table → IsOf memory table

-- each instruction that is kept is the one that stands at its place
abbrev pub AreRight : List Region → Kept → Type 0
AreRight memory kept = AllRight memory kept.tables.items

-- each table is of a region that may be run and may not be written
abbrev pub AreOf : List Region → Kept → Type 0
AreOf memory kept = AllOf memory kept.tables.items

-- the entry k of a table is for this address
pub record IsEntry (at k : ℕ) (table : Table) : Type 0 where
  pub within : k < length table.entries.items
  pub address : table.base + 4 * k ≡ at

-- what is kept is right in a memory, and stays right whatever may be written there
pub record IsKept (kept : Kept) (memory : List Region) : Type 0 where
  pub right : AreRight memory kept
  pub own : AreOf memory kept
  pub apart : all_apart memory ≡ true
