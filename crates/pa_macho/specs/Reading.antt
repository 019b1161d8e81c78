-- The checks of a header in their order.
use Rattle.std.specs.Prelude.{◌≡◌, ℕ, ◌+◌, ◌*◌, ◌≤◌, ◌==◌, nat_le, if◌then◌else◌, List, [], ◌∷◌, length, Option, Some, None, Result, Ok, Err}
use Rattle.pa_num.specs.declared.fault.ImageRule.{ImageRule}
use Rattle.pa_num.specs.declared.fault.ImageRule.TheVariants.{H1, H2, H3, H4}
use Rattle.pa_num.specs.declared.fault.Fault.{Fault}
use Rattle.pa_num.specs.declared.fault.Fault.TheVariants.{Refused, Memory}
use Rattle.pa_layout.specs.declared.checks.Flaw.{Flaw}
use Rattle.pa_layout.specs.Fields.{number, four}
use Rattle.pa_layout.specs.Flaws.{Check, Fields, Told, Zeros, Holds, first, flaw_at, flaw_of, AllMet, ◌then◌}
use Rattle.pa_macho.specs.declared.header.Role.{Role}
use Rattle.pa_macho.specs.declared.header.Role.TheVariants.{Main, Library}
use Rattle.pa_macho.specs.declared.header.Header.{Header}
use Rattle.pa_macho.specs.declared.places.Places.{Places}
use Rattle.pa_macho.specs.declared.commands.CommandShape.{CommandShape}
use Rattle.pa_macho.specs.declared.commands.SegmentName.{SegmentName}
use Rattle.pa_macho.specs.declared.commands.SegmentName.TheVariants as segments
use Rattle.pa_macho.specs.declared.commands.SectionName.{SectionName}
use Rattle.pa_macho.specs.declared.commands.SectionName.TheVariants as sections
use Rattle.pa_macho.specs.Loader.{mh_dylib, mach_header_64, load_command, section_size, data_size, symbol_count, strings_size}
use Rattle.pa_macho.specs.Layout as fields
use Rattle.pa_macho.specs.Layout.{places_of, front_size, commands_end, text_at, fixups_at, symbols_at, entry_at, library_at, segment_at, section_at, shapes_of, padding_low, padding_high}

-- ---- what a file tells

abbrev pub role_in : List ℕ → Role
role_in bytes = if number 4 12 bytes == mh_dylib then Library else Main

-- the size that a section's entry tells
abbrev pub told_size : Role → SectionName → List ℕ → ℕ
told_size role name bytes = number 8 (text_at role + section_at name + section_size) bytes

-- the sizes of sections stand in their entries, those of the other parts in the commands that name them
abbrev pub taken_for : Role → List ℕ → Header
taken_for role bytes =
    let fixups = text_at role + fixups_at in
    let symbols = text_at role + symbols_at in
    record {
      role = role;
      text = told_size role sections.Text bytes;
      stubs = told_size role sections.Stubs bytes;
      consts = told_size role sections.Consts bytes;
      got = told_size role sections.Got bytes;
      cells = told_size role sections.Cells bytes;
      fixups = number 4 (fixups + data_size) bytes;
      symbols = 16 * number 4 (symbols + symbol_count) bytes;
      strings = number 4 (symbols + strings_size) bytes;
    }

unfoldable pub taken : List ℕ → Header
taken bytes = taken_for (role_in bytes) bytes

-- ---- checks

unfoldable pub length_check : ℕ → Check
length_check len = Holds H1 0 (nat_le mach_header_64 len)

unfoldable pub start_checks : Role → ℕ → List Check
start_checks role len =
    Fields H1 0 (fields.start_of role)
    ∷ Fields H1 24 (fields.flags_of role)
    ∷ Fields H2 16 (fields.counts_of role len)
    ∷ []

-- each command has its size
abbrev pub size_checks : ℕ → List CommandShape → List Check
size_checks at [] = []
size_checks at (shape ∷ shapes) = Told H2 at (at + 4) (four shape.size) ∷ size_checks (at + shape.size) shapes

-- each command is the one of its place
abbrev pub number_checks : ℕ → List CommandShape → List Check
number_checks at [] = []
number_checks at (shape ∷ shapes) = Told H4 at at (four shape.number) ∷ number_checks (at + shape.size) shapes

-- the sizes of all commands come before their numbers
abbrev pub shapes_flaw : List CommandShape → List ℕ → Option Flaw
shapes_flaw shapes bytes =
    first (size_checks mach_header_64 shapes) bytes then first (number_checks mach_header_64 shapes) bytes

-- the number and the size of each command lie inside
abbrev pub HasRoom : ℕ → List CommandShape → ℕ → Type 0
HasRoom at [] len = Unit {0}
HasRoom at (shape ∷ shapes) len = (at + 8 ≤ len) × HasRoom (at + shape.size) shapes len

-- a program leaves the first 4 GiB of addresses unmapped
unfoldable pub page_zero_checks : Role → ℕ → List Check
page_zero_checks Main len = Fields H3 (mach_header_64 + load_command) (fields.page_zero_of len) ∷ []
page_zero_checks Library len = []

-- a segment's fields, or a section's, stand at their place
abbrev pub segment_check : SegmentName → Header → Places → ℕ → Check
segment_check name h p len = Fields H3 (text_at h.role + segment_at name) (fields.segment name h p len)

abbrev pub section_check : SectionName → Header → Places → Check
section_check name h p = Fields H3 (text_at h.role + section_at name) (fields.section name h p)

-- segments with their sections, and the file ends where __LINKEDIT does
unfoldable pub segment_checks : Header → Places → ℕ → List Check
segment_checks h p len =
    segment_check segments.Text h p len
    ∷ section_check sections.Text h p
    ∷ section_check sections.Stubs h p
    ∷ section_check sections.Consts h p
    ∷ segment_check segments.Data h p len
    ∷ section_check sections.Got h p
    ∷ section_check sections.Cells h p
    ∷ segment_check segments.Linkedit h p len
    ∷ Holds H3 p.end (nat_le len p.end)
    ∷ Fields H3 (text_at h.role + fixups_at + load_command) (fields.fixups_command h p)
    ∷ Fields H3 (text_at h.role + symbols_at + load_command) (fields.symbols_command h p)
    ∷ []

-- the first of these checks that fails
abbrev pub segment_flaw : SegmentName → Header → Places → List ℕ → Option Flaw
segment_flaw name h p bytes = flaw_of (segment_check name h p (length bytes)) bytes

abbrev pub section_flaw : SectionName → Header → Places → List ℕ → Option Flaw
section_flaw name h p bytes = flaw_of (section_check name h p) bytes

abbrev pub segments_flaw : Header → Places → List ℕ → Option Flaw
segments_flaw h p bytes = first (segment_checks h p (length bytes)) bytes

-- the entry point of a program, and the library's name
unfoldable pub last_checks : Role → List Check
last_checks Main =
    Fields H3 (text_at Main + entry_at + load_command) fields.entry_command
    ∷ Fields H3 (library_at Main + load_command) fields.library_command
    ∷ []
last_checks Library = Fields H3 (library_at Library + load_command) fields.library_command ∷ []

-- what stands between the parts is zero, and so is what pads the fixups before their imports
unfoldable pub gap_checks : Role → Places → List Check
gap_checks role p =
    Zeros H3 (commands_end role) front_size
    ∷ Zeros H3 p.text_end p.stubs
    ∷ Zeros H3 p.stubs_end p.consts
    ∷ Zeros H3 p.consts_end p.got
    ∷ Zeros H3 p.got_end p.cells
    ∷ Zeros H3 p.cells_end p.linkedit
    ∷ Zeros H3 (padding_low p) (padding_high p)
    ∷ Zeros H3 p.fixups_end p.symbols
    ∷ Zeros H3 p.symbols_end p.strings
    ∷ []

-- the first check that fails, of a file that tells these sizes
unfoldable pub flaw_with : Header → Places → List ℕ → Option Flaw
flaw_with h p bytes =
    flaw_of (length_check (length bytes)) bytes
    then first (start_checks h.role (length bytes)) bytes
    then first (size_checks mach_header_64 (shapes_of h.role)) bytes
    then first (number_checks mach_header_64 (shapes_of h.role)) bytes
    then first (page_zero_checks h.role (length bytes)) bytes
    then first (segment_checks h p (length bytes)) bytes
    then first (last_checks h.role) bytes
    then first (gap_checks h.role p) bytes

unfoldable pub header_flaw : List ℕ → Option Flaw
header_flaw bytes = flaw_with (taken bytes) (places_of (taken bytes)) bytes

-- ---- what a header is

-- the fields of the header stand at their places, and so do the zeros between the parts
pub record IsHeader (h : Header) (bytes : List ℕ) : Type 0 where
  pub start : AllMet bytes (start_checks h.role (length bytes))
  pub sizes : AllMet bytes (size_checks mach_header_64 (shapes_of h.role))
  pub numbers : AllMet bytes (number_checks mach_header_64 (shapes_of h.role))
  pub page_zero : AllMet bytes (page_zero_checks h.role (length bytes))
  pub segments : AllMet bytes (segment_checks h (places_of h) (length bytes))
  pub last : AllMet bytes (last_checks h.role)
  pub gaps : AllMet bytes (gap_checks h.role (places_of h))

-- an answer of a call that takes no memory is Ok exactly where there is no flaw, and otherwise tells the flaw
abbrev pub Refuses : {A : Type 0} → Result A (Fault ImageRule) → Option Flaw → Type 0
Refuses (Ok value) flaw = flaw ≡ None
Refuses (Err (Refused rule place)) flaw = flaw ≡ Some (flaw_at rule place)
Refuses (Err Memory) flaw = ⊥
