-- The first flaw of bytes, part by part.
use Rattle.std.specs.Prelude.{ℕ, ◌+◌, List, length, Option, Some, None}
use Rattle.pa_layout.specs.declared.checks.Flaw.{Flaw}
use Rattle.pa_layout.specs.Flaws.{flaw_at, ◌then◌}
use Rattle.pa_macho.specs.declared.header.Header.{Header}
use Rattle.pa_macho.specs.declared.places.Places.{Places}
use Rattle.pa_macho.specs.Layout.{places_of}
use Rattle.pa_macho.specs.Reading.{taken, header_flaw}
use Rattle.pa_fixups.specs.Fixups as fixups
use Rattle.pa_fixups.specs.Fixups.{fixups_flaw}
use Rattle.pa_fixups.specs.declared.tables.Fixups.{Fixups}
use Rattle.pa_slots.specs.Slots.{slots_flaw}
use Rattle.pa_symbols.specs.declared.places.SymbolsAt.{SymbolsAt}
use Rattle.pa_symbols.specs.Reading.{symbols_flaw}
use Rattle.pa_image.specs.Bytes.{part, data_at, slots_at, text_at}

-- a flaw whose place counts from a place of the file
abbrev pub moved : ℕ → Option Flaw → Option Flaw
moved low None = None
moved low (Some flaw) = Some (flaw_at flaw.rule (low + flaw.place))

abbrev pub fixups_in : Header → Places → List ℕ → Fixups
fixups_in h p bytes = fixups.taken (data_at h.role p) (part p.linkedit p.fixups_end bytes)

abbrev pub symbols_at : Places → SymbolsAt
symbols_at p = record { symbols = p.symbols; strings = p.strings }

-- after the header: the fixups, the slots, and the symbols with their strings
unfoldable pub parts_flaw : Header → Places → List ℕ → Option Flaw
parts_flaw h p bytes =
    let read = fixups_in h p bytes in
    moved p.linkedit (fixups_flaw (data_at h.role p) (part p.linkedit p.fixups_end bytes))
    then slots_flaw (slots_at h p (length read.imports)) read.starts (part p.got p.linkedit bytes)
    then symbols_flaw (text_at h) (symbols_at p) (part p.symbols p.symbols_end bytes) (part p.strings p.end bytes)

unfoldable pub first_flaw : List ℕ → Option Flaw
first_flaw bytes = header_flaw bytes then parts_flaw (taken bytes) (places_of (taken bytes)) bytes
