-- The bytes of an image: each part at its place.
use Rattle.std.specs.Prelude.{◌≡◌, ℕ, ◌+◌, ◌-◌, ◌*◌, ◌/◌, List, length, take, drop, map}
use Rattle.pa_layout.specs.Fields.{four, spelled, AllFit, IsAt}
use Rattle.pa_layout.specs.Names.{ended}
use Rattle.pa_macho.specs.declared.header.Role.{Role}
use Rattle.pa_macho.specs.declared.header.Role.TheVariants.{Main, Library}
use Rattle.pa_macho.specs.declared.header.Header.{Header}
use Rattle.pa_macho.specs.declared.places.Places.{Places}
use Rattle.pa_macho.specs.Layout.{base_of, page_count, places_of}
use Rattle.pa_macho.specs.Reading.{IsHeader}
use Rattle.pa_fixups.specs.declared.tables.DataAt.{DataAt}
use Rattle.pa_fixups.specs.Fixups.{names_at, fixups_with, IsPart}
use Rattle.pa_slots.specs.declared.slots.SlotsAt.{SlotsAt}
use Rattle.pa_slots.specs.Slots.{slots_with, AreSlots}
use Rattle.pa_symbols.specs.declared.places.TextAt.{TextAt}
use Rattle.pa_symbols.specs.Symbols.{names_of, AreMarks}
use Rattle.pa_image.specs.declared.image.Image.{Image}

-- ---- sizes and places

abbrev pub segment_count : Role → ℕ
segment_count Main = 4
segment_count Library = 3

-- where __DATA lies
abbrev pub data_at : Role → Places → DataAt
data_at role p = record { segments = segment_count role; offset = p.got; pages = page_count p }

-- the sections alone say where __DATA lies, so they are enough for the size of the fixups
abbrev pub sections_of : Image → Header
sections_of image = record {
  role = image.role;
  text = 4 * length image.text;
  stubs = 4 * length image.stubs;
  consts = length image.consts;
  got = image.got;
  cells = length image.cells;
  fixups = 0;
  symbols = 0;
  strings = 0;
}

abbrev pub fixups_size : DataAt → List (List ℕ) → ℕ
fixups_size at imports = names_at at (length imports) + 1 + length (ended imports)

unfoldable pub header_of : Image → Header
header_of image = record {
  role = image.role;
  text = 4 * length image.text;
  stubs = 4 * length image.stubs;
  consts = length image.consts;
  got = image.got;
  cells = length image.cells;
  fixups = fixups_size (data_at image.role (places_of (sections_of image))) image.imports;
  symbols = 16 * length image.marks;
  strings = 1 + length (ended (names_of image.marks));
}

-- what slots are checked against, in an image with n imports
abbrev pub slots_at : Header → Places → ℕ → SlotsAt
slots_at h p imports = record {
  place = p.got;
  starts = p.linkedit + 78;
  got = h.got;
  cells = h.cells;
  imports = imports;
  base = base_of h.role;
  size = p.end;
}

-- the code that symbols name
abbrev pub text_at : Header → TextAt
text_at h = record { address = base_of h.role + 0x400; words = h.text / 4 }

-- ---- the bytes

abbrev pub part : (low high : ℕ) → List ℕ → List ℕ
part low high bytes = take (high - low) (drop low bytes)

-- words, each in four bytes
abbrev pub words_bytes : List ℕ → List ℕ
words_bytes words = spelled (map four words)

-- after a header with these places the bytes stand for the image
pub record Stands (image : Image) (h : Header) (p : Places) (bytes : List ℕ) : Type 0 where
  pub role : image.role ≡ h.role
  pub text_size : 4 * length image.text ≡ h.text
  pub stubs_size : 4 * length image.stubs ≡ h.stubs
  pub consts_size : length image.consts ≡ h.consts
  pub got_size : image.got ≡ h.got
  pub text : IsAt bytes 0x400 (words_bytes image.text) × AllFit (map four image.text)
  pub stubs : IsAt bytes p.stubs (words_bytes image.stubs) × AllFit (map four image.stubs)
  pub consts : IsAt bytes p.consts image.consts
  -- where the pages of __DATA begin their chains
  pub starts : List ℕ
  pub fixups : IsPart (data_at h.role p) (fixups_with starts image.imports) (part p.linkedit p.fixups_end bytes)
  pub slots : AreSlots (slots_at h p (length image.imports)) starts (slots_with image.cells image.fixes) (part p.got p.linkedit bytes)
  pub marks : AreMarks (text_at h) image.marks (part p.symbols p.symbols_end bytes) (part p.strings p.end bytes)

-- each field of the header stands at its place with its value, each part after it stands at its place, and all else is zero
pub record IsImage (image : Image) (bytes : List ℕ) : Type 0 where
  pub header : IsHeader (header_of image) bytes
  pub parts : Stands image (header_of image) (places_of (header_of image)) bytes
