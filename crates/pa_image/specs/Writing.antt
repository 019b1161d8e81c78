-- Which images have bytes, and which bytes these are.
use Rattle.std.specs.Prelude.{ℕ, ◌-◌, ◌*◌, ◌<◌, ◌^◌, List, [], ◌∷◌, ◌++◌, length, map, replicate, slice_index}
use Rattle.std.specs.List.{concat}
use Rattle.pa_layout.specs.Fields.{four, AllFit}
use Rattle.pa_macho.specs.declared.header.Header.{Header}
use Rattle.pa_macho.specs.declared.places.Places.{Places}
use Rattle.pa_macho.specs.Layout.{page_count, places_of}
use Rattle.pa_macho.specs.Writing.{HeaderFits, front_of}
use Rattle.pa_fixups.specs.Fixups.{ImportsFit, fixups_bytes, fixups_with}
use Rattle.pa_slots.specs.Slots.{plain_of, slots_with}
use Rattle.pa_slots.specs.Writing.{SlotsFit, starts_of, pages_of}
use Rattle.pa_symbols.specs.Symbols.{AreLegal, names_of, symbols_of, strings_of}
use Rattle.pa_image.specs.declared.image.Image.{Image}
use Rattle.pa_image.specs.Bytes.{data_at, header_of, slots_at, text_at, words_bytes, IsImage}

abbrev pub AreBytes : List ℕ → Type 0
AreBytes bytes = (i : ℕ) → slice_index bytes i < 256

-- some bytes stand for the image
abbrev pub HasBytes : Image → Type 0
HasBytes image = (bytes : List ℕ) × (AreBytes bytes × IsImage image bytes)

-- the code is of words, and what stands beside the slots is of bytes
pub record AreWords (image : Image) : Type 0 where
  pub text : AllFit (map four image.text)
  pub stubs : AllFit (map four image.stubs)
  pub cells : AreBytes image.cells

abbrev pub AllBytes : List (List ℕ) → Type 0
AllBytes [] = Unit {0}
AllBytes (part ∷ parts) = AreBytes part × AllBytes parts

-- what else in an image is of bytes
pub record BesideBytes (image : Image) : Type 0 where
  pub consts : AreBytes image.consts
  pub marks : AllBytes (names_of image.marks)
  pub imports : AllBytes image.imports

-- each part fits, where the image's header and places are these
pub record PartsFit (image : Image) (h : Header) (p : Places) : Type 0 where
  pub imports : ImportsFit (data_at h.role p) image.imports
  pub slots : SlotsFit (slots_at h p (length image.imports)) (slots_with image.cells image.fixes)
  pub marks : AreLegal (text_at h) image.marks

-- what an image needs to have bytes, part by part
pub record IsLegal (image : Image) : Type 0 where
  pub words : AreWords image
  pub beside : BesideBytes image
  pub header : HeaderFits (header_of image)
  pub parts : PartsFit image (header_of image) (places_of (header_of image))

-- each size has room in four bytes
pub record SectionsSmall (image : Image) : Type 0 where
  pub text : 4 * length image.text < 2 ^ 32
  pub stubs : 4 * length image.stubs < 2 ^ 32
  pub consts : length image.consts < 2 ^ 32
  pub cells : length image.cells < 2 ^ 32

pub record HeaderSmall (image : Image) : Type 0 where
  pub sections : SectionsSmall image
  pub fixups : (header_of image).fixups < 2 ^ 32
  pub symbols : (header_of image).symbols < 2 ^ 32
  pub strings : (header_of image).strings < 2 ^ 32

-- ---- the bytes

abbrev pub gap : ℕ → ℕ → List ℕ
gap low high = replicate (high - low) 0

abbrev pub text_parts : Image → Places → List (List ℕ)
text_parts image p =
    words_bytes image.text ∷ gap p.text_end p.stubs ∷ words_bytes image.stubs ∷ gap p.stubs_end p.consts ∷ image.consts
    ∷ gap p.consts_end p.got ∷ []

abbrev pub linkedit_parts : Image → Header → Places → List ℕ → List (List ℕ)
linkedit_parts image h p starts =
    fixups_bytes (data_at h.role p) (fixups_with starts image.imports) ∷ gap p.fixups_end p.symbols
    ∷ symbols_of (text_at h) image.marks ∷ gap p.symbols_end p.strings ∷ strings_of image.marks ∷ []

-- where the chains of the pages of __DATA begin
abbrev pub starts_with : Image → Places → List ℕ
starts_with image p = starts_of 0 (page_count p) image.fixes

-- the pages of __DATA, with the slots in them
abbrev pub pages_with : Image → Header → Places → List ℕ
pages_with image h p =
    pages_of 0 (page_count p) image.fixes (plain_of (slots_at h p (length image.imports)) (page_count p) image.cells)

-- the header with its load commands, the sections of __TEXT, the pages of __DATA, and __LINKEDIT
abbrev pub bytes_with : Image → Header → Places → (pages starts : List ℕ) → List ℕ
bytes_with image h p pages starts =
    front_of h ++ (concat (text_parts image p) ++ (pages ++ concat (linkedit_parts image h p starts)))

-- the one spelling of an image
unfoldable pub bytes_of : Image → List ℕ
bytes_of image =
    let h = header_of image in
    let p = places_of h in
    bytes_with image h p (pages_with image h p) (starts_with image p)
