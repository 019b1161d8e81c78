-- Sizes that have room in four bytes.
use Rattle.std.proofs.Common.{◌≡◌, ℕ, ◌+◌, ◌*◌, ◌<◌, ◌^◌, List, ◌∷◌, length, refl, arith}
use Rattle.std.proofs.lemmas.List.{length-append}
use Rattle.pa_layout.specs.Names.{ended}
use Rattle.pa_macho.specs.declared.header.Header.{Header}
use Rattle.pa_macho.specs.declared.places.Places.{Places}
use Rattle.pa_macho.specs.Layout.{places_of, section_of, stubs_section, consts_section, got_section, fixups_command, symbols_command}
use Rattle.pa_macho.specs.Writing.{FieldsFit, HeaderFits}
use Rattle.pa_macho.proofs.Facts.{spans}
use Rattle.pa_image.specs.declared.image.Image.{Image}
use Rattle.pa_image.specs.Bytes.{sections_of, header_of}
use Rattle.pa_image.specs.Writing.{SectionsSmall, HeaderSmall, IsLegal}

pub linkedit_small : (image : Image) → SectionsSmall image → image.got < 2 ^ 32 → (places_of (sections_of image)).linkedit < 2 ^ 40
unfolding places_of
linkedit_small image s g =
    let a = s.text in
    let b = s.stubs in
    let c = s.consts in
    let d = s.cells in
    omega arith

pub ended_next : (name : List ℕ) (names : List (List ℕ)) → length (ended (name ∷ names)) ≡ length name + (1 + length (ended names))
ended_next name names = let e = length-append name (0 ∷ ended names) in omega arith

record FitSmall (h : Header) (p : Places) : Type 0 where
  pub stubs : p.stubs < 2 ^ 32
  pub consts : p.consts < 2 ^ 32
  pub got : p.got < 2 ^ 32
  pub linkedit : p.linkedit < 2 ^ 32
  pub fixups : h.fixups < 2 ^ 32
  pub strings : p.strings < 2 ^ 32
  pub strings_size : h.strings < 2 ^ 32

fit_small : (h : Header) (p : Places) → FieldsFit h p → FitSmall h p
unfolding stubs_section consts_section got_section section_of fixups_command symbols_command
fit_small h p f = record {
  stubs = f.stubs.2.2.2.2.0;
  consts = f.consts.2.2.2.2.0;
  got = f.got.2.2.2.2.0;
  linkedit = f.fixups.0;
  fixups = f.fixups.2.0;
  strings = f.symbols.2.2.0;
  strings_size = f.symbols.2.2.2.0;
}

pub fits_end : (h : Header) → HeaderFits h → (places_of h).end < 2 ^ 40
fits_end h f =
    let s = spans h in
    let k = fit_small h (places_of h) f in
    omega arith

sizes_of : (image : Image) → ((header_of image).text ≡ 4 * length image.text) × ((header_of image).stubs ≡ 4 * length image.stubs) × ((header_of image).consts ≡ length image.consts) × ((header_of image).cells ≡ length image.cells)
unfolding header_of
sizes_of image = (refl, refl, refl, refl)

pub legal_small : (image : Image) → IsLegal image → HeaderSmall image
legal_small image l =
    let h = header_of image in
    let s = spans h in
    let k = fit_small h (places_of h) l.header in
    let o = sizes_of image in
    let o0 = o.0 in
    let o1 = o.1 in
    let o2 = o.2 in
    let o3 = o.3 in
    record {
      sections = record { text = omega arith; stubs = omega arith; consts = omega arith; cells = omega arith };
      fixups = k.fixups;
      symbols = omega arith;
      strings = k.strings_size;
    }
