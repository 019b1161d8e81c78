-- The image of a program of the first form is legal and small: its header, its places, and each part.
use Rattle.std.proofs.Common.{◌≡◌, ◌≢◌, ℕ, zero, suc, ◌+◌, ◌*◌, ◌/◌, ◌%◌, ◌^◌, ◌<◌, ◌≤◌, List, [], ◌∷◌, length, map, refl, sym, ap, subst, ◌∙◌, arith, codes, length-append}
use Rattle.std.proofs.lemmas.Bool.{eq-eqb, lt-ltb}
use Rattle.std.proofs.lemmas.List.{length-map}
use Rattle.std.proofs.lemmas.List.Elements.{All-from_recursion}
use Rattle.std.proofs.lemmas.Map.Keys.{IsDistinct-push}
use Rattle.std.specs.Str.{bytes_eq}
use Rattle.std.proofs.lemmas.Cmp.{nat_list_eq_equiv}
use Rattle.pa_a64.specs.Decoding.{encoded}
use Rattle.pa_layout.specs.Fields.{AllFit}
use Rattle.pa_macho.specs.declared.header.Role.TheVariants.{Main}
use Rattle.pa_macho.specs.declared.header.Header.{Header}
use Rattle.pa_macho.specs.declared.places.Places.{Places}
use Rattle.pa_macho.specs.Layout.{front_size, page_size, places_of, up}
use Rattle.pa_macho.specs.Layout as fields
use Rattle.pa_macho.specs.Writing.{FieldsFit}
use Rattle.pa_macho.proofs.Fits.{room_fits, fields_fit}
use Rattle.pa_fixups.specs.Fixups as fixups
use Rattle.pa_fixups.specs.Fixups.{ImportsFit}
use Rattle.pa_fixups.specs.Chain.{may_stand, ordinal_fits, target_fits}
use Rattle.pa_object.specs.Linkable.{Ascends}
use Rattle.pa_slots.specs.Slots.{slots_with}
use Rattle.pa_slots.specs.Writing.{SlotsFit}
use Rattle.pa_symbols.specs.Symbols.{AreLegal, entries}
use Rattle.pa_symbols.proofs.Distinct.{no_names}
use Rattle.pa_image.specs.declared.image.Image.{Image}
use Rattle.pa_fixups.specs.declared.tables.DataAt.{DataAt}
use Rattle.pa_image.specs.Bytes.{header_of, sections_of, fixups_size, data_at, slots_at, text_at}
use Rattle.pa_image.proofs.Header.{sections_same, data_same}
use Rattle.pa_image.proofs.Beside.{tested}
use Rattle.pa_image.specs.Small.{IsSmall}
use Rattle.pa_image.specs.Writing.{AreWords, BesideBytes, PartsFit, IsLegal}
use Rattle.pa_straight.specs.declared.source.Straight.{Straight}
use Rattle.pa_straight.specs.Source.{IsSource}
use Rattle.pa_straight_image.specs.Code.{text, calls, epilogue, gap_behind, stub, stub_place, pages_between}
use Rattle.pa_straight_image.specs.Image.{image_of, imports_of, once, putchar_slot, main_mark}
use Rattle.pa_straight_image.proofs.Fits.{words_fit, text-InRange, stub-InRange}
use Rattle.pa_straight_image.proofs.Whole.{length-calls}

pub length-text : (s : Straight) → length (text s) ≡ 3 * length s.prints + 11
length-text s =
    let gap = gap_behind (length s.prints) in
    let one = length-append (calls gap s.prints) (epilogue s.returns) in
    let two = length-calls gap s.prints in
    omega arith

-- ---- the header and the places

abbrev made : (text stubs got fixups : ℕ) → Header
made text stubs got fixups = record { role = Main; text = text; stubs = stubs; consts = 0; got = got; cells = 0; fixups = fixups; symbols = 16; strings = 7 }

-- with one stub at a place
abbrev pub with_stub : (text_end stubs : ℕ) → Places
with_stub text_end stubs = record {
  text_end = text_end;
  stubs = stubs;
  stubs_end = stubs + 16;
  consts = stubs + 16;
  consts_end = stubs + 16;
  got = page_size;
  got_end = 0x4008;
  cells = 0x4010;
  cells_end = 0x4010;
  linkedit = 0x8000;
  fixups_end = 0x805e;
  symbols = 0x8060;
  symbols_end = 0x8070;
  strings = 0x8070;
  end = 0x8077;
}

-- of a program that prints n times
abbrev pub header_with : ℕ → Header
header_with zero = made 44 0 0 81
header_with (suc n) = made (12 * suc n + 44) 16 8 94

abbrev pub places_with : ℕ → Places
places_with zero = record {
  text_end = 0x42c;
  stubs = 0x430;
  stubs_end = 0x430;
  consts = 0x430;
  consts_end = 0x430;
  got = 0x4000;
  got_end = 0x4000;
  cells = 0x4000;
  cells_end = 0x4000;
  linkedit = 0x8000;
  fixups_end = 0x8051;
  symbols = 0x8058;
  symbols_end = 0x8068;
  strings = 0x8068;
  end = 0x806f;
}
places_with (suc n) = with_stub (front_size + (12 * suc n + 44)) (stub_place (suc n))

-- where a stub ends and nothing is constant
places_stub : (h : Header) (stubs : ℕ) → h.stubs ≡ 16 → h.consts ≡ 0 → h.got ≡ 8 → h.cells ≡ 0 → h.fixups ≡ 94 → h.symbols ≡ 16 → h.strings ≡ 7
    → up 16 (front_size + h.text) ≡ stubs → stubs % 16 ≡ 0 → front_size ≤ stubs → stubs + 16 ≤ page_size
    → places_of h ≡ with_stub (front_size + h.text) stubs
unfolding places_of
places_stub h stubs one two three four five six seven begins whole low high =
    let next : up 16 (stubs + 16) ≡ stubs + 16 = omega arith in
    let none : stubs + 16 + 0 ≡ stubs + 16 = omega arith in
    let page : up page_size (stubs + 16) ≡ page_size = omega arith in
    rw (one, two, three, four, five, six, seven, begins, next, none, page)

pub places : (n : ℕ) → n ≤ 1000 → places_of (header_with n) ≡ places_with n
unfolding places_of
places zero few = refl
places (suc n) few = places_stub (header_with (suc n)) (stub_place (suc n)) refl refl refl refl refl refl refl (omega arith) (omega arith) (omega arith) (omega arith)

header_is : (text text' stubs stubs' got got' fixups fixups' : ℕ) → text ≡ text' → stubs ≡ stubs' → got ≡ got' → fixups ≡ fixups'
    → made text stubs got fixups ≡ made text' stubs' got' fixups'
header_is text text' stubs stubs' got got' fixups fixups' a b c d = cc

-- the fixups of an image whose sections are these
fixups_of : (image : Image) (n : ℕ) → n ≤ 1000 → image.role ≡ Main → 4 * length image.text ≡ (header_with n).text → 4 * length image.stubs ≡ (header_with n).stubs
    → length image.consts ≡ (header_with n).consts → image.got ≡ (header_with n).got → length image.cells ≡ (header_with n).cells
    → fixups_size (data_at image.role (places_of (sections_of image))) image.imports ≡ fixups_size (data_at Main (places_with n)) image.imports
fixups_of image n few role text stubs consts got cells =
    let same = sections_same (sections_of image) (header_with n) text stubs consts got cells in
    let is = places n few in
    ap (λ (d : DataAt). fixups_size d image.imports)
    (data_same image.role Main (places_of (sections_of image)) (places_with n) role (same.0 ∙ ap (λ (p : Places). p.got) is) (same.1 ∙ ap (λ (p : Places). p.linkedit) is))

text_size : (s : Straight) → 4 * length (map encoded (text s)) ≡ 12 * length s.prints + 44
text_size s =
    let one = length-map (text s) encoded in
    let two = length-text s in
    omega arith

-- the program of these numbers
abbrev program : List ℕ → ℕ → Straight
program prints returns = record { prints = prints; returns = returns }

header : (prints : List ℕ) (returns : ℕ) → length prints ≤ 1000 → header_of (image_of (program prints returns)) ≡ header_with (length prints)
unfolding header_of image_of
header [] returns few =
    let image = image_of (program [] returns) in
    header_is _ 44 0 0 0 0 _ 81 (text_size (program [] returns)) refl refl (fixups_of image 0 few refl (text_size (program [] returns)) refl refl refl refl)
header (n ∷ ns) returns few =
    let s = program (n ∷ ns) returns in
    header_is _ _ 16 16 8 8 _ 94 (text_size s) refl refl (fixups_of (image_of s) (suc (length ns)) few refl (text_size s) refl refl refl refl)

-- ---- the header's fields have room

in_page : (n : ℕ) → n ≤ 1000 → stub_place n + 16 ≤ 0x4000
in_page n few = omega arith

text_fits : (h : Header) → h.role ≡ Main → h.text < 2 ^ 16 → h.text % 4 ≡ 0 → AllFit (fields.text_section h)
unfolding fields.text_section fields.section_of
text_fits h role small whole = room_fits (fields.text_section h) (rw (role, eq-eqb (h.text % 4) 0 whole, lt-ltb h.text (256 ^ 8) (omega arith)))

stubs_fits : (h : Header) (p : Places) → h.role ≡ Main → h.stubs ≡ 16 → p.stubs < 2 ^ 16 → AllFit (fields.stubs_section h p)
unfolding fields.stubs_section fields.section_of
stubs_fits h p role size small =
    room_fits (fields.stubs_section h p) (rw (role, size, lt-ltb (0x100000000 + p.stubs) (256 ^ 8) (omega arith), lt-ltb p.stubs (256 ^ 4) (omega arith)))

consts_fits : (h : Header) (p : Places) → h.role ≡ Main → h.consts ≡ 0 → p.consts < 2 ^ 16 → AllFit (fields.consts_section h p)
unfolding fields.consts_section fields.section_of
consts_fits h p role size small =
    room_fits (fields.consts_section h p) (rw (role, size, lt-ltb (0x100000000 + p.consts) (256 ^ 8) (omega arith), lt-ltb p.consts (256 ^ 4) (omega arith)))

fits_with : (n : ℕ) → n ≤ 1000 → FieldsFit (header_with n) (places_with n)
unfolding fields.text_segment fields.text_section fields.stubs_section fields.consts_section fields.data_segment fields.got_section fields.cells_section fields.linkedit_segment fields.fixups_command fields.symbols_command fields.segment_of fields.section_of
fits_with zero few = fields_fit (header_with zero) (places_with zero) refl
fits_with (suc n) few =
    let h = header_with (suc n) in
    let p = places_with (suc n) in
    let inside = in_page (suc n) few in
    record {
      text_segment = room_fits (fields.text_segment h p p.end) refl;
      text = text_fits h refl (omega arith) (omega arith);
      stubs = stubs_fits h p refl refl (omega arith);
      consts = consts_fits h p refl refl (omega arith);
      data_segment = room_fits (fields.data_segment h p p.end) refl;
      got = room_fits (fields.got_section h p) refl;
      cells = room_fits (fields.cells_section h p) refl;
      linkedit = room_fits (fields.linkedit_segment h p p.end) refl;
      fixups = room_fits (fields.fixups_command h p) refl;
      symbols = room_fits (fields.symbols_command h p) refl;
    }

-- ---- the parts

imports_with : (prints : List ℕ) (returns : ℕ) → ImportsFit (data_at Main (places_with (length prints))) (imports_of (program prints returns))
unfolding fixups.header_of fixups.segments_of fixups.pages_of
imports_with [] returns =
    let at = data_at Main (places_with 0) in
    record {
      header = room_fits (fixups.header_of at 0) refl;
      segments = room_fits (fixups.segments_of at) refl;
      before_starts = room_fits (fixups.pages_of at) refl;
      imports = tt;
      names = refl;
    }
imports_with (n ∷ ns) returns =
    let at = data_at Main (places_with (suc (length ns))) in
    record {
      header = room_fits (fixups.header_of at 1) refl;
      segments = room_fits (fixups.segments_of at) refl;
      before_starts = room_fits (fixups.pages_of at) refl;
      imports = room_fits (fixups.entries 1 (codes "_putchar" ∷ [])) refl;
      names = refl;
    }

slots_with_prints : (prints : List ℕ) (returns : ℕ) → SlotsFit (slots_at (header_with (length prints)) (places_with (length prints)) (length (imports_of (program prints returns)))) (slots_with [] (once prints (putchar_slot ∷ [])))
unfolding may_stand ordinal_fits target_fits
slots_with_prints [] returns = record { cells = refl; rising = tt; each = tt }
slots_with_prints (n ∷ ns) returns = record {
  cells = refl;
  rising = tt;
  each = (record { fits = record { stands = refl; fields = (omega arith, (omega arith, omega arith)); ordinal = refl; target = refl }; clear = refl }, tt);
}

marks_at : (h : Header) → h.role ≡ Main → 44 ≤ h.text → AreLegal (text_at h) (main_mark ∷ [])
unfolding Ascends
marks_at h role some = record {
  ascend = tt;
  in_text = All-from_recursion (λ mark. mark.at < h.text / 4) (main_mark ∷ []) (omega arith, tt);
  some = All-from_recursion (λ name. name ≢ []) (codes "_main" ∷ []) ((λ e. absurd (let none : 5 ≡ 0 = ap length e in omega arith)), tt);
  no_zeros = refl;
  distinct = IsDistinct-push {eq = bytes_eq} nat_list_eq_equiv [] (codes "_main") no_names refl;
  fit = subst (λ r. AllFit (entries 1 (fields.base_of r + 1024) (main_mark ∷ []))) (sym role) (room_fits (entries 1 0x100000400 (main_mark ∷ [])) refl);
}

marks_with : (n : ℕ) → AreLegal (text_at (header_with n)) (main_mark ∷ [])
marks_with zero = marks_at (header_with zero) refl (omega arith)
marks_with (suc n) = marks_at (header_with (suc n)) refl (omega arith)

parts_with : (prints : List ℕ) (returns : ℕ) → length prints ≤ 1000 → PartsFit (image_of (program prints returns)) (header_with (length prints)) (places_with (length prints))
unfolding image_of
parts_with [] returns few = record { imports = imports_with [] returns; slots = slots_with_prints [] returns; marks = marks_with 0 }
parts_with (n ∷ ns) returns few = record { imports = imports_with (n ∷ ns) returns; slots = slots_with_prints (n ∷ ns) returns; marks = marks_with (suc (length ns)) }

-- ---- the image

pub image_places : (s : Straight) → IsSource s → places_of (header_of (image_of s)) ≡ places_with (length s.prints)
image_places s source = ap places_of (header s.prints s.returns source.few) ∙ places (length s.prints) source.few

words_with : (prints : List ℕ) (returns : ℕ) → IsSource (program prints returns) → AreWords (image_of (program prints returns))
unfolding image_of
words_with [] returns source = record { text = words_fit (text (program [] returns)) (text-InRange (program [] returns) source); stubs = tt; cells = λ i. omega arith }
words_with (n ∷ ns) returns source = record {
  text = words_fit (text (program (n ∷ ns) returns)) (text-InRange (program (n ∷ ns) returns) source);
  stubs = words_fit (stub (pages_between (suc (length ns)))) (stub-InRange (suc (length ns)));
  cells = λ i. omega arith;
}

beside_with : (prints : List ℕ) (returns : ℕ) → BesideBytes (image_of (program prints returns))
unfolding image_of
beside_with [] returns = record { consts = tested [] refl; marks = (tested (codes "_main") refl, tt); imports = tt }
beside_with (n ∷ ns) returns = record {
  consts = tested [] refl;
  marks = (tested (codes "_main") refl, tt);
  imports = (tested (codes "_putchar") refl, tt);
}

pub legal : (s : Straight) → IsSource s → IsLegal (image_of s)
legal s source =
    let h = header s.prints s.returns source.few in
    let p = image_places s source in
    record {
      words = words_with s.prints s.returns source;
      beside = beside_with s.prints s.returns;
      header = subst (λ (x : Header). FieldsFit x (places_of x)) (sym h) (subst (λ (y : Places). FieldsFit (header_with (length s.prints)) y) (sym (places (length s.prints) source.few)) (fits_with (length s.prints) source.few));
      parts = subst (λ (y : Places). PartsFit (image_of s) (header_of (image_of s)) y) (sym p)
          (subst (λ (x : Header). PartsFit (image_of s) x (places_with (length s.prints))) (sym h) (parts_with s.prints s.returns source.few));
    }

end_with : (n : ℕ) → (places_with n).end ≤ 0x8077
end_with zero = omega arith
end_with (suc n) = omega arith

pub small : (s : Straight) → IsSource s → IsSmall (image_of s)
small s source =
    let p = ap (λ (x : Places). x.end) (image_places s source) in
    let low = end_with (length s.prints) in
    omega arith
