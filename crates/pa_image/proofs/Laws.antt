-- The laws of images and their bytes: an image that bytes stand for is legal, bytes stand for one image, and one image has one
-- spelling.
use Rattle.std.proofs.Common.{◌≡◌, ℕ, ◌+◌, ◌*◌, ◌/◌, ◌≤◌, List, length, refl, subst, sym, ap, ◌∙◌, arith}
use Rattle.pa_layout.specs.Fields.{AllFit, IsAt, numbers}
use Rattle.pa_layout.specs.Flaws.{AllMet}
use Rattle.pa_layout.proofs.Laws.{IsBytes}
use Rattle.pa_layout.proofs.Pieces.{AllAt, Chained, joined, pieces-whole}
use Rattle.pa_macho.specs.declared.header.Header.{Header}
use Rattle.pa_macho.specs.declared.places.Places.{Places}
use Rattle.pa_macho.specs.Layout.{Ordered, page_count, places_of, text_segment, data_segment, linkedit_segment}
use Rattle.pa_macho.specs.Reading.{segment_checks, gap_checks, IsHeader}
use Rattle.pa_macho.specs.Writing.{FieldsFit, HeaderFits}
use Rattle.pa_macho.proofs.Facts.{spans}
use Rattle.pa_macho.proofs.Front.{front_begins}
use Rattle.pa_macho.proofs.Laws.{header_ends, taken_again}
use Rattle.pa_fixups.specs.declared.tables.DataAt.{DataAt}
use Rattle.pa_fixups.specs.declared.tables.Fixups.{Fixups}
use Rattle.pa_fixups.specs.Fixups.{fixups_bytes, fixups_with, FixupsFit, ImportsFit}
use Rattle.pa_fixups.proofs.Whole.{parts_only}
use Rattle.pa_symbols.proofs.Only.{tables_only}
use Rattle.pa_slots.proofs.Whole.{slots_again}
use Rattle.pa_slots.proofs.Held.{all_writable, held_fit, length-pages_of, length-plain_of, length-starts_of, slots_held, slots_spelled, starts_fit}
use Rattle.pa_slots.specs.Pages.{page_size, cells_from}
use Rattle.pa_slots.specs.Slots.{slots_with, plain_of}
use Rattle.pa_slots.specs.Writing.{starts_of, pages_of}
use Rattle.pa_image.specs.declared.image.Image.{Image}
use Rattle.pa_image.specs.Bytes.{data_at, header_of, part, slots_at, text_at, Stands, IsImage}
use Rattle.pa_image.specs.Known.{Known}
use Rattle.pa_image.specs.Reading.{symbols_at}
use Rattle.pa_image.specs.Writing.{HasBytes, IsLegal, gap, starts_with, pages_with, bytes_of}
use Rattle.pa_image.proofs.Beside.{beside_of}
use Rattle.pa_image.proofs.Cut.{starts_known, part_stands, IsBytes-part}
use Rattle.pa_image.proofs.Header.{known, parts_moved}
use Rattle.pa_image.proofs.Made.{pieces, bytes_joined, chained, sized, image_made, writable}
use Rattle.pa_image.proofs.Numbers.{bytes_are_bytes}
use Rattle.pa_image.proofs.Small.{fits_end}
use Rattle.pa_image.proofs.Whole.{text_only, stubs_only, consts_only, image_only, slots_moved}

fields_fit : (h : Header) (p : Places) (len : ℕ) (bytes : List ℕ) → len ≡ p.end → AllMet bytes (segment_checks h p len) → FieldsFit h p
unfolding segment_checks
fields_fit h p len bytes e m = record {
  text_segment = subst (λ (n : ℕ). AllFit (text_segment h p n)) e m.0.1;
  text = m.1.0.1;
  stubs = m.1.1.0.1;
  consts = m.1.1.1.0.1;
  data_segment = subst (λ (n : ℕ). AllFit (data_segment h p n)) e m.1.1.1.1.0.1;
  got = m.1.1.1.1.1.0.1;
  cells = m.1.1.1.1.1.1.0.1;
  linkedit = subst (λ (n : ℕ). AllFit (linkedit_segment h p n)) e m.1.1.1.1.1.1.1.0.1;
  fixups = m.1.1.1.1.1.1.1.1.1.0.1;
  symbols = m.1.1.1.1.1.1.1.1.1.1.0.1;
}

pub header_fits : (h : Header) (bytes : List ℕ) → IsHeader h bytes → HeaderFits h
header_fits h bytes i = fields_fit h (places_of h) (length bytes) bytes (header_ends h bytes i) i.segments

pub ordered : (h : Header) → HeaderFits h → Ordered (places_of h)
ordered h f =
    let s = spans h in
    let small = fits_end h f in
    record {
      text_end = omega arith;
      stubs = s.stubs_from;
      stubs_end = omega arith;
      consts = s.consts_from;
      consts_end = omega arith;
      got = s.got_from;
      got_end = omega arith;
      cells = s.cells_from;
      cells_end = omega arith;
      linkedit = s.linkedit_from;
      page = s.page;
      fixups_end = omega arith;
      symbols = s.symbols_from;
      symbols_end = omega arith;
      strings = s.strings_from;
      end = omega arith;
      small = omega arith;
    }

pub known_of : (h : Header) (bytes : List ℕ) → IsHeader h bytes → Known h (places_of h) (length bytes)
known_of h bytes i = known h (places_of h) bytes refl (ordered h (header_fits h bytes i)) i

imports_fit : (at : DataAt) (fixups : Fixups) → FixupsFit at fixups → ImportsFit at fixups.imports
imports_fit at fixups f = record {
  header = f.header;
  segments = f.segments;
  before_starts = f.before_starts;
  imports = f.imports;
  names = f.names;
}

pub image_legal : (image : Image) (bytes : List ℕ) → IsBytes bytes → IsBytes image.cells → IsImage image bytes → IsLegal image
image_legal image bytes b fits i =
    let h = header_of image in
    let p = places_of h in
    let k = known_of h bytes i.header in
    let starts : List ℕ = i.parts.starts in
    let f = starts_known h p (fixups_with starts image.imports) bytes k i.parts.fixups in
    let size : length (part p.got p.linkedit bytes) ≡ page_size * length starts = f.size in
    let inside : cells_from (slots_at h p (length image.imports)) + h.cells ≤ length (part p.got p.linkedit bytes) = f.inside in
    record {
      words = record { text = i.parts.text.1; stubs = i.parts.stubs.1; cells = fits };
      beside = beside_of image bytes b i;
      header = header_fits h bytes i.header;
      parts = record {
        imports = imports_fit (data_at h.role p) (fixups_with starts image.imports) i.parts.fixups.fit;
        slots = held_fit (slots_at h p (length image.imports)) starts (slots_with image.cells image.fixes) (part p.got p.linkedit bytes) size (omega arith) i.parts.slots;
        marks = i.parts.marks.legal;
      };
    }

-- ---- one image

fixups_same : (x y : Image) (h : Header) (p : Places) (bytes : List ℕ) (s : Stands x h p bytes) (t : Stands y h p bytes) → fixups_with s.starts x.imports ≡ fixups_with t.starts y.imports
fixups_same x y h p bytes s t =
    let at = data_at h.role p in
    let fixups = part p.linkedit p.fixups_end bytes in
    let a = parts_only at fixups (fixups_with s.starts x.imports) s.fixups.fit s.fixups.bytes_are in
    let b = parts_only at fixups (fixups_with t.starts y.imports) t.fixups.fit t.fixups.bytes_are in
    sym a.1 ∙ b.1

slots_same : (x y : Image) (h : Header) (p : Places) (bytes : List ℕ) → Known h p (length bytes) → (s : Stands x h p bytes) (t : Stands y h p bytes) → slots_with x.cells x.fixes ≡ slots_with y.cells y.fixes
slots_same x y h p bytes k s t =
    let at = slots_at h p (length x.imports) in
    let pages = part p.got p.linkedit bytes in
    let starts : List ℕ = s.starts in
    let known = starts_known h p (fixups_with starts x.imports) bytes k s.fixups in
    let size : length pages ≡ page_size * length starts = known.size in
    let inside : cells_from at + h.cells ≤ length pages = known.inside in
    let moved = slots_moved h p bytes y starts x.imports t (fixups_same x y h p bytes s t) in
    let a = slots_again at starts (slots_with x.cells x.fixes) pages (omega arith) s.slots in
    let b = slots_again at starts (slots_with y.cells y.fixes) pages (omega arith) moved in
    sym a.1 ∙ b.1

marks_same : (x y : Image) (h : Header) (p : Places) (bytes : List ℕ) → Stands x h p bytes → Stands y h p bytes → x.marks ≡ y.marks
marks_same x y h p bytes s t =
    let symbols = part p.symbols p.symbols_end bytes in
    let strings = part p.strings p.end bytes in
    let a = tables_only (text_at h) (symbols_at p) x.marks symbols strings s.marks in
    let b = tables_only (text_at h) (symbols_at p) y.marks symbols strings t.marks in
    sym a.1 ∙ b.1

one_stands : (x y : Image) (h : Header) (p : Places) (bytes : List ℕ) → Known h p (length bytes) → Stands x h p bytes → Stands y h p bytes → x ≡ y
one_stands x y h p bytes k s t =
    let text = numbers (h.text / 4) 4 0x400 bytes in
    let stubs = numbers (h.stubs / 4) 4 p.stubs bytes in
    let consts = part p.consts p.consts_end bytes in
    sym (image_only h text stubs consts x.cells x.marks x.imports x.fixes s.starts x s.starts s.role s.got_size
    (text_only h p bytes text x s refl) (stubs_only h p bytes stubs x s refl) (consts_only h p bytes consts x k s refl) refl refl refl)
    ∙ image_only h text stubs consts x.cells x.marks x.imports x.fixes s.starts y t.starts t.role t.got_size
    (text_only h p bytes text y t refl) (stubs_only h p bytes stubs y t refl) (consts_only h p bytes consts y k t refl)
    (fixups_same x y h p bytes s t) (slots_same x y h p bytes k s t) (marks_same x y h p bytes s t)

-- bytes stand for one image
pub one_image : (x y : Image) (bytes : List ℕ) → IsImage x bytes → IsImage y bytes → x ≡ y
one_image x y bytes i j =
    let h = header_of x in
    let same : h ≡ header_of y = sym (taken_again h bytes i.header) ∙ taken_again (header_of y) bytes j.header in
    one_stands x y h (places_of h) bytes (known_of h bytes i.header) i.parts (parts_moved h (places_of h) bytes y refl same j)

-- ---- one spelling

gaps_stand : (h : Header) (p : Places) (bytes : List ℕ) → AllMet bytes (gap_checks h.role p)
    → IsAt bytes p.text_end (gap p.text_end p.stubs) × IsAt bytes p.stubs_end (gap p.stubs_end p.consts) × IsAt bytes p.consts_end (gap p.consts_end p.got) × IsAt bytes p.fixups_end (gap p.fixups_end p.symbols) × IsAt bytes p.symbols_end (gap p.symbols_end p.strings)
unfolding gap_checks
gaps_stand h p bytes m = (m.1.0, m.1.1.0, m.1.1.1.0, m.1.1.1.1.1.1.1.0, m.1.1.1.1.1.1.1.1.0)

parts_stand : (image : Image) (bytes : List ℕ) (i : IsImage image bytes) → part (places_of (header_of image)).got (places_of (header_of image)).linkedit bytes ≡ pages_with image (header_of image) (places_of (header_of image)) → i.parts.starts ≡ starts_with image (places_of (header_of image))
    → AllAt bytes (pieces image (header_of image) (places_of (header_of image)) (pages_with image (header_of image) (places_of (header_of image))) (starts_with image (places_of (header_of image))))
parts_stand image bytes i pages_are starts_are =
    let h = header_of image in
    let p = places_of h in
    let s = i.parts in
    let k = known_of h bytes i.header in
    let o = k.order in
    let end : length bytes ≡ p.end = header_ends h bytes i.header in
    let g = gaps_stand h p bytes i.header.gaps in
    let fixups_are : part p.linkedit p.fixups_end bytes ≡ fixups_bytes (data_at h.role p) (fixups_with (starts_with image p) image.imports) =
    s.fixups.bytes_are ∙ ap (λ (starts : List ℕ). fixups_bytes (data_at h.role p) (fixups_with starts image.imports)) starts_are in
    let pages = subst (IsAt bytes p.got) pages_are (part_stands p.got p.linkedit bytes (omega arith) (omega arith)) in
    let fixups = subst (IsAt bytes p.linkedit) fixups_are (part_stands p.linkedit p.fixups_end bytes (omega arith) (omega arith)) in
    let symbols = subst (IsAt bytes p.symbols) s.marks.symbols_are (part_stands p.symbols p.symbols_end bytes (omega arith) (omega arith)) in
    let strings = subst (IsAt bytes p.strings) s.marks.strings_are (part_stands p.strings p.end bytes (omega arith) (omega arith)) in
    (front_begins h bytes i.header, (s.text.0, (g.0, (s.stubs.0, (g.1, (s.consts, (g.2, (pages, (fixups, (g.3, (symbols, (g.4, (strings, tt)))))))))))))

image_spelled : (image : Image) (bytes : List ℕ) → IsBytes bytes → IsImage image bytes
    → bytes ≡ joined (pieces image (header_of image) (places_of (header_of image)) (pages_with image (header_of image) (places_of (header_of image))) (starts_with image (places_of (header_of image))))
image_spelled image bytes b i =
    let h = header_of image in
    let p = places_of h in
    let at = slots_at h p (length image.imports) in
    let starts : List ℕ = i.parts.starts in
    let known = starts_known h p (fixups_with starts image.imports) bytes (known_of h bytes i.header) i.parts.fixups in
    let size : length (part p.got p.linkedit bytes) ≡ page_size * length starts = known.size in
    let count : length starts ≡ page_count p = i.parts.fixups.fit.pages in
    let e = slots_spelled at starts (slots_with image.cells image.fixes) (part p.got p.linkedit bytes) (IsBytes-part p.got p.linkedit bytes b) i.parts.slots in
    let pages_are : part p.got p.linkedit bytes ≡ pages_with image h p = e.0 ∙ ap (λ (n : ℕ). pages_of 0 n image.fixes (plain_of at n image.cells)) count in
    let starts_are : starts ≡ starts_with image p = e.1 ∙ ap (λ (n : ℕ). starts_of 0 n image.fixes) count in
    let lp : length (pages_with image h p) ≡ page_size * page_count p = sym (ap length pages_are) ∙ size ∙ ap (λ (n : ℕ). page_size * n) count in
    let z = sized image (pages_with image h p) (starts_with image p) lp (length-starts_of 0 (page_count p) image.fixes) in
    let c = chained image h (pages_with image h p) (starts_with image p) z in
    pieces-whole bytes (pieces image h p (pages_with image h p) (starts_with image p)) (subst (λ (n : ℕ). Chained 0 (pieces image h p (pages_with image h p) (starts_with image p)) n) (sym (header_ends h bytes i.header)) c)
    (parts_stand image bytes i pages_are starts_are)

-- the bytes that stand for an image are its bytes
pub bytes_spelled : (image : Image) (bytes : List ℕ) → IsBytes bytes → IsImage image bytes → bytes ≡ bytes_of image
unfolding bytes_of
bytes_spelled image bytes b i =
    let h = header_of image in
    let p = places_of h in
    image_spelled image bytes b i ∙ bytes_joined image h p (pages_with image h p) (starts_with image p)

-- one image has one spelling
pub one_spelling : (image : Image) (bytes other : List ℕ) → IsBytes bytes → IsBytes other → IsImage image bytes → IsImage image other → bytes ≡ other
one_spelling image bytes other b c i j = bytes_spelled image bytes b i ∙ sym (bytes_spelled image other c j)

-- the bytes of a legal image stand for it
pub legal_stands : (image : Image) → IsLegal image → IsImage image (bytes_of image)
unfolding bytes_of
legal_stands image l =
    let h = header_of image in
    let p = places_of h in
    let w = writable image h p refl refl l in
    let count = page_count p in
    let at = slots_at h p (length image.imports) in
    let slots = slots_with image.cells image.fixes in
    let fits = all_writable at slots count l.parts.slots in
    let size = length-pages_of 0 count image.fixes (plain_of at count image.cells) fits (length-plain_of at count image.cells l.parts.slots.cells w.inside) in
    image_made image (pages_with image h p) (starts_with image p) (bytes_of image) l size (length-starts_of 0 count image.fixes) (starts_fit 0 count image.fixes fits)
    (slots_held at slots count l.words.cells w.inside l.parts.slots) refl

-- an image of words and bytes is legal exactly where some bytes stand for it
pub legal_has_bytes : (image : Image) → IsLegal image → HasBytes image
legal_has_bytes image l = (bytes_of image, (bytes_are_bytes image l.beside l.words.cells, legal_stands image l))

pub has_bytes_legal : (image : Image) → IsBytes image.cells → HasBytes image → IsLegal image
has_bytes_legal image fits b = image_legal image b.0 b.1.0 fits b.1.1
