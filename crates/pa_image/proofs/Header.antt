-- What a header says of the file.
use Rattle.std.proofs.Common.{suc, List, [], ◌∷◌, Some, Result, Ok, Err, refl, ap, ◌∙◌, ◌≡◌, ℕ, ◌+◌, ◌*◌, ◌%◌, ◌<◌, ◌^◌, length, sym, subst, arith}
use Rattle.std.specs.Result.{IsErrAnd}
use Rattle.std.proofs.lemmas.Bool.{eqb-true}
use Rattle.std.proofs.lemmas.List.{length-append}
use Rattle.pa_num.specs.declared.fault.ImageRule.{ImageRule}
use Rattle.pa_num.specs.declared.fault.Fault.{Fault}
use Rattle.pa_num.specs.declared.fault.Fault.TheVariants.{Refused, Memory}
use Rattle.pa_layout.specs.declared.checks.Flaw.{Flaw}
use Rattle.pa_layout.specs.Fields.{spelled}
use Rattle.pa_layout.specs.Names.{ended}
use Rattle.pa_layout.proofs.Laws.{length-spelled, spelled-append}
use Rattle.pa_macho.specs.declared.header.Role.{Role}
use Rattle.pa_fixups.specs.declared.tables.DataAt.{DataAt}
use Rattle.pa_fixups.specs.Fixups.{fixups_with}
use Rattle.pa_fixups.proofs.Whole.{length-fixups}
use Rattle.pa_object.specs.declared.object.Mark.{Mark}
use Rattle.pa_symbols.specs.declared.places.TextAt.{TextAt}
use Rattle.pa_symbols.specs.Symbols.{entry_of, entries, names_of, symbols_of}
use Rattle.pa_image.specs.declared.image.Image.{Image}
use Rattle.pa_image.specs.Bytes.{segment_count, data_at, sections_of, fixups_size, header_of, text_at, part, Stands, IsImage}
use Rattle.pa_image.specs.Reading.{parts_flaw, first_flaw}
use Rattle.pa_image.proofs.Cut.{length-part}
use Rattle.pa_macho.specs.declared.header.Header.{Header}
use Rattle.pa_macho.specs.declared.places.Places.{Places}
use Rattle.pa_macho.specs.Layout.{Ordered, page_count, up, places_of, section_of, text_section, stubs_section, fixups_command, symbols_command}
use Rattle.pa_macho.specs.Reading.{segment_checks, IsHeader, Refuses, header_flaw}
use Rattle.pa_layout.specs.Flaws.{AllMet, AnswersOrMemory, flaw_at}
use Rattle.pa_macho.proofs.Facts.{spans}
use Rattle.pa_macho.proofs.Headers.{headers_are}
use Rattle.pa_macho.proofs.Laws.{header_ends, taken_again, header_again}
use Rattle.pa_image.specs.Known.{Known}

record Met (h : Header) (p : Places) : Type 0 where
  pub text : h.text % 4 ≡ 0
  pub stubs : h.stubs % 16 ≡ 0
  pub symbols : h.symbols % 16 ≡ 0
  pub linkedit : p.linkedit < 2 ^ 32
  pub strings : p.strings < 2 ^ 32
  pub strings_size : h.strings < 2 ^ 32

met : (h : Header) (p : Places) (len : ℕ) (bytes : List ℕ) → AllMet bytes (segment_checks h p len) → Met h p
unfolding segment_checks text_section stubs_section section_of fixups_command symbols_command
met h p len bytes m =
    let f = m.1.1.1.1.1.1.1.1.1.0.1 in
    let s = m.1.1.1.1.1.1.1.1.1.1.0.1 in
    record {
      text = eqb-true _ _ m.1.0.1.2.2.2.1;
      stubs = eqb-true _ _ m.1.1.0.1.2.2.2.1;
      symbols = eqb-true _ _ s.2.1;
      linkedit = f.0;
      strings = s.2.2.0;
      strings_size = s.2.2.2.0;
    }

pub pages_whole : (h : Header) → (places_of h).linkedit ≡ (places_of h).got + 0x4000 * page_count (places_of h)
unfolding places_of
pages_whole h = omega arith

pub cells_place : (h : Header) → (places_of h).cells ≡ (places_of h).got + up 16 h.got
unfolding places_of
cells_place h = omega arith

known_at : (h : Header) (bytes : List ℕ) → Ordered (places_of h) → IsHeader h bytes → Known h (places_of h) (length bytes)
known_at h bytes o i =
    let s = spans h in
    let m = met h (places_of h) (length bytes) bytes i.segments in
    let e = header_ends h bytes i in
    record {
      order = o;
      end = sym e;
      small = omega arith;
      linkedit_small = m.linkedit;
      text = s.text;
      words = m.text;
      stubs = s.stubs;
      stub_words = omega arith;
      consts = s.consts;
      pages = pages_whole h;
      cells = cells_place h;
      cells_end = s.cells;
      fixups = s.fixups;
      symbols = s.symbols;
      entries = m.symbols;
      strings = s.strings;
    }

pub known : (h : Header) (p : Places) (bytes : List ℕ) → p ≡ places_of h → Ordered p → IsHeader h bytes → Known h p (length bytes)
known h p bytes e o i = subst (λ (q : Places). Known h q (length bytes)) (sym e) (known_at h bytes (subst Ordered e o) i)

-- ---- the header of what is read

-- the sections alone say where __DATA lies
pub sections_same : (h1 h2 : Header) → h1.text ≡ h2.text → h1.stubs ≡ h2.stubs → h1.consts ≡ h2.consts → h1.got ≡ h2.got → h1.cells ≡ h2.cells
    → ((places_of h1).got ≡ (places_of h2).got) × ((places_of h1).linkedit ≡ (places_of h2).linkedit)
unfolding places_of
sections_same h1 h2 a b c d e = (rw (a, b, c) refl, rw (a, b, c, d, e) refl)

abbrev data_with : ℕ → ℕ → ℕ → DataAt
data_with segments offset pages = record { segments = segments; offset = offset; pages = pages }

pub data_same : (role role' : Role) (p q : Places) → role ≡ role' → p.got ≡ q.got → p.linkedit ≡ q.linkedit → data_at role p ≡ data_at role' q
data_same role role' p q r g l =
    let a : segment_count role ≡ segment_count role' = ap segment_count r in
    let b : page_count p ≡ page_count q = rw (g, l) refl in
    ap (λ (n : ℕ). data_with n p.got (page_count p)) a ∙ ap (λ (n : ℕ). data_with (segment_count role') n (page_count p)) g ∙ ap (data_with (segment_count role') q.got) b

length-entries : (place address : ℕ) (marks : List Mark) → length (spelled (entries place address marks)) ≡ 16 * length marks
length-entries place address [] = refl
length-entries place address (mark ∷ marks) =
    let rest = entries (place + (length mark.name + 1)) address marks in
    let e = ap length (spelled-append (entry_of place address mark) rest) in
    let a = length-append (spelled (entry_of place address mark)) (spelled rest) in
    let b : length (spelled (entry_of place address mark)) ≡ 16 = length-spelled (entry_of place address mark) in
    let c = length-entries (place + (length mark.name + 1)) address marks in
    omega arith

pub length-symbols : (text : TextAt) (marks : List Mark) → length (symbols_of text marks) ≡ 16 * length marks
length-symbols text marks = length-entries 1 text.address marks

pub header_same : (h : Header) (image : Image) (bytes : List ℕ) → Known h (places_of h) (length bytes) → Stands image h (places_of h) bytes → header_of image ≡ h
unfolding header_of
header_same h image bytes k s =
    let p = places_of h in
    let o = k.order in
    let cells = s.slots.cells in
    let same = sections_same (sections_of image) h s.text_size s.stubs_size s.consts_size s.got_size cells in
    let at = data_same image.role h.role (places_of (sections_of image)) p s.role same.0 same.1 in
    let lf = length-part p.linkedit p.fixups_end bytes (omega arith) (omega arith) in
    let fixups : length (part p.linkedit p.fixups_end bytes) ≡ fixups_size (data_at h.role p) image.imports = ap length s.fixups.bytes_are ∙ length-fixups (data_at h.role p) (fixups_with s.starts image.imports) s.fixups.fit.pages in
    let ls = length-part p.symbols p.symbols_end bytes (omega arith) (omega arith) in
    let symbols : length (part p.symbols p.symbols_end bytes) ≡ 16 * length image.marks = ap length s.marks.symbols_are ∙ length-symbols (text_at h) image.marks in
    let lt = length-part p.strings p.end bytes (omega arith) (omega arith) in
    let strings : length (part p.strings p.end bytes) ≡ suc (length (ended (names_of image.marks))) = ap length s.marks.strings_are in
    let size : fixups_size (data_at h.role p) image.imports ≡ h.fixups = omega arith in
    headers_are image.role h.role _ h.text _ h.stubs _ h.consts image.got h.got _ h.cells _ h.fixups _ h.symbols _ h.strings s.role s.text_size s.stubs_size s.consts_size s.got_size cells
    (ap (λ (d : DataAt). fixups_size d image.imports) at ∙ size) (omega arith) (omega arith)

pub image_found : (h : Header) (p : Places) (bytes : List ℕ) (image : Image) → p ≡ places_of h → Ordered p → IsHeader h bytes → Stands image h p bytes → IsImage image bytes
image_found h p bytes image e o i s =
    let s' = subst (λ (q : Places). Stands image h q bytes) e s in
    let same = header_same h image bytes (known_at h bytes (subst Ordered e o) i) s' in
    record {
      header = subst (λ (x : Header). IsHeader x bytes) (sym same) i;
      parts = subst (λ (x : Header). Stands image x (places_of x) bytes) (sym same) s';
    }

pub parts_moved : (h : Header) (p : Places) (bytes : List ℕ) (image : Image) → p ≡ places_of h → h ≡ header_of image → IsImage image bytes → Stands image h p bytes
parts_moved h p bytes image ep eh i =
    subst (λ (q : Places). Stands image h q bytes) (sym ep) (subst (λ (x : Header). Stands image x (places_of x) bytes) (sym eh) i.parts)

pub header_first : (bytes : List ℕ) (f : Flaw) → header_flaw bytes ≡ Some f → first_flaw bytes ≡ Some f
unfolding first_flaw
header_first bytes f e = rw e refl

pub behind_header : (h : Header) (p : Places) (bytes : List ℕ) → p ≡ places_of h → IsHeader h bytes → first_flaw bytes ≡ parts_flaw h p bytes
unfolding first_flaw
behind_header h p bytes e i =
    let none = header_again h bytes i in
    let t = taken_again h bytes i in
    rw none (ap (λ (x : Header). parts_flaw x (places_of x) bytes) t ∙ ap (λ (q : Places). parts_flaw h q bytes) (sym e))

pub refused_first : (bytes : List ℕ) (result : Result Image (Fault ImageRule)) (fault : Fault ImageRule) → IsErrAnd result (λ x. x ≡ fault) → Refuses {A = Header} (Err fault) (header_flaw bytes) → AnswersOrMemory result (first_flaw bytes)
refused_first bytes (Ok x) fault i r = absurd i
refused_first bytes (Err x) (Refused rule place) i r = subst (λ (y : Fault ImageRule). AnswersOrMemory {A = Image} (Err y) (first_flaw bytes)) (sym i) (header_first bytes (flaw_at rule place) r)
refused_first bytes (Err x) Memory i r = absurd r
