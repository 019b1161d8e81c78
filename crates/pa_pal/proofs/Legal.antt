-- The runtime image is legal and small.
use Rattle.std.proofs.Common.{◌≡◌, ℕ, List, ◌≢◌, ◌<◌, [], ◌∷◌, length, refl, sym, ap, subst, ◌∙◌, arith, codes}
use Rattle.std.specs.Str.{bytes_eq}
use Rattle.std.proofs.lemmas.Cmp.{nat_list_eq_equiv}
use Rattle.std.proofs.lemmas.List.Elements.{All-from_recursion}
use Rattle.std.proofs.lemmas.Map.Keys.{IsDistinct-push}
use Rattle.pa_a64.proofs.RoundTrip.{encoded-lt}
use Rattle.pa_a64.specs.declared.instr.Instr.TheVariants.{Stack, Exception}
use Rattle.pa_a64.specs.declared.instr.StackOp.TheVariants.{Retab, Pacibsp}
use Rattle.pa_a64.specs.declared.instr.ExceptionOp.TheVariants.{Svc}
use Rattle.pa_macho.specs.declared.header.Role.TheVariants.{Library}
use Rattle.pa_macho.specs.declared.header.Header.{Header}
use Rattle.pa_macho.specs.declared.places.Places.{Places}
use Rattle.pa_macho.specs.Layout as fields
use Rattle.pa_macho.specs.Layout.{places_of}
use Rattle.pa_macho.specs.Writing.{FieldsFit}
use Rattle.pa_macho.proofs.Fits.{room_fits, fields_fit}
use Rattle.pa_fixups.specs.Fixups as fixups
use Rattle.pa_fixups.specs.Fixups.{ImportsFit}
use Rattle.pa_object.specs.Linkable.{Ascends}
use Rattle.pa_symbols.specs.Symbols.{AreLegal, entries}
use Rattle.pa_symbols.proofs.Distinct.{no_names}
use Rattle.pa_image.specs.Bytes.{header_of, data_at, text_at}
use Rattle.pa_image.specs.Places.{exported}
use Rattle.pa_image.specs.Small.{IsSmall}
use Rattle.pa_image.specs.Pal.{pal, marks, exports}
use Rattle.pa_image.specs.Writing.{AreWords, BesideBytes, PartsFit, IsLegal}
use Rattle.pa_image.proofs.Beside.{tested}

-- ---- the header and the places

abbrev h : Header
h = record { role = Library; text = 24; stubs = 0; consts = 0; got = 0; cells = 0; fixups = 81; symbols = 32; strings = 19 }

abbrev p : Places
p = record {
  text_end = 0x418;
  stubs = 0x420;
  stubs_end = 0x420;
  consts = 0x420;
  consts_end = 0x420;
  got = 0x4000;
  got_end = 0x4000;
  cells = 0x4000;
  cells_end = 0x4000;
  linkedit = 0x8000;
  fixups_end = 0x8051;
  symbols = 0x8058;
  symbols_end = 0x8078;
  strings = 0x8078;
  end = 0x808b;
}

header : header_of pal ≡ h
unfolding header_of pal places_of
header = refl

places : places_of h ≡ p
unfolding places_of
places = refl

pub pal_places : places_of (header_of pal) ≡ p
pal_places = ap places_of header ∙ places

-- ---- the parts

header_fits : FieldsFit h p
unfolding fields.text_segment fields.text_section fields.stubs_section fields.consts_section fields.data_segment fields.got_section fields.cells_section fields.linkedit_segment fields.fixups_command fields.symbols_command fields.segment_of fields.section_of
header_fits = fields_fit h p refl

imports_fit : ImportsFit (data_at Library p) []
unfolding fixups.header_of fixups.segments_of fixups.pages_of
imports_fit = record {
  header = room_fits (fixups.header_of (data_at Library p) 0) refl;
  segments = room_fits (fixups.segments_of (data_at Library p)) refl;
  before_starts = room_fits (fixups.pages_of (data_at Library p)) refl;
  imports = tt;
  names = refl;
}

marks_legal : AreLegal (text_at h) marks
unfolding Ascends
marks_legal = record {
  ascend = (omega arith, tt);
  in_text = All-from_recursion (λ mark. mark.at < 6) marks (omega arith, (omega arith, tt));
  some = All-from_recursion (λ name. name ≢ []) (codes "_putchar" ∷ codes "_getchar" ∷ [])
      ((λ e. absurd (let none : 8 ≡ 0 = ap length e in omega arith)), ((λ e. absurd (let none : 8 ≡ 0 = ap length e in omega arith)), tt));
  no_zeros = refl;
  distinct = IsDistinct-push {eq = bytes_eq} nat_list_eq_equiv (codes "_putchar" ∷ []) (codes "_getchar") (IsDistinct-push {eq = bytes_eq} nat_list_eq_equiv [] (codes "_putchar") no_names refl) refl;
  fit = room_fits (entries 1 0x180000400 marks) refl;
}

parts : PartsFit pal h p
unfolding pal
parts = record { imports = imports_fit; slots = record { cells = refl; rising = tt; each = tt }; marks = marks_legal }

words : AreWords pal
unfolding pal
words = record {
  text = (
    encoded-lt (Stack Pacibsp) tt,
    refl,
    (
      encoded-lt (Exception Svc 1) (omega arith),
      refl,
      (
        encoded-lt (Stack Retab) tt,
        refl,
        (encoded-lt (Stack Pacibsp) tt, refl, (encoded-lt (Exception Svc 2) (omega arith), refl, (encoded-lt (Stack Retab) tt, refl, tt))),
      ),
    ),
  );
  stubs = tt;
  cells = λ i. omega arith;
}

beside : BesideBytes pal
unfolding pal
beside = record {
  consts = tested [] refl;
  marks = (tested (codes "_putchar") refl, (tested (codes "_getchar") refl, tt));
  imports = tt;
}

-- ---- the image

pub legal : IsLegal pal
legal = record {
  words = words;
  beside = beside;
  header = subst (λ (x : Header). FieldsFit x (places_of x)) (sym header) (subst (λ (y : Places). FieldsFit h y) (sym places) header_fits);
  parts = subst (λ (y : Places). PartsFit pal (header_of pal) y) (sym pal_places) (subst (λ (x : Header). PartsFit pal x p) (sym header) parts);
}

pub small : IsSmall pal
small = let end = ap (λ (y : Places). y.end) pal_places in omega arith

-- ---- what it exports

pub pal_exports : (name : List ℕ) → exported (fields.base_of Library) pal.marks name ≡ exports name
unfolding pal
pal_exports name = refl
