-- A header that is read is the one that the bytes have, and the bytes have one header.
use Rattle.std.proofs.Common.{◌≡◌, ℕ, ◌+◌, ◌-◌, ◌/◌, ◌%◌, ◌≤◌, List, length, Option, Some, None, Result, Ok, Err, refl, sym, ap, subst, ◌∙◌, arith}
use Rattle.std.specs.Result.{IsErrAnd}
use Rattle.std.proofs.lemmas.Bool.{leb-true, le-leb, eqb-true}
use Rattle.pa_num.specs.declared.fault.ImageRule.{ImageRule}
use Rattle.pa_num.specs.declared.fault.Fault.{Fault}
use Rattle.pa_num.specs.declared.fault.Fault.TheVariants.{Refused}
use Rattle.pa_layout.specs.declared.checks.Flaw.{Flaw}
use Rattle.pa_layout.specs.Fields.{number}
use Rattle.pa_layout.specs.Flaws.{first, flaw_of, AllMet, ◌then◌}
use Rattle.pa_layout.proofs.Laws.{IsBytes, values_at}
use Rattle.pa_layout.proofs.Facts.{then_none, none_then}
use Rattle.pa_layout.proofs.CheckLaws.{AllInside, all_met, none_first, none_of_meets}
use Rattle.pa_macho.specs.declared.header.Role.{Role}
use Rattle.pa_macho.specs.declared.header.Role.TheVariants.{Main, Library}
use Rattle.pa_macho.specs.declared.header.Header.{Header}
use Rattle.pa_macho.specs.declared.places.Places.{Places}
use Rattle.pa_macho.specs.declared.places.Sizes.{Sizes}
use Rattle.pa_macho.specs.declared.commands.SectionName.TheVariants as sections
use Rattle.pa_macho.specs.Loader.{load_command, section_size, data_size, symbol_count, strings_size}
use Rattle.pa_macho.specs.Layout.{front_size, places_of, header_of, AreSmall, file_type, commands_end, text_at, fixups_at, symbols_at, entry_at, section_at, shapes_of, start_of, counts_of, segment_of, section_of, linkedit_segment, text_section, stubs_section, consts_section, got_section, cells_section, fixups_command, symbols_command}
use Rattle.pa_macho.specs.Reading.{role_in, taken_for, taken, length_check, start_checks, size_checks, number_checks, page_zero_checks, segment_checks, last_checks, gap_checks, flaw_with, header_flaw, IsHeader, Refuses}
use Rattle.pa_macho.proofs.Headers.{headers_are}
use Rattle.pa_macho.proofs.Facts.{Spans, spans, length_long, start_long}

-- ---- where no check fails, all are met

start_inside : (role : Role) (bytes : List ℕ) → 32 ≤ length bytes → AllInside (start_checks role (length bytes)) bytes
unfolding start_checks
start_inside role bytes h = (omega arith, (omega arith, (omega arith, tt)))

sizes_inside : (role : Role) (bytes : List ℕ) → commands_end role ≤ length bytes → AllInside (size_checks 32 (shapes_of role)) bytes
unfolding shapes_of
sizes_inside Main bytes h = (omega arith, (omega arith, (omega arith, (omega arith, (omega arith, (omega arith, (omega arith, (omega arith, tt))))))))
sizes_inside Library bytes h = (omega arith, (omega arith, (omega arith, (omega arith, (omega arith, (omega arith, tt))))))

numbers_inside : (role : Role) (bytes : List ℕ) → commands_end role ≤ length bytes → AllInside (number_checks 32 (shapes_of role)) bytes
unfolding shapes_of
numbers_inside Main bytes h = (omega arith, (omega arith, (omega arith, (omega arith, (omega arith, (omega arith, (omega arith, (omega arith, tt))))))))
numbers_inside Library bytes h = (omega arith, (omega arith, (omega arith, (omega arith, (omega arith, (omega arith, tt))))))

page_zero_inside : (role : Role) (bytes : List ℕ) → commands_end role ≤ length bytes → AllInside (page_zero_checks role (length bytes)) bytes
unfolding page_zero_checks
page_zero_inside Main bytes h = (omega arith, tt)
page_zero_inside Library bytes h = tt

pub text_at-le : (role : Role) → text_at role + entry_at ≤ commands_end role
text_at-le Main = omega arith
text_at-le Library = omega arith

segments_inside : (h : Header) (p : Places) (bytes : List ℕ) → text_at h.role + entry_at ≤ length bytes → AllInside (segment_checks h p (length bytes)) bytes
unfolding segment_checks
segments_inside h p bytes le = (omega arith, (omega arith, (omega arith, (omega arith, (omega arith, (omega arith, (omega arith, (omega arith, (tt, (omega arith, (omega arith, tt)))))))))))

last_inside : (role : Role) (bytes : List ℕ) → commands_end role ≤ length bytes → AllInside (last_checks role) bytes
unfolding last_checks
last_inside Main bytes h = (omega arith, (omega arith, tt))
last_inside Library bytes h = (omega arith, tt)

pub commands_end-le : (role : Role) → commands_end role ≤ front_size
commands_end-le Main = omega arith
commands_end-le Library = omega arith

gaps_inside : (h : Header) (p : Places) (bytes : List ℕ) → Spans h p → p.end ≡ length bytes → AllInside (gap_checks h.role p) bytes
unfolding gap_checks
gaps_inside h p bytes s e =
    let c = commands_end-le h.role in
    ((omega arith, omega arith), ((omega arith, omega arith), ((omega arith, omega arith), ((omega arith, omega arith), ((omega arith, omega arith), ((omega arith, omega arith), ((omega arith, omega arith), ((omega arith, omega arith), ((omega arith, omega arith), tt)))))))))

-- the file ends where __LINKEDIT does
ends_where : (h : Header) (p : Places) (bytes : List ℕ) → Spans h p → AllMet bytes (segment_checks h p (length bytes)) → p.end ≡ length bytes
unfolding segment_checks linkedit_segment segment_of
ends_where h p bytes s m =
    let low : p.linkedit + (p.end - p.linkedit) ≤ length bytes = leb-true _ _ m.1.1.1.1.1.1.1.0.1.2.2.2.2.1 in
    let high : length bytes ≤ p.end = leb-true _ _ m.1.1.1.1.1.1.1.1.0 in
    omega arith

pub header_ends : (h : Header) (bytes : List ℕ) → IsHeader h bytes → length bytes ≡ (places_of h).end
header_ends h bytes i = sym (ends_where h (places_of h) bytes (spans h) i.segments)

eight_nones : (a b c d e f g k : Option Flaw) → (a then b then c then d then e then f then g then k) ≡ None
    → (a ≡ None) × (b ≡ None) × (c ≡ None) × (d ≡ None) × (e ≡ None) × (f ≡ None) × (g ≡ None) × (k ≡ None)
eight_nones a b c d e f g k h =
    let p = then_none a (b then c then d then e then f then g then k) h in
    let q = then_none b (c then d then e then f then g then k) p.1 in
    let r = then_none c (d then e then f then g then k) q.1 in
    let s = then_none d (e then f then g then k) r.1 in
    let t = then_none e (f then g then k) s.1 in
    let u = then_none f (g then k) t.1 in
    let v = then_none g k u.1 in
    (p.0, q.0, r.0, s.0, t.0, u.0, v.0, v.1)

met_with : (h : Header) (bytes : List ℕ) → IsBytes bytes → flaw_with h (places_of h) bytes ≡ None → IsHeader h bytes
unfolding flaw_with
met_with h bytes fits e =
    let len = length bytes in
    let n =
    eight_nones (flaw_of (length_check len) bytes) (first (start_checks h.role len) bytes) (first (size_checks 32 (shapes_of h.role)) bytes) (first (number_checks 32 (shapes_of h.role)) bytes)
    (first (page_zero_checks h.role len) bytes) (first (segment_checks h (places_of h) len) bytes) (first (last_checks h.role) bytes) (first (gap_checks h.role (places_of h)) bytes) e in
    let short = length_long bytes n.0 in
    let long = start_long h.role bytes n.1 in
    let at = text_at-le h.role in
    let segments = all_met (segment_checks h (places_of h) (length bytes)) bytes fits (segments_inside h (places_of h) bytes (omega arith)) n.5 in
    let ends = ends_where h (places_of h) bytes (spans h) segments in
    record {
      start = all_met (start_checks h.role (length bytes)) bytes fits (start_inside h.role bytes short) n.1;
      sizes = all_met (size_checks 32 (shapes_of h.role)) bytes fits (sizes_inside h.role bytes long) n.2;
      numbers = all_met (number_checks 32 (shapes_of h.role)) bytes fits (numbers_inside h.role bytes long) n.3;
      page_zero = all_met (page_zero_checks h.role (length bytes)) bytes fits (page_zero_inside h.role bytes long) n.4;
      segments = segments;
      last = all_met (last_checks h.role) bytes fits (last_inside h.role bytes long) n.6;
      gaps = all_met (gap_checks h.role (places_of h)) bytes fits (gaps_inside h (places_of h) bytes (spans h) ends) n.7;
    }

pub header_found : (bytes : List ℕ) → IsBytes bytes → header_flaw bytes ≡ None → IsHeader (taken bytes) bytes
unfolding header_flaw
header_found bytes fits e = met_with (taken bytes) bytes fits e

-- ---- the sizes have room in four bytes

small_with : (h : Header) (p : Places) (s : Sizes) (bytes : List ℕ) → Spans h p → header_of s ≡ h → AllMet bytes (segment_checks h p (length bytes)) → AreSmall s
unfolding segment_checks stubs_section consts_section got_section cells_section section_of fixups_command symbols_command
small_with h p s bytes n e m =
    let stubs = m.1.1.0.1.2.2.2.2.0 in
    let consts = m.1.1.1.0.1.2.2.2.2.0 in
    let got = m.1.1.1.1.1.0.1.2.2.2.2.0 in
    let cells = m.1.1.1.1.1.1.0.1.2.2.2.2.0 in
    let fixups = m.1.1.1.1.1.1.1.1.1.0.1 in
    let symbols = m.1.1.1.1.1.1.1.1.1.1.0.1 in
    let t : s.text ≡ h.text = ap (λ (x : Header). x.text) e in
    let u : s.stubs ≡ h.stubs = ap (λ (x : Header). x.stubs) e in
    let v : s.consts ≡ h.consts = ap (λ (x : Header). x.consts) e in
    let w : s.got ≡ h.got = ap (λ (x : Header). x.got) e in
    let x : s.cells ≡ h.cells = ap (λ (x : Header). x.cells) e in
    let y : s.fixups ≡ h.fixups = ap (λ (x : Header). x.fixups) e in
    let z : s.symbols ≡ h.symbols = ap (λ (x : Header). x.symbols) e in
    let k : s.strings ≡ h.strings = ap (λ (x : Header). x.strings) e in
    let f0 = fixups.0 in
    let f1 = fixups.2.0 in
    let s2 = symbols.2.2.0 in
    let s3 = symbols.2.2.2.0 in
    record {
      text = omega arith;
      stubs = omega arith;
      consts = omega arith;
      got = omega arith;
      cells = omega arith;
      fixups = omega arith;
      symbols = omega arith;
      strings = omega arith;
    }

pub small_sizes : (s : Sizes) (bytes : List ℕ) → IsBytes bytes → header_of s ≡ taken bytes → header_flaw bytes ≡ None → AreSmall s
small_sizes s bytes fits e f = small_with (taken bytes) (places_of (taken bytes)) s bytes (spans (taken bytes)) e (header_found bytes fits f).segments

-- ---- the bytes of a header are read as this header

role_again : (role : Role) (bytes : List ℕ) → number 4 12 bytes ≡ file_type role → role_in bytes ≡ role
role_again Main bytes e = rw e refl
role_again Library bytes e = rw e refl

role_told : (role : Role) (bytes : List ℕ) → AllMet bytes (start_checks role (length bytes)) → role_in bytes ≡ role
unfolding start_checks start_of
role_told role bytes m = role_again role bytes (values_at 0 (start_of role) bytes m.0).1.1.1.0

moved : (n at to x : ℕ) (bytes : List ℕ) → at ≡ to → number n at bytes ≡ x → number n to bytes ≡ x
moved n at to x bytes e h = ap (λ (k : ℕ). number n k bytes) (sym e) ∙ h

taken_told : (h : Header) (bytes : List ℕ) → AllMet bytes (segment_checks h (places_of h) (length bytes)) → taken_for h.role bytes ≡ h
unfolding segment_checks text_section stubs_section consts_section got_section cells_section section_of fixups_command symbols_command
taken_told h bytes m =
    let p = places_of h in
    let at = text_at h.role in
    let text_at = at + section_at sections.Text in
    let stubs_at = at + section_at sections.Stubs in
    let consts_at = at + section_at sections.Consts in
    let got_at = at + section_at sections.Got in
    let cells_at = at + section_at sections.Cells in
    let fixups = at + fixups_at in
    let symbols = at + symbols_at in
    let told_text = values_at text_at (text_section h) bytes m.1.0 in
    let told_stubs = values_at stubs_at (stubs_section h p) bytes m.1.1.0 in
    let told_consts = values_at consts_at (consts_section h p) bytes m.1.1.1.0 in
    let told_got = values_at got_at (got_section h p) bytes m.1.1.1.1.1.0 in
    let told_cells = values_at cells_at (cells_section h p) bytes m.1.1.1.1.1.1.0 in
    let told_fixups = values_at (fixups + load_command) (fixups_command h p) bytes m.1.1.1.1.1.1.1.1.1.0 in
    let told_symbols = values_at (symbols + load_command) (symbols_command h p) bytes m.1.1.1.1.1.1.1.1.1.1.0 in
    let whole : h.symbols % 16 ≡ 0 = eqb-true _ _ m.1.1.1.1.1.1.1.1.1.1.0.1.2.1 in
    let count : number 4 (symbols + symbol_count) bytes ≡ h.symbols / 16 = moved 4 (symbols + load_command + 4) (symbols + symbol_count) (h.symbols / 16) bytes (omega arith) told_symbols.1.0 in
    headers_are h.role h.role _ h.text _ h.stubs _ h.consts _ h.got _ h.cells _ h.fixups _ h.symbols _ h.strings refl
    (moved 8 (text_at + 16 + 16 + 8) (text_at + section_size) h.text bytes (omega arith) told_text.1.1.1.0)
    (moved 8 (stubs_at + 16 + 16 + 8) (stubs_at + section_size) h.stubs bytes (omega arith) told_stubs.1.1.1.0)
    (moved 8 (consts_at + 16 + 16 + 8) (consts_at + section_size) h.consts bytes (omega arith) told_consts.1.1.1.0)
    (moved 8 (got_at + 16 + 16 + 8) (got_at + section_size) h.got bytes (omega arith) told_got.1.1.1.0)
    (moved 8 (cells_at + 16 + 16 + 8) (cells_at + section_size) h.cells bytes (omega arith) told_cells.1.1.1.0)
    (moved 4 (fixups + load_command + 4) (fixups + data_size) h.fixups bytes (omega arith) told_fixups.1.0)
    (omega arith)
    (moved 4 (symbols + load_command + 4 + 4 + 4) (symbols + strings_size) h.strings bytes (omega arith) told_symbols.1.1.1.0)

pub taken_again : (h : Header) (bytes : List ℕ) → IsHeader h bytes → taken bytes ≡ h
unfolding taken
taken_again h bytes i = ap (λ (role : Role). taken_for role bytes) (role_told h.role bytes i.start) ∙ taken_told h bytes i.segments

long_told : (role : Role) (bytes : List ℕ) → AllMet bytes (start_checks role (length bytes)) → 32 ≤ length bytes
unfolding start_checks counts_of
long_told role bytes m =
    let le : commands_end role ≤ length bytes = leb-true _ _ m.1.1.0.1.2.1 in
    let more = text_at-le role in
    omega arith

flaw_again : (h : Header) (bytes : List ℕ) → IsHeader h bytes → flaw_with h (places_of h) bytes ≡ None
unfolding flaw_with length_check
flaw_again h bytes i =
    none_then _ _ (none_of_meets (length_check (length bytes)) bytes (le-leb _ _ (long_told h.role bytes i.start)))
    (none_then _ _ (none_first (start_checks h.role (length bytes)) bytes i.start)
    (none_then _ _ (none_first (size_checks 32 (shapes_of h.role)) bytes i.sizes)
    (none_then _ _ (none_first (number_checks 32 (shapes_of h.role)) bytes i.numbers)
    (none_then _ _ (none_first (page_zero_checks h.role (length bytes)) bytes i.page_zero)
    (none_then _ _ (none_first (segment_checks h (places_of h) (length bytes)) bytes i.segments)
    (none_then _ _ (none_first (last_checks h.role) bytes i.last)
    (none_first (gap_checks h.role (places_of h)) bytes i.gaps)))))))

pub header_again : (h : Header) (bytes : List ℕ) → IsHeader h bytes → header_flaw bytes ≡ None
unfolding header_flaw
header_again h bytes i = subst (λ (x : Header). flaw_with x (places_of x) bytes ≡ None) (sym (taken_again h bytes i)) (flaw_again h bytes i)

-- ---- answers

pub is_found : (bytes : List ℕ) (h : Header) → IsBytes bytes → h ≡ taken bytes → header_flaw bytes ≡ None → IsHeader h bytes
is_found bytes h fits e f = subst (λ (x : Header). IsHeader x bytes) (sym e) (header_found bytes fits f)

pub is_only : (bytes : List ℕ) (given : Header) → given ≡ taken bytes → (h : Header) → IsHeader h bytes → given ≡ h
is_only bytes given v h i = v ∙ taken_again h bytes i

pub none_only : (bytes : List ℕ) (told : Flaw) → header_flaw bytes ≡ Some told → (h : Header) → IsHeader h bytes → ⊥
none_only bytes told f h i = let e = header_again h bytes i in absurd cc

pub refused : (bytes : List ℕ) (result : Result Header (Fault ImageRule)) (told : Flaw) → IsErrAnd result (λ fault. fault ≡ Refused told.rule told.place) → header_flaw bytes ≡ Some told → Refuses result (header_flaw bytes)
refused bytes (Ok h) told e f = absurd e
refused bytes (Err fault) told e f = subst (λ (x : Fault ImageRule). Refuses {A = Header} (Err x) (header_flaw bytes)) (sym e) f
