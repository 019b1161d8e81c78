-- What is known once a check of a header has passed.
use Rattle.std.proofs.Common.{◌≡◌, ℕ, ◌+◌, ◌-◌, ◌≤◌, List, [], ◌∷◌, length, None, refl, arith}
use Rattle.std.proofs.lemmas.Bool.{leb-true}
use Rattle.pa_num.specs.declared.fault.ImageRule.TheVariants.{H1, H2, H3}
use Rattle.pa_layout.specs.Flaws.{Fields, flaw_of, first}
use Rattle.pa_layout.proofs.Facts.{each_none, fields_allowed, holds_le}
use Rattle.pa_macho.specs.declared.header.Role.{Role}
use Rattle.pa_macho.specs.declared.header.Role.TheVariants.{Main, Library}
use Rattle.pa_macho.specs.declared.header.Header.{Header}
use Rattle.pa_macho.specs.declared.places.Places.{Places}
use Rattle.pa_macho.specs.declared.commands.CommandShape.{CommandShape}
use Rattle.pa_macho.specs.declared.commands.SegmentName.{SegmentName}
use Rattle.pa_macho.specs.declared.commands.SegmentName.TheVariants as segments
use Rattle.pa_macho.specs.declared.commands.SectionName.{SectionName}
use Rattle.pa_macho.specs.declared.commands.SectionName.TheVariants as sections
use Rattle.pa_macho.specs.Layout.{front_size, page_size, counts_of, command_count, commands_end, text_at, segment_at, section_at, shapes_of, segment_of, linkedit_segment, places_of, Ordered}
use Rattle.pa_macho.specs.Reading.{HasRoom, length_check, start_checks}

pub length_long : (bytes : List ℕ) → flaw_of (length_check (length bytes)) bytes ≡ None → 32 ≤ length bytes
unfolding length_check
length_long bytes e = holds_le H1 0 32 (length bytes) bytes e

pub start_long : (role : Role) (bytes : List ℕ) → first (start_checks role (length bytes)) bytes ≡ None → commands_end role ≤ length bytes
unfolding start_checks counts_of
start_long role bytes e = leb-true _ _ (fields_allowed H2 16 (counts_of role (length bytes)) bytes (each_none (start_checks role (length bytes)) bytes e).1.1.0).1.0

pub shapes_room : (role : Role) (len : ℕ) → commands_end role ≤ len → HasRoom 32 (shapes_of role) len
unfolding shapes_of
shapes_room Main len le = (omega arith, (omega arith, (omega arith, (omega arith, (omega arith, (omega arith, (omega arith, (omega arith, tt))))))))
shapes_room Library len le = (omega arith, (omega arith, (omega arith, (omega arith, (omega arith, (omega arith, tt))))))

-- the entries of segments and sections stand before the load commands' end

pub segment_early : (role : Role) (name : SegmentName) → text_at role + segment_at name + 64 ≤ commands_end role
segment_early Main segments.Text = omega arith
segment_early Main segments.Data = omega arith
segment_early Main segments.Linkedit = omega arith
segment_early Library segments.Text = omega arith
segment_early Library segments.Data = omega arith
segment_early Library segments.Linkedit = omega arith

pub section_early : (role : Role) (name : SectionName) → text_at role + section_at name + 80 ≤ commands_end role
section_early Main sections.Text = omega arith
section_early Main sections.Stubs = omega arith
section_early Main sections.Consts = omega arith
section_early Main sections.Got = omega arith
section_early Main sections.Cells = omega arith
section_early Library sections.Text = omega arith
section_early Library sections.Stubs = omega arith
section_early Library sections.Consts = omega arith
section_early Library sections.Got = omega arith
section_early Library sections.Cells = omega arith

-- the counts and the ends that the header tells are those of the list of commands
pub sizes : List CommandShape → ℕ
sizes [] = 0
sizes (shape ∷ shapes) = shape.size + sizes shapes

pub commands_counted : (role : Role) → command_count role ≡ length (shapes_of role)
unfolding shapes_of
commands_counted Main = refl
commands_counted Library = refl

pub commands_measured : (role : Role) → commands_end role ≡ 32 + sizes (shapes_of role)
unfolding shapes_of sizes
commands_measured Main = refl
commands_measured Library = refl

pub linkedit_ends : (h : Header) (p : Places) (at len : ℕ) (bytes : List ℕ) → Ordered p → flaw_of (Fields H3 at (linkedit_segment h p len)) bytes ≡ None → p.end ≤ len
unfolding linkedit_segment segment_of
linkedit_ends h p at len bytes o e =
    let le : p.linkedit + (p.end - p.linkedit) ≤ len = leb-true _ _ (fields_allowed H3 at (linkedit_segment h p len) bytes e).1.1.1.1.0 in
    omega arith

-- ---- places

-- each part has its bytes
pub record Spans (h : Header) (p : Places) : Type 0 where
  pub text : p.text_end ≡ front_size + h.text
  pub stubs : p.stubs_end ≡ p.stubs + h.stubs
  pub consts : p.consts_end ≡ p.consts + h.consts
  pub got : p.got_end ≡ p.got + h.got
  pub cells : p.cells_end ≡ p.cells + h.cells
  pub fixups : p.fixups_end ≡ p.linkedit + h.fixups
  pub symbols : p.symbols_end ≡ p.symbols + h.symbols
  pub strings : p.end ≡ p.strings + h.strings
  pub got_from : p.consts_end ≤ p.got
  pub stubs_from : p.text_end ≤ p.stubs
  pub consts_from : p.stubs_end ≤ p.consts
  pub cells_from : p.got_end ≤ p.cells
  pub linkedit_from : p.cells_end ≤ p.linkedit
  pub page : p.got + page_size ≤ p.linkedit
  pub symbols_from : p.fixups_end ≤ p.symbols
  pub strings_from : p.symbols_end ≤ p.strings

pub spans : (h : Header) → Spans h (places_of h)
unfolding places_of
spans h = record {
  text = omega arith;
  stubs = omega arith;
  consts = omega arith;
  got = omega arith;
  cells = omega arith;
  fixups = omega arith;
  symbols = omega arith;
  strings = omega arith;
  got_from = omega arith;
  stubs_from = omega arith;
  consts_from = omega arith;
  cells_from = omega arith;
  linkedit_from = omega arith;
  page = omega arith;
  symbols_from = omega arith;
  strings_from = omega arith;
}
