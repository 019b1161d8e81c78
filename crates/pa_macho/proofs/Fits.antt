-- Fields have room for their numbers exactly where the test says so.
use Rattle.std.proofs.Common.{◌≡◌, ℕ, ◌≤◌, ◌&&◌, Bool, leb, true, List, arith, refl}
use Rattle.std.proofs.lemmas.Bool.{le-leb, and_parts}
use Rattle.pa_layout.specs.declared.field.FileField.{FileField}
use Rattle.pa_layout.specs.Fields.{AllFit, all_have_room}
use Rattle.pa_layout.proofs.Laws.{fit_from_room, room_from_fit}
use Rattle.pa_macho.specs.declared.header.Role.{Role}
use Rattle.pa_macho.specs.declared.header.Role.TheVariants.{Main, Library}
use Rattle.pa_macho.specs.declared.header.Header.{Header}
use Rattle.pa_macho.specs.declared.places.Places.{Places}
use Rattle.pa_macho.specs.Writing.{FieldsFit}
use Rattle.pa_macho.specs.Layout.{text_segment, text_section, stubs_section, consts_section, data_segment, got_section, cells_section, linkedit_segment, fixups_command, symbols_command, start_of, counts_of, flags_of, page_zero_of, segment_of, entry_command, library_command}

pub room_fits : (fields : List FileField) → all_have_room fields ≡ true → AllFit fields
room_fits fields e = fit_from_room fields e

pub fits_room : (fields : List FileField) → AllFit fields → all_have_room fields ≡ true
fits_room fields h = room_from_fit fields h

pub page_zero_fits : (len : ℕ) → AllFit (page_zero_of len)
unfolding page_zero_of segment_of
page_zero_fits len =
    let some : leb 0 len ≡ true = le-leb 0 len (omega arith) in
    fit_from_room (page_zero_of len) (rw some refl)

pub start_fits : (role : Role) → AllFit (start_of role)
unfolding start_of
start_fits Main = fit_from_room (start_of Main) refl
start_fits Library = fit_from_room (start_of Library) refl

pub flags_fit : (role : Role) → AllFit (flags_of role)
unfolding flags_of
flags_fit Main = fit_from_room (flags_of Main) refl
flags_fit Library = fit_from_room (flags_of Library) refl

pub counts_fit : (role : Role) (len : ℕ) → 824 ≤ len → AllFit (counts_of role len)
unfolding counts_of
counts_fit Main len le =
    let inside : leb 824 len ≡ true = le-leb 824 len le in
    fit_from_room (counts_of Main len) (rw inside refl)
counts_fit Library len le =
    let inside : leb 728 len ≡ true = le-leb 728 len (omega arith) in
    fit_from_room (counts_of Library len) (rw inside refl)

pub entry_fits : AllFit entry_command
unfolding entry_command
entry_fits = fit_from_room entry_command refl

pub library_fits : AllFit library_command
unfolding library_command
library_fits = fit_from_room library_command refl

-- ---- the fields of a whole header

abbrev pub have_room : Header → Places → Bool
have_room h p =
    all_have_room (text_segment h p p.end) && (all_have_room (text_section h) && (all_have_room (stubs_section h p) && (all_have_room (consts_section h p)
    && (all_have_room (data_segment h p p.end) && (all_have_room (got_section h p) && (all_have_room (cells_section h p)
    && (all_have_room (linkedit_segment h p p.end) && (all_have_room (fixups_command h p) && all_have_room (symbols_command h p)))))))))

pub fields_fit : (h : Header) (p : Places) → have_room h p ≡ true → FieldsFit h p
fields_fit h p e =
    let a = and_parts _ _ e in
    let b = and_parts _ _ a.1 in
    let c = and_parts _ _ b.1 in
    let d = and_parts _ _ c.1 in
    let f = and_parts _ _ d.1 in
    let g = and_parts _ _ f.1 in
    let i = and_parts _ _ g.1 in
    let j = and_parts _ _ i.1 in
    let k = and_parts _ _ j.1 in
    record {
      text_segment = room_fits (text_segment h p p.end) a.0;
      text = room_fits (text_section h) b.0;
      stubs = room_fits (stubs_section h p) c.0;
      consts = room_fits (consts_section h p) d.0;
      data_segment = room_fits (data_segment h p p.end) f.0;
      got = room_fits (got_section h p) g.0;
      cells = room_fits (cells_section h p) i.0;
      linkedit = room_fits (linkedit_segment h p p.end) j.0;
      fixups = room_fits (fixups_command h p) k.0;
      symbols = room_fits (symbols_command h p) k.1;
    }
