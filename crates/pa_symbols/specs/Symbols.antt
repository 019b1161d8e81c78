-- The symbols and the strings of an image, and the marks that they stand for (mach-o/nlist.h: nlist_64, and
-- mach-o/loader.h: symtab_command).
use Rattle.std.specs.Prelude.{◌≡◌, ◌≢◌, ℕ, ◌+◌, ◌*◌, ◌<◌, Bool, true, false, List, [], ◌∷◌, ◌++◌, length, map, filter, All}
use Rattle.std.specs.List.{IsDistinct}
use Rattle.std.specs.Str.{bytes_eq}
use Rattle.pa_layout.specs.declared.field.FileField.{FileField}
use Rattle.pa_layout.specs.Fields.{two, four, eight, spelled, AllFit}
use Rattle.pa_layout.specs.Names.{ended, are_names}
use Rattle.pa_object.specs.declared.object.Mark.{Mark}
use Rattle.pa_object.specs.Linkable.{Ascends}
use Rattle.pa_symbols.specs.declared.places.TextAt.{TextAt}

abbrev pub Text : Type 0
Text = List ℕ

-- ---- the symbols

-- n_type and after it n_sect: a place in a section, which other images see (N_SECT with N_EXT) or don't see (N_SECT), and
-- section 1, which is __text
abbrev pub kind_of : Bool → ℕ
kind_of true = 0x0F + 256 * 1
kind_of false = 0x0E + 256 * 1

-- n_strx, n_type with n_sect, n_desc, n_value
abbrev pub entry_of : (place address : ℕ) → Mark → List FileField
entry_of place address mark = four place ∷ two (kind_of mark.public) ∷ two 0 ∷ eight (address + 4 * mark.at) ∷ []

-- an entry for each mark, whose names begin one after another from a place on; the code begins at the address
abbrev pub entries : (place address : ℕ) → List Mark → List FileField
entries place address [] = []
entries place address (mark ∷ marks) = entry_of place address mark ++ entries (place + (length mark.name + 1)) address marks

-- ---- the bytes

abbrev pub names_of : List Mark → List Text
names_of marks = map (λ mark. mark.name) marks

-- the names that other images see
abbrev pub public_names : List Mark → List Text
public_names marks = names_of (filter (λ mark. mark.public) marks)

abbrev pub symbols_of : TextAt → List Mark → List ℕ
symbols_of text marks = spelled (entries 1 text.address marks)

-- a zero byte, and the names, each with a zero byte after it
abbrev pub strings_of : List Mark → List ℕ
strings_of marks = 0 ∷ ended (names_of marks)

-- ---- which marks symbols can stand for

pub record AreLegal (text : TextAt) (marks : List Mark) : Type 0 where
  pub ascend : Ascends (map (λ mark. mark.at) marks)
  pub in_text : All (λ mark. mark.at < text.words) marks
  pub some : All (λ name. name ≢ []) (names_of marks)
  pub no_zeros : are_names (names_of marks) ≡ true
  pub distinct : IsDistinct bytes_eq (public_names marks)
  pub fit : AllFit (entries 1 text.address marks)

-- the marks are those of these symbols and strings
pub record AreMarks (text : TextAt) (marks : List Mark) (symbols strings : List ℕ) : Type 0 where
  pub symbols_are : symbols ≡ symbols_of text marks
  pub strings_are : strings ≡ strings_of marks
  pub legal : AreLegal text marks
