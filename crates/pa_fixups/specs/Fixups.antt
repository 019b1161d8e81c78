-- The fixups of an image: a header, the starts of the pages' chains, the imports and their names (mach-o/fixup-chains.h:
-- dyld_chained_fixups_header, .._starts_in_image, .._starts_in_segment, .._import).
use Rattle.std.specs.Prelude.{◌≡◌, ℕ, zero, suc, ◌+◌, ◌-◌, ◌*◌, ◌/◌, ◌%◌, ◌^◌, true, ◌&&◌, ◌==◌, nat_le, nat_lt, if◌then◌else◌, min, List, [], ◌∷◌, length, drop, map, replicate, Option}
use Rattle.std.specs.List.{concat, after_first}
use Rattle.pa_num.specs.declared.fault.ImageRule.TheVariants.{H3, F1, F2, F7}
use Rattle.pa_layout.specs.declared.checks.Flaw.{Flaw}
use Rattle.pa_layout.specs.declared.field.FileField.{FileField}
use Rattle.pa_layout.specs.Fields.{number, numbers, two, four, eight, spelled, AllFit}
use Rattle.pa_layout.specs.Flaws.{Check, Fields, Zeros, Holds, first, flaw_of, ◌then◌}
use Rattle.pa_layout.specs.Names.{is_zero, ended, are_names, name_length, has_end, cut, behind}
use Rattle.pa_fixups.specs.declared.tables.DataAt.{DataAt}
use Rattle.pa_fixups.specs.declared.tables.Fixups.{Fixups}

-- ---- places

abbrev pub starts_end : DataAt → ℕ
starts_end at = 78 + 2 * at.pages

-- at the next multiple of 4
abbrev pub imports_at : DataAt → ℕ
imports_at at = (starts_end at + 3) / 4 * 4

abbrev pub names_at : DataAt → ℕ → ℕ
names_at at count = imports_at at + 4 * count

-- ---- tables

-- version 0, where starts, imports and names begin, how many imports there are, their format 1, the names' format 0, and a
-- gap
unfoldable pub header_of : DataAt → ℕ → List FileField
header_of at count =
    four 0 ∷ four 32 ∷ four (imports_at at) ∷ four (names_at at count) ∷ four count ∷ four 1 ∷ four 0 ∷ four 0 ∷ []

-- __DATA, the last segment but one, has starts, after the offsets of the segments
abbrev pub segment_offset : ℕ → ℕ → FileField
segment_offset segments segment = four (if segments == segment + 2 then 24 else 0)

-- the count of segments, and an offset for each; what is after the last of them is zero too
unfoldable pub segments_of : DataAt → List FileField
segments_of at =
    four at.segments ∷ segment_offset at.segments 0 ∷ segment_offset at.segments 1 ∷ segment_offset at.segments 2
    ∷ segment_offset at.segments 3 ∷ segment_offset at.segments 4 ∷ []

-- their size with the starts, the size of a page, the format of pointers, where __DATA begins, no largest pointer, and the
-- count of pages
unfoldable pub pages_of : DataAt → List FileField
pages_of at = four (22 + 2 * at.pages) ∷ two 0x4000 ∷ two 1 ∷ eight at.offset ∷ four 0 ∷ two at.pages ∷ []

-- an import of library 1 that isn't weak, whose name stands at that place among the names
abbrev pub entry : ℕ → FileField
entry place = four (1 + 2 ^ 9 * place)

-- the entries of imports whose names stand one after another from a place on
abbrev pub entries : ℕ → List (List ℕ) → List FileField
entries place [] = []
entries place (name ∷ names) = entry place ∷ entries (place + (length name + 1)) names

-- ---- the bytes

unfoldable pub fixups_bytes : DataAt → Fixups → List ℕ
fixups_bytes at fixups =
    let count = length fixups.imports in
    concat
    (spelled (header_of at count) ∷ spelled (segments_of at) ∷ spelled (pages_of at) ∷ spelled (map two fixups.starts)
    ∷ replicate (imports_at at - starts_end at) 0 ∷ spelled (entries 1 fixups.imports) ∷ (0 ∷ []) ∷ ended fixups.imports ∷ [])

abbrev pub fixups_with : List ℕ → List (List ℕ) → Fixups
fixups_with starts imports = record { starts = starts; imports = imports }

-- there is a start for each page, each number has room in its field, and no name has a zero byte
pub record FixupsFit (at : DataAt) (fixups : Fixups) : Type 0 where
  pub pages : length fixups.starts ≡ at.pages
  pub header : AllFit (header_of at (length fixups.imports))
  pub segments : AllFit (segments_of at)
  pub before_starts : AllFit (pages_of at)
  pub starts : AllFit (map two fixups.starts)
  pub imports : AllFit (entries 1 fixups.imports)
  pub names : are_names fixups.imports ≡ true

-- imports that fixups can have
pub record ImportsFit (at : DataAt) (names_of : List (List ℕ)) : Type 0 where
  pub header : AllFit (header_of at (length names_of))
  pub segments : AllFit (segments_of at)
  pub before_starts : AllFit (pages_of at)
  pub imports : AllFit (entries 1 names_of)
  pub names : are_names names_of ≡ true

-- the part of an image that holds just these fixups
pub record IsPart (at : DataAt) (fixups : Fixups) (part : List ℕ) : Type 0 where
  pub bytes_are : part ≡ fixups_bytes at fixups
  pub fit : FixupsFit at fixups

-- ---- reading

-- how many imports the header tells
abbrev pub count_in : List ℕ → ℕ
count_in part = number 4 16 part

-- the names with what stands after them
abbrev pub text_in : DataAt → List ℕ → List ℕ
text_in at part = drop (names_at at (count_in part) + 1) part

abbrev pub taken : DataAt → List ℕ → Fixups
taken at part = record { starts = numbers at.pages 2 78 part; imports = cut (count_in part) (text_in at part) }

-- the padding before the imports, as far as it lies inside, then the room for the header and the starts
unfoldable pub starts_checks : DataAt → ℕ → List Check
starts_checks at len =
    Zeros H3 (min (starts_end at) len) (min (imports_at at) len)
    ∷ Holds F1 0 (nat_le 28 len)
    ∷ Holds F1 32 (nat_le (starts_end at) len)
    ∷ []

unfoldable pub table_checks : DataAt → ℕ → ℕ → List Check
table_checks at count len =
    Fields F2 0 (header_of at count)
    ∷ Fields F2 32 (segments_of at)
    ∷ Fields F2 56 (pages_of at)
    ∷ Holds F1 (imports_at at) (nat_le (names_at at count) len)
    ∷ Holds F1 (names_at at count) (nat_lt (names_at at count) len)
    ∷ []

-- each of n entries from a place on is that of an import of library 1 that isn't weak
abbrev pub entry_checks : ℕ → ℕ → List ℕ → List Check
entry_checks zero place part = []
entry_checks (suc n) place part = Holds F2 place (number 4 place part % 2 ^ 9 == 1) ∷ entry_checks n (place + 4) part

-- each entry tells where its name begins, which is where the one before it has ended
abbrev pub name_checks : ℕ → ℕ → ℕ → List ℕ → List ℕ → List Check
name_checks zero place at part text = []
name_checks (suc n) place at part text =
    Holds F7 place ((number 4 place part / 2 ^ 9 == at) && has_end text)
    ∷ name_checks n (place + 4) (at + (name_length text + 1)) part (after_first is_zero text)

-- nothing stands after the last name
abbrev pub end_check : ℕ → List ℕ → List ℕ → Check
end_check count part text = Holds F1 (length part - length (behind count text)) (length (behind count text) == 0)

-- the first check that fails, with its place
unfoldable pub fixups_flaw : DataAt → List ℕ → Option Flaw
fixups_flaw at part =
    let count = count_in part in
    let names = names_at at count in
    first (starts_checks at (length part)) part
    then first (table_checks at count (length part)) part
    then first (entry_checks count (imports_at at) part) part
    then flaw_of (Zeros F2 names (names + 1)) part
    then first (name_checks count (imports_at at) 1 part (text_in at part)) part
    then flaw_of (end_check count part (text_in at part)) part
