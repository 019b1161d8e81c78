-- What the entries of a symbol table tell, each by its place, and the first flaw.
use Rattle.std.specs.Prelude.{ℕ, zero, suc, ◌+◌, ◌-◌, ◌*◌, ◌/◌, ◌%◌, Bool, true, false, not, ◌&&◌, ◌||◌, ◌==◌, nat_le, nat_lt, List, [], ◌∷◌, length, drop, slice_index, Option}
use Rattle.std.specs.List.{before_first}
use Rattle.std.specs.Str.{bytes_eq}
use Rattle.pa_num.specs.declared.fault.ImageRule.TheVariants.{H5}
use Rattle.pa_layout.specs.declared.checks.Flaw.{Flaw}
use Rattle.pa_layout.specs.Fields.{number}
use Rattle.pa_layout.specs.Flaws.{Check, Holds, first, flaw_of, ◌then◌}
use Rattle.pa_layout.specs.Names.{is_zero, name_length}
use Rattle.pa_object.specs.declared.object.Mark.{Mark}
use Rattle.pa_symbols.specs.declared.entry.Entry.{Entry}
use Rattle.pa_symbols.specs.declared.places.TextAt.{TextAt}
use Rattle.pa_symbols.specs.declared.places.SymbolsAt.{SymbolsAt}
use Rattle.pa_symbols.specs.Names.{name_due}
use Rattle.pa_symbols.specs.Symbols.{Text, kind_of}

-- ---- what entry k tells

-- n_strx
abbrev pub place_in : List ℕ → ℕ → ℕ
place_in symbols k = number 4 (16 * k) symbols

-- n_type with n_sect
abbrev pub kind_in : List ℕ → ℕ → ℕ
kind_in symbols k = number 2 (16 * k + 4) symbols

-- n_desc
abbrev pub description_in : List ℕ → ℕ → ℕ
description_in symbols k = number 2 (16 * k + 6) symbols

-- n_value
abbrev pub address_in : List ℕ → ℕ → ℕ
address_in symbols k = number 8 (16 * k + 8) symbols

-- all four
abbrev pub entry_in : List ℕ → ℕ → Entry
entry_in symbols k = record {
  place = place_in symbols k;
  kind = kind_in symbols k;
  description = description_in symbols k;
  address = address_in symbols k;
}

abbrev pub is_public : List ℕ → ℕ → Bool
is_public symbols k = kind_in symbols k == kind_of true

-- the strings from where the entry's name begins
abbrev pub text_in : List ℕ → List ℕ → ℕ → List ℕ
text_in symbols strings k = drop (place_in symbols k) strings

-- up to its zero byte
abbrev pub name_in : List ℕ → List ℕ → ℕ → Text
name_in symbols strings k = before_first is_zero (text_in symbols strings k)

abbrev pub mark_in : TextAt → List ℕ → List ℕ → ℕ → Mark
mark_in text symbols strings k = record {
  name = name_in symbols strings k;
  at = (address_in symbols k - text.address) / 4;
  public = is_public symbols k;
}

-- those of n entries from entry k on
abbrev pub marks_from : TextAt → List ℕ → List ℕ → (k n : ℕ) → List Mark
marks_from text symbols strings k zero = []
marks_from text symbols strings k (suc n) = mark_in text symbols strings k ∷ marks_from text symbols strings (suc k) n

-- ---- what holds at entry k

-- the first name begins after one byte, and each other one after the zero byte of the name before
abbrev pub due_place : List ℕ → List ℕ → ℕ → ℕ
due_place symbols strings zero = 1
due_place symbols strings (suc k) = place_in symbols k + (name_length (text_in symbols strings k) + 1)

-- the name is where it has to be, isn't empty and has its end
abbrev pub name_stands : List ℕ → List ℕ → ℕ → Bool
name_stands symbols strings k = name_due strings (place_in symbols k) (due_place symbols strings k)

abbrev pub is_kind : ℕ → Bool
is_kind kind = (kind == kind_of true) || (kind == kind_of false)

-- the address is that of a word of the code
abbrev pub is_of_word : TextAt → ℕ → Bool
is_of_word text address =
    nat_le text.address address
    && (((address - text.address) % 4 == 0) && nat_lt ((address - text.address) / 4) text.words)

-- it is above that of the entry before
abbrev pub ascends_at : List ℕ → ℕ → Bool
ascends_at symbols zero = true
ascends_at symbols (suc k) = nat_lt (address_in symbols k) (address_in symbols (suc k))

-- one of the first k entries is public and has that name
abbrev pub public_before : List ℕ → List ℕ → ℕ → Text → Bool
public_before symbols strings zero name = false
public_before symbols strings (suc k) name =
    (is_public symbols k && bytes_eq (name_in symbols strings k) name) || public_before symbols strings k name

abbrev pub is_first_public : List ℕ → List ℕ → ℕ → Bool
is_first_public symbols strings k =
    not (is_public symbols k && public_before symbols strings k (name_in symbols strings k))

unfoldable pub entry_stands : TextAt → List ℕ → List ℕ → ℕ → Bool
entry_stands text symbols strings k =
    (is_kind (kind_in symbols k) && ((description_in symbols k == 0) && is_of_word text (address_in symbols k)))
    && (ascends_at symbols k && (name_stands symbols strings k && is_first_public symbols strings k))

-- ---- the first flaw

abbrev pub count_in : List ℕ → ℕ
count_in symbols = length symbols / 16

-- n entries from entry k on, each told at its place in the file
abbrev pub entry_checks : TextAt → SymbolsAt → List ℕ → List ℕ → (k n : ℕ) → List Check
entry_checks text at symbols strings k zero = []
entry_checks text at symbols strings k (suc n) =
    Holds H5 (at.symbols + 16 * k) (entry_stands text symbols strings k) ∷ entry_checks text at symbols strings (suc k) n

-- the strings begin with a zero byte, and end after the last name's
abbrev pub strings_check : SymbolsAt → List ℕ → List ℕ → Check
strings_check at symbols strings = Holds H5 at.strings
    ((slice_index strings 0 == 0) && (due_place symbols strings (count_in symbols) == length strings))

unfoldable pub symbols_flaw : TextAt → SymbolsAt → List ℕ → List ℕ → Option Flaw
symbols_flaw text at symbols strings =
    first (entry_checks text at symbols strings 0 (count_in symbols)) symbols
    then flaw_of (strings_check at symbols strings) symbols
