-- A reader as a place in the bytes, and names as a list.
use Rattle.std.specs.Prelude.{◌≡◌, ℕ, ◌+◌, ◌^◌, ◌<◌, length, List, map, false, Option, Some, None, slice_get}
use Rattle.std.specs.List.{list_any}
use Rattle.std.specs.Str.{bytes_eq}
use Rattle.std.specs.Ordering.{nat_cmp}
use Rattle.std.specs.declared.cmp.Ordering.{Ordering}
use Rattle.std.specs.Cmp.Lexicographic.{slice_cmp}
use Rattle.std.specs.BTreeMap as tree
use denote.Ref.{Bor}
use Rattle.pa_lex.specs.declared.reader.Reader.TheInside.{Inside}
use Rattle.pa_lex.specs.declared.names.Names.TheInside.{Inside as Names}
use Rattle.pa_lex.specs.Texts.{Text}
use Rattle.pa_lex.specs.Lexes.{Cursor}

abbrev pub cursor_of : Inside → Cursor
cursor_of r = record { at = r.at; first = r.first; ahead = r.ahead.now }

abbrev pub IsInFile : Inside → Type 0
IsInFile r = r.at + length r.ahead.now < 2 ^ 32

abbrev pub texts : List (Bor Text) → List Text
texts items = map (λ text. text.now) items

abbrev pub texts_of : Names → List Text
texts_of names = texts names.texts.items

-- the order of the table
abbrev pub order : Bor Text → Bor Text → Ordering
order a b = slice_cmp nat_cmp a.now b.now

-- the number that the table has for a text
abbrev pub number_of : Names → Bor Text → Option ℕ
number_of names text = tree.get order names.numbers text

-- the table has the number of each name, and of no other text
pub record IsNumberTable (names : Names) : Type 0 where
  pub number : (text : Bor Text) (n : ℕ) → number_of names text ≡ Some n → slice_get (texts_of names) n ≡ Some text.now
  pub absent : (text : Bor Text) → number_of names text ≡ None → list_any (bytes_eq text.now) (texts_of names) ≡ false
