-- Symbols and strings are those of at most one list of marks, and a list has one spelling.
use Rattle.std.proofs.Common.{◌≡◌, ℕ, ◌*◌, ◌%◌, List, length, None, refl, sym, ◌∙◌}
use Rattle.pa_layout.proofs.Laws.{IsBytes, length-spelled}
use Rattle.pa_object.specs.declared.object.Mark.{Mark}
use Rattle.pa_symbols.specs.declared.places.TextAt.{TextAt}
use Rattle.pa_symbols.specs.declared.places.SymbolsAt.{SymbolsAt}
use Rattle.pa_symbols.specs.Symbols.{entries, symbols_of, strings_of, AreLegal, AreMarks}
use Rattle.pa_symbols.specs.Reading.{marks_from, count_in, symbols_flaw}
use Rattle.pa_symbols.proofs.Found.{size_of-entries, tables_found}
use Rattle.pa_symbols.proofs.Only.{tables_only}

pub one_list : (text : TextAt) (marks others : List Mark) (symbols strings : List ℕ) → AreMarks text marks symbols strings → AreMarks text others symbols strings → marks ≡ others
one_list text marks others symbols strings a b =
    let at : SymbolsAt = record { symbols = 0; strings = 0 } in
    sym (tables_only text at marks symbols strings a).1 ∙ (tables_only text at others symbols strings b).1

pub one_spelling : (text : TextAt) (marks : List Mark) (symbols strings others texts : List ℕ) → AreMarks text marks symbols strings → AreMarks text marks others texts → (symbols ≡ others) × (strings ≡ texts)
one_spelling text marks symbols strings others texts a b = (a.symbols_are ∙ sym b.symbols_are, a.strings_are ∙ sym b.strings_are)

-- bytes of marks have no flaw
pub no_flaw : (text : TextAt) (at : SymbolsAt) (marks : List Mark) (symbols strings : List ℕ) → AreMarks text marks symbols strings → symbols_flaw text at symbols strings ≡ None
no_flaw text at marks symbols strings m = (tables_only text at marks symbols strings m).0

-- and bytes that have none are of marks
pub has_marks : (text : TextAt) (at : SymbolsAt) (symbols strings : List ℕ) → length symbols % 16 ≡ 0 → IsBytes symbols → symbols_flaw text at symbols strings ≡ None → (marks : List Mark) × AreMarks text marks symbols strings
has_marks text at symbols strings whole bytes e = (marks_from text symbols strings 0 (count_in symbols), tables_found text at symbols strings whole bytes e)

-- legal marks have just these bytes
pub are_spelled : (text : TextAt) (marks : List Mark) → AreLegal text marks → AreMarks text marks (symbols_of text marks) (strings_of marks)
are_spelled text marks legal = record { symbols_are = refl; strings_are = refl; legal = legal }

-- an entry has 16 bytes
pub length-symbols_of : (text : TextAt) (marks : List Mark) → length (symbols_of text marks) ≡ 16 * length marks
length-symbols_of text marks = length-spelled (entries 1 text.address marks) ∙ size_of-entries 1 text.address marks
