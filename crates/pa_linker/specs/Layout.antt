-- Where functions, globals, stubs and slots stand in the image of objects. Places count from the image's first byte.
use Rattle.std.specs.Prelude.{ℕ, ◌+◌, ◌*◌, Bool, true, false, not, if◌then◌else◌, List, [], ◌∷◌, ◌++◌, length, map, filter, Option, Some, None}
use Rattle.std.specs.Option.{option_map_or}
use Rattle.std.specs.Str.{bytes_eq}
use Rattle.pa_object.specs.declared.object.Object.{Object}
use Rattle.pa_object.specs.declared.object.Mark.{Mark}
use Rattle.pa_object.specs.declared.object.Global.{Global}
use Rattle.pa_object.specs.Linkable.{Text, globals_of}
use Rattle.pa_macho.specs.declared.header.Role.TheVariants.{Main}
use Rattle.pa_macho.specs.declared.header.Header.{Header}
use Rattle.pa_macho.specs.declared.places.Places.{Places}
use Rattle.pa_macho.specs.Layout.{front_size, places_of, up}
use Rattle.pa_linker.specs.declared.layout.Sections.{Sections}
use Rattle.pa_linker.specs.Imports.{imports_of, import_index}

-- ---- code

-- the words of `start`, which stands before the objects' code
abbrev pub start_words : ℕ
start_words = 3

-- how many words of code there are behind the first n
abbrev pub words_after : ℕ → List Object → ℕ
words_after words [] = words
words_after words (object ∷ objects) = words_after (words + length object.code) objects

-- an object's marks where its code begins behind n words
abbrev pub marks_behind : ℕ → List Mark → List Mark
marks_behind words marks = map (λ m. record { name = m.name; at = words + m.at; public = m.public }) marks

abbrev pub marks_from : ℕ → List Object → List Mark
marks_from words [] = []
marks_from words (object ∷ objects) = marks_behind words object.marks ++ marks_from (words + length object.code) objects

abbrev pub marks_of : List Object → List Mark
marks_of objects = marks_from start_words objects

-- ---- data

-- the string literals, or the other globals
abbrev pub is_of : (constant : Bool) → Global → Bool
is_of true global = global.constant
is_of false global = not global.constant

abbrev pub globals_that : (constant : Bool) → List Object → List Global
globals_that constant objects = filter (is_of constant) (globals_of objects)

-- a global behind this many bytes of its section
pub record Laid : Type 0 where
  pub global : Global
  pub at : ℕ

-- at the next multiple of its alignment
abbrev pub laid_behind : (end : ℕ) → Global → Laid
laid_behind end global = record { global = global; at = up global.align end }

abbrev pub end_of : Laid → ℕ
end_of laid = laid.at + length laid.global.bytes

-- globals one behind another, and where they end
abbrev pub laid_from : (end : ℕ) → List Global → List Laid
laid_from end [] = []
laid_from end (global ∷ globals) = laid_behind end global ∷ laid_from (end_of (laid_behind end global)) globals

abbrev pub laid_end : (end : ℕ) → List Global → ℕ
laid_end end [] = end
laid_end end (global ∷ globals) = laid_end (end_of (laid_behind end global)) globals

abbrev pub literals_of : List Object → List Laid
literals_of objects = laid_from 0 (globals_that true objects)

abbrev pub variables_of : List Object → List Laid
variables_of objects = laid_from 0 (globals_that false objects)

-- ---- sections

-- an image of so many words, imports, and bytes of `__const` and `__data`; no section moves with the parts of `__LINKEDIT`
abbrev pub header_with : (words imports literals variables : ℕ) → Header
header_with words imports literals variables = record {
  role = Main;
  text = 4 * words;
  stubs = 16 * imports;
  consts = literals;
  got = 8 * imports;
  cells = variables;
  fixups = 0;
  symbols = 0;
  strings = 0;
}

abbrev pub begins : Places → Sections
begins p = record { stubs = p.stubs; consts = p.consts; got = p.got; cells = p.cells }

unfoldable pub sections_of : List Object → Sections
sections_of objects = begins (places_of (header_with
    (words_after start_words objects)
    (length (imports_of objects))
    (laid_end 0 (globals_that true objects))
    (laid_end 0 (globals_that false objects))))

-- ---- names

pub record Symbol : Type 0 where
  pub name : Text
  pub place : ℕ

abbrev pub symbol : Text → ℕ → Symbol
symbol name place = record { name = name; place = place }

abbrev pub mark_place : Mark → ℕ
mark_place mark = front_size + 4 * mark.at

abbrev pub functions_from : List Mark → List Symbol
functions_from marks = map (λ m. symbol m.name (mark_place m)) marks

-- those of a section at a place
abbrev pub globals_from : ℕ → List Laid → List Symbol
globals_from section laid = map (λ l. symbol l.global.name (section + l.at)) laid

abbrev pub symbols_with : Sections → List Object → List Symbol
symbols_with sections objects =
    functions_from (marks_of objects) ++ (globals_from sections.consts (literals_of objects)
    ++ globals_from sections.cells (variables_of objects))

abbrev pub find : List Symbol → Text → Option ℕ
find [] name = None
find (s ∷ symbols) name = if bytes_eq name s.name then Some s.place else find symbols name

-- where the sections, functions and globals of an image stand, and which import has a name
pub record Layout : Type 0 where
  pub sections : Sections
  pub imports : List Text
  pub index : Text → ℕ
  pub find : Text → Option ℕ

unfoldable pub layout_of : List Object → Layout
layout_of objects = record {
  sections = sections_of objects;
  imports = imports_of objects;
  index = import_index (imports_of objects);
  find = find (symbols_with (sections_of objects) objects);
}

-- the stub and the slot of import i
abbrev pub stub_place : Layout → ℕ → ℕ
stub_place l i = l.sections.stubs + 16 * i

abbrev pub slot_place : Layout → ℕ → ℕ
slot_place l i = l.sections.got + 8 * i

-- where a name's function or global stands, or the stub of the import of that name
abbrev pub place_of : Layout → Text → ℕ
place_of l name = option_map_or (λ place. place) (l.find name) (stub_place l (l.index name))
