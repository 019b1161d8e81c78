-- What the tables of the code hold.
use Rattle.std.specs.Prelude.{ℕ, ◌≡◌, ◌≤◌, ◌<◌, ◌+◌, ◌^◌, pos, negsuc, Bool, List, [], ◌∷◌, length, map, sum_by, slice_get, IfSome, Option, Some, None, if◌then◌else◌, ◌==◌}
use Rattle.std.specs.List.{AllByRecursion}
use Rattle.std.specs.Option.{option_map_or}
use Rattle.std.specs.Str.{bytes_eq}
use Rattle.indexmap.specs.IndexMap.{get_by}
use Rattle.pa_object.specs.declared.object.Object.{Object}
use Rattle.pa_object.specs.declared.object.Ref.{Ref}
use Rattle.pa_object.specs.declared.object.Global.{Global}
use Rattle.pa_object.specs.declared.object.Slot.{Slot}
use Rattle.pa_object.specs.declared.object.SlotValue.{SlotValue}
use Rattle.pa_object.specs.declared.object.SlotValue.TheVariants.{Address, Signed}
use Rattle.pa_object.specs.Linkable.{Text, globals_of}
use Rattle.pa_linker.specs.declared.imports.Imports.{Imports}
use Rattle.pa_linker.specs.declared.symbols.Symbols.{Symbols}
use Rattle.pa_linker.specs.declared.section.LaidGlobal.{LaidGlobal}
use Rattle.pa_linker.specs.declared.section.Section.{Section}
use Rattle.pa_linker.specs.declared.layout.LayoutTable.{LayoutTable}
use Rattle.pa_linker.specs.Layout.{start_words, words_after, Laid, end_of, laid_from, laid_end, globals_that, Layout}

-- ---- references

-- which of the references from number k on stands at a word
abbrev pub ref_index : (k : ℕ) → List Ref → (at : ℕ) → Option ℕ
ref_index k [] at = None
ref_index k (ref ∷ refs) at = if ref.at == at then Some k else ref_index (k + 1) refs at

-- the table has that for each of so many words
abbrev pub IsByWord : List Ref → (words : ℕ) → List (Option ℕ) → Type 0
IsByWord refs words table =
    (length table ≡ words) × ((at : ℕ) → at < words → slice_get table at ≡ Some (ref_index 0 refs at))

-- ---- imports

abbrev pub kept_import : Imports → Text → Option ℕ
kept_import imports name = get_by (λ key. bytes_eq name key.now) imports.indexes

-- which of the names is this one
abbrev pub index_in : (i : ℕ) → List Text → Text → Option ℕ
index_in i [] name = None
index_in i (first ∷ names) name = if bytes_eq name first then Some i else index_in (i + 1) names name

-- the table has that
abbrev pub IsIndexed : Imports → Type 0
IsIndexed imports = (name : Text) → kept_import imports name ≡ index_in 0 imports.names name

abbrev pub index_of : Imports → Text → ℕ
index_of imports name = option_map_or (λ i. i) (kept_import imports name) (length imports.names)

-- ---- globals

abbrev pub shown : LaidGlobal → Laid
shown laid = record { global = laid.global.now; at = laid.at }

abbrev pub all_shown : List LaidGlobal → List Laid
all_shown laid = map shown laid

-- ---- places

abbrev pub kept_place : Symbols → Text → Option ℕ
kept_place symbols name = get_by (λ key. bytes_eq name key.now) symbols.places

abbrev pub layout_in : LayoutTable → Layout
layout_in table = record {
  sections = table.sections;
  imports = table.imports.names;
  index = index_of table.imports;
  find = kept_place table.symbols;
}

-- the places are those of an image that can be loaded
pub record IsSmall (layout : Layout) : Type 0 where
  pub stubs : layout.sections.stubs < 2 ^ 23
  pub consts : layout.sections.consts < 2 ^ 23
  pub got : layout.sections.got < 2 ^ 23
  pub cells : layout.sections.cells < 2 ^ 23
  pub order : layout.sections.got ≤ layout.sections.cells
  pub imports : length layout.imports ≤ 2
  pub index : (name : Text) → layout.index name ≤ 2
  pub find : (name : Text) → IfSome (layout.find name) (λ place. place < 2 ^ 24)

-- ---- what linkable objects have

-- references and marks stand at words of the code
abbrev pub RefsStand : Object → Type 0
RefsStand object = AllByRecursion (λ ref. ref.at < length object.code) object.refs

abbrev pub MarksStand : Object → Type 0
MarksStand object = AllByRecursion (λ mark. mark.at < length object.code) object.marks

-- the most words of an image's code, and the most bytes of its globals with their alignments
abbrev pub most_words : ℕ
most_words = 1310723

abbrev pub most_data : ℕ
most_data = 2097152

abbrev pub room_of : List Global → ℕ
room_of globals = sum_by (λ g. g.align + length g.bytes) globals

-- there is room for globals behind so many bytes
pub record HaveRoom (end : ℕ) (globals : List Global) : Type 0 where
  pub aligned : AllByRecursion (λ g. 0 < g.align) globals
  pub fit : end + room_of globals ≤ most_data

-- each global stands behind the one before
abbrev pub Follow : (end : ℕ) → List Laid → Type 0
Follow end [] = Unit {0}
Follow end (laid ∷ behind) = (end ≤ laid.at) × Follow (end_of laid) behind

abbrev pub IsForward : SlotValue → Type 0
IsForward (Address name (pos addend)) = Unit {0}
IsForward (Address name (negsuc addend)) = ⊥
IsForward (Signed name schema) = Unit {0}

-- the slots are inside of so many bytes
abbrev pub SlotsInside : (size : ℕ) → List Slot → Type 0
SlotsInside size slots = AllByRecursion (λ slot. slot.offset + 8 ≤ size) slots

-- a global whose slots can be filled
pub record CanFill (laid : Laid) : Type 0 where
  pub ends : end_of laid ≤ most_data
  pub inside : SlotsInside (length laid.global.bytes) laid.global.slots
  pub forward : AllByRecursion (λ slot. IsForward slot.value) laid.global.slots

-- the section holds the string literals of objects, or all other globals
pub record IsSection (section : Section) (constant : Bool) (objects : List Object) : Type 0 where
  pub globals : all_shown section.globals ≡ laid_from 0 (globals_that constant objects)
  pub end : section.end ≡ laid_end 0 (globals_that constant objects)
  pub small : section.end ≤ most_data
  pub low : AllByRecursion (λ laid. laid.at ≤ most_data) (all_shown section.globals)

-- what linkable objects have, object by object
pub record Fits (objects : List Object) : Type 0 where
  pub refs : AllByRecursion RefsStand objects
  pub marks : AllByRecursion MarksStand objects
  pub words : words_after start_words objects ≤ most_words
  pub globals : HaveRoom 0 (globals_of objects)
