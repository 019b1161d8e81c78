-- The image of objects (ld64: `__auth_stubs` and `__auth_got`; mach-o/fixup-chains.h, pointer format 1).
use Rattle.std.specs.Prelude.{ℕ, ◌+◌, ◌-◌, ◌*◌, ℤ, pos, negsuc, true, List, [], ◌∷◌, ◌++◌, length, map, replicate, codes, Option, Some, None}
use Rattle.std.specs.Option.{option_map_or}
use Rattle.std.specs.List.{flat_map}
use Rattle.pa_pac.specs.declared.key.Key.TheVariants.{IA}
use Rattle.pa_pac.specs.declared.schema.Schema.{Schema}
use Rattle.pa_a64.specs.declared.instr.Instr.{Instr}
use Rattle.pa_a64.specs.declared.instr.Instr.TheVariants.{Branch, Exception}
use Rattle.pa_a64.specs.declared.instr.BranchOp.TheVariants.{Bl}
use Rattle.pa_a64.specs.declared.instr.ExceptionOp.TheVariants.{Svc, Brk}
use Rattle.pa_a64.specs.Decoding.{encoded}
use Rattle.pa_object.specs.declared.object.Object.{Object}
use Rattle.pa_object.specs.declared.object.RefKind.{RefKind}
use Rattle.pa_object.specs.declared.object.RefKind.TheVariants as refers
use Rattle.pa_object.specs.declared.object.Ref.{Ref}
use Rattle.pa_object.specs.declared.object.SlotValue.{SlotValue}
use Rattle.pa_object.specs.declared.object.SlotValue.TheVariants.{Address, Signed}
use Rattle.pa_object.specs.declared.object.Slot.{Slot}
use Rattle.pa_object.specs.Linkable.{Text}
use Rattle.pa_object.specs.Filled.{words_between, filled_word}
use Rattle.pa_object.specs.Stub.{stub}
use Rattle.pa_macho.specs.declared.header.Role.TheVariants.{Main}
use Rattle.pa_macho.specs.Layout.{base_of, front_size}
use Rattle.pa_fixups.specs.declared.kind.Sig.{Sig}
use Rattle.pa_fixups.specs.declared.kind.FixKind.{FixKind}
use Rattle.pa_fixups.specs.declared.kind.FixKind.TheVariants.{Rebase, AuthRebase, AuthBind}
use Rattle.pa_fixups.specs.declared.kind.Fix.{Fix}
use Rattle.pa_fixups.specs.Chain.{put_at}
use Rattle.pa_image.specs.declared.image.Image.{Image}
use Rattle.pa_linker.specs.Imports.{ref_at}
use Rattle.pa_linker.specs.Layout.{start_words, marks_of, literals_of, variables_of, Laid, end_of, Layout, layout_of, stub_place, slot_place, place_of}

-- ---- code

-- calls `_main`, ends the program with what that gives, and is never passed
abbrev pub start : (main : ℕ) → List Instr
start main = Branch Bl (words_between front_size main) ∷ Exception Svc 3 ∷ Exception Brk 0 ∷ []

-- where a reference leads
abbrev pub target : Layout → RefKind → Text → ℕ
target l refers.SlotPage name = slot_place l (l.index name)
target l refers.SlotLow name = slot_place l (l.index name)
target l kind name = place_of l name

-- a word at a place, with the field of its reference filled
abbrev pub linked_word : Layout → (place : ℕ) → Option Ref → (word : ℕ) → ℕ
linked_word l place None word = word
linked_word l place (Some ref) word = filled_word ref.kind place (target l ref.kind ref.name) word

-- an object's code from a word on, which stands at a place
abbrev pub code_from : Layout → List Ref → (at place : ℕ) → List ℕ → List ℕ
code_from l refs at place [] = []
code_from l refs at place (word ∷ words) =
    linked_word l place (ref_at refs at) word ∷ code_from l refs (at + 1) (place + 4) words

-- the code of objects, one behind another
abbrev pub text_from : Layout → (place : ℕ) → List Object → List ℕ
text_from l place [] = []
text_from l place (object ∷ objects) =
    code_from l object.refs 0 place object.code ++ text_from l (place + 4 * length object.code) objects

abbrev pub text_with : Layout → List Object → List ℕ
text_with l objects =
    map encoded (start (place_of l (codes "_main"))) ++ text_from l (front_size + 4 * start_words) objects

-- the stubs of imports from number i on
abbrev pub stubs_from : Layout → (i : ℕ) → List Text → List ℕ
stubs_from l i [] = []
stubs_from l i (name ∷ imports) = map encoded (stub (stub_place l i) (slot_place l i)) ++ stubs_from l (i + 1) imports

-- ---- data

-- the bytes with zeros for the slots
unfoldable pub cleared : List Slot → List ℕ → List ℕ
cleared [] bytes = bytes
cleared (slot ∷ slots) bytes = cleared slots (put_at slot.offset (replicate 8 0) bytes)

-- a section's bytes from the end of a global on, with zeros up to each next one
abbrev pub bytes_from : (end : ℕ) → List Laid → List ℕ
bytes_from end [] = []
bytes_from end (laid ∷ behind) =
    replicate (laid.at - end) 0 ++ (cleared laid.global.slots laid.global.bytes ++ bytes_from (end_of laid) behind)

-- ---- slots

-- a number of bytes behind a place, or before it
abbrev pub moved : ℕ → ℤ → ℕ
moved place (pos bytes) = place + bytes
moved place (negsuc bytes) = place - bytes - 1

abbrev pub sig_of : Schema → Sig
sig_of schema = record { key = schema.key; addr = schema.addr; disc = schema.disc }

-- a function of the image by its offset, or else an import
abbrev pub signed : Layout → Text → Sig → FixKind
signed l name sig = option_map_or (λ place. AuthRebase place sig) (l.find name) (AuthBind (l.index name) sig)

abbrev pub slot_kind : Layout → SlotValue → FixKind
slot_kind l (Address name addend) = Rebase (moved (base_of Main + place_of l name) addend) 0
slot_kind l (Signed name schema) = signed l name (sig_of schema)

-- the slots of imports from number i on: each holds the import's address, signed under the key IA over the slot's own address
abbrev pub import_fixes : (i : ℕ) → List Text → List Fix
import_fixes i [] = []
import_fixes i (name ∷ imports) =
    record { at = 8 * i; kind = AuthBind i (record { key = IA; addr = true; disc = 0 }) } ∷ import_fixes (i + 1) imports

-- the slots of globals, by their places in `__DATA`
abbrev pub slots_behind : Layout → (place : ℕ) → List Slot → List Fix
slots_behind l place slots = map (λ slot. record { at = place + slot.offset; kind = slot_kind l slot.value }) slots

abbrev pub global_fixes : Layout → Laid → List Fix
global_fixes l laid = slots_behind l (l.sections.cells - l.sections.got + laid.at) laid.global.slots

abbrev pub fixes_with : Layout → List Laid → List Fix
fixes_with l laid = import_fixes 0 l.imports ++ flat_map (global_fixes l) laid

-- ---- the image

abbrev pub image_with : Layout → List Object → Image
image_with l objects = record {
  role = Main;
  text = text_with l objects;
  stubs = stubs_from l 0 l.imports;
  consts = bytes_from 0 (literals_of objects);
  got = 8 * length l.imports;
  cells = bytes_from 0 (variables_of objects);
  marks = marks_of objects;
  imports = l.imports;
  fixes = fixes_with l (variables_of objects);
}

unfoldable pub image_of : List Object → Image
image_of objects = image_with (layout_of objects) objects
