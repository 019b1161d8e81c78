-- Which lists of objects can be linked to an image. The runtime image, which each image is linked against, has two
-- functions.
use Rattle.std.specs.Prelude.{◌≡◌, ◌≢◌, ◌⊎◌, ℕ, ◌+◌, ◌-◌, ◌*◌, ◌%◌, ◌<◌, ◌≤◌, ℤ, pos, negsuc, true, nat_eq, IsTrue, Contains, List, [], ◌∷◌, ◌++◌, length, map, sum_by, slice_get, All, codes, Option, Some}
use Rattle.std.specs.List.{flat_map, list_any, IsDistinct}
use Rattle.std.specs.Str.{bytes_eq}
use Rattle.pa_pac.specs.declared.key.Key.TheVariants.{GA}
use Rattle.pa_a64.specs.declared.instr.Instr.{Instr}
use Rattle.pa_a64.specs.declared.instr.Instr.TheVariants as instr
use Rattle.pa_a64.specs.declared.instr.BranchOp.TheVariants.{Bl}
use Rattle.pa_a64.specs.declared.instr.SumImmediateOp.TheVariants.{Add}
use Rattle.pa_a64.specs.Decoding.{decoded}
use Rattle.pa_object.specs.declared.object.Object.{Object}
use Rattle.pa_object.specs.declared.object.Mark.{Mark}
use Rattle.pa_object.specs.declared.object.RefKind.{RefKind}
use Rattle.pa_object.specs.declared.object.RefKind.TheVariants as refers
use Rattle.pa_object.specs.declared.object.Ref.{Ref}
use Rattle.pa_object.specs.declared.object.SlotValue.{SlotValue}
use Rattle.pa_object.specs.declared.object.SlotValue.TheVariants.{Address, Signed}
use Rattle.pa_object.specs.declared.object.Slot.{Slot}
use Rattle.pa_object.specs.declared.object.Global.{Global}

abbrev pub Text : Type 0
Text = List ℕ

-- ---- names, and what they name

-- a name, and how many bytes stand there
pub record Named : Type 0 where
  pub name : Text
  pub size : ℕ

abbrev pub end_of : List Mark → ℕ → ℕ
end_of [] words = words
end_of (mark ∷ marks) words = mark.at

-- a function reaches from its mark to the next one, or to the end of the object's words
unfoldable pub functions : List Mark → (words : ℕ) → List Named
functions [] words = []
functions (mark ∷ marks) words = record { name = mark.name; size = 4 * (end_of marks words - mark.at) } ∷ functions marks words

abbrev pub functions_of : List Object → List Named
functions_of objects = flat_map (λ o. functions o.marks (length o.code)) objects

abbrev pub globals_of : List Object → List Global
globals_of objects = flat_map (λ o. o.globals) objects

abbrev pub data_of : List Object → List Named
data_of objects = map (λ g. record { name = g.name; size = length g.bytes }) (globals_of objects)

abbrev pub names : List Named → List Text
names things = map (λ thing. thing.name) things

abbrev pub IsAmong : Text → List Text → Type 0
IsAmong name names = IsTrue (list_any (bytes_eq name) names)

-- the functions of the runtime image
abbrev pub runtime : List Text
runtime = codes "_putchar" ∷ codes "_getchar" ∷ []

-- a name that an object may give
pub record IsName (name : Text) : Type 0 where
  pub some : name ≢ []
  pub no_zero : IsTrue (list_any (nat_eq 0) name) → ⊥
  pub not_runtime : IsAmong name runtime → ⊥

-- ---- code

-- each number is above the one before
unfoldable pub Ascends : List ℕ → Type 0
Ascends [] = Unit {0}
Ascends (x ∷ []) = Unit {0}
Ascends (x ∷ y ∷ more) = (x < y) × Ascends (y ∷ more)

-- the instruction has the field that the reference fills
abbrev pub IsFilledBy : Option Instr → RefKind → Type 0
IsFilledBy (Some (instr.Branch Bl words)) refers.Call = Unit {0}
IsFilledBy (Some (instr.Adrp rd pages)) refers.Page = Unit {0}
IsFilledBy (Some (instr.Adrp rd pages)) refers.SlotPage = Unit {0}
IsFilledBy (Some (instr.SumImmediate Add rd rn imm shifted)) refers.Low = Unit {0}
IsFilledBy (Some (instr.SumImmediate Add rd rn imm shifted)) refers.SlotLow = Unit {0}
IsFilledBy _ kind = ⊥

abbrev pub NamesFor : RefKind → Text → (functions globals : List Text) → Type 0
NamesFor refers.Call name functions globals = IsAmong name (functions ++ runtime)
NamesFor refers.Page name functions globals = IsAmong name (functions ++ globals)
NamesFor refers.Low name functions globals = IsAmong name (functions ++ globals)
NamesFor refers.SlotPage name functions globals = IsAmong name runtime
NamesFor refers.SlotLow name functions globals = IsAmong name runtime

-- a reference stands at a word that it fills, and names what it may
pub record IsRef (code : List ℕ) (functions globals : List Text) (ref : Ref) : Type 0 where
  pub stands : ref.at < length code
  pub fills : (word : ℕ) → slice_get code ref.at ≡ Some word → IsFilledBy (decoded word) ref.kind
  pub names : NamesFor ref.kind ref.name functions globals

pub record IsCode (functions globals : List Text) (object : Object) : Type 0 where
  pub marks_ascend : Ascends (map (λ mark. mark.at) object.marks)
  pub marks_at_words : All (λ mark. mark.at < length object.code) object.marks
  pub marks_short : All (λ mark. length mark.name ≤ 300) object.marks
  pub one_ref_a_word : IsDistinct nat_eq (map (λ ref. ref.at) object.refs)
  pub refs : All (IsRef object.code functions globals) object.refs

-- ---- data

-- an address is inside what it names, or at its end
abbrev pub IsInside : ℤ → Text → List Named → Type 0
IsInside (pos addend) name things = (thing : Named) × Contains things thing × (thing.name ≡ name) × (addend ≤ thing.size)
IsInside (negsuc addend) name things = ⊥

abbrev pub IsSlotValue : List Named → List Named → SlotValue → Type 0
IsSlotValue functions globals (Address name addend) = IsInside addend name (functions ++ globals)
IsSlotValue functions globals (Signed name schema) = IsAmong name (names functions ++ runtime) × (schema.key ≢ GA)

pub record IsSlot (functions globals : List Named) (size : ℕ) (slot : Slot) : Type 0 where
  pub aligned : slot.offset % 8 ≡ 0
  pub inside : slot.offset + 8 ≤ size
  pub value : IsSlotValue functions globals slot.value

pub record IsGlobal (functions globals : List Named) (global : Global) : Type 0 where
  pub alignment : (global.align ≡ 1) ⊎ ((global.align ≡ 2) ⊎ ((global.align ≡ 4) ⊎ ((global.align ≡ 8) ⊎ (global.align ≡ 16))))
  pub slots_ascend : Ascends (map (λ slot. slot.offset) global.slots)
  pub slots : All (IsSlot functions globals (length global.bytes)) global.slots
  pub slots_aligned : global.slots ≢ [] → 8 ≤ global.align
  pub literals_plain : global.constant ≡ true → (global.align ≡ 1) × (global.slots ≡ [])

-- ---- objects

pub record Linkable (objects : List Object) : Type 0 where
  pub names_fit : All IsName (names (functions_of objects ++ data_of objects))
  pub names_distinct : IsDistinct bytes_eq (names (functions_of objects ++ data_of objects))
  pub has_main : IsAmong (codes "_main") (names (functions_of objects))
  pub code : All (IsCode (names (functions_of objects)) (names (data_of objects))) objects
  pub globals : All (IsGlobal (functions_of objects) (data_of objects)) (globals_of objects)
  pub few_words : sum_by (λ o. length o.code) objects ≤ 1310720
  pub small_data : sum_by (λ g. g.align + length g.bytes) (globals_of objects) ≤ 2097152
  pub few_marks : length (functions_of objects) ≤ 20480
