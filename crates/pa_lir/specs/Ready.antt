-- Which programs can be made to objects that can be linked (`pa_object`, Linkable).
use Rattle.std.specs.Prelude.{◌≡◌, ◌≢◌, ◌≤◌, ℕ, ◌+◌, nat_eq, IsTrue, All, codes, List, [], ◌∷◌, ◌++◌, length, map, sum_by}
use Rattle.std.specs.List.{list_any, IsDistinct}
use Rattle.std.specs.Str.{bytes_eq}
use Rattle.pa_pac.specs.declared.key.Key.TheVariants.{IA}
use Rattle.pa_object.specs.declared.object.Global.{Global}
use Rattle.pa_object.specs.declared.object.Slot.{Slot}
use Rattle.pa_object.specs.declared.object.SlotValue.{SlotValue}
use Rattle.pa_object.specs.declared.object.SlotValue.TheVariants.{Address, Signed}
use Rattle.pa_object.specs.Linkable.{Named, IsAmong, IsGlobal}
use Rattle.pa_lir.specs.declared.op.Op.{Op}
use Rattle.pa_lir.specs.declared.op.Op.TheVariants as op
use Rattle.pa_lir.specs.declared.function.LirFn.{LirFn}
use Rattle.pa_lir.specs.declared.function.Lir.{Lir}
use Rattle.pa_lir.specs.Parts.{bytes, held, costs}

-- ---- names

abbrev pub Text : Type 0
Text = List ℕ

abbrev pub function_names : Lir → List Text
function_names lir = map (λ f. f.name) lir.functions

abbrev pub global_names : Lir → List Text
global_names lir = map (λ g. g.name) lir.globals

-- the functions of the runtime image
abbrev pub runtime : List Text
runtime = codes "putchar" ∷ codes "getchar" ∷ []

-- a name that a function or a global may have
pub record IsName (name : Text) : Type 0 where
  pub some : name ≢ []
  pub short : length name ≤ 299
  pub no_zero : IsTrue (list_any (nat_eq 0) name) → ⊥
  pub not_runtime : IsAmong name runtime → ⊥

-- the symbol of a name of C: an underscore stands before it
abbrev pub symbol : Text → Text
symbol name = 0x5F ∷ name

-- ---- globals as they are linked

abbrev pub symbol_slot_value : SlotValue → SlotValue
symbol_slot_value (Address name addend) = Address (symbol name) addend
symbol_slot_value (Signed name schema) = Signed (symbol name) schema

abbrev pub symbol_slot : Slot → Slot
symbol_slot slot = record slot { value = symbol_slot_value slot.value }

-- a global with each name as a symbol
abbrev pub symbol_global : Global → Global
symbol_global g = record g { name = symbol g.name; slots = map symbol_slot g.slots }

abbrev pub symbols_of_functions : Lir → List Named
symbols_of_functions lir = map (λ f. record { name = symbol f.name; size = 0 }) lir.functions

abbrev pub symbols_of_globals : Lir → List Named
symbols_of_globals lir = map (λ g. record { name = symbol g.name; size = length g.bytes }) lir.globals

-- a pointer to a function is signed under the key IA; a plain address is of a global
abbrev pub IsReadySlot : Lir → SlotValue → Type 0
IsReadySlot lir (Address name addend) = IsAmong name (global_names lir)
IsReadySlot lir (Signed name schema) = schema.key ≡ IA

-- ---- operations

-- the names in an operation are there, and each schema is under the key IA
abbrev pub IsReadyOp : Lir → Op → Type 0
IsReadyOp lir (op.Global to name) = IsAmong name (global_names lir)
IsReadyOp lir (op.Code to name) = IsAmong name (function_names lir ++ runtime)
IsReadyOp lir (op.Call to name arguments) = IsAmong name (function_names lir ++ runtime)
IsReadyOp lir (op.LoadSigned to at schema) = schema.key ≡ IA
IsReadyOp lir (op.StoreSigned at from schema) = schema.key ≡ IA
IsReadyOp lir (op.CallSigned to at schema arguments) = schema.key ≡ IA
IsReadyOp lir _ = Unit {0}

-- the most bytes of locals, and the most temporaries, of a function that has a frame
abbrev pub most_bytes : ℕ
most_bytes = 1048576

abbrev pub most_held : ℕ
most_held = 1048576

pub record HasFrame (f : LirFn) : Type 0 where
  pub bytes : bytes f ≤ most_bytes
  pub held : held f ≤ most_held

-- the most words of code of a program
abbrev pub most_words : ℕ
most_words = 1310720

pub record Ready (lir : Lir) : Type 0 where
  pub names_fit : All IsName (function_names lir ++ global_names lir)
  pub names_distinct : IsDistinct bytes_eq (function_names lir ++ global_names lir)
  pub has_main : IsAmong (codes "main") (function_names lir)
  pub ops : All (λ f. All (IsReadyOp lir) f.ops) lir.functions
  pub globals : All (IsGlobal (symbols_of_functions lir) (symbols_of_globals lir)) (map symbol_global lir.globals)
  pub slots : All (λ g. All (λ slot. IsReadySlot lir slot.value) g.slots) lir.globals
  pub small_data : sum_by (λ g. g.align + length g.bytes) lir.globals ≤ 2097152
  pub frames : All HasFrame lir.functions
  pub few_words : sum_by (λ f. costs f + 64) lir.functions ≤ most_words
