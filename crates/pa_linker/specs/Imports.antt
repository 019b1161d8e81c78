-- References by word, and the functions of the runtime image that objects use.
use Rattle.std.specs.Prelude.{ℕ, ◌+◌, ◌==◌, Bool, if◌then◌else◌, List, [], ◌∷◌, ◌++◌, map, filter, Option, Some, None}
use Rattle.std.specs.List.{flat_map, list_any}
use Rattle.std.specs.Option.{option_to_list}
use Rattle.std.specs.Str.{bytes_eq}
use Rattle.pa_object.specs.declared.object.Object.{Object}
use Rattle.pa_object.specs.declared.object.Ref.{Ref}
use Rattle.pa_object.specs.declared.object.Global.{Global}
use Rattle.pa_object.specs.declared.object.SlotValue.{SlotValue}
use Rattle.pa_object.specs.declared.object.SlotValue.TheVariants.{Address, Signed}
use Rattle.pa_object.specs.declared.object.Slot.{Slot}
use Rattle.pa_object.specs.Linkable.{Text, runtime}

-- ---- references by word

-- the reference that stands at a word
abbrev pub ref_at : List Ref → ℕ → Option Ref
ref_at [] at = None
ref_at (ref ∷ refs) at = if ref.at == at then Some ref else ref_at refs at

-- the references at words of which the first has n before it
abbrev pub refs_from : List Ref → (at : ℕ) → (words : List ℕ) → List Ref
refs_from refs at [] = []
refs_from refs at (word ∷ words) = option_to_list (ref_at refs at) ++ refs_from refs (at + 1) words

abbrev pub refs_of : Object → List Ref
refs_of object = refs_from object.refs 0 object.code

-- ---- imports

abbrev pub slot_name : SlotValue → Text
slot_name (Address name addend) = name
slot_name (Signed name schema) = name

-- the names that objects use: first the references by object and word, then the slots by object, global and offset
abbrev pub ref_names : List Ref → List Text
ref_names refs = map (λ ref. ref.name) refs

abbrev pub used_by_refs : List Object → List Text
used_by_refs objects = flat_map (λ o. ref_names (refs_of o)) objects

abbrev pub slot_names : List Slot → List Text
slot_names slots = map (λ slot. slot_name slot.value) slots

abbrev pub slot_names_of : List Global → List Text
slot_names_of globals = flat_map (λ g. slot_names g.slots) globals

abbrev pub used_by_slots : List Object → List Text
used_by_slots objects = flat_map (λ o. slot_names_of o.globals) objects

abbrev pub is_runtime : Text → Bool
is_runtime name = list_any (bytes_eq name) runtime

-- of these names those of the runtime image, each once, where it comes first
abbrev pub first_uses : List Text → List Text → List Text
first_uses seen [] = seen
first_uses seen (name ∷ names) =
    first_uses (if list_any (bytes_eq name) seen then seen else seen ++ name ∷ []) names

-- the functions of the runtime image that objects use, in the order of first use
abbrev pub imports_of : List Object → List Text
imports_of objects = first_uses [] (filter is_runtime (used_by_refs objects ++ used_by_slots objects))

-- how many imports stand before the one of a name; all of them where there is none
abbrev pub import_index : List Text → Text → ℕ
import_index [] name = 0
import_index (first ∷ imports) name = if bytes_eq name first then 0 else import_index imports name + 1
