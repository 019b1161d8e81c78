-- The objects of a ready program can be linked.
use Rattle.std.proofs.Common.{◌≡◌, ◌≢◌, ℕ, zero, suc, ◌+◌, ◌-◌, ◌*◌, ◌≤◌, ◌<◌, false, List, [], ◌∷◌, ◌++◌, length, map, Option, Some, get_or, refl, sym, ap, subst, ◌∙◌, arith, codes}
use Rattle.std.specs.Prelude.{All, Contains, nat_eq, pos, negsuc, ℤ, unwrap_or}
use Rattle.std.specs.List.{AllByRecursion, IsDistinct, list_any, slice_get, sum_by}
use Rattle.std.specs.Str.{bytes_eq}
use Rattle.std.proofs.lemmas.Bool.{ne_eqb}
use Rattle.std.proofs.lemmas.List.{append_assoc, append-nil, length-append, map-append, length-map}
use Rattle.std.proofs.lemmas.List.Elements.{All-from_recursion, recursion_from_All}
use Rattle.std.proofs.lemmas.List.Sums.{sum_by-cons}
use Rattle.std.proofs.lemmas.Map.Keys.{IsDistinct-cons, IsDistinct-head, IsDistinct-tail}
use Rattle.pa_a64.specs.declared.instr.Instr.{Instr}
use Rattle.pa_a64.specs.declared.instr.Instr.TheVariants.{Branch}
use Rattle.pa_a64.specs.declared.instr.BranchOp.TheVariants.{Bl}
use Rattle.pa_a64.specs.Decoding.{decoded, encoded}
use Rattle.pa_a64.proofs.RoundTrip.{decoded-encoded}
use Rattle.pa_object.specs.declared.object.Object.{Object}
use Rattle.pa_object.specs.declared.object.Mark.{Mark}
use Rattle.pa_object.specs.declared.object.Ref.{Ref}
use Rattle.pa_object.specs.declared.object.RefKind.TheVariants as refers
use Rattle.pa_object.specs.declared.object.Global.{Global}
use Rattle.pa_object.specs.declared.object.Slot.{Slot}
use Rattle.pa_object.specs.declared.object.SlotValue.{SlotValue}
use Rattle.pa_object.specs.declared.object.SlotValue.TheVariants.{Address, Signed}
use Rattle.pa_object.specs.Linkable as link
use Rattle.pa_object.specs.Linkable.{Text, Named, IsAmong, IsInside, IsSlotValue, IsSlot, IsGlobal, IsRef, IsCode, Linkable, IsFilledBy}
use Rattle.pa_lir.specs.declared.op.Op.{Op}
use Rattle.pa_lir.specs.declared.op.Op.TheVariants as op
use Rattle.pa_lir.specs.declared.function.LirFn.{LirFn}
use Rattle.pa_lir.specs.declared.function.Lir.{Lir}
use Rattle.pa_lir.specs.Parts.{costs}
use Rattle.pa_lir.specs.Ready as ready
use Rattle.pa_lir.specs.Ready.{symbol, symbol_global, function_names, global_names, IsReadyOp, Ready}
use Rattle.pa_select.specs.Registers.{x0}
use Rattle.pa_select.specs.Selected.{prologue, load_arguments, store_result, words_of, placed_code, body, function_code}
use Rattle.pa_select.specs.Objects.{refs_of, refs_from, function_refs, mark_of, object_of, data_of, objects_of}
use Rattle.pa_select.specs.Selectable.{IsSelectable, Selectable}
use Rattle.pa_select.proofs.Lengths.{length-code_of, length-function_code}
use Rattle.pa_select.proofs.Costs.{words_of_function}

-- ---- symbols

same_symbol : (a b : Text) → bytes_eq (symbol a) (symbol b) ≡ bytes_eq a b
same_symbol a b = refl

among_symbols : (name : Text) (names : List Text) → list_any (bytes_eq (symbol name)) (map symbol names) ≡ list_any (bytes_eq name) names
among_symbols name [] = refl
among_symbols name (x ∷ xs) = rw (same_symbol name x, among_symbols name xs) refl

symbols_apart : (name : Text) (names : List Text) → AllByRecursion (λ y. bytes_eq name y ≡ false) names → AllByRecursion (λ y. bytes_eq (symbol name) y ≡ false) (map symbol names)
symbols_apart name [] h = tt
symbols_apart name (x ∷ xs) h = (same_symbol name x ∙ h.0, symbols_apart name xs h.1)

distinct_symbols : (names : List Text) → IsDistinct bytes_eq names → IsDistinct bytes_eq (map symbol names)
distinct_symbols [] h = h
distinct_symbols (x ∷ xs) h =
    IsDistinct-cons bytes_eq (symbol x) (map symbol xs) (symbols_apart x xs (IsDistinct-head bytes_eq x xs h)) (distinct_symbols xs (IsDistinct-tail bytes_eq x xs h))

runtime_symbols : map symbol ready.runtime ≡ link.runtime
runtime_symbols = refl

symbol_fits : (name : Text) → ready.IsName name → link.IsName (symbol name)
symbol_fits name h = record {
  some = cons_some;
  no_zero = λ e. h.no_zero e;
  not_runtime = λ e. h.not_runtime (sym (among_symbols name ready.runtime) ∙ e);
}
  where
    cons_some : symbol name ≢ []
    cons_some e = cc

-- ---- what objects name

-- a function as it is named in its object
abbrev named : LirFn → Named
named f = record { name = symbol f.name; size = 4 * (length (map encoded (function_code f)) - 0) }

functions_of-objects : (lir : Lir) (fs : List LirFn) → link.functions_of (map object_of fs ++ data_of lir ∷ []) ≡ map named fs
unfolding link.functions
functions_of-objects lir [] = refl
functions_of-objects lir (f ∷ fs) = ap (λ l. named f ∷ l) (functions_of-objects lir fs)

globals_of-objects : (lir : Lir) (fs : List LirFn) → link.globals_of (map object_of fs ++ data_of lir ∷ []) ≡ map symbol_global lir.globals
globals_of-objects lir [] = append-nil (map symbol_global lir.globals)
globals_of-objects lir (f ∷ fs) = globals_of-objects lir fs

names-functions : (fs : List LirFn) → link.names (map named fs) ≡ map symbol (map (λ f. f.name) fs)
names-functions [] = refl
names-functions (f ∷ fs) = ap (λ l. symbol f.name ∷ l) (names-functions fs)

names-globals : (gs : List Global) → link.names (map (λ g. record { name = g.name; size = length g.bytes }) (map symbol_global gs)) ≡ map symbol (map (λ g. g.name) gs)
names-globals [] = refl
names-globals (g ∷ gs) = ap (λ l. symbol g.name ∷ l) (names-globals gs)

function_symbols : (lir : Lir) → link.names (link.functions_of (objects_of lir)) ≡ map symbol (function_names lir)
function_symbols lir = ap link.names (functions_of-objects lir lir.functions) ∙ names-functions lir.functions

global_symbols : (lir : Lir) → link.names (link.data_of (objects_of lir)) ≡ map symbol (global_names lir)
global_symbols lir =
    ap (λ gs. link.names (map (λ (g : Global). record { name = g.name; size = length g.bytes }) gs)) (globals_of-objects lir lir.functions) ∙ names-globals lir.globals

all_symbols : (lir : Lir) → link.names (link.functions_of (objects_of lir) ++ link.data_of (objects_of lir)) ≡ map symbol (function_names lir ++ global_names lir)
all_symbols lir =
    map-append (λ (thing : Named). thing.name) (link.functions_of (objects_of lir)) (link.data_of (objects_of lir))
    ∙ (ap (λ l. l ++ link.names (link.data_of (objects_of lir))) (function_symbols lir)
    ∙ (ap (λ l. map symbol (function_names lir) ++ l) (global_symbols lir)
    ∙ sym (map-append symbol (function_names lir) (global_names lir))))

-- ---- references

-- a reference to a function that is there, at a BL of the code
record Calls (names : List Text) (code : List Instr) (ref : Ref) : Type 0 where
  call : ref.kind ≡ refers.Call
  name : IsAmong ref.name (map symbol (names ++ ready.runtime))
  within : ref.at < length code
  bl : slice_get (map encoded code) ref.at ≡ Some (encoded (Branch Bl (pos 0)))

get_behind : {X : Type 0} (xs ys : List X) (y : X) → slice_get (xs ++ y ∷ ys) (length xs) ≡ Some y
get_behind [] ys y = refl
get_behind (x ∷ xs) ys y = get_behind xs ys y

call_stands : (front before behind : List Instr) → slice_get (map encoded (front ++ (before ++ (Branch Bl (pos 0) ∷ behind)))) (length front + length before) ≡ Some (encoded (Branch Bl (pos 0)))
call_stands front before behind =
    let whole : front ++ (before ++ (Branch Bl (pos 0) ∷ behind)) ≡ (front ++ before) ++ (Branch Bl (pos 0) ∷ behind) = sym (append_assoc front before (Branch Bl (pos 0) ∷ behind)) in
    let words : map encoded (front ++ (before ++ (Branch Bl (pos 0) ∷ behind))) ≡ map encoded (front ++ before) ++ (encoded (Branch Bl (pos 0)) ∷ map encoded behind) =
    ap (map encoded) whole ∙ map-append encoded (front ++ before) (Branch Bl (pos 0) ∷ behind) in
    let place : length front + length before ≡ length (map encoded (front ++ before)) = sym (length-map (front ++ before) encoded ∙ length-append front before) in
    ap (λ ws. slice_get ws (length front + length before)) words
    ∙ (ap (slice_get (map encoded (front ++ before) ++ (encoded (Branch Bl (pos 0)) ∷ map encoded behind))) place ∙ get_behind (map encoded (front ++ before)) (map encoded behind) (encoded (Branch Bl (pos 0))))

module _ (lir : Lir) (f : LirFn) where
  ready_call : (to : Option ℕ) (name : Text) (arguments : List ℕ) → IsReadyOp lir (op.Call to name arguments) → IsAmong (symbol name) (map symbol (function_names lir ++ ready.runtime))
  ready_call to name arguments h = among_symbols name (function_names lir ++ ready.runtime) ∙ h

  -- the references of one operation, whose code stands behind other code
  op_calls : (front behind : List Instr) (o : Op) → IsReadyOp lir o → AllByRecursion (Calls (function_names lir) (front ++ (placed_code f (length front) o ++ behind))) (refs_of f (length front) o)
  op_calls front behind (op.Const to value) h = tt
  op_calls front behind (op.Bin to operator left right) h = tt
  op_calls front behind (op.Un to operator from) h = tt
  op_calls front behind (op.Extend to from bits signed) h = tt
  op_calls front behind (op.Local to local) h = tt
  op_calls front behind (op.Global to name) h = tt
  op_calls front behind (op.Code to name) h = tt
  op_calls front behind (op.Load to at bytes signed) h = tt
  op_calls front behind (op.Store at from bytes) h = tt
  op_calls front behind (op.LoadSigned to at schema) h = tt
  op_calls front behind (op.StoreSigned at from schema) h = tt
  op_calls front behind (op.Call to name arguments) h =
      let before = load_arguments f x0 arguments in
      let after = store_result f to in
      let whole : (before ++ (Branch Bl (pos 0) ∷ after)) ++ behind ≡ before ++ (Branch Bl (pos 0) ∷ (after ++ behind)) = append_assoc before (Branch Bl (pos 0) ∷ after) behind in (
        record {
          call = refl;
          name = ready_call to name arguments h;
          within = omega (
            arith,
            length-append front ((before ++ (Branch Bl (pos 0) ∷ after)) ++ behind),
            length-append (before ++ (Branch Bl (pos 0) ∷ after)) behind,
            length-append before (Branch Bl (pos 0) ∷ after),
          );
          bl = ap (λ is. slice_get (map encoded (front ++ is)) (length front + length before)) whole ∙ call_stands front before (after ++ behind);
        },
        tt,
      )
  op_calls front behind (op.CallPlain to called arguments) h = tt
  op_calls front behind (op.CallSigned to at schema arguments) h = tt
  op_calls front behind (op.Label label) h = tt
  op_calls front behind (op.Jump label) h = tt
  op_calls front behind (op.Branch on label) h = tt
  op_calls front behind (op.Return from) h = tt

both : {X : Type 0} (P : X → Type 0) (xs ys : List X) → AllByRecursion P xs → AllByRecursion P ys → AllByRecursion P (xs ++ ys)
both P [] ys h k = k
both P (x ∷ xs) ys h k = (h.0, both P xs ys h.1 k)

module _ (lir : Lir) (f : LirFn) where
  body_calls : (front : List Instr) (os : List Op) → AllByRecursion (IsReadyOp lir) os → AllByRecursion (Calls (function_names lir) (front ++ body f (length front) os)) (refs_from f (length front) os)
  unfolding body refs_from
  body_calls front [] h = tt
  body_calls front (o ∷ os) h =
      let placed = placed_code f (length front) o in
      let rest = body f (length front + words_of f o) os in
      let longer : length (front ++ placed) ≡ length front + words_of f o = length-append front placed ∙ ap (λ n. length front + n) (length-code_of f _ o) in
      let whole : (front ++ placed) ++ body f (length (front ++ placed)) os ≡ front ++ (placed ++ rest) = ap (λ n. (front ++ placed) ++ body f n os) longer ∙ append_assoc front placed rest in
      both _ (refs_of f (length front) o) (refs_from f (length front + words_of f o) os) (op_calls lir f front rest o h.0)
      (subst (λ n. AllByRecursion (Calls (function_names lir) (front ++ (placed ++ rest))) (refs_from f n os)) longer
      (subst (λ is. AllByRecursion (Calls (function_names lir) is) (refs_from f (length (front ++ placed)) os)) whole (body_calls (front ++ placed) os h.1)))

-- ---- no two at one word

-- an operation's references lie in it
refs_before : (f : LirFn) (at : ℕ) (o : Op) → AllByRecursion (λ (r : Ref). (at ≤ r.at) × (r.at < at + words_of f o)) (refs_of f at o)
refs_before f at (op.Const to value) = tt
refs_before f at (op.Bin to operator left right) = tt
refs_before f at (op.Un to operator from) = tt
refs_before f at (op.Extend to from bits signed) = tt
refs_before f at (op.Local to local) = tt
refs_before f at (op.Global to name) = tt
refs_before f at (op.Code to name) = tt
refs_before f at (op.Load to place bytes signed) = tt
refs_before f at (op.Store place from bytes) = tt
refs_before f at (op.LoadSigned to place schema) = tt
refs_before f at (op.StoreSigned place from schema) = tt
refs_before f at (op.Call to name arguments) = ((omega arith, omega (arith, length-append (load_arguments f x0 arguments) (Branch Bl (pos 0) ∷ store_result f to))), tt)
refs_before f at (op.CallPlain to called arguments) = tt
refs_before f at (op.CallSigned to place schema arguments) = tt
refs_before f at (op.Label label) = tt
refs_before f at (op.Jump label) = tt
refs_before f at (op.Branch on label) = tt
refs_before f at (op.Return from) = tt

refs_behind : (f : LirFn) (at low : ℕ) (os : List Op) → low ≤ at → AllByRecursion (λ (r : Ref). low ≤ r.at) (refs_from f at os)
unfolding refs_from
refs_behind f at low [] h = tt
refs_behind f at low (o ∷ os) h = both _ (refs_of f at o) _ (weaker (refs_of f at o) (refs_before f at o)) (refs_behind f (at + words_of f o) low os (omega arith))
  where
    weaker : (rs : List Ref) → AllByRecursion (λ (r : Ref). (at ≤ r.at) × (r.at < at + words_of f o)) rs → AllByRecursion (λ (r : Ref). low ≤ r.at) rs
    weaker [] k = tt
    weaker (r ∷ rs) k = (omega (arith, k.0.0), weaker rs k.1)

others_apart : (at : ℕ) (rs : List Ref) → AllByRecursion (λ (r : Ref). suc at ≤ r.at) rs → AllByRecursion (λ k. nat_eq at k ≡ false) (map (λ (r : Ref). r.at) rs)
others_apart at [] h = tt
others_apart at (r ∷ rs) h = (ne_eqb at r.at (λ e. omega (arith, h.0)), others_apart at rs h.1)

-- an operation has one reference at most
few_refs : (f : LirFn) (at : ℕ) (o : Op) (rs : List Ref) → AllByRecursion (λ (r : Ref). at + words_of f o ≤ r.at) rs → IsDistinct nat_eq (map (λ (r : Ref). r.at) rs) → IsDistinct nat_eq (map (λ (r : Ref). r.at) (refs_of f at o ++ rs))
few_refs f at (op.Const to value) rs h d = d
few_refs f at (op.Bin to operator left right) rs h d = d
few_refs f at (op.Un to operator from) rs h d = d
few_refs f at (op.Extend to from bits signed) rs h d = d
few_refs f at (op.Local to local) rs h d = d
few_refs f at (op.Global to name) rs h d = d
few_refs f at (op.Code to name) rs h d = d
few_refs f at (op.Load to place bytes signed) rs h d = d
few_refs f at (op.Store place from bytes) rs h d = d
few_refs f at (op.LoadSigned to place schema) rs h d = d
few_refs f at (op.StoreSigned place from schema) rs h d = d
few_refs f at (op.Call to name arguments) rs h d =
    IsDistinct-cons nat_eq (at + length (load_arguments f x0 arguments)) (map (λ (r : Ref). r.at) rs) (others_apart (at + length (load_arguments f x0 arguments)) rs (weaker rs h)) d
  where
    weaker : (rs : List Ref) → AllByRecursion (λ (r : Ref). at + words_of f (op.Call to name arguments) ≤ r.at) rs → AllByRecursion (λ (r : Ref). suc (at + length (load_arguments f x0 arguments)) ≤ r.at) rs
    weaker [] k = tt
    weaker (r ∷ rs) k = (omega (arith, k.0, length-append (load_arguments f x0 arguments) (Branch Bl (pos 0) ∷ store_result f to)), weaker rs k.1)
few_refs f at (op.CallPlain to called arguments) rs h d = d
few_refs f at (op.CallSigned to place schema arguments) rs h d = d
few_refs f at (op.Label label) rs h d = d
few_refs f at (op.Jump label) rs h d = d
few_refs f at (op.Branch on label) rs h d = d
few_refs f at (op.Return from) rs h d = d

refs_distinct : (f : LirFn) (at : ℕ) (os : List Op) → IsDistinct nat_eq (map (λ (r : Ref). r.at) (refs_from f at os))
unfolding refs_from IsDistinct
refs_distinct f at [] = tt
refs_distinct f at (o ∷ os) = few_refs f at o (refs_from f (at + words_of f o) os) (refs_behind f (at + words_of f o) (at + words_of f o) os (omega arith)) (refs_distinct f (at + words_of f o) os)

-- ---- what is named may be larger

record Larger (thing : Named) (things : List Named) : Type 0 where
  found : Named
  contains : Contains things found
  name : found.name ≡ thing.name
  size : thing.size ≤ found.size

abbrev small : LirFn → Named
small f = record { name = symbol f.name; size = 0 }

larger : (fs : List LirFn) (gs : List Named) (thing : Named) (k : ℕ) → k < length (map small fs ++ gs) → get_or (map small fs ++ gs) k thing ≡ thing → Larger thing (map named fs ++ gs)
larger [] gs thing k h e = record { found = thing; contains = (k, h, e); name = refl; size = omega arith }
larger (f ∷ fs) gs thing zero h e = record {
  found = named f;
  contains = (zero, omega arith, refl);
  name = ap (λ (t : Named). t.name) e;
  size = let none : 0 ≡ thing.size = ap (λ (t : Named). t.size) e in omega arith;
}
larger (f ∷ fs) gs thing (suc k) h e =
    let more = larger fs gs thing k (omega arith) e in
    record { found = more.found; contains = (suc more.contains.0, omega (arith, more.contains.1), more.contains.2); name = more.name; size = more.size }

module _ (lir : Lir) where
  data_same : (gs : List Global) → map {B = Named} (λ (g : Global). record { name = g.name; size = length g.bytes }) (map symbol_global gs) ≡ map {B = Named} (λ (g : Global). record { name = symbol g.name; size = length g.bytes }) gs
  data_same [] = refl
  data_same (g ∷ gs) =
      let first : Named = record { name = symbol g.name; size = length g.bytes } in
      ap (λ l. first ∷ l) (data_same gs)

  data_of-objects : link.data_of (objects_of lir) ≡ ready.symbols_of_globals lir
  data_of-objects = ap (map {B = Named} (λ (g : Global). record { name = g.name; size = length g.bytes })) (globals_of-objects lir lir.functions) ∙ data_same lir.globals

  names_small : (fs : List LirFn) → link.names (map small fs) ≡ link.names (map named fs)
  names_small [] = refl
  names_small (f ∷ fs) = ap (λ l. symbol f.name ∷ l) (names_small fs)

  inside_larger : (addend : ℤ) (name : Text) → IsInside addend name (ready.symbols_of_functions lir ++ ready.symbols_of_globals lir) → IsInside addend name (map named lir.functions ++ ready.symbols_of_globals lir)
  inside_larger (pos addend) name h =
      let more = larger lir.functions (ready.symbols_of_globals lir) h.0 h.1.0 h.1.1 h.1.2 in
      (more.found, more.contains, more.name ∙ h.2, omega (arith, more.size, h.3))
  inside_larger (negsuc addend) name h = absurd h

  slot_larger : (value : SlotValue) → IsSlotValue (ready.symbols_of_functions lir) (ready.symbols_of_globals lir) value → IsSlotValue (map named lir.functions) (ready.symbols_of_globals lir) value
  slot_larger (Address name addend) h = inside_larger addend name h
  slot_larger (Signed name schema) h = (subst (λ ns. IsAmong name (ns ++ link.runtime)) (names_small lir.functions) h.0, h.1)

  slots_larger : (size : ℕ) (slots : List Slot) → AllByRecursion (IsSlot (ready.symbols_of_functions lir) (ready.symbols_of_globals lir) size) slots → AllByRecursion (IsSlot (map named lir.functions) (ready.symbols_of_globals lir) size) slots
  slots_larger size [] h = tt
  slots_larger size (slot ∷ slots) h = (record { aligned = h.0.aligned; inside = h.0.inside; value = slot_larger slot.value h.0.value }, slots_larger size slots h.1)

  globals_larger : (gs : List Global) → AllByRecursion (IsGlobal (ready.symbols_of_functions lir) (ready.symbols_of_globals lir)) gs → AllByRecursion (IsGlobal (map named lir.functions) (ready.symbols_of_globals lir)) gs
  globals_larger [] h = tt
  globals_larger (g ∷ gs) h = (
    record {
      alignment = h.0.alignment;
      slots_ascend = h.0.slots_ascend;
      slots = All-from_recursion _ g.slots (slots_larger (length g.bytes) g.slots (recursion_from_All _ g.slots h.0.slots));
      slots_aligned = h.0.slots_aligned;
      literals_plain = h.0.literals_plain;
    },
    globals_larger gs h.1,
  )

-- ---- the whole

module _ (lir : Lir) (r : Ready lir) where
  functions_of : link.functions_of (objects_of lir) ≡ map named lir.functions
  functions_of = functions_of-objects lir lir.functions

  called : (name : Text) → IsAmong name (map symbol (function_names lir ++ ready.runtime)) → IsAmong name (link.names (link.functions_of (objects_of lir)) ++ link.runtime)
  called name h =
      subst (λ ns. IsAmong name ns)
      (map-append symbol (function_names lir) ready.runtime ∙ (ap (λ ns. map symbol (function_names lir) ++ ns) runtime_symbols ∙ ap (λ ns. ns ++ link.runtime) (sym (function_symbols lir)))) h

  refs_stand : (f : LirFn) (refs : List Ref) → AllByRecursion (Calls (function_names lir) (function_code f)) refs
      → AllByRecursion (IsRef (map encoded (function_code f)) (link.names (link.functions_of (objects_of lir))) (link.names (link.data_of (objects_of lir)))) refs
  refs_stand f [] h = tt
  refs_stand f (ref ∷ refs) h = (
    record {
      stands = omega (arith, h.0.within, length-map (function_code f) encoded);
      fills = λ word e. subst (IsFilledBy (decoded word)) (sym h.0.call) (subst (λ d. IsFilledBy d refers.Call) (sym (bl_decodes word e)) tt);
      names = subst (λ k. link.NamesFor k ref.name (link.names (link.functions_of (objects_of lir))) (link.names (link.data_of (objects_of lir)))) (sym h.0.call) (called ref.name h.0.name);
    },
    refs_stand f refs h.1,
  )
    where
      bl_decodes : (word : ℕ) → slice_get (map encoded (function_code f)) ref.at ≡ Some word → decoded word ≡ Some (Branch Bl (pos 0))
      bl_decodes word e =
          let same : Some word ≡ Some (encoded (Branch Bl (pos 0))) = sym e ∙ h.0.bl in
          ap decoded (ap (λ o. unwrap_or o word) same) ∙ decoded-encoded (Branch Bl (pos 0)) (omega arith)

  code_linkable : (f : LirFn) → ready.IsName f.name → AllByRecursion (IsReadyOp lir) f.ops → IsCode (link.names (link.functions_of (objects_of lir))) (link.names (link.data_of (objects_of lir))) (object_of f)
  unfolding link.Ascends
  code_linkable f name ops = record {
    marks_ascend = tt;
    marks_at_words = All-from_recursion (λ (mark : Mark). mark.at < length (object_of f).code) (mark_of f ∷ []) ((omega (arith, length-map (function_code f) encoded), tt));
    marks_short = All-from_recursion (λ (mark : Mark). length mark.name ≤ 300) (mark_of f ∷ []) ((omega (arith, name.short), tt));
    one_ref_a_word = refs_distinct f (length (prologue f)) f.ops;
    refs = All-from_recursion _ (function_refs f) (refs_stand f (function_refs f) (body_calls lir f (prologue f) f.ops ops));
  }

  objects_linkable : (fs : List LirFn) → AllByRecursion (λ f. ready.IsName f.name) fs → AllByRecursion (λ f. All (IsReadyOp lir) f.ops) fs
      → AllByRecursion (IsCode (link.names (link.functions_of (objects_of lir))) (link.names (link.data_of (objects_of lir)))) (map object_of fs ++ data_of lir ∷ [])
  unfolding IsDistinct link.Ascends
  objects_linkable [] n h = (
    record {
      marks_ascend = tt;
      marks_at_words = All-from_recursion _ [] tt;
      marks_short = All-from_recursion _ [] tt;
      one_ref_a_word = tt;
      refs = All-from_recursion _ [] tt;
    },
    tt,
  )
  objects_linkable (f ∷ fs) n h = (code_linkable f n.0 (recursion_from_All _ f.ops h.0), objects_linkable fs n.1 h.1)

  few_code : (fs : List LirFn) → AllByRecursion IsSelectable fs → sum_by (λ (o : Object). length o.code) (map object_of fs ++ data_of lir ∷ []) ≤ sum_by (λ f. costs f + 64) fs
  few_code [] h = omega arith
  few_code (f ∷ fs) h =
      omega (
        arith,
        sum_by-cons (λ (o : Object). length o.code) (object_of f) (map object_of fs ++ data_of lir ∷ []),
        sum_by-cons (λ f. costs f + 64) f fs,
        length-map (function_code f) encoded,
        length-function_code f,
        words_of_function f h.0,
        few_code fs h.1,
      )

  few_functions : (fs : List LirFn) → 64 * length fs ≤ sum_by (λ f. costs f + 64) fs
  few_functions [] = omega arith
  few_functions (f ∷ fs) = omega (arith, sum_by-cons (λ f. costs f + 64) f fs, few_functions fs)

  same_data : (gs : List Global) → sum_by (λ (g : Global). g.align + length g.bytes) (map symbol_global gs) ≡ sum_by (λ (g : Global). g.align + length g.bytes) gs
  same_data [] = refl
  same_data (g ∷ gs) =
      sum_by-cons (λ (g : Global). g.align + length g.bytes) (symbol_global g) (map symbol_global gs)
      ∙ (ap (λ n. g.align + length g.bytes + n) (same_data gs) ∙ sym (sum_by-cons (λ (g : Global). g.align + length g.bytes) g gs))

  names_all : (fs : List LirFn) (P : Text → Type 0) → AllByRecursion P (map (λ f. f.name) fs ++ global_names lir) → AllByRecursion (λ f. P f.name) fs
  names_all [] P h = tt
  names_all (f ∷ fs) P h = (h.0, names_all fs P h.1)

  symbols_fit : (names : List Text) → AllByRecursion ready.IsName names → AllByRecursion link.IsName (map symbol names)
  symbols_fit [] h = tt
  symbols_fit (n ∷ ns) h = (symbol_fits n h.0, symbols_fit ns h.1)

  pub objects_link : Selectable lir → Linkable (objects_of lir)
  objects_link s =
      let names = recursion_from_All _ _ r.names_fit in
      record {
        names_fit = All-from_recursion _ _ (subst (AllByRecursion link.IsName) (sym (all_symbols lir)) (symbols_fit (function_names lir ++ global_names lir) names));
        names_distinct = subst (IsDistinct bytes_eq) (sym (all_symbols lir)) (distinct_symbols (function_names lir ++ global_names lir) r.names_distinct);
        has_main = subst (IsAmong (codes "_main")) (sym (function_symbols lir)) (among_symbols (codes "main") (function_names lir) ∙ r.has_main);
        code = All-from_recursion _ _ (objects_linkable lir.functions (names_all lir.functions ready.IsName names) (recursion_from_All _ _ r.ops));
        globals = subst (λ gs. All (IsGlobal (link.functions_of (objects_of lir)) (link.data_of (objects_of lir))) gs) (sym (globals_of-objects lir lir.functions))
            (subst (λ fs. All (IsGlobal fs (link.data_of (objects_of lir))) (map symbol_global lir.globals)) (sym functions_of)
            (subst (λ ds. All (IsGlobal (map named lir.functions) ds) (map symbol_global lir.globals)) (sym (data_of-objects lir))
            (All-from_recursion _ _ (globals_larger lir (map symbol_global lir.globals) (recursion_from_All _ _ r.globals)))));
        few_words = omega (arith, few_code lir.functions (recursion_from_All _ _ s), r.few_words);
        small_data = omega (arith, r.small_data, ap (sum_by (λ (g : Global). g.align + length g.bytes)) (globals_of-objects lir lir.functions), same_data lir.globals);
        few_marks = omega (arith, few_functions lir.functions, r.few_words, ap length functions_of, length-map lir.functions named);
      }
