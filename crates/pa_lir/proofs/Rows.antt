-- What small programs in flat code mean, by hand.
use Rattle.std.proofs.Common.{◌≡◌, ℕ, true, false, List, [], ◌∷◌, Some, None, refl, codes}
use Rattle.std.specs.Prelude.{pos, negsuc}
use Rattle.pa_num.specs.Arithmetic.{wrap, add64, sub64}
use Rattle.pa_pac.specs.declared.key.Key.TheVariants.{IA}
use Rattle.pa_pac.specs.declared.schema.Schema.{Schema}
use Rattle.pa_ctype.specs.Values.{Local, Place}
use Rattle.pa_ctype.specs.Traces.{Enter, Load, Call}
use Rattle.pa_object.specs.declared.object.Global.{Global}
use Rattle.pa_object.specs.declared.object.SlotValue.TheVariants.{Address}
use Rattle.pa_lir.specs.declared.op.Op.{Op}
use Rattle.pa_lir.specs.declared.op.Op.TheVariants as op
use Rattle.pa_lir.specs.declared.op.BinOp.TheVariants.{Add, Sub, ULt, Eq, SDiv}
use Rattle.pa_lir.specs.declared.function.LirLocal.{LirLocal}
use Rattle.pa_lir.specs.declared.function.LirFn.{LirFn}
use Rattle.pa_lir.specs.declared.function.Lir.{Lir}
use Rattle.pa_lir.specs.Parts.{above, above_all}
use Rattle.pa_lir.specs.Flow.{place_of_label}
use Rattle.pa_lir.specs.Values.{octets, parts, number_in, are_parts}
use Rattle.pa_lir.specs.Meaning.{FlatEnd, Done, Stop, Undefined, lmean, run, unit, act_of, applied, arrives, born, depth, temp_in, temps_of, function_named, global_named, owner_from, with_slots, without}

abbrev local : ℕ → LirLocal
local n = record { size = n; align = n }

abbrev fn : List ℕ → ℕ → List LirLocal → List Op → LirFn
fn name parameters locals ops = record { name = name; public = true; parameters = parameters; locals = locals; ops = ops }

abbrev program : List LirFn → List Global → Lir
program functions globals = record { functions = functions; globals = globals }

abbrev returns : ℕ → List Op
returns t = op.Return (Some t) ∷ []

abbrev main_of : List LirLocal → List Op → Lir
main_of locals ops = program (fn (codes "main") 0 locals ops ∷ []) []

-- the end of a program without input
abbrev end_at : ℕ → Lir → FlatEnd
end_at fuel lir = (lmean lir [] fuel).end

-- `putchar(65); return 0;`
abbrev prints : Lir
prints = main_of [] (op.Const 0 65 ∷ op.Call None (codes "putchar") (0 ∷ []) ∷ op.Const 0 0 ∷ returns 0)

prints_a_byte : lmean prints [] 6 ≡ record { end = Done (pos 0); output = 65 ∷ []; trace = Enter (codes "main") ∷ Enter (codes "putchar") ∷ []; operations = 4; cost = 49; deep = 232 }
unfolding run unit act_of applied arrives born depth temp_in temps_of function_named above above_all without
prints_a_byte = refl

-- its six units are two entries and four operations
stops_before : lmean prints [] 5 ≡ record { end = Stop; output = 65 ∷ []; trace = Enter (codes "main") ∷ Enter (codes "putchar") ∷ []; operations = 3; cost = 43; deep = 232 }
unfolding run unit act_of applied arrives born depth temp_in temps_of function_named above above_all without
stops_before = refl

stops_at_once : lmean prints [] 0 ≡ record { end = Stop; output = []; trace = []; operations = 0; cost = 0; deep = 0 }
unfolding run
stops_at_once = refl

-- a byte is written and read as a signed one
abbrev byte_back : (bytes : ℕ) → Lir
byte_back bytes = main_of (local 4 ∷ []) (op.Local 0 0 ∷ op.Const 1 456 ∷ op.Store 0 1 1 ∷ op.Load 2 0 bytes true ∷ returns 2)

signed_byte : end_at 6 (byte_back 1) ≡ Done (negsuc 55)
unfolding run unit act_of applied arrives born depth temp_in function_named above above_all without octets number_in
signed_byte = refl

-- the other bytes have no value
unset_bytes : end_at 6 (byte_back 4) ≡ Undefined
unfolding run unit act_of applied arrives born depth temp_in function_named above above_all without octets number_in are_parts
unset_bytes = refl

beyond_the_object : end_at 6 (byte_back 8) ≡ Undefined
unfolding run unit act_of applied arrives born depth temp_in function_named above above_all without octets number_in are_parts
beyond_the_object = refl

abbrev schema : Schema
schema = record { key = IA; addr = true; disc = 7 }

-- `int f(int x) { return x; }`, called by a pointer that is stored under one schema and loaded under another
abbrev by_pointer : Schema → Lir
by_pointer loaded =
    program
    (fn (codes "f") 1 (local 4 ∷ []) (op.Local 0 0 ∷ op.Load 1 0 4 true ∷ returns 1)
    ∷ fn (codes "main") 0 (local 8 ∷ []) (op.Local 0 0 ∷ op.Code 1 (codes "f") ∷ op.StoreSigned 0 1 schema ∷ op.Const 2 5 ∷ op.CallSigned (Some 3) 0 loaded (2 ∷ []) ∷ returns 3)
    ∷ []) []

abbrev stored_at : Place
stored_at = record { owner = Local 0; offset = 0 }

calls_by_pointer : lmean (by_pointer schema) [] 11 ≡ record {
  end = Done (pos 5);
  output = [];
  trace = Enter (codes "main") ∷ Load schema stored_at (codes "f") ∷ Call (codes "f") (Some (record { schema = schema; place = stored_at })) ∷ Enter (codes "f") ∷ [];
  operations = 9;
  cost = 88;
  deep = 528;
}
unfolding run unit act_of applied arrives born depth temp_in temps_of function_named owner_from above above_all without octets parts number_in are_parts
calls_by_pointer = refl

other_schema : end_at 11 (by_pointer (record { key = IA; addr = true; disc = 8 })) ≡ Undefined
unfolding run unit act_of applied arrives born depth temp_in temps_of function_named owner_from above above_all without octets parts number_in are_parts
other_schema = refl

-- `i = 3; do putchar(i); while (0 < (i = i - 1)); return i;`
abbrev counts_down : Lir
counts_down =
    main_of []
    (op.Const 0 3 ∷ op.Const 1 1 ∷ op.Const 3 0 ∷ op.Label 9 ∷ op.Call (Some 2) (codes "putchar") (0 ∷ []) ∷ op.Bin 0 Sub 0 1
    ∷ op.Bin 2 ULt 3 0 ∷ op.Branch 2 9 ∷ returns 0)

loops : lmean counts_down [] 40 ≡ record { end = Done (pos 0); output = 3 ∷ 2 ∷ 1 ∷ []; trace = Enter (codes "main") ∷ Enter (codes "putchar") ∷ Enter (codes "putchar") ∷ Enter (codes "putchar") ∷ []; operations = 16; cost = 177; deep = 256 }
unfolding wrap add64 sub64 run unit act_of applied arrives born depth temp_in temps_of function_named place_of_label above above_all without
loops = refl

-- the low byte of the input, and -1 behind its end
abbrev reads : Lir
reads = main_of [] (op.Call (Some 0) (codes "getchar") [] ∷ op.Call (Some 1) (codes "getchar") [] ∷ op.Bin 0 Add 0 1 ∷ returns 0)

reads_to_the_end : (lmean reads (66 ∷ []) 9).end ≡ Done (pos 65)
unfolding wrap add64 sub64 run unit act_of applied arrives born depth temp_in temps_of function_named above above_all without
reads_to_the_end = refl

divides_by_zero : end_at 9 (main_of [] (op.Const 0 1 ∷ op.Const 1 0 ∷ op.Bin 0 SDiv 0 1 ∷ returns 0)) ≡ Undefined
unfolding run unit act_of applied arrives born depth temp_in function_named above above_all without
divides_by_zero = refl

-- ---- globals

-- `"A"`, a string literal, and `p`, a pointer to it that is not constant
abbrev with_globals : List Op → Lir
with_globals ops =
    program (fn (codes "main") 0 [] ops ∷ [])
    (record { name = codes "t"; align = 1; constant = true; bytes = 65 ∷ 0 ∷ []; slots = [] }
    ∷ record { name = codes "p"; align = 8; constant = false; bytes = 0 ∷ 0 ∷ 0 ∷ 0 ∷ 0 ∷ 0 ∷ 0 ∷ 0 ∷ []; slots = record { offset = 0; value = Address (codes "t") (pos 1) } ∷ [] }
    ∷ [])

-- a byte before what `p` points to
through_a_slot : end_at 9 (with_globals (op.Global 0 (codes "p") ∷ op.Load 0 0 8 false ∷ op.Const 1 1 ∷ op.Bin 0 Sub 0 1 ∷ op.Load 0 0 1 false ∷ returns 0)) ≡ Done (pos 65)
unfolding wrap add64 sub64 run unit act_of applied arrives born depth temp_in function_named global_named with_slots above above_all without octets parts number_in are_parts
through_a_slot = refl

-- the literal can't be written
writes_a_literal : end_at 9 (with_globals (op.Global 0 (codes "t") ∷ op.Const 1 66 ∷ op.Store 0 1 1 ∷ returns 1)) ≡ Undefined
unfolding run unit act_of applied arrives born depth temp_in function_named global_named with_slots above above_all without octets parts number_in are_parts
writes_a_literal = refl

-- what is behind an object's end is no place
leaves_the_object : end_at 9 (with_globals (op.Global 0 (codes "t") ∷ op.Const 1 3 ∷ op.Bin 0 Add 0 1 ∷ returns 1)) ≡ Undefined
unfolding wrap add64 sub64 run unit act_of applied arrives born depth temp_in function_named global_named with_slots above above_all without octets parts number_in are_parts
leaves_the_object = refl

-- the end of one object and the first byte of another are not compared
compares_an_end : end_at 9 (with_globals (op.Global 0 (codes "t") ∷ op.Const 1 2 ∷ op.Bin 0 Add 0 1 ∷ op.Global 1 (codes "p") ∷ op.Bin 0 Eq 0 1 ∷ returns 0)) ≡ Undefined
unfolding wrap add64 sub64 run unit act_of applied arrives born depth temp_in function_named global_named with_slots above above_all without octets parts number_in are_parts
compares_an_end = refl

compares_two : end_at 9 (with_globals (op.Global 0 (codes "t") ∷ op.Global 1 (codes "p") ∷ op.Bin 0 Eq 0 1 ∷ returns 0)) ≡ Done (pos 0)
unfolding run unit act_of applied arrives born depth temp_in function_named global_named with_slots above above_all without octets parts number_in are_parts
compares_two = refl
