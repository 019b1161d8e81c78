-- The meaning of flat code: what a program does, a unit at a time. A unit is an operation, or the entry of a function that is
-- called.
use Rattle.std.specs.Prelude.{ℕ, zero, suc, ◌+◌, ◌-◌, ◌%◌, ◌^◌, max, ℤ, pos, Bool, true, false, ◌==◌, nat_lt, if◌then◌else◌, List, [], ◌∷◌, ◌++◌, length, map, replicate, reverse, slice_get, slice_set, codes, Option, Some, None, option_and_then, option_map}
use Rattle.std.specs.Int.{w32, cast_signed}
use Rattle.std.specs.Str.{bytes_eq}
use Rattle.pa_pac.specs.declared.schema.Schema.{Schema}
use Rattle.pa_ctype.specs.Values.{Owner, Global, Text, Local, Place}
use Rattle.pa_ctype.specs.Traces.{Enter, Load, Call, Trace}
use Rattle.pa_object.specs.declared.object.Global as data_global
use Rattle.pa_object.specs.declared.object.Slot.{Slot}
use Rattle.pa_object.specs.declared.object.SlotValue.{SlotValue}
use Rattle.pa_object.specs.declared.object.SlotValue.TheVariants.{Address, Signed}
use Rattle.pa_lir.specs.declared.op.Op.{Op}
use Rattle.pa_lir.specs.declared.op.Op.TheVariants as op
use Rattle.pa_lir.specs.declared.function.LirLocal.{LirLocal}
use Rattle.pa_lir.specs.declared.function.LirFn.{LirFn}
use Rattle.pa_lir.specs.declared.function.Lir.{Lir}
use Rattle.pa_lir.specs.Parts.{cost, counted, frame_bound}
use Rattle.pa_lir.specs.Flow.{place_of_label}
use Rattle.pa_lir.specs.Values.{FlatValue, Number, At, Code, plain, same_schema, Byte, Unset, Octet, parts, bytes_of, value_in, signed_in, sealed, extended, Object, Objects, bytes_at, overwritten, written}
use Rattle.pa_lir.specs.Operators.{binary, unary}

abbrev Data : Type 0
Data = data_global.Global

-- ---- states

-- an open call: its function, the place of its next operation, its temporaries that have a value with the newest first, the
-- number of its first local, and the temporary of its caller that gets the result
pub record Open : Type 0 where
  pub function : LirFn
  pub at : ℕ
  pub temps : List (ℕ × FlatValue)
  pub first : ℕ
  pub into : Option ℕ

-- a call that is made, whose function isn't entered yet
pub record Coming : Type 0 where
  pub name : List ℕ
  pub arguments : List FlatValue
  pub into : Option ℕ

-- how a run ends: with the status of the program, at its bound, or in what is undefined
pub data FlatEnd : Type 0 where
  Done : (status : ℤ) → FlatEnd
  Stop : FlatEnd
  Undefined : FlatEnd

-- The open calls with the newest first, the call that is made if one is, the objects, what is left of the input, the output, the
-- trace with the newest first, how many operations ran (labels aside), the sum of their costs, the most bytes of stack that open
-- calls had together, and the end if it has come.
pub record Flat : Type 0 where
  pub opens : List Open
  pub coming : Option Coming
  pub objects : Objects
  pub input : List ℕ
  pub output : List ℕ
  pub trace : Trace
  pub operations : ℕ
  pub cost : ℕ
  pub deep : ℕ
  pub ended : Option FlatEnd

unfoldable pub temp_in : List (ℕ × FlatValue) → ℕ → Option FlatValue
temp_in [] t = None
temp_in (given ∷ older) t = if given.0 == t then Some given.1 else temp_in older t

-- the value of a temporary
abbrev pub temp : Open → ℕ → Option FlatValue
temp o t = temp_in o.temps t

abbrev pub and_values : Option FlatValue → Option (List FlatValue) → Option (List FlatValue)
and_values (Some v) (Some vs) = Some (v ∷ vs)
and_values _ _ = None

-- the values of temporaries, if each has one
unfoldable pub temps_of : Open → List ℕ → Option (List FlatValue)
temps_of o [] = Some []
temps_of o (t ∷ ts) = and_values (temp o t) (temps_of o ts)

-- the bytes of the frames of open calls
unfoldable pub depth : List Open → ℕ
depth [] = 0
depth (o ∷ os) = frame_bound o.function + depth os

-- ---- names

-- the function of that name
unfoldable pub function_named : List LirFn → List ℕ → Option LirFn
function_named [] name = None
function_named (f ∷ fs) name = if bytes_eq f.name name then Some f else function_named fs name

abbrev pub suc_in : Option ℕ → Option ℕ
suc_in i = option_map (λ i. suc i) i

-- the number of the global of that name
unfoldable pub global_named : List Data → List ℕ → Option ℕ
global_named [] name = None
global_named (g ∷ gs) name = if bytes_eq g.name name then Some 0 else suc_in (global_named gs name)

-- The owner of an object, by its number: a global that is constant is a string literal, by its place among these, and an object
-- that is no global is a local.
unfoldable pub owner_from : (texts passed : ℕ) → List Data → ℕ → Owner
owner_from texts passed [] o = Local (passed + o)
owner_from texts passed (g ∷ gs) zero = if g.constant then Text texts else Global g.name
owner_from texts passed (g ∷ gs) (suc o) = owner_from (if g.constant then suc texts else texts) (suc passed) gs o

abbrev pub owner_in : Lir → ℕ → Owner
owner_in lir o = owner_from 0 0 lir.globals o

abbrev pub place_of : Lir → ℕ → ℕ → Place
place_of lir o offset = record { owner = owner_in lir o; offset = offset }

-- ---- what an operation does

pub data Act : Type 0 where
  -- a temporary gets a value
  Gives : (to : ℕ) (value : FlatValue) (seen : Trace) → Act
  -- an object becomes this one
  Changes : (object : ℕ) (to : Object) → Act
  -- goes on at this place
  Goes : (at : ℕ) → Act
  -- a call is made
  Calls : (coming : Coming) (seen : Trace) → Act
  -- the function ends
  Returns : (value : Option FlatValue) → Act

abbrev pub gives : ℕ → Option FlatValue → Option Act
gives to value = option_map (λ value. Gives to value []) value

abbrev pub on_two : (FlatValue → FlatValue → Option Act) → Option FlatValue → Option FlatValue → Option Act
on_two k (Some u) (Some v) = k u v
on_two k _ _ = None

abbrev pub extends : ℕ → Bool → FlatValue → Option FlatValue
extends bits signed (Number x) = Some (Number (extended bits signed x))
extends bits signed _ = None

-- what n bytes at a place are
abbrev pub bytes_from : Objects → ℕ → FlatValue → Option (List Byte)
bytes_from objects n (At o offset) = option_and_then (bytes_at n offset) (slice_get objects o)
bytes_from objects n _ = None

-- bytes are written at a place
abbrev pub writes : Objects → FlatValue → List Byte → Option Act
writes objects (At o offset) bytes = option_map (Changes o) (option_and_then (written offset bytes) (slice_get objects o))
writes objects _ bytes = None

-- a load of a function under another schema than that of plain pointers is seen
abbrev pub seen_load : Lir → Schema → FlatValue → FlatValue → Trace
seen_load lir schema (At o offset) (Code name s) = if same_schema schema plain then [] else Load schema (place_of lir o offset) name ∷ []
seen_load lir schema _ _ = []

abbrev pub signed_at : Objects → Schema → FlatValue → Option FlatValue
signed_at objects schema at = option_and_then (signed_in schema) (bytes_from objects 8 at)

abbrev pub loads_signed : Lir → Objects → ℕ → Schema → FlatValue → Option Act
loads_signed lir objects to schema at = option_map (λ value. Gives to value (seen_load lir schema at value)) (signed_at objects schema at)

abbrev pub stores : Objects → ℕ → FlatValue → FlatValue → Option Act
stores objects n at value = option_and_then (writes objects at) (bytes_of n value)

abbrev pub stores_signed : Objects → Schema → FlatValue → FlatValue → Option Act
stores_signed objects schema at value = option_and_then (writes objects at) (sealed schema value)

abbrev pub comes : Option ℕ → List ℕ → Trace → List FlatValue → Act
comes into name seen arguments = Calls (record { name = name; arguments = arguments; into = into }) seen

-- a call of a plain pointer is seen, without a place
abbrev pub calls_plain : Option ℕ → Option (List FlatValue) → FlatValue → Option Act
calls_plain into arguments (Code name s) = if same_schema plain s then option_map (comes into name (Call name None ∷ [])) arguments else None
calls_plain into arguments _ = None

-- the newest first
abbrev pub seen_call : Lir → Schema → FlatValue → FlatValue → List ℕ → Trace
seen_call lir schema (At o offset) value name = Call name (Some (record { schema = schema; place = place_of lir o offset })) ∷ seen_load lir schema (At o offset) value
seen_call lir schema _ value name = []

abbrev pub calls_loaded : Lir → Option ℕ → Schema → Option (List FlatValue) → FlatValue → FlatValue → Option Act
calls_loaded lir into schema arguments at (Code name s) = option_map (comes into name (seen_call lir schema at (Code name s) name)) arguments
calls_loaded lir into schema arguments at _ = None

-- a call of the pointer that is stored at a place: its load and the call are seen
abbrev pub calls_signed : Lir → Objects → Option ℕ → Schema → Option (List FlatValue) → FlatValue → Option Act
calls_signed lir objects into schema arguments at = option_and_then (calls_loaded lir into schema arguments at) (signed_at objects schema at)

abbrev pub branches : Open → ℕ → FlatValue → Option Act
branches o label (Number zero) = Some (Goes (suc o.at))
branches o label _ = option_map Goes (place_of_label o.function.ops label)

abbrev pub returns : Open → Option ℕ → Option Act
returns o None = Some (Returns None)
returns o (Some from) = option_map (λ value. Returns (Some value)) (temp o from)

-- What the operation at the open call's place does, and none where it is undefined.
unfoldable pub act_of : Lir → Objects → Open → Op → Option Act
act_of lir objects o (op.Const to value) = gives to (Some (Number value))
act_of lir objects o (op.Bin to operator left right) = on_two (λ u v. gives to (binary objects operator u v)) (temp o left) (temp o right)
act_of lir objects o (op.Un to operator from) = gives to (option_and_then (unary operator) (temp o from))
act_of lir objects o (op.Extend to from bits signed) = gives to (option_and_then (extends bits signed) (temp o from))
act_of lir objects o (op.Local to local) = gives to (if nat_lt local (length o.function.locals) then Some (At (o.first + local) 0) else None)
act_of lir objects o (op.Global to name) = gives to (option_map (λ g. At g 0) (global_named lir.globals name))
act_of lir objects o (op.Code to name) = gives to (Some (Code name plain))
act_of lir objects o (op.Load to at bytes signed) = gives to (option_and_then (value_in signed) (option_and_then (bytes_from objects bytes) (temp o at)))
act_of lir objects o (op.Store at from bytes) = on_two (stores objects bytes) (temp o at) (temp o from)
act_of lir objects o (op.LoadSigned to at schema) = option_and_then (loads_signed lir objects to schema) (temp o at)
act_of lir objects o (op.StoreSigned at from schema) = on_two (stores_signed objects schema) (temp o at) (temp o from)
act_of lir objects o (op.Call to name arguments) = option_map (comes to name []) (temps_of o arguments)
act_of lir objects o (op.CallPlain to called arguments) = option_and_then (calls_plain to (temps_of o arguments)) (temp o called)
act_of lir objects o (op.CallSigned to at schema arguments) = option_and_then (calls_signed lir objects to schema (temps_of o arguments)) (temp o at)
act_of lir objects o (op.Label label) = Some (Goes (suc o.at))
act_of lir objects o (op.Jump label) = option_map Goes (place_of_label o.function.ops label)
act_of lir objects o (op.Branch on label) = option_and_then (branches o label) (temp o on)
act_of lir objects o (op.Return from) = returns o from

-- ---- doing it

abbrev pub ends : FlatEnd → Flat → Flat
ends e s = record s { ended = Some e }

abbrev pub undefined : Flat → Flat
undefined s = ends Undefined s

-- goes on in this open call, before the others
abbrev pub goes_on : Open → List Open → Flat → Flat
goes_on o os s = record s { opens = o ∷ os }

abbrev pub next_op : Open → Open
next_op o = record o { at = suc o.at }

abbrev pub with_temp : ℕ → FlatValue → Open → Open
with_temp t value o = record o { temps = (t, value) ∷ o.temps; at = suc o.at }

-- the open call with the result of its call, if it is used; a result that is used and missing is undefined
abbrev pub with_result : Option ℕ → Option FlatValue → Open → Option Open
with_result None value o = Some (next_op o)
with_result (Some t) None o = None
with_result (Some t) (Some value) o = Some (with_temp t value o)

abbrev pub died : Object → Object
died object = record object { alive = false }

-- n objects from one on die
unfoldable pub without : ℕ → ℕ → Objects → Objects
without first zero objects = objects
without zero (suc n) [] = []
without zero (suc n) (object ∷ objects) = died object ∷ without zero n objects
without (suc first) (suc n) [] = []
without (suc first) (suc n) (object ∷ objects) = object ∷ without first (suc n) objects

abbrev pub resumes : Option Open → List Open → Flat → Flat
resumes None os s = undefined s
resumes (Some o) os s = goes_on o os s

-- the status of a program is the low 32 bits of what `main` returns, as a signed number
abbrev pub status_of : ℕ → ℤ
status_of x = cast_signed w32 (x % 2 ^ 32)

abbrev pub finishes : Option FlatValue → Flat → Flat
finishes (Some (Number x)) s = ends (Done (status_of x)) s
finishes _ s = undefined s

-- the result goes to the caller, or ends the program
abbrev pub leaves : Option ℕ → Option FlatValue → List Open → Flat → Flat
leaves into value [] s = finishes value (record s { opens = [] })
leaves into value (o ∷ os) s = resumes (with_result into value o) os s

unfoldable pub applied : Open → List Open → Act → Flat → Flat
applied o os (Gives to value seen) s = record s { opens = with_temp to value o ∷ os; trace = seen ++ s.trace }
applied o os (Changes object to) s = record s { opens = next_op o ∷ os; objects = slice_set s.objects object to }
applied o os (Goes at) s = goes_on (record o { at = at }) os s
applied o os (Calls coming seen) s = record s { coming = Some coming; trace = seen ++ s.trace }
applied o os (Returns value) s = leaves o.into value os (record s { objects = without o.first (length o.function.locals) s.objects })

-- ---- entries

abbrev pub putchar : List ℕ
putchar = codes "putchar"

abbrev pub getchar : List ℕ
getchar = codes "getchar"

abbrev pub main : List ℕ
main = codes "main"

-- an object of n bytes that comes to life
abbrev pub fresh : ℕ → Object
fresh n = record { alive = true; constant = false; bytes = replicate n Unset }

-- a parameter with its argument
abbrev pub filled : LirLocal → FlatValue → Option Object
filled l value = option_map (λ bytes. record { alive = true; constant = false; bytes = bytes }) (bytes_of l.size value)

abbrev pub and_objects : Option Object → Option Objects → Option Objects
and_objects (Some object) (Some objects) = Some (object ∷ objects)
and_objects _ _ = None

-- The locals of a function, of which so many are parameters. A missing argument leaves its parameter without a value, and
-- further ones count for nothing.
unfoldable pub born : ℕ → List LirLocal → List FlatValue → Option Objects
born parameters [] arguments = Some []
born zero (l ∷ ls) arguments = and_objects (Some (fresh l.size)) (born zero ls arguments)
born (suc n) (l ∷ ls) [] = and_objects (Some (fresh l.size)) (born n ls [])
born (suc n) (l ∷ ls) (value ∷ values) = and_objects (filled l value) (born n ls values)

abbrev pub entered : LirFn → Option ℕ → Flat → Open
entered f into s = record { function = f; at = 0; temps = []; first = length s.objects; into = into }

abbrev pub enters : LirFn → Option ℕ → Flat → Option Objects → Flat
enters f into s None = undefined s
enters f into s (Some locals) =
    record s {
      opens = entered f into s ∷ s.opens;
      objects = s.objects ++ locals;
      trace = Enter f.name ∷ s.trace;
      deep = max s.deep (frame_bound f + depth s.opens);
    }

-- the caller goes on with what the runtime's function gives
abbrev pub answers : Option ℕ → FlatValue → Flat → List Open → Flat
answers into value s [] = undefined s
answers into value s (o ∷ os) = resumes (with_result into (Some value) o) os s

abbrev pub prints : Option ℕ → List FlatValue → Flat → Flat
prints into (Number x ∷ arguments) s =
    answers into (Number (x % 256)) (record s { output = s.output ++ x % 256 ∷ []; trace = Enter putchar ∷ s.trace }) s.opens
prints into _ s = undefined s

-- the next byte of the input, or -1
abbrev pub byte_or_end : List ℕ → ℕ
byte_or_end [] = 2 ^ 64 - 1
byte_or_end (byte ∷ bytes) = byte

abbrev pub rest_of : List ℕ → List ℕ
rest_of [] = []
rest_of (byte ∷ bytes) = bytes

abbrev pub reads : Option ℕ → Flat → Flat
reads into s =
    answers into (Number (byte_or_end s.input)) (record s { input = rest_of s.input; trace = Enter getchar ∷ s.trace }) s.opens

abbrev pub enters_named : Coming → Flat → Option LirFn → Flat
enters_named c s None = undefined s
enters_named c s (Some f) = enters f c.into s (born f.parameters f.locals c.arguments)

-- the entry of the function whose call is made
unfoldable pub arrives : Lir → Coming → Flat → Flat
arrives lir c s =
    if bytes_eq c.name putchar then prints c.into c.arguments s
    else (if bytes_eq c.name getchar then reads c.into s
    else enters_named c s (function_named lir.functions c.name))

-- ---- runs

abbrev pub counts : Op → Flat → Flat
counts o s = record s { operations = s.operations + counted o; cost = s.cost + cost o }

abbrev pub applied_if : Open → List Open → Option Act → Flat → Flat
applied_if o os None s = undefined s
applied_if o os (Some act) s = applied o os act s

abbrev pub operates : Lir → Open → List Open → Option Op → Flat → Flat
operates lir o os None s = undefined s
operates lir o os (Some operation) s = applied_if o os (act_of lir s.objects o operation) (counts operation s)

abbrev pub continues : Lir → List Open → Flat → Flat
continues lir [] s = undefined s
continues lir (o ∷ os) s = operates lir o os (slice_get o.function.ops o.at) s

abbrev pub unit_from : Lir → Option Coming → Flat → Flat
unit_from lir None s = continues lir s.opens s
unit_from lir (Some c) s = arrives lir c (record s { coming = None })

abbrev pub unless_ended : Option FlatEnd → Flat → Flat → Flat
unless_ended None before after = after
unless_ended (Some e) before after = before

-- one unit more; a run that has ended stays as it is
unfoldable pub unit : Lir → Flat → Flat
unit lir s = unless_ended s.ended s (unit_from lir s.coming s)

-- so many units
unfoldable pub run : Lir → ℕ → Flat → Flat
run lir zero s = s
run lir (suc n) s = run lir n (unit lir s)

-- ---- whole programs

abbrev pub plain_bytes : List ℕ → List Byte
plain_bytes bytes = map Octet bytes

abbrev pub place_bytes : ℤ → Option ℕ → List Byte
place_bytes (pos addend) (Some o) = parts 8 (At o addend)
place_bytes _ _ = replicate 8 Unset

-- the bytes of a slot: a place in a global, or a function under its schema
abbrev pub slot_bytes : List Data → SlotValue → List Byte
slot_bytes globals (Address name addend) = place_bytes addend (global_named globals name)
slot_bytes globals (Signed name schema) = parts 8 (Code name schema)

unfoldable pub with_slots : List Data → List Slot → List Byte → List Byte
with_slots globals [] bytes = bytes
with_slots globals (slot ∷ slots) bytes = with_slots globals slots (overwritten bytes slot.offset (slot_bytes globals slot.value))

abbrev pub object_of : List Data → Data → Object
object_of globals g = record { alive = true; constant = g.constant; bytes = with_slots globals g.slots (plain_bytes g.bytes) }

-- before the entry of `main`
abbrev pub begun : Lir → (input : List ℕ) → Flat
begun lir input =
    record {
      opens = [];
      coming = Some (record { name = main; arguments = []; into = None });
      objects = map (object_of lir.globals) lir.globals;
      input = input;
      output = [];
      trace = [];
      operations = 0;
      cost = 0;
      deep = 0;
      ended = None;
    }

-- what a run shows; the trace in order
pub record FlatMeaning : Type 0 where
  pub end : FlatEnd
  pub output : List ℕ
  pub trace : Trace
  pub operations : ℕ
  pub cost : ℕ
  pub deep : ℕ

abbrev pub end_of : Option FlatEnd → FlatEnd
end_of None = Stop
end_of (Some e) = e

abbrev pub shown : Flat → FlatMeaning
shown s =
    record {
      end = end_of s.ended;
      output = s.output;
      trace = reverse s.trace;
      operations = s.operations;
      cost = s.cost;
      deep = s.deep;
    }

-- the meaning of a program on an input, where it ends within so many units; else what it has shown by then
abbrev pub lmean : Lir → (input : List ℕ) → (fuel : ℕ) → FlatMeaning
lmean lir input fuel = shown (run lir fuel (begun lir input))
