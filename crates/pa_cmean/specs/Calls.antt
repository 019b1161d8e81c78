-- What a call does (C11 6.5.2.2), of a function of the program or of the runtime's two (7.21.7.6, 7.21.7.8).
use Rattle.std.specs.Prelude.{ℕ, ◌==◌, pos, negsuc, Bool, true, false, List, [], ◌∷◌, if◌then◌else◌, Option, Some, None, codes}
use Rattle.std.specs.Str.{bytes_eq}
use Rattle.pa_pac.specs.declared.schema.Schema.{Schema}
use Rattle.pa_pac.specs.Key.{same_key}
use Rattle.pa_pac.specs.declared.key.Key.TheVariants.{IA}
use Rattle.pa_ctype.specs.Types.{TypeTree, Of, FormTree, Void, Integer, Function, Nil, Cons}
use Rattle.pa_ctype.specs.Equality.{same_but_const}
use Rattle.pa_ctype.specs.Traces.{Under, Load, Call}
use Rattle.pa_ctype.specs.Values.{Place, CValue, Number, Code}
use Rattle.pa_typed.specs.Typed.{TypedExpr, LoadSigned}
use Rattle.pa_integer.specs.Integers.{residue}
use Rattle.pa_cmean.specs.Results.{Meaning, undefined, printed, shown, entered}
use Rattle.pa_typed.specs.Units.{FunctionTree, ProgramTree, function_named}
use Rattle.pa_cmean.specs.Operations.{nothing}
use Rattle.pa_cmean.specs.State.{Here, World, State, Cont, Exits, Body, Again, tick, choose, onward, entering, left_behind}

abbrev pub int : TypeTree
int = Of false (Integer 32 true)

-- the runtime's functions
abbrev pub putchar : List ℕ
putchar = codes "putchar"

abbrev pub getchar : List ℕ
getchar = codes "getchar"

abbrev pub main : List ℕ
main = codes "main"

abbrev pub runtime_type : List ℕ → Option TypeTree
runtime_type name = if bytes_eq name putchar then Some (Of false (Function (Cons int Nil) int)) else if bytes_eq name getchar then Some (Of false (Function Nil int)) else None

abbrev pub defined_type : List ℕ → Option FunctionTree → Option TypeTree
defined_type name None = runtime_type name
defined_type name (Some f) = Some f.of

-- the type of the function of this name
abbrev pub function_type : ProgramTree → List ℕ → Option TypeTree
function_type program name = defined_type name (function_named program.functions name)

abbrev pub is_void_result : FormTree → Bool
is_void_result (Function params (Of constant Void)) = true
is_void_result _ = false

abbrev pub gives_nothing : TypeTree → Bool
gives_nothing (Of constant form) = is_void_result form

-- The end of a function's body (6.9.1p12): one without a value gives none, `main` gives 0 (5.1.2.2.3), any other is undefined.
abbrev pub runs_out : FunctionTree → Cont → State → Meaning
runs_out f give = choose (gives_nothing f.of) (give nothing) (choose (bytes_eq f.name main) (give (Number (pos 0))) (λ st. undefined))

-- the ways out of a body, back to the caller
abbrev pub returning : FunctionTree → Cont → Here → Cont
returning f k caller = λ v st. k v (left_behind f caller st)

abbrev pub exits_of : FunctionTree → Cont → Here → Exits
exits_of f k caller = record {
  next = runs_out f (returning f k caller);
  leave = λ st. undefined;
  proceed = λ st. undefined;
  give = returning f k caller;
}

-- `putchar` prints the low byte and gives it; `getchar` gives the next byte, or EOF
unfoldable pub puts : List CValue → Cont → State → Meaning
puts (Number n ∷ []) k st = tick st (λ st. entered putchar st.world.here.depth (printed (residue 8 n) (k (Number (pos (residue 8 n))) st)))
puts _ k st = undefined

abbrev pub next_byte : List ℕ → Cont → State → Meaning
next_byte [] k st = k (Number (negsuc 0)) st
next_byte (byte ∷ bytes) k st = k (Number (pos byte)) (record st { world = record st.world { input = bytes } })

unfoldable pub gets : List CValue → Cont → State → Meaning
gets [] k st = tick st (λ st. entered getchar st.world.here.depth (next_byte st.world.input k st))
gets _ k st = undefined

unfoldable pub runtime : List ℕ → List CValue → Cont → State → Meaning
runtime name vs k = choose (bytes_eq name putchar) (puts vs k) (choose (bytes_eq name getchar) (gets vs k) (λ st. undefined))

module _ (program : ProgramTree) (again : Again) where
  -- a function is entered: its unit, its name, its parameters (6.5.2.2p4) and its body
  abbrev pub inside : FunctionTree → Cont → Here → State → Meaning
  inside f k caller st = entered f.name st.world.here.depth (again (Body f.body) (exits_of f k caller) st)

  unfoldable pub enter : FunctionTree → List CValue → Cont → State → Meaning
  enter f vs k st = tick st (λ st. onward (entering program.structs f vs st.world) (inside f k st.world.here) st)

  abbrev pub called : Option FunctionTree → List ℕ → List CValue → Cont → State → Meaning
  called None name vs k st = runtime name vs k st
  called (Some f) name vs k st = enter f vs k st

  unfoldable pub call : List ℕ → List CValue → Cont → State → Meaning
  call name vs k st = called (function_named program.functions name) name vs k st

  -- a call by a pointer, which has to be of the function's own type (6.5.2.2p9); null is no function
  abbrev pub is_called_as : Option TypeTree → Option TypeTree → Bool
  is_called_as (Some a) (Some b) = same_but_const a b
  is_called_as _ _ = false

  unfoldable pub call_pointer : Option TypeTree → Option Under → CValue → List CValue → Cont → State → Meaning
  call_pointer of under (Code name) vs k st = choose (is_called_as of (function_type program name)) (λ st. shown (Call name under) (call name vs k st)) (λ st. undefined) st
  call_pointer of under _ vs k st = undefined

-- the schema and place of a called expression that is the load of a qualified pointer
abbrev pub under_of : TypedExpr → World → Option Under
under_of (LoadSigned from schema of) w = w.loaded
under_of _ w = None

-- the schema that plain pointers to functions have: key IA, no address, discriminator 0
abbrev pub is_plain : Schema → Bool
is_plain schema = if same_key schema.key IA then (if schema.addr then false else schema.disc == 0) else false

-- a load of a function's pointer under another schema shows
abbrev pub showing : Schema → Place → CValue → Meaning → Meaning
showing schema place (Code name) m = if is_plain schema then m else shown (Load schema place name) m
showing schema place _ m = m
