-- What a typed expression does (C11 6.5). Each counts a unit of work before its parts; parts are evaluated from left to right, and
-- the called expression behind the arguments. An expression that stands for a place gives that place.
use Rattle.std.specs.Prelude.{pos, Bool, true, false, List, [], ◌∷◌, if◌then◌else◌, Option, Some, option_and_then}
use Rattle.pa_pac.specs.declared.schema.Schema.{Schema}
use Rattle.pa_ctype.specs.Types.{TypeTree}
use Rattle.pa_ctype.specs.Values.{Place, CValue, At, Code, Global, Text}
use Rattle.pa_typed.specs.Typed.{TypedExpr, TypedExprs, LocalPlace, GlobalPlace, StringPlace, Same, Member, Index, Deref, Number, Load, LoadSigned, Store, StoreSigned, AddressOf, FunctionValue, Convert, Unary, Binary, PointerAdd, PointerSub, Compare, And, Or, Choose, Comma, CallDirect, CallPointer, NoTExprs, ConsTExpr}
use Rattle.pa_cmean.specs.Results.{Meaning, given}
use Rattle.pa_typed.specs.Units.{ProgramTree}
use Rattle.pa_cmean.specs.Operations.{truth, of_truth, converted, literal, unary, binary, moved, bytes_of, stepped, opposite, pointee, pointed, difference, compared}
use Rattle.pa_cmean.specs.ExprTypes.{type_of}
use Rattle.pa_cmean.specs.State.{State, Cont, Again, tick, choose, start, place_of, value_at, stored, onward, owner_of}
use Rattle.pa_cmean.specs.Calls.{call, call_pointer, under_of, showing}

-- a value goes on
abbrev pub with_value : Option CValue → Cont → State → Meaning
with_value v k st = given v (λ v. k v st)

-- what a truth value leads to (6.5.13 to 6.5.15)
abbrev pub gives_truth : Cont → Cont
gives_truth k v st = k (of_truth (truth v)) st

-- `p + n`, `n + p` or `p - n` (6.5.6), or the place `p[n]` (6.5.2.1), with elements of a type
unfoldable pub add_pointer : ProgramTree → Bool → Bool → TypeTree → CValue → CValue → Cont → State → Meaning
add_pointer program pointer_left subtracts element u v k st =
    with_value (if pointer_left then stepped program.structs st.world.objects element u (opposite subtracts v) else stepped program.structs st.world.objects element v u) k st

-- `p - q` (6.5.6p9)
unfoldable pub subtract_pointers : ProgramTree → Option TypeTree → CValue → CValue → Cont → State → Meaning
subtract_pointers program element u v k st = with_value (option_and_then (λ size. difference size u v) (option_and_then (bytes_of program.structs) element)) k st

-- the value of an lvalue (6.3.2.1p2)
unfoldable pub load : TypeTree → CValue → Cont → State → Meaning
load of at k st = with_value (value_at st.world of at) k st

-- the last load of a qualified pointer
abbrev pub noted : Schema → Place → State → State
noted schema place st = record st { world = record st.world { loaded = Some (record { schema = schema; place = place }) } }

-- the value of a qualified pointer to a function
unfoldable pub load_signed : Schema → TypeTree → CValue → Cont → State → Meaning
load_signed schema of at k st = given (place_of at) (λ place. given (value_at st.world of at) (λ v. showing schema place v (k v (noted schema place st))))

-- an assignment gives the value that is stored (6.5.16p3), a postfix operator the one before (6.5.2.4p2)
unfoldable pub store : Bool → TypeTree → CValue → CValue → Cont → State → Meaning
store old of at v k st = given (if old then value_at st.world of at else Some v) (λ result. onward (stored st.world of at v) (k result) st)

module _ (program : ProgramTree) (again : Again) where
  unfoldable mutual
    -- `same` is the place of the innermost store around the expression, which is evaluated once
    pub eval : Option Place → TypedExpr → Cont → State → Meaning
    -- places: names (6.5.1p2), string literals (6.5.1p4), members (6.5.2.3), elements (6.5.2.1), what a pointer points to (6.5.3.2p4)
    eval same (LocalPlace local of) k st = tick st (λ st. given (owner_of st.world local) (λ owner. k (At (start owner)) st))
    eval same (GlobalPlace name place of) k st = tick st (λ st. k (At (start (Global name))) st)
    eval same (StringPlace text of) k st = tick st (λ st. k (At (start (Text text))) st)
    eval same (Same of) k st = tick st (λ st. given same (λ place. k (At place) st))
    eval same (Member owner index offset of) k st = tick st (eval same owner (λ v st. with_value (moved st.world.objects (pos offset) v) k st))
    eval same (Index left right pointer_left of) k st = tick st (eval same left (λ u. eval same right (λ v. add_pointer program pointer_left false of u v k)))
    eval same (Deref pointer of) k st = tick st (eval same pointer (λ v. with_value (pointed v) k))
    -- values: constants (6.4.4), reads (6.3.2.1p2), assignments (6.5.16, 6.5.2.4, 6.5.3.1), addresses (6.5.3.2p3), functions (6.3.2.1p4), conversions (6.3)
    eval same (Number value of) k st = tick st (with_value (literal of value) k)
    eval same (Load from of) k st = tick st (eval same from (λ at. load (type_of from) at k))
    eval same (LoadSigned from schema of) k st = tick st (eval same from (λ at. load_signed schema (type_of from) at k))
    eval same (Store to value old of) k st = tick st (eval same to (λ at. eval (place_of at) value (λ v. store old (type_of to) at v k)))
    eval same (StoreSigned to value old schema of) k st = tick st (eval same to (λ at. eval (place_of at) value (λ v. store old (type_of to) at v k)))
    eval same (AddressOf at of) k st = tick st (eval same at k)
    eval same (FunctionValue name place of) k st = tick st (k (Code name))
    eval same (Convert value of) k st = tick st (eval same value (λ v. with_value (converted of v) k))
    -- operators (6.5.3.3, 6.5.5 to 6.5.12)
    eval same (Unary op value of) k st = tick st (eval same value (λ v. with_value (unary op of v) k))
    eval same (Binary op left right of) k st = tick st (eval same left (λ u. eval same right (λ v. with_value (binary op of u v) k)))
    eval same (PointerAdd left right pointer_left subtracts of) k st = tick st (eval same left (λ u. eval same right (λ v st. given (pointee of) (λ element. add_pointer program pointer_left subtracts element u v k st))))
    eval same (PointerSub left right of) k st = tick st (eval same left (λ u. eval same right (λ v. subtract_pointers program (pointee (type_of left)) u v k)))
    eval same (Compare op left right of) k st = tick st (eval same left (λ u. eval same right (λ v st. with_value (compared st.world.objects op u v) k st)))
    -- `&&` and `||` (6.5.13, 6.5.14), `?:` (6.5.15), the comma (6.5.17)
    eval same (And left right of) k st = tick st (eval same left (λ u. choose (truth u) (eval same right (gives_truth k)) (k (of_truth false))))
    eval same (Or left right of) k st = tick st (eval same left (λ u. choose (truth u) (k (of_truth true)) (eval same right (gives_truth k))))
    eval same (Choose test when_true when_false of) k st = tick st (eval same test (λ v. choose (truth v) (eval same when_true k) (eval same when_false k)))
    eval same (Comma first second of) k st = tick st (eval same first (λ v. eval same second k))
    -- calls (6.5.2.2)
    eval same (CallDirect name place arguments of) k st = tick st (evals same arguments (λ vs. call program again name vs k))
    eval same (CallPointer arguments function of) k st = tick st (evals same arguments (λ vs. eval same function (λ v st. call_pointer program again (pointee (type_of function)) (under_of function st.world) v vs k st)))

    pub evals : Option Place → TypedExprs → (List CValue → State → Meaning) → State → Meaning
    evals same NoTExprs k = k []
    evals same (ConsTExpr e es) k = eval same e (λ v. evals same es (λ vs. k (v ∷ vs)))
