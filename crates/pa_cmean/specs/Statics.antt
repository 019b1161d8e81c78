-- The objects that live before `main` is called (C11 5.1.2, 6.2.4p3, 6.4.5p6, 6.7.9p10): globals and string literals.
use Rattle.std.specs.Prelude.{ℕ, suc, pos, true, false, List, [], ◌∷◌, ◌++◌, map, length, if◌then◌else◌, Option, Some, None, option_map, option_and_then}
use Rattle.pa_ctype.specs.Types.{TypeTree, Of, Integer}
use Rattle.pa_ctype.specs.Layouts.{Table}
use Rattle.pa_ctype.specs.Values as value
use Rattle.pa_ctype.specs.Values.{Owner, Global, Text, Place, CValue, At, Code, Cell, Object, Objects, fresh, initialised}
use Rattle.pa_typed.specs.Typed.{TypedExpr, GlobalPlace, StringPlace, Member, Index, Deref, Number, AddressOf, FunctionValue, Convert, Unary, Binary, PointerAdd, Compare, And, Or, Choose}
use Rattle.pa_integer.specs.Integers.{wrapped}
use Rattle.pa_typed.specs.Units.{CellTree, GlobalTree, ProgramTree}
use Rattle.pa_cmean.specs.Operations.{truth, of_truth, converted, literal, unary, binary, moved, stepped, opposite, pointee, pointed, compared}
use Rattle.pa_cmean.specs.State.{start}
use Rattle.pa_cmean.specs.Statements.{zero_of}

abbrev pub truth_of : CValue → Option CValue
truth_of v = Some (of_truth (truth v))

-- the value of a constant expression (6.6), none where it makes a place outside its object
unfoldable pub constant : Table → Objects → TypedExpr → Option CValue
constant table objects (GlobalPlace name place of) = Some (At (start (Global name)))
constant table objects (StringPlace text of) = Some (At (start (Text text)))
constant table objects (Member owner index offset of) = option_and_then (moved objects (pos offset)) (constant table objects owner)
constant table objects (Index left right pointer_left of) = option_and_then (λ u. option_and_then (λ v. if pointer_left then stepped table objects of u v else stepped table objects of v u) (constant table objects right)) (constant table objects left)
constant table objects (Deref pointer of) = option_and_then pointed (constant table objects pointer)
constant table objects (Number value of) = literal of value
constant table objects (AddressOf at of) = constant table objects at
constant table objects (FunctionValue name place of) = Some (Code name)
constant table objects (Convert value of) = option_and_then (converted of) (constant table objects value)
constant table objects (Unary op value of) = option_and_then (unary op of) (constant table objects value)
constant table objects (Binary op left right of) = option_and_then (λ u. option_and_then (binary op of u) (constant table objects right)) (constant table objects left)
constant table objects (PointerAdd left right pointer_left subtracts of) = option_and_then (λ element. option_and_then (λ u. option_and_then (λ v. if pointer_left then stepped table objects element u (opposite subtracts v) else stepped table objects element v u) (constant table objects right)) (constant table objects left)) (pointee of)
constant table objects (Compare op left right of) = option_and_then (λ u. option_and_then (compared objects op u) (constant table objects right)) (constant table objects left)
constant table objects (And left right of) = option_and_then (λ u. if truth u then option_and_then truth_of (constant table objects right) else Some (of_truth false)) (constant table objects left)
constant table objects (Or left right of) = option_and_then (λ u. if truth u then Some (of_truth true) else option_and_then truth_of (constant table objects right)) (constant table objects left)
constant table objects (Choose test when_true when_false of) = option_and_then (λ v. if truth v then constant table objects when_true else constant table objects when_false) (constant table objects test)
constant table objects _ = None

abbrev pub zeroed_cell : Cell → Cell
zeroed_cell cell = record cell { value = Some (zero_of cell.of) }

abbrev pub zeroed : Object → Object
zeroed object = record object { cells = map zeroed_cell object.cells }

-- globals before their initializers
unfoldable pub zeroed_globals : Table → List GlobalTree → Option Objects
zeroed_globals table [] = Some []
zeroed_globals table (g ∷ gs) = option_and_then (λ object. option_map (λ objects. zeroed object ∷ objects) (zeroed_globals table gs)) (fresh table (Global g.name) g.of)

-- a string literal: an array of `char` with a zero behind its bytes
abbrev pub char : TypeTree
char = Of false (Integer 8 true)

unfoldable pub text_cells : ℕ → List ℕ → List Cell
text_cells at [] = record { at = at; of = char; value = Some (value.Number (pos 0)) } ∷ []
text_cells at (byte ∷ bytes) = record { at = at; of = char; value = Some (value.Number (wrapped 8 true (pos byte))) } ∷ text_cells (suc at) bytes

unfoldable pub text_objects : ℕ → List (List ℕ) → Objects
text_objects index [] = []
text_objects index (bytes ∷ texts) = record { owner = Text index; size = suc (length bytes); cells = text_cells 0 bytes; alive = true } ∷ text_objects (suc index) texts

-- the cells that initializers name get their values
abbrev pub with_cell : Table → Owner → CellTree → Objects → Option Objects
with_cell table owner cell objects = option_and_then (initialised objects (record { owner = owner; offset = cell.at }) cell.of) (constant table objects cell.value)

unfoldable pub with_cells : Table → Owner → List CellTree → Objects → Option Objects
with_cells table owner [] objects = Some objects
with_cells table owner (cell ∷ cells) objects = option_and_then (with_cells table owner cells) (with_cell table owner cell objects)

unfoldable pub with_globals : Table → List GlobalTree → Objects → Option Objects
with_globals table [] objects = Some objects
with_globals table (g ∷ gs) objects = option_and_then (with_globals table gs) (with_cells table (Global g.name) g.cells objects)

unfoldable pub statics : ProgramTree → Option Objects
statics program = option_and_then (λ globals. with_globals program.structs program.globals (globals ++ text_objects 0 program.texts)) (zeroed_globals program.structs program.globals)
