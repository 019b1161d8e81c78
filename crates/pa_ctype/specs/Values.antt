-- Values, places and objects of C (C11 3.15, 3.19, 6.2.4, 6.2.6, 6.5p7). There are no addresses: a pointer is a place in an
-- object.
use Rattle.std.specs.Prelude.{ℕ, zero, suc, ◌+◌, ℤ, Bool, true, false, ◌||◌, ◌==◌, nat_le, if◌then◌else◌, List, [], ◌∷◌, ◌++◌, length, Option, Some, None, option_and_then}
use Rattle.std.specs.Int.{next_multiple_of}
use Rattle.std.specs.Str.{bytes_eq}
use Rattle.pa_ctype.specs.declared.ctype.Layout.{Layout}
use Rattle.pa_ctype.specs.Types.{TypeTree, Of, FormTree, Void, Boolean, Integer, Pointer, Array, Struct, Function}
use Rattle.pa_ctype.specs.Equality.{same_but_const}
use Rattle.pa_ctype.specs.Layouts.{Body, Table, body_of, placed, empty, laid, layout_in}

-- Which object: a global by its name; a string literal by its place, from 0, among those that lie in memory by themselves (not
-- those that initialise an array at file level, nor those in an operand of `sizeof`); a local object by its number. Objects are
-- numbered from 0 in the order in which they come to life.
pub data Owner : Type 0 where
  Global : (name : List ℕ) → Owner
  Text : (index : ℕ) → Owner
  Local : (number : ℕ) → Owner

-- so many bytes behind an object's first one
pub record Place : Type 0 where
  pub owner : Owner
  pub offset : ℕ

-- a number, a place, a function or null; numbers are those of the language at hand, integers in C
pub data Value (Num : Type 0) : Type 0 where
  Number : (number : Num) → Value Num
  At : (place : Place) → Value Num
  Code : (name : List ℕ) → Value Num
  Null : Value Num

abbrev pub CValue : Type 0
CValue = Value ℤ

-- a part of an object that holds one value, or none yet; it begins so many bytes behind the object's first one, and its
-- type is constant where the object or a part that it lies in is
pub record Cell : Type 0 where
  pub at : ℕ
  pub of : TypeTree
  pub value : Option CValue

-- an object of so many bytes
pub record Object : Type 0 where
  pub owner : Owner
  pub size : ℕ
  pub cells : List Cell
  pub alive : Bool

-- in the order in which they came to life, dead ones too
abbrev pub Objects : Type 0
Objects = List Object

abbrev pub same_owner : Owner → Owner → Bool
same_owner (Global a) (Global b) = bytes_eq a b
same_owner (Text a) (Text b) = a == b
same_owner (Local a) (Local b) = a == b
same_owner _ _ = false

-- the object of this owner
unfoldable pub object_of : Objects → Owner → Option Object
object_of [] owner = None
object_of (object ∷ objects) owner = if same_owner object.owner owner then Some object else object_of objects owner

abbrev pub is_within : ℕ → Option Object → Bool
is_within offset None = false
is_within offset (Some object) = nat_le offset object.size

-- the place lies in its object or at its end
abbrev pub is_in_object : Objects → Place → Bool
is_in_object objects place = is_within place.offset (object_of objects place.owner)

-- the cell that begins so many bytes behind the object's first one
unfoldable pub cell_at : List Cell → ℕ → Option Cell
cell_at [] offset = None
cell_at (cell ∷ cells) offset = if cell.at == offset then Some cell else cell_at cells offset

-- the cell of a living object that begins at the place and has that type, but for a `const` of its own
abbrev pub cell_in : ℕ → TypeTree → Object → Option Cell
cell_in offset t object = if object.alive then option_and_then (λ cell. if same_but_const cell.of t then Some cell else None) (cell_at object.cells offset) else None

abbrev pub cell_of : Objects → Place → TypeTree → Option Cell
cell_of objects place t = option_and_then (cell_in place.offset t) (object_of objects place.owner)

-- what a read of that type at the place gives; none where it is undefined
abbrev pub read : Objects → Place → TypeTree → Option CValue
read objects place t = option_and_then (λ cell. cell.value) (cell_of objects place t)

unfoldable pub with_cell : List Cell → ℕ → CValue → List Cell
with_cell [] offset value = []
with_cell (cell ∷ cells) offset value = if cell.at == offset then record cell { value = Some value } ∷ cells else cell ∷ with_cell cells offset value

-- the objects with a change to the one of this owner
unfoldable pub with_object : (Object → Object) → Objects → Owner → Objects
with_object change [] owner = []
with_object change (object ∷ objects) owner = if same_owner object.owner owner then change object ∷ objects else object ∷ with_object change objects owner

abbrev pub with_value : Objects → Place → CValue → Objects
with_value objects place value = with_object (λ object. record object { cells = with_cell object.cells place.offset value }) objects place.owner

-- the objects after an initialiser gives a cell its value, a constant one too; none where there is no such cell
abbrev pub initialised : Objects → Place → TypeTree → CValue → Option Objects
initialised objects place t value = option_and_then (λ cell. Some (with_value objects place value)) (cell_of objects place t)

abbrev pub is_constant : TypeTree → Bool
is_constant (Of constant form) = constant

abbrev pub is_literal : Owner → Bool
is_literal (Text index) = true
is_literal _ = false

-- the objects after a write of that type at the place; none where it is undefined: there is no such cell, the cell is
-- constant, or the object is a string literal
abbrev pub written : Objects → Place → TypeTree → CValue → Option Objects
written objects place t value =
    option_and_then (λ cell. if is_constant cell.of || is_literal place.owner then None else Some (with_value objects place value)) (cell_of objects place t)

-- the objects after that one died
abbrev pub without : Objects → Owner → Objects
without objects owner = with_object (λ object. record object { alive = false }) objects owner

-- so many elements side by side
unfoldable pub elements : ℕ → ℕ → (ℕ → List Cell) → ℕ → List Cell
elements zero size cells at = []
elements (suc count) size cells at = cells at ++ elements count size cells (at + size)

abbrev pub elements_of : Option Layout → ℕ → (ℕ → List Cell) → ℕ → List Cell
elements_of None count cells at = []
elements_of (Some l) count cells at = elements count l.size cells at

abbrev pub member_cells_by : (ℕ → List Cell) → (Layout → List Cell) → ℕ → Layout → Option Layout → List Cell
member_cells_by cells more at so_far None = []
member_cells_by cells more at so_far (Some l) = cells (at + next_multiple_of so_far.size l.align) ++ more (placed so_far l)

-- the cells of members of a struct at a place, behind the members that are laid so far
unfoldable pub member_cells : (TypeTree → Option Layout) → (TypeTree → ℕ → List Cell) → ℕ → Layout → Body → List Cell
member_cells lay cells at so_far [] = []
member_cells lay cells at so_far (field ∷ body) = member_cells_by (cells field.of) (λ next. member_cells lay cells at next body) at so_far (lay field.of)

abbrev pub scalar : TypeTree → ℕ → List Cell
scalar t at = record { at = at; of = t; value = None } ∷ []

-- the cells of a part of a type, which begins so many bytes behind the object's first one and lies in a constant part or
-- doesn't; none has a value yet
unfoldable mutual
  pub cells_by : (TypeTree → Option Layout) → (Bool → ℕ → ℕ → List Cell) → Bool → TypeTree → ℕ → List Cell
  cells_by lay structs within (Of constant form) at = form_cells_by lay structs (within || constant) form at

  pub form_cells_by : (TypeTree → Option Layout) → (Bool → ℕ → ℕ → List Cell) → Bool → FormTree → ℕ → List Cell
  form_cells_by lay structs constant Void at = []
  form_cells_by lay structs constant Boolean at = scalar (Of constant Boolean) at
  form_cells_by lay structs constant (Integer bits signed) at = scalar (Of constant (Integer bits signed)) at
  form_cells_by lay structs constant (Pointer to schema) at = scalar (Of constant (Pointer to schema)) at
  form_cells_by lay structs constant (Array of None) at = []
  form_cells_by lay structs constant (Array of (Some count)) at = elements_of (lay of) count (cells_by lay structs constant of) at
  form_cells_by lay structs constant (Struct id) at = structs constant id at
  form_cells_by lay structs constant (Function params result) at = []

abbrev pub body_cells : (Body → List Cell) → Option Body → List Cell
body_cells cells None = []
body_cells cells (Some body) = cells body

-- where structs lie in one another that deep at most
unfoldable pub cells_of : ℕ → Table → Bool → TypeTree → ℕ → List Cell
cells_of zero table within t at = cells_by (laid zero table) (λ constant id place. []) within t at
cells_of (suc depth) table within t at =
    cells_by (laid (suc depth) table) (λ constant id place. body_cells (member_cells (laid depth table) (cells_of depth table constant) place empty) (body_of table id)) within t at

-- the cells of an object of a type
abbrev pub cells_in : Table → TypeTree → List Cell
cells_in table t = cells_of (length table) table false t 0

-- a living object of a type, without a value yet
abbrev pub fresh : Table → Owner → TypeTree → Option Object
fresh table owner t = option_and_then (λ l. Some (record { owner = owner; size = l.size; cells = cells_in table t; alive = true })) (layout_in table t)

-- the owner of a local object that comes to life next
abbrev pub next_local : Objects → Owner
next_local objects = Local (length objects)
