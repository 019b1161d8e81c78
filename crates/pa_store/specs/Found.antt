-- The cell of an object that begins at a place, as it is found by going down the object's type.
use Rattle.std.specs.Prelude.{◌≡◌, ℕ, ◌<◌, ◌≤◌, ◌+◌, ◌*◌, Bool, ◌||◌, List, length, Option, Some, None, IfSome, option_map, slice_get, if◌then◌else◌, ◌==◌, false, suc}
use Rattle.pa_ctype.specs.declared.ctype.Layout.{Layout}
use Rattle.pa_ctype.specs.declared.ctype.Held.{Held}
use Rattle.pa_ctype.specs.Types.{TypeTree, Of, Array, Struct}
use Rattle.pa_ctype.specs.Layouts.{Table, laid, table_of}
use Rattle.pa_ctype.specs.Nodes.{at}
use Rattle.pa_ctype.specs.Tables.{TypeTable}
use Rattle.pa_cmean.specs.Finding.{find_to}
use Rattle.pa_store.specs.declared.finding.Part.{Part}
use Rattle.pa_store.specs.declared.finding.Scalar.{Scalar}
use Rattle.pa_store.specs.declared.finding.Inside.{Inside}
use Rattle.pa_store.specs.declared.finding.Inside.TheVariants as inside

-- the structs of a table of types, where numbers of names stand for these
abbrev pub structs_in : (ℕ → List ℕ) → TypeTable → Table
structs_in names t = table_of names (at t.nodes) t.structs

-- a type, constant where it lies in a constant part
abbrev pub in_constant : Bool → TypeTree → TypeTree
in_constant within (Of constant form) = Of (within || constant) form

-- the type of a cell
abbrev pub cell_type : TypeTable → Scalar → TypeTree
cell_type t cell = in_constant cell.constant (at t.nodes cell.of)

-- the type of the cell that a part has at the place
abbrev pub find_part : (ℕ → List ℕ) → TypeTable → Part → Option TypeTree
find_part names t part = find_to part.depth (structs_in names t) part.constant (at t.nodes part.of) part.offset

abbrev pub find_inside : (ℕ → List ℕ) → TypeTable → Inside → Option TypeTree
find_inside names t (inside.Part part) = find_part names t part
find_inside names t (inside.Cell cell) = option_map (cell_type t) cell

abbrev pub HasLayoutAt : ℕ → Table → TypeTree → Type 0
HasLayoutAt depth table t = (l : Layout) × (laid depth table t ≡ Some l)

-- the part is of a type of the table, and has a layout where structs lie in one another as deep as it says
pub record IsPart (t : TypeTable) (part : Part) : Type 0 where
  pub known : part.of < length t.nodes
  pub laid : (names : ℕ → List ℕ) → HasLayoutAt part.depth (structs_in names t) (at t.nodes part.of)
  pub deep : part.depth ≤ length t.structs

-- each step goes down: to a part with fewer structs in one another, or to one whose type stands earlier
abbrev pub rank : TypeTable → Part → ℕ
rank t part = part.depth * length t.nodes + part.of

-- what lies in a part
abbrev pub IsInside : TypeTable → Part → Inside → Type 0
IsInside t around (inside.Part part) = IsPart t part × (rank t part < rank t around)
IsInside t around (inside.Cell cell) = IfSome cell (λ found. found.of < length t.nodes)

-- what is found inside is what is found in the part
abbrev pub Finds : TypeTable → Part → Inside → Type 0
Finds t part result = (names : ℕ → List ℕ) → find_inside names t result ≡ find_part names t part

-- the part is an array of so many elements of a type
abbrev pub IsArrayOf : TypeTable → Part → ℕ → ℕ → Type 0
IsArrayOf t part of count = at t.nodes part.of ≡ Of false (Array (at t.nodes of) (Some count))

-- the part is a struct with these members
pub record IsStructWith (t : TypeTable) (part : Part) (members : List Held) : Type 0 where
  pub id : ℕ
  pub is : at t.nodes part.of ≡ Of false (Struct id)
  pub stands : slice_get t.structs id ≡ Some (Some members)
  pub deep : 1 ≤ part.depth

-- the cell of a part of a scalar type
abbrev pub scalar_at : Part → Option Scalar
scalar_at part = if part.offset == 0 then Some (record { of = part.of; constant = part.constant }) else None

-- a part that is one, or a cell of a type of the table
abbrev pub IsWell : TypeTable → Inside → Type 0
IsWell t (inside.Part part) = IsPart t part
IsWell t (inside.Cell cell) = IfSome cell (λ found. found.of < length t.nodes)

abbrev pub rank_inside : TypeTable → Inside → ℕ
rank_inside t (inside.Part part) = suc (rank t part)
rank_inside t (inside.Cell cell) = 0
