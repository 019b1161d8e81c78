-- Objects of the code as objects of C: the cells of their types, with the values that are kept.
use Rattle.std.specs.Prelude.{◌≡◌, ℕ, ◌<◌, nat_eq, List, [], ◌∷◌, length, Option, Some, option_map}
use Rattle.indexmap.specs.IndexMap.{get}
use Rattle.pa_ctype.specs.Values as c
use Rattle.pa_ctype.specs.Values.{Cell, CValue, cells_in, with_cell}
use Rattle.pa_ctype.specs.Layouts.{layout_in}
use Rattle.pa_ctype.specs.Nodes.{at}
use Rattle.pa_ctype.specs.Tables.{TypeTable}
use Rattle.pa_store.specs.declared.objects.Object.{Object}
use Rattle.pa_store.specs.declared.finding.Scalar.{Scalar}
use Rattle.pa_store.specs.declared.value.Value.{Value}
use Rattle.pa_store.specs.Found.{structs_in, cell_type}
use Rattle.pa_store.specs.Views.{owner_tree, value_tree}

module _ (names : ℕ → List ℕ) where
  -- the cells with values at their places
  abbrev pub with_values : List (ℕ × Value) → List Cell → List Cell
  with_values [] cells = cells
  with_values (entry ∷ entries) cells = with_cell (with_values entries cells) entry.0 (value_tree names entry.1)

  -- the value that is kept of a place
  abbrev pub value_at : Object → ℕ → Option CValue
  value_at object place = option_map (value_tree names) (get nat_eq object.values place)

  abbrev pub object_tree : TypeTable → Object → c.Object
  object_tree t object = record {
    owner = owner_tree names object.owner;
    size = object.size;
    cells = with_values object.values.entries (cells_in (structs_in names t) (at t.nodes object.of));
    alive = object.alive;
  }

  -- the cell of the object that begins at the place
  abbrev pub kept_cell : TypeTable → Object → ℕ → Scalar → Cell
  kept_cell t object place scalar = record { at = place; of = cell_type t scalar; value = value_at object place }

-- the object is of a type of the table, and as large
pub record IsObject (t : TypeTable) (object : Object) : Type 0 where
  pub known : object.of < length t.nodes
  pub laid : (names : ℕ → List ℕ) → option_map (λ l. l.size) (layout_in (structs_in names t) (at t.nodes object.of)) ≡ Some object.size

-- the object, with a value at the place
abbrev pub with_value_at : ℕ → CValue → c.Object → c.Object
with_value_at place value object = record object { cells = with_cell object.cells place value }
