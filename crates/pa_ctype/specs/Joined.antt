-- The types and structs of a file behind those of a table, by the numbers that they have there.
use Rattle.std.specs.Prelude.{◌≡◌, ℕ, ◌<◌, ◌+◌, Bool, IsTrue, List, length, map, get_or}
use Rattle.pa_ctype.specs.declared.ctype.Held.{Held}
use Rattle.pa_ctype.specs.declared.node.Node.{Node}
use Rattle.pa_ctype.specs.declared.node.Node.TheVariants.{Pointer, Array, Struct, Returns, Takes, Constant}
use Rattle.pa_ctype.specs.Types.{TypeTree}
use Rattle.pa_ctype.specs.Nodes.{at, Fits, Each, IsInherited}
use Rattle.pa_ctype.specs.Layouts.{table_of}
use Rattle.pa_ctype.specs.Tables.{TypeTable}
use Rattle.pa_ctype.specs.Raised.{raised, followed}

-- types of the file, whose structs come behind so many, by the numbers that they have in the table
abbrev pub AreRaised : ℕ → List ℕ → (ℕ → TypeTree) → (ℕ → TypeTree) → Type 0
AreRaised by numbers f m = (i : ℕ) → i < length numbers → m (get_or numbers i 0) ≡ raised by (f i)

-- names of the file, by the numbers that they have in the table
abbrev pub names_by : (ℕ → List ℕ) → List ℕ → ℕ → List ℕ
names_by names numbers i = names (get_or numbers i 0)

-- the structs of the new table are those of the old one with the file's behind them
abbrev pub AreFollowed : TypeTable → TypeTable → List ℕ → TypeTable → Type 0
AreFollowed old file numbers new =
    (names : ℕ → List ℕ) (m f : ℕ → TypeTree) → Fits m new.nodes → Fits f file.nodes
    → table_of names m new.structs ≡ followed (table_of names m old.structs) (table_of (names_by names numbers) f file.structs)

-- ---- nodes and members by their new numbers

abbrev pub raised_node : ℕ → List ℕ → Node → Node
raised_node by numbers (Pointer to qualifier) = Pointer (get_or numbers to 0) qualifier
raised_node by numbers (Array of count) = Array (get_or numbers of 0) count
raised_node by numbers (Struct id) = Struct (by + id)
raised_node by numbers (Returns of) = Returns (get_or numbers of 0)
raised_node by numbers (Takes param rest) = Takes (get_or numbers param 0) (get_or numbers rest 0)
raised_node by numbers (Constant of) = Constant (get_or numbers of 0)
raised_node by numbers node = node

abbrev pub with_name : List ℕ → Held → Held
with_name numbers held = record held { name = get_or numbers held.name 0 }

abbrev pub with_type : List ℕ → Held → Held
with_type numbers held = record held { of = get_or numbers held.of 0 }

abbrev pub renumbered : List ℕ → List ℕ → List Held → List Held
renumbered types names members = map (with_type types) (map (with_name names) members)

-- a property that the types of both tables have, each type of the new one has
abbrev pub InheritsRaised : ℕ → List Node → List Node → List Node → Type 0
InheritsRaised by old file new =
    (p : TypeTree → Bool) → IsInherited p → Each p old → ((i : ℕ) → i < length file → IsTrue (p (raised by (at file i)))) → Each p new
