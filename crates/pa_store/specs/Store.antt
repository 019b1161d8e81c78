-- All objects of a run as those of C.
use Rattle.std.specs.Prelude.{◌≡◌, ℕ, ◌≤◌, List, [], ◌∷◌, map, Some}
use Rattle.pa_ctype.specs.Values as c
use Rattle.pa_ctype.specs.Types.{TypeTree}
use Rattle.pa_ctype.specs.Layouts.{Table}
use Rattle.pa_cmean.specs.Operations.{bytes_of}
use Rattle.pa_ctype.specs.Tables.{TypeTable, AreApart}
use Rattle.pa_store.specs.declared.value.Owner.{Owner}
use Rattle.pa_store.specs.declared.value.Place.{Place}
use Rattle.pa_store.specs.declared.value.Value.{Value}
use Rattle.pa_store.specs.declared.objects.Object.{Object}
use Rattle.pa_store.specs.declared.store.Objects.{Objects}
use Rattle.pa_store.specs.Views.{owner_bound, names_bound}
use Rattle.pa_store.specs.Objects.{object_tree, IsObject}

-- in the order in which they came to life
abbrev pub objects_tree : (ℕ → List ℕ) → TypeTable → Objects → c.Objects
objects_tree names t store = map (λ entry. object_tree names t entry.1) store.objects.entries

-- an object that stands under its owner and is of a type of the table, as its name is
pub record IsEntry (t : TypeTable) (entry : Owner × Object) : Type 0 where
  pub owner : entry.1.owner ≡ entry.0
  pub named : owner_bound entry.0 ≤ t.names
  pub well : IsObject t entry.1

abbrev pub AreEntries : TypeTable → List (Owner × Object) → Type 0
AreEntries t [] = Unit {0}
AreEntries t (entry ∷ entries) = IsEntry t entry × AreEntries t entries

abbrev pub AreObjects : TypeTable → Objects → Type 0
AreObjects t store = AreEntries t store.objects.entries

-- so for any table of which they are, as this owner is, and names that are told apart
abbrev pub ForStores : Objects → Owner → (TypeTable → (ℕ → List ℕ) → Type 0) → Type 0
ForStores store owner P = (t : TypeTable) (names : ℕ → List ℕ) → AreObjects t store → owner_bound owner ≤ t.names → AreApart t.names names → P t names

-- so for two places, or two values
abbrev pub ForPlaces : Objects → Place → Place → (TypeTable → (ℕ → List ℕ) → Type 0) → Type 0
ForPlaces store a b P =
    (t : TypeTable) (names : ℕ → List ℕ) → AreObjects t store → owner_bound a.owner ≤ t.names → owner_bound b.owner ≤ t.names → AreApart t.names names → P t names

abbrev pub ForOperands : Objects → Value → Value → (TypeTable → (ℕ → List ℕ) → Type 0) → Type 0
ForOperands store a b P = (t : TypeTable) (names : ℕ → List ℕ) → AreObjects t store → names_bound a ≤ t.names → names_bound b ≤ t.names → AreApart t.names names → P t names

-- so for any type with so many bytes
abbrev pub ForElements : ℕ → (Table → TypeTree → Type 0) → Type 0
ForElements size P = (table : Table) (of : TypeTree) → bytes_of table of ≡ Some size → P table of
