-- The table of the types and structs of a file, as contracts see it.
use Rattle.std.specs.Prelude.{◌≡◌, ℕ, suc, max, ◌<◌, List, [], ◌∷◌, Option}
use Rattle.pa_ctype.specs.declared.ctype.Held.{Held}
use Rattle.pa_ctype.specs.declared.node.Node.{Node}
use Rattle.pa_ctype.specs.Types.{TypeTree}
use Rattle.pa_ctype.specs.Nodes.{Fits}
use Rattle.pa_ctype.specs.Layouts.{Table, fields_of, table_of, IsSoundBody}

-- the nodes of types and the members of structs by their numbers, and how many names the file has
pub record TypeTable : Type 0 where
  pub nodes : List Node
  pub structs : List (Option (List Held))
  pub names : ℕ

-- numbers below that one stand for different names
abbrev pub AreApart : ℕ → (ℕ → List ℕ) → Type 0
AreApart n names = (i j : ℕ) → i < n → j < n → names i ≡ names j → i ≡ j

-- so for any m that gives each number its type
abbrev pub ForTypes : TypeTable → ((ℕ → TypeTree) → Type 0) → Type 0
ForTypes t P = (m : ℕ → TypeTree) → Fits m t.nodes → P m

-- so for the structs as plain data, with any such m and whatever names stand for
abbrev pub ForStructs : TypeTable → (Table → (ℕ → TypeTree) → Type 0) → Type 0
ForStructs t P = (names : ℕ → List ℕ) (m : ℕ → TypeTree) → Fits m t.nodes → P (table_of names m t.structs) m

-- so with names that are told apart
abbrev pub ForNamed : TypeTable → (Table → (ℕ → List ℕ) → Type 0) → Type 0
ForNamed t P = (names : ℕ → List ℕ) (m : ℕ → TypeTree) → Fits m t.nodes → AreApart t.names names → P (table_of names m t.structs) names

-- numbers of types in members are below this: one more than the largest, or 0 where there is none
abbrev pub types_bound : List Held → ℕ
types_bound [] = 0
types_bound (held ∷ members) = max (suc held.of) (types_bound members)

-- so are numbers of names
abbrev pub names_bound : List Held → ℕ
names_bound [] = 0
names_bound (held ∷ members) = max (suc held.name) (names_bound members)

-- what a struct's body holds is complete, and names structs of the table only
abbrev pub IsSoundIn : TypeTable → List Held → Type 0
IsSoundIn t members =
    (names : ℕ → List ℕ) (m : ℕ → TypeTree) → Fits m t.nodes → IsSoundBody (table_of names m t.structs) (fields_of names m members)
