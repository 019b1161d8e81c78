-- What the table of types keeps beside the members of a struct. No contract of a public call speaks of it.
use Rattle.std.specs.Prelude.{◌≡◌, ℕ, ◌+◌, ◌<◌, ◌≤◌, nat_eq, ◌==◌, if◌then◌else◌, List, [], ◌∷◌, length, map, Option, Some, None, IfSome, option_map, option_and_then, slice_get}
use Rattle.std.specs.Int.{next_multiple_of}
use Rattle.indexmap.specs.IndexMap.{get}
use Rattle.pa_ctype.specs.declared.ctype.Layout.{Layout}
use Rattle.pa_ctype.specs.declared.ctype.Held.{Held}
use Rattle.pa_ctype.specs.declared.ctype.Member.{Member}
use Rattle.pa_ctype.specs.declared.node.Node.{Node}
use Rattle.pa_ctype.specs.declared.node.Extent.{Extent}
use Rattle.pa_ctype.specs.declared.node.Extent.TheVariants.{Nowhere, Fixed, Structs}
use Rattle.pa_ctype.specs.declared.node.Facts.{Facts}
use Rattle.pa_ctype.specs.declared.structs.LaidBody.{LaidBody}
use Rattle.pa_ctype.specs.Types.{TypeTree}
use Rattle.pa_ctype.specs.Nodes.{at, Fits, Each, IsTable}
use Rattle.pa_ctype.specs.Tables.{AreApart, types_bound, names_bound}
use Rattle.pa_ctype.specs.Bounds.{is_formed_by}
use Rattle.pa_ctype.specs.Joined.{with_name, renumbered}
use Rattle.pa_ctype.specs.Layouts.{Body, Table, most_bytes, times, placed, empty, members_from, struct_layout, layout_by, layout_in, member_from, fields_of, table_of, IsSoundBody}

-- what contracts see: the members alone
abbrev pub members_of : List (Option LaidBody) → List (Option (List Held))
members_of = map (option_map (λ body. body.members))

-- what is kept for the struct of this id: its body, and its layout
abbrev pub kept_body : List (Option LaidBody) → ℕ → Option LaidBody
kept_body bodies id = option_and_then (λ body. body) (slice_get bodies id)

abbrev pub kept_layout : List (Option LaidBody) → ℕ → Option Layout
kept_layout bodies id = option_and_then (λ body. body.layout) (kept_body bodies id)

-- the layout of an object of that extent, where structs have these
abbrev pub layout_at : (ℕ → Option Layout) → Extent → Option Layout
layout_at structs Nowhere = None
layout_at structs (Fixed l) = Some l
layout_at structs (Structs id count) = option_and_then (times count) (structs id)

-- what each layout is like: an alignment of 1 to 8, and 1 to 4,294,967,295 bytes
pub record IsFine (l : Layout) : Type 0 where
  pub positive : 1 ≤ l.align
  pub align : l.align ≤ 8
  pub size : l.size ≤ most_bytes
  pub some : 1 ≤ l.size

-- so of each struct's
abbrev pub AreFine : (ℕ → Option Layout) → Type 0
AreFine structs = (id : ℕ) (l : Layout) → structs id ≡ Some l → IsFine l

-- these members, behind those that are laid so far, end within the most bytes that a type has
pub record EndsWithin (lay : TypeTree → Option Layout) (so_far : Layout) (body : Body) : Type 0 where
  pub end : Layout
  pub ends : members_from lay so_far body ≡ Some end
  pub within : end.size ≤ most_bytes

-- members without their names, where numbers stand for these types
abbrev pub unnamed : (ℕ → TypeTree) → List Held → Body
unnamed m = fields_of (λ name. []) m

-- the layout of a type's number, where these bodies are kept
abbrev pub lay : (ℕ → TypeTree) → List (Option LaidBody) → ℕ → Option Layout
lay m bodies number = layout_by (kept_layout bodies) (m number)

-- the first member of a name's number, as `member_from`
abbrev pub place_from : (ℕ → Option Layout) → ℕ → Layout → ℕ → List Held → Option Member
place_from lay name so_far index [] = None
place_from lay name so_far index (held ∷ members) =
    option_and_then (λ l. if held.name == name then Some (record { offset = next_multiple_of so_far.size l.align; index = index }) else place_from lay name (placed so_far l) (index + 1) members) (lay held.of)

-- of the first answer, or else the second
abbrev pub or_else : {A : Type 0} → Option A → Option A → Option A
or_else None b = b
or_else (Some a) b = Some a

-- The members are sound, and name types and names that there are; the layout that is kept is that of the struct; and where there
-- is one, so are the members' places.
module _ (n : ℕ) (names : ℕ → List ℕ) (m : ℕ → TypeTree) where
  pub record IsKeptBody (table : Table) (body : LaidBody) : Type 0 where
    pub sound : IsSoundBody table (fields_of names m body.members)
    pub layout : body.layout ≡ struct_layout (layout_in table) (fields_of names m body.members)
    pub places : AreApart n names → (name : ℕ) → name < n → (l : Layout) → body.layout ≡ Some l
        → get nat_eq body.places name ≡ member_from (layout_in table) (names name) empty 0 (fields_of names m body.members)

  abbrev pub IsKept : List (Option LaidBody) → Type 0
  IsKept bodies = (id : ℕ) (body : LaidBody) → slice_get bodies id ≡ Some (Some body) → IsKeptBody (table_of names m (members_of bodies)) body

-- the members name types and names that there are
abbrev pub AreKnown : List (Option LaidBody) → ℕ → ℕ → Type 0
AreKnown bodies types names = (id : ℕ) (body : LaidBody) → slice_get bodies id ≡ Some (Some body) → (types_bound body.members ≤ types) × (names_bound body.members ≤ names)

pub record AreTypes (nodes : List Node) (facts : List Facts) (bodies : List (Option LaidBody)) (n : ℕ) : Type 0 where
  pub table : IsTable nodes facts
  pub known : AreKnown bodies (length nodes) n
  pub formed : Each (is_formed_by (length bodies) (layout_by (kept_layout bodies))) nodes
  pub kept : (names : ℕ → List ℕ) (m : ℕ → TypeTree) → Fits m nodes → IsKept n names m bodies

-- ---- the bodies of another table

abbrev pub members_in : Option LaidBody → Option (List Held)
members_in = option_map (λ body. body.members)

-- A body of the other table, whose types and names have these numbers here. Its layout and the places of its members are those that
-- it has there.
pub record IsRaisedBody (ns : List Node) (bodies : List (Option LaidBody)) (numbers names : List ℕ) (body : LaidBody) : Type 0 where
  pub id : ℕ
  pub from : LaidBody
  pub stands : slice_get bodies id ≡ Some (Some from)
  pub members : body.members ≡ renumbered numbers names from.members
  pub layout : body.layout ≡ struct_layout (layout_by (kept_layout bodies)) (unnamed (at ns) (map (with_name names) from.members))
  pub places : IfSome body.layout (λ l. (name : ℕ) → get nat_eq body.places name ≡ place_from (lay (at ns) bodies) name empty 0 (map (with_name names) from.members))

abbrev pub AreRaisedBodies : List Node → List (Option LaidBody) → List ℕ → List ℕ → List (Option LaidBody) → Type 0
AreRaisedBodies ns bodies numbers names made = (id : ℕ) (body : LaidBody) → slice_get made id ≡ Some (Some body) → IsRaisedBody ns bodies numbers names body
