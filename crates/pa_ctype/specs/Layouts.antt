-- How many bytes objects have, of which number their addresses are multiples, and where members lie (C11 6.2.8, 6.5.3.4,
-- 6.7.2.1; where it leaves a choice, as the Procedure Call Standard for the Arm 64-bit Architecture).
use Rattle.std.specs.Prelude.{◌≡◌, ℕ, zero, suc, ◌+◌, ◌*◌, ◌/◌, ◌≤◌, max, true, false, not, ◌||◌, ◌==◌, nat_le, if◌then◌else◌, List, [], ◌∷◌, length, map, Option, Some, None, option_map, option_and_then, slice_get}
use Rattle.std.specs.Int.{next_multiple_of}
use Rattle.std.specs.List.{list_all}
use Rattle.std.specs.Str.{bytes_eq}
use Rattle.pa_ctype.specs.declared.ctype.Layout.{Layout}
use Rattle.pa_ctype.specs.declared.ctype.Held.{Held}
use Rattle.pa_ctype.specs.declared.ctype.Member.{Member}
use Rattle.pa_ctype.specs.Types.{TypeTree, Of, FormTree, Void, Boolean, Integer, Pointer, Array, Struct, Function, id_bound}

-- a member, the members of a struct, and the structs by their ids
pub record Field : Type 0 where
  pub name : List ℕ
  pub of : TypeTree

abbrev pub Body : Type 0
Body = List Field

abbrev pub Table : Type 0
Table = List (Option Body)

-- the members of the struct of this id
abbrev pub body_of : Table → ℕ → Option Body
body_of table id = option_and_then (λ body. body) (slice_get table id)

-- the most bytes that a type has
abbrev pub most_bytes : ℕ
most_bytes = 4294967295

abbrev pub small : Layout → Option Layout
small l = if nat_le l.size most_bytes then Some l else None

-- as many bytes as the address is a multiple of
abbrev pub aligned_to_size : ℕ → Layout
aligned_to_size n = record { size = n; align = n }

abbrev pub integer_layout : ℕ → Option Layout
integer_layout bits = if (bits == 8 || bits == 16) || (bits == 32 || bits == 64) then Some (aligned_to_size (bits / 8)) else None

-- elements side by side, one at least
abbrev pub times : ℕ → Layout → Option Layout
times zero l = None
times (suc n) l = small (record { size = suc n * l.size; align = l.align })

-- one more member behind those that are laid so far
abbrev pub placed : Layout → Layout → Layout
placed so_far l = record { size = next_multiple_of so_far.size l.align + l.size; align = max so_far.align l.align }

-- no member is laid yet
abbrev pub empty : Layout
empty = record { size = 0; align = 1 }

-- the whole struct ends at a multiple of its alignment
abbrev pub padded : Layout → Option Layout
padded l = small (record { size = next_multiple_of l.size l.align; align = l.align })

-- members one behind the other, each at a multiple of its alignment
unfoldable pub members_from : (TypeTree → Option Layout) → Layout → Body → Option Layout
members_from lay so_far [] = Some so_far
members_from lay so_far (field ∷ body) = option_and_then (λ l. members_from lay (placed so_far l) body) (lay field.of)

-- a struct, which has a member at least
abbrev pub struct_layout : (TypeTree → Option Layout) → Body → Option Layout
struct_layout lay [] = None
struct_layout lay (field ∷ body) = option_and_then padded (members_from lay empty (field ∷ body))

-- the layout of a type, where structs have these
unfoldable mutual
  pub layout_by : (ℕ → Option Layout) → TypeTree → Option Layout
  layout_by structs (Of constant form) = form_layout_by structs form

  pub form_layout_by : (ℕ → Option Layout) → FormTree → Option Layout
  form_layout_by structs Void = None
  form_layout_by structs Boolean = Some (aligned_to_size 1)
  form_layout_by structs (Integer bits signed) = integer_layout bits
  form_layout_by structs (Pointer to schema) = Some (aligned_to_size 8)
  form_layout_by structs (Array of None) = None
  form_layout_by structs (Array of (Some count)) = option_and_then (times count) (layout_by structs of)
  form_layout_by structs (Struct id) = structs id
  form_layout_by structs (Function params result) = None

-- the layout of a type in which structs lie in one another that deep at most
unfoldable pub laid : ℕ → Table → TypeTree → Option Layout
laid zero table t = layout_by (λ id. None) t
laid (suc depth) table t = layout_by (λ id. option_and_then (struct_layout (laid depth table)) (body_of table id)) t

-- The type is a complete object type (C11 6.2.5p1); no struct in it holds itself; an integer in it has 8, 16, 32 or 64 bits,
-- an array an element at least, a struct a member at least; no array or struct in it has more than `most_bytes` bytes. The
-- object has this layout. Types behind a pointer, and a function's parameters and result, are not in it.
pub record HasLayout (table : Table) (t : TypeTree) (layout : Layout) : Type 0 where
  pub depth : ℕ
  pub is_laid : laid depth table t ≡ Some layout

-- the layout of a type as a function: structs lie in one another as deep as there are structs, at most
abbrev pub layout_in : Table → TypeTree → Option Layout
layout_in table t = laid (length table) table t

-- the size and the alignment of a type
abbrev pub HasSize : Table → TypeTree → ℕ → Type 0
HasSize table t size = (l : Layout) × HasLayout table t l × (l.size ≡ size)

abbrev pub HasAlign : Table → TypeTree → ℕ → Type 0
HasAlign table t align = (l : Layout) × HasLayout table t l × (l.align ≡ align)

-- the type is complete (C11 6.2.5p1), with what `HasLayout` asks
abbrev pub IsComplete : Table → TypeTree → Type 0
IsComplete table t = (l : Layout) × HasLayout table t l

-- where the first member of that name lies behind those that are laid so far, and its place
unfoldable pub member_from : (TypeTree → Option Layout) → List ℕ → Layout → ℕ → Body → Option Member
member_from lay name so_far index [] = None
member_from lay name so_far index (field ∷ body) =
    option_and_then (λ l. if bytes_eq field.name name then Some (record { offset = next_multiple_of so_far.size l.align; index = index }) else member_from lay name (placed so_far l) (index + 1) body) (lay field.of)

-- the first member of that name in the struct
pub record HasMember (table : Table) (id : ℕ) (name : List ℕ) (member : Member) : Type 0 where
  pub depth : ℕ
  pub body : Body
  pub body_is : body_of table id ≡ Some body
  pub found : member_from (laid depth table) name empty 0 body ≡ Some member

-- that member as a function
abbrev pub member_of : Table → ℕ → List ℕ → Option Member
member_of table id name = option_and_then (member_from (laid (length table) table) name empty 0) (body_of table id)

-- no member of the struct has that name
abbrev pub LacksMember : Table → ℕ → List ℕ → Type 0
LacksMember table id name = (body : Body) → body_of table id ≡ Some body → list_all (λ field. not (bytes_eq field.name name)) body ≡ true

-- structs of the program as plain data, where numbers stand for these names and types
module _ (names : ℕ → List ℕ) (m : ℕ → TypeTree) where
  abbrev pub field_of : Held → Field
  field_of held = record { name = names held.name; of = m held.of }

  abbrev pub fields_of : List Held → Body
  fields_of = map field_of

  abbrev pub table_of : List (Option (List Held)) → Table
  table_of = map (option_map fields_of)

-- a member's type is complete and names structs of the table only
pub record IsSoundField (table : Table) (field : Field) : Type 0 where
  pub complete : IsComplete table field.of
  pub known : id_bound field.of ≤ length table

-- so of each member
unfoldable pub IsSoundBody : Table → Body → Type 0
IsSoundBody table [] = Unit {0}
IsSoundBody table (field ∷ body) = IsSoundField table field × IsSoundBody table body

-- so of each struct with a body
abbrev pub IsSound : Table → Type 0
IsSound table = (id : ℕ) (body : Body) → body_of table id ≡ Some body → IsSoundBody table body

-- what `layout_of` answers: the one layout of the type, or that it has none
abbrev pub IsLayoutOf : Table → TypeTree → Option Layout → Type 0
IsLayoutOf table t None = (l : Layout) → HasLayout table t l → ⊥
IsLayoutOf table t (Some l) = HasLayout table t l × ((other : Layout) → HasLayout table t other → other ≡ l)

-- what `member` answers: the one member of that name that is the first, or that no member has the name
abbrev pub IsMemberOf : Table → ℕ → List ℕ → Option Member → Type 0
IsMemberOf table id name None = LacksMember table id name
IsMemberOf table id name (Some member) = HasMember table id name member × ((other : Member) → HasMember table id name other → other ≡ member)

-- the struct has a layout, or no body
abbrev pub IsLaidStruct : Table → ℕ → Type 0
IsLaidStruct table id = (body : Body) → body_of table id ≡ Some body → IsComplete table (Of false (Struct id))
