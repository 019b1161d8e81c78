-- The cell of an object that begins at a place, found by going down its type, as who keeps no list of cells does.
use Rattle.std.specs.Prelude.{ℕ, zero, suc, ◌+◌, ◌-◌, ◌/◌, ◌%◌, ◌==◌, nat_lt, ◌||◌, Bool, false, if◌then◌else◌, [], ◌∷◌, length, Option, Some, None}
use Rattle.std.specs.Int.{next_multiple_of}
use Rattle.pa_ctype.specs.declared.ctype.Layout.{Layout}
use Rattle.pa_ctype.specs.Types.{TypeTree, Of, FormTree, Void, Boolean, Integer, Pointer, Array, Struct, Function}
use Rattle.pa_ctype.specs.Layouts.{Body, Table, body_of, placed, empty, laid}

-- a part of a scalar type has one cell, at its first byte
abbrev pub only_at : ℕ → TypeTree → Option TypeTree
only_at offset t = if offset == 0 then Some t else None

-- in the element that the place lies in
abbrev pub find_element : ℕ → ℕ → (ℕ → Option TypeTree) → ℕ → Option TypeTree
find_element count size find offset = if nat_lt (offset / size) count then find (offset % size) else None

abbrev pub find_elements : Option Layout → ℕ → (ℕ → Option TypeTree) → ℕ → Option TypeTree
find_elements None count find offset = None
find_elements (Some l) count find offset = find_element count l.size find offset

-- in the member that the place lies in; none between members
abbrev pub find_member_by : (ℕ → Option TypeTree) → (Layout → Option TypeTree) → Layout → ℕ → Option Layout → Option TypeTree
find_member_by find more so_far offset None = None
find_member_by find more so_far offset (Some l) =
    if nat_lt offset (next_multiple_of so_far.size l.align) then None
    else if nat_lt offset (next_multiple_of so_far.size l.align + l.size) then find (offset - next_multiple_of so_far.size l.align)
    else more (placed so_far l)

unfoldable pub find_member : (TypeTree → Option Layout) → (TypeTree → ℕ → Option TypeTree) → Layout → Body → ℕ → Option TypeTree
find_member lay find so_far [] offset = None
find_member lay find so_far (field ∷ body) offset = find_member_by (find field.of) (λ next. find_member lay find next body offset) so_far offset (lay field.of)

-- in a part of a type, which lies in a constant part or doesn't
unfoldable mutual
  pub find_by : (TypeTree → Option Layout) → (Bool → ℕ → ℕ → Option TypeTree) → Bool → TypeTree → ℕ → Option TypeTree
  find_by lay structs within (Of constant form) offset = find_form_by lay structs (within || constant) form offset

  pub find_form_by : (TypeTree → Option Layout) → (Bool → ℕ → ℕ → Option TypeTree) → Bool → FormTree → ℕ → Option TypeTree
  find_form_by lay structs constant Void offset = None
  find_form_by lay structs constant Boolean offset = only_at offset (Of constant Boolean)
  find_form_by lay structs constant (Integer bits signed) offset = only_at offset (Of constant (Integer bits signed))
  find_form_by lay structs constant (Pointer to schema) offset = only_at offset (Of constant (Pointer to schema))
  find_form_by lay structs constant (Array of None) offset = None
  find_form_by lay structs constant (Array of (Some count)) offset = find_elements (lay of) count (find_by lay structs constant of) offset
  find_form_by lay structs constant (Struct id) offset = structs constant id offset
  find_form_by lay structs constant (Function params result) offset = None

abbrev pub find_in_body : (Body → Option TypeTree) → Option Body → Option TypeTree
find_in_body find None = None
find_in_body find (Some body) = find body

-- where structs lie in one another that deep at most
unfoldable pub find_to : ℕ → Table → Bool → TypeTree → ℕ → Option TypeTree
find_to zero table within t offset = find_by (laid zero table) (λ constant id place. None) within t offset
find_to (suc depth) table within t offset =
    find_by (laid (suc depth) table) (λ constant id place. find_in_body (λ body. find_member (laid depth table) (find_to depth table constant) empty body place) (body_of table id)) within t offset

-- the type of the cell of an object of a type that begins so many bytes behind its first one
abbrev pub find_cell : Table → TypeTree → ℕ → Option TypeTree
find_cell table t offset = find_to (length table) table false t offset
