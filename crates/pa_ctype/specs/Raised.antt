-- Structs of one table behind those of another: an id is raised by the count of the structs before it.
use Rattle.std.specs.Prelude.{ℕ, ◌+◌, ◌++◌, length, map, option_map}
use Rattle.pa_ctype.specs.Types.{TypeTree, Of, FormTree, Void, Boolean, Integer, Pointer, Array, Struct, Function, TypeTrees, Nil, Cons}
use Rattle.pa_ctype.specs.Layouts.{Field, Body, Table}

-- a type whose ids are raised
unfoldable mutual
  pub raised : ℕ → TypeTree → TypeTree
  raised by (Of constant form) = Of constant (raised_form by form)

  pub raised_form : ℕ → FormTree → FormTree
  raised_form by Void = Void
  raised_form by Boolean = Boolean
  raised_form by (Integer bits signed) = Integer bits signed
  raised_form by (Pointer to schema) = Pointer (raised by to) schema
  raised_form by (Array of count) = Array (raised by of) count
  raised_form by (Struct id) = Struct (by + id)
  raised_form by (Function params result) = Function (raised_types by params) (raised by result)

  pub raised_types : ℕ → TypeTrees → TypeTrees
  raised_types by Nil = Nil
  raised_types by (Cons first rest) = Cons (raised by first) (raised_types by rest)

abbrev pub raised_field : ℕ → Field → Field
raised_field by field = record { name = field.name; of = raised by field.of }

abbrev pub raised_body : ℕ → Body → Body
raised_body by = map (raised_field by)

abbrev pub raised_table : ℕ → Table → Table
raised_table by = map (option_map (raised_body by))

-- the structs of both tables, those of the second behind those of the first
abbrev pub followed : Table → Table → Table
followed table other = table ++ raised_table (length table) other
