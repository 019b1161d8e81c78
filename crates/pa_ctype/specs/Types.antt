-- Types of C (C11 6.2.5) as plain data.
use Rattle.std.specs.Prelude.{ℕ, suc, max, Bool, false, List, [], ◌∷◌, Option, Some}
use Rattle.pa_pac.specs.declared.schema.Schema.{Schema}

mutual
  pub data TypeTree : Type 0 where
    Of : (constant : Bool) (form : FormTree) → TypeTree

  pub data FormTree : Type 0 where
    Void : FormTree
    Boolean : FormTree
    Integer : (bits : ℕ) (signed : Bool) → FormTree
    Pointer : (to : TypeTree) (schema : Option Schema) → FormTree
    Array : (of : TypeTree) (count : Option ℕ) → FormTree
    Struct : (id : ℕ) → FormTree
    Function : (params : TypeTrees) (result : TypeTree) → FormTree

  pub data TypeTrees : Type 0 where
    Nil : TypeTrees
    Cons : (first : TypeTree) (rest : TypeTrees) → TypeTrees

-- so many elements of a type
abbrev pub array_of : TypeTree → ℕ → TypeTree
array_of of count = Of false (Array of (Some count))

abbrev pub trees_of : List TypeTree → TypeTrees
trees_of [] = Nil
trees_of (t ∷ ts) = Cons t (trees_of ts)

-- ids of structs in the type are below this: one more than the largest, or 0 where there is none
unfoldable mutual
  pub id_bound : TypeTree → ℕ
  id_bound (Of constant form) = form_id_bound form

  pub form_id_bound : FormTree → ℕ
  form_id_bound Void = 0
  form_id_bound Boolean = 0
  form_id_bound (Integer bits signed) = 0
  form_id_bound (Pointer to schema) = id_bound to
  form_id_bound (Array of count) = id_bound of
  form_id_bound (Struct id) = suc id
  form_id_bound (Function params result) = max (ids_bound params) (id_bound result)

  pub ids_bound : TypeTrees → ℕ
  ids_bound Nil = 0
  ids_bound (Cons first rest) = max (id_bound first) (ids_bound rest)

-- how deep a type is: pointers, arrays and functions on the longest way down
unfoldable mutual
  pub type_depth : TypeTree → ℕ
  type_depth (Of constant form) = form_depth form

  pub form_depth : FormTree → ℕ
  form_depth Void = 0
  form_depth Boolean = 0
  form_depth (Integer bits signed) = 0
  form_depth (Pointer to schema) = suc (type_depth to)
  form_depth (Array of count) = suc (type_depth of)
  form_depth (Struct id) = 0
  form_depth (Function params result) = suc (max (types_depth params) (type_depth result))

  pub types_depth : TypeTrees → ℕ
  types_depth Nil = 0
  types_depth (Cons first rest) = max (type_depth first) (types_depth rest)
