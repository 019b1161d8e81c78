-- The qualifiers of types (C11 6.7.3, and `__ptrauth` of Clang's Pointer Authentication page).
use Rattle.std.specs.Prelude.{Bool, false, ◌||◌, None}
use Rattle.pa_ctype.specs.Types.{TypeTree, Of, FormTree, Void, Boolean, Integer, Pointer, Array, Struct, Function, TypeTrees, Nil, Cons}
use Rattle.pa_ctype.specs.Equality.{same_type}

abbrev pub is_constant : TypeTree → Bool
is_constant (Of c form) = c

-- without a `const` of its own
abbrev pub without_const : TypeTree → TypeTree
without_const (Of c form) = Of false form

-- with `const`, or without: that of an array is that of its elements (6.7.3p9), and a function type has none
unfoldable pub with_const : Bool → TypeTree → TypeTree
with_const constant (Of c (Array of count)) = Of c (Array (with_const constant of) count)
with_const constant (Of c (Function params result)) = Of c (Function params result)
with_const constant (Of c form) = Of (c || constant) form

-- without qualifiers at every level
unfoldable mutual
  pub bare : TypeTree → TypeTree
  bare (Of c form) = Of false (bare_form form)

  pub bare_form : FormTree → FormTree
  bare_form Void = Void
  bare_form Boolean = Boolean
  bare_form (Integer bits signed) = Integer bits signed
  bare_form (Pointer to schema) = Pointer (bare to) None
  bare_form (Array of count) = Array (bare of) count
  bare_form (Struct id) = Struct id
  bare_form (Function params result) = Function (bare_types params) (bare result)

  pub bare_types : TypeTrees → TypeTrees
  bare_types Nil = Nil
  bare_types (Cons first rest) = Cons (bare first) (bare_types rest)

-- types that differ in qualifiers alone: there is nothing to convert
abbrev pub same_bare : TypeTree → TypeTree → Bool
same_bare a b = same_type (bare a) (bare b)
