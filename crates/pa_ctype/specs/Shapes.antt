-- What a pass that has no table needs of a type.
use Rattle.std.specs.Prelude.{◌≡◌, None, option_map, ◌⊎◌}
use Rattle.pa_ctype.specs.declared.node.Shape.{Shape}
use Rattle.pa_ctype.specs.declared.node.Shape.TheVariants as shape
use Rattle.pa_ctype.specs.Types.{TypeTree, Of, FormTree, Void, Boolean, Integer, Pointer, Array, Struct, Function}
use Rattle.pa_ctype.specs.Layouts.{Table, layout_in}

abbrev pub form_shape : Table → FormTree → Shape
form_shape table Void = shape.Other
form_shape table Boolean = shape.Bool
form_shape table (Integer bits signed) = shape.Int bits signed
form_shape table (Pointer to schema) = shape.Pointer (option_map (λ l. l.size) (layout_in table to)) schema
form_shape table (Array of count) = shape.Other
form_shape table (Struct id) = shape.Other
form_shape table (Function params result) = shape.Other

abbrev pub shape_of : Table → TypeTree → Shape
shape_of table (Of c form) = form_shape table form

-- where a pointer's step isn't known yet
abbrev pub stepless : Shape → Shape
stepless (shape.Pointer step schema) = shape.Pointer None schema
stepless s = s

-- the shape that a type has, or had while what it points to was incomplete
abbrev pub IsShape : Table → TypeTree → Shape → Type 0
IsShape table t s = (s ≡ shape_of table t) ⊎ (s ≡ stepless (shape_of table t))
