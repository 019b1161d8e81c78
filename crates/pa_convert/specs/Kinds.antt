-- Kinds of forms (C11 6.2.5).
use Rattle.std.specs.Prelude.{ℕ, Bool, true, false, ◌&&◌, ◌==◌, nat_lt, if◌then◌else◌, Option, Some, None}
use Rattle.pa_pac.specs.declared.schema.Schema.{Schema}
use Rattle.pa_ctype.specs.Types.{TypeTree}
use Rattle.pa_convert.specs.Conversions.{integer}
use Rattle.pa_convert.specs.declared.form.Form.{Form}
use Rattle.pa_convert.specs.declared.form.Form.TheVariants.{Void, Boolean, Integer, Pointer, Array, Struct, Function}

abbrev pub is_integer : Form → Bool
is_integer Boolean = true
is_integer (Integer bits signed) = true
is_integer form = false

abbrev pub is_boolean : Form → Bool
is_boolean Boolean = true
is_boolean form = false

abbrev pub is_pointer : Form → Bool
is_pointer (Pointer to schema) = true
is_pointer form = false

abbrev pub is_void : Form → Bool
is_void Void = true
is_void form = false

abbrev pub is_array : Form → Bool
is_array (Array of count) = true
is_array form = false

abbrev pub is_struct : Form → Bool
is_struct (Struct id) = true
is_struct form = false

abbrev pub is_function : Form → Bool
is_function Function = true
is_function form = false

-- what a pointer points to
abbrev pub target : Form → Option ℕ
target (Pointer to schema) = Some to
target form = None

-- the qualifier of a pointer
abbrev pub schema_of : Form → Option Schema
schema_of (Pointer to schema) = schema
schema_of form = None

-- what two integer types of promoted operands are brought to
abbrev pub wider : Form → Form → Option TypeTree
wider (Integer m s) (Integer n r) = Some (if m == n then integer m (s && r) else if nat_lt n m then integer m s else integer n r)
wider left right = None
