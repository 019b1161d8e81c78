-- One layer of a type without its own `const`, with the types in it by number.
use Rattle.std.specs.Prelude.{◌≡◌, ℕ, ◌<◌, Bool, true, false, Option, Some, None, IsTrue}
use Rattle.pa_pac.specs.declared.schema.Schema.{Schema}
use Rattle.pa_ctype.specs.Types.{TypeTree, Of}
use Rattle.pa_ctype.specs.Types as ty
use Rattle.pa_ctype.specs.Qualifiers.{is_constant}
use Rattle.pa_convert.specs.declared.form.Form.{Form}
use Rattle.pa_convert.specs.declared.form.Form.TheVariants.{Void, Boolean, Integer, Pointer, Array, Struct, Function}
use Rattle.pa_convert.specs.Conversions.{is_function}

-- the type of this form, where numbers stand for these types
abbrev pub HasForm : (ℕ → TypeTree) → Form → TypeTree → Type 0
HasForm m Void t = t ≡ Of (is_constant t) ty.Void
HasForm m Boolean t = t ≡ Of (is_constant t) ty.Boolean
HasForm m (Integer bits signed) t = t ≡ Of (is_constant t) (ty.Integer bits signed)
HasForm m (Pointer to schema) t = t ≡ Of (is_constant t) (ty.Pointer (m to) schema)
HasForm m (Array of count) t = t ≡ Of (is_constant t) (ty.Array (m of) count)
HasForm m (Struct id) t = t ≡ Of (is_constant t) (ty.Struct id)
HasForm m Function t = IsTrue (is_function t)

-- numbers in the form are below this one
abbrev pub IsFormBelow : ℕ → Form → Type 0
IsFormBelow n (Pointer to schema) = to < n
IsFormBelow n (Array of count) = of < n
IsFormBelow n _ = Unit {0}
