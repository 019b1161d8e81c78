-- What stands at a place, by the form of its type.
use Rattle.std.proofs.Common.{◌≡◌, ℕ, IsTrue, None, refl}
use Rattle.pa_ctype.specs.Types.{TypeTree, Of}
use Rattle.pa_ctype.specs.Types as ty
use Rattle.pa_ctype.specs.Qualifiers.{without_const}
use Rattle.pa_typed.specs.Typed.{TypedExpr}
use Rattle.pa_convert.specs.declared.form.Form.{Form}
use Rattle.pa_convert.specs.declared.form.Form.TheVariants.{Void, Boolean, Integer, Pointer, Array, Struct, Function}
use Rattle.pa_convert.specs.Conversions.{is_function}
use Rattle.pa_convert.specs.Forms.{HasForm}
use Rattle.pa_rexpr.specs.Values.{Typed, temporary, placed_value}
use Rattle.pa_value.specs.Forms.{scalar_value, first_element}

abbrev pub placed_by : (ℕ → TypeTree) → Form → TypedExpr → TypeTree → Typed
placed_by m (Pointer to schema) tree t = scalar_value schema tree t
placed_by m (Array of count) tree t = first_element tree (m of)
placed_by m (Struct id) tree t = temporary tree (without_const t)
placed_by m form tree t = scalar_value None tree t

function_placed : (tree : TypedExpr) (t : TypeTree) → IsTrue (is_function t) → placed_value tree t ≡ scalar_value None tree t
function_placed tree (Of c ty.Void) h = cc
function_placed tree (Of c ty.Boolean) h = cc
function_placed tree (Of c (ty.Integer bits signed)) h = cc
function_placed tree (Of c (ty.Pointer to schema)) h = cc
function_placed tree (Of c (ty.Array of count)) h = cc
function_placed tree (Of c (ty.Struct id)) h = cc
function_placed tree (Of c (ty.Function params result)) h = refl

pub placed_is : (m : ℕ → TypeTree) (form : Form) (tree : TypedExpr) (t : TypeTree) → HasForm m form t → placed_value tree t ≡ placed_by m form tree t
placed_is m Void tree t e = rw e refl
placed_is m Boolean tree t e = rw e refl
placed_is m (Integer bits signed) tree t e = rw e refl
placed_is m (Pointer to schema) tree t e = rw e refl
placed_is m (Array of count) tree t e = rw e refl
placed_is m (Struct id) tree t e = rw e refl
placed_is m Function tree t h = function_placed tree t h
