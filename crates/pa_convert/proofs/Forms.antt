-- What is told of a form holds of the type.
use Rattle.std.proofs.Common.{◌≡◌, ℕ, Bool, true, false, IsTrue, Option, Some, None, option_map, refl, sym, ap, ◌∙◌}
use Rattle.pa_ctype.specs.Types.{TypeTree, Of, FormTree, TypeTrees}
use Rattle.pa_ctype.specs.Types as ty
use Rattle.pa_ctype.specs.Qualifiers.{is_constant, without_const}
use Rattle.pa_ctype.specs.Nodes.{taking, constant}
use Rattle.pa_ctype.specs.Nodes as nodes
use Rattle.pa_convert.specs.declared.form.Form.{Form}
use Rattle.pa_convert.specs.declared.form.Form.TheVariants.{Void, Boolean, Integer, Pointer, Array, Struct, Function}
use Rattle.pa_convert.specs.Conversions as spec
use Rattle.pa_convert.specs.Forms.{HasForm}
use Rattle.pa_convert.specs.Kinds as kinds

-- ---- the form of a type is that of the type without `const`

pub plain_is : (t u : TypeTree) (form : FormTree) → u ≡ without_const t → u ≡ Of false form → t ≡ Of (is_constant t) form
plain_is (Of c other) u form e f = let same : other ≡ form = cc in ap (Of c) same

pub constant_is_not : (t u v : TypeTree) → u ≡ without_const t → u ≡ constant v → ⊥
constant_is_not (Of c form) u (Of d other) e f = cc

pub function_is : (t u : TypeTree) → u ≡ without_const t → IsTrue (nodes.is_function u) → IsTrue (spec.is_function t)
function_is (Of c ty.Void) u e h = rw e at h
function_is (Of c ty.Boolean) u e h = rw e at h
function_is (Of c (ty.Integer bits signed)) u e h = rw e at h
function_is (Of c (ty.Pointer to schema)) u e h = rw e at h
function_is (Of c (ty.Array of count)) u e h = rw e at h
function_is (Of c (ty.Struct id)) u e h = rw e at h
function_is (Of c (ty.Function params result)) u e h = refl

pub taking_is : (p t : TypeTree) → IsTrue (nodes.is_function t) → IsTrue (nodes.is_function (taking p t))
taking_is p (Of true form) h = cc
taking_is p (Of false ty.Void) h = h
taking_is p (Of false ty.Boolean) h = h
taking_is p (Of false (ty.Integer bits signed)) h = h
taking_is p (Of false (ty.Pointer to schema)) h = h
taking_is p (Of false (ty.Array of count)) h = h
taking_is p (Of false (ty.Struct id)) h = h
taking_is p (Of false (ty.Function params result)) h = refl

-- ---- kinds

a_function : (t : TypeTree) → IsTrue (spec.is_function t) → (params : TypeTrees) × (result : TypeTree) × (t ≡ Of (is_constant t) (ty.Function params result))
a_function (Of c ty.Void) h = cc
a_function (Of c ty.Boolean) h = cc
a_function (Of c (ty.Integer bits signed)) h = cc
a_function (Of c (ty.Pointer to schema)) h = cc
a_function (Of c (ty.Array of count)) h = cc
a_function (Of c (ty.Struct id)) h = cc
a_function (Of c (ty.Function params result)) h = (params, result, refl)

pub integer_of : (m : ℕ → TypeTree) (f : Form) (t : TypeTree) → HasForm m f t → kinds.is_integer f ≡ spec.is_integer t
integer_of m Void t e = rw e refl
integer_of m Boolean t e = rw e refl
integer_of m (Integer bits signed) t e = rw e refl
integer_of m (Pointer to schema) t e = rw e refl
integer_of m (Array of count) t e = rw e refl
integer_of m (Struct id) t e = rw e refl
integer_of m Function t h = let (params, result, e) = a_function t h in rw e refl

pub boolean_of : (m : ℕ → TypeTree) (f : Form) (t : TypeTree) → HasForm m f t → kinds.is_boolean f ≡ spec.is_boolean t
boolean_of m Void t e = rw e refl
boolean_of m Boolean t e = rw e refl
boolean_of m (Integer bits signed) t e = rw e refl
boolean_of m (Pointer to schema) t e = rw e refl
boolean_of m (Array of count) t e = rw e refl
boolean_of m (Struct id) t e = rw e refl
boolean_of m Function t h = let (params, result, e) = a_function t h in rw e refl

pub pointer_of : (m : ℕ → TypeTree) (f : Form) (t : TypeTree) → HasForm m f t → kinds.is_pointer f ≡ spec.is_pointer t
pointer_of m Void t e = rw e refl
pointer_of m Boolean t e = rw e refl
pointer_of m (Integer bits signed) t e = rw e refl
pointer_of m (Pointer to schema) t e = rw e refl
pointer_of m (Array of count) t e = rw e refl
pointer_of m (Struct id) t e = rw e refl
pointer_of m Function t h = let (params, result, e) = a_function t h in rw e refl

pub void_of : (m : ℕ → TypeTree) (f : Form) (t : TypeTree) → HasForm m f t → kinds.is_void f ≡ spec.is_void t
void_of m Void t e = rw e refl
void_of m Boolean t e = rw e refl
void_of m (Integer bits signed) t e = rw e refl
void_of m (Pointer to schema) t e = rw e refl
void_of m (Array of count) t e = rw e refl
void_of m (Struct id) t e = rw e refl
void_of m Function t h = let (params, result, e) = a_function t h in rw e refl

pub array_of : (m : ℕ → TypeTree) (f : Form) (t : TypeTree) → HasForm m f t → kinds.is_array f ≡ spec.is_array t
array_of m Void t e = rw e refl
array_of m Boolean t e = rw e refl
array_of m (Integer bits signed) t e = rw e refl
array_of m (Pointer to schema) t e = rw e refl
array_of m (Array of count) t e = rw e refl
array_of m (Struct id) t e = rw e refl
array_of m Function t h = let (params, result, e) = a_function t h in rw e refl

pub struct_of : (m : ℕ → TypeTree) (f : Form) (t : TypeTree) → HasForm m f t → kinds.is_struct f ≡ spec.is_struct t
struct_of m Void t e = rw e refl
struct_of m Boolean t e = rw e refl
struct_of m (Integer bits signed) t e = rw e refl
struct_of m (Pointer to schema) t e = rw e refl
struct_of m (Array of count) t e = rw e refl
struct_of m (Struct id) t e = rw e refl
struct_of m Function t h = let (params, result, e) = a_function t h in rw e refl

pub function_of : (m : ℕ → TypeTree) (f : Form) (t : TypeTree) → HasForm m f t → kinds.is_function f ≡ spec.is_function t
function_of m Void t e = rw e refl
function_of m Boolean t e = rw e refl
function_of m (Integer bits signed) t e = rw e refl
function_of m (Pointer to schema) t e = rw e refl
function_of m (Array of count) t e = rw e refl
function_of m (Struct id) t e = rw e refl
function_of m Function t h = let (params, result, e) = a_function t h in rw e refl

pub target_of : (m : ℕ → TypeTree) (f : Form) (t : TypeTree) → HasForm m f t → option_map m (kinds.target f) ≡ spec.target t
target_of m Void t e = rw e refl
target_of m Boolean t e = rw e refl
target_of m (Integer bits signed) t e = rw e refl
target_of m (Pointer to schema) t e = rw e refl
target_of m (Array of count) t e = rw e refl
target_of m (Struct id) t e = rw e refl
target_of m Function t h = let (params, result, e) = a_function t h in rw e refl

pub schema_is : (m : ℕ → TypeTree) (f : Form) (t : TypeTree) → HasForm m f t → kinds.schema_of f ≡ spec.schema_of t
schema_is m Void t e = rw e refl
schema_is m Boolean t e = rw e refl
schema_is m (Integer bits signed) t e = rw e refl
schema_is m (Pointer to schema) t e = rw e refl
schema_is m (Array of count) t e = rw e refl
schema_is m (Struct id) t e = rw e refl
schema_is m Function t h = let (params, result, e) = a_function t h in rw e refl

-- ---- what operands are brought to

abbrev pub or_it : Option TypeTree → TypeTree → TypeTree
or_it None t = t
or_it (Some u) t = u

pub wider_is : (m : ℕ → TypeTree) (f g : Form) (t u : TypeTree) → HasForm m f t → HasForm m g u → or_it (kinds.wider f g) t ≡ spec.common_by t u
wider_is m Void g t u e k = rw e refl
wider_is m Boolean g t u e k = rw e refl
wider_is m (Integer bits signed) Void t u e d = rw (e, d) refl
wider_is m (Integer bits signed) Boolean t u e d = rw (e, d) refl
wider_is m (Integer bits signed) (Integer others other) t u e d = rw (e, d) refl
wider_is m (Integer bits signed) (Pointer to schema) t u e d = rw (e, d) refl
wider_is m (Integer bits signed) (Array of count) t u e d = rw (e, d) refl
wider_is m (Integer bits signed) (Struct id) t u e d = rw (e, d) refl
wider_is m (Integer bits signed) Function t u e k = let (params, result, d) = a_function u k in rw (e, d) refl
wider_is m (Pointer to schema) g t u e k = rw e refl
wider_is m (Array of count) g t u e k = rw e refl
wider_is m (Struct id) g t u e k = rw e refl
wider_is m Function g t u h k = let (params, result, e) = a_function t h in rw e refl
