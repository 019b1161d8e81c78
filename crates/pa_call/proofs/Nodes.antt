-- What is told of a node holds of its type.
use Rattle.std.proofs.Common.{◌≡◌, ℕ, ◌<◌, true, false, IsTrue, Some, None, Ok, option_map, refl, sym, ap, ◌∙◌}
use Rattle.pa_ctype.specs.declared.node.Node.{Node}
use Rattle.pa_ctype.specs.declared.node.Node.TheVariants.{Void, Bool as BoolNode, Int, Pointer, Array, Struct, Returns, Takes, Constant}
use Rattle.pa_ctype.specs.Types.{TypeTree, Of}
use Rattle.pa_ctype.specs.Types as ty
use Rattle.pa_ctype.specs.Nodes.{tree, taking, constant, is_function, takes_const, IsProper, Below}
use Rattle.pa_scope.specs.declared.rule.TypeRule.TheVariants.{C8}
use Rattle.pa_scope.specs.Answers.{breaks_at}
use Rattle.pa_convert.specs.Conversions as conversions
use Rattle.pa_call.specs.Passing.{first_parameter, last_result, function_by, parameter_in, result_in, parameter_of, IsBelow}
use Rattle.pa_call.specs.declared.functions.Parameter.{Parameter as Numbered}

-- ---- a function with one more parameter

taken_first : (p t : TypeTree) → IsTrue (is_function t) → Some (record { of = p; rest = t }) ≡ first_parameter (taking p t)
taken_first p (Of true form) h = cc
taken_first p (Of false ty.Void) h = cc
taken_first p (Of false ty.Boolean) h = cc
taken_first p (Of false (ty.Integer bits signed)) h = cc
taken_first p (Of false (ty.Pointer to schema)) h = cc
taken_first p (Of false (ty.Array of count)) h = cc
taken_first p (Of false (ty.Struct id)) h = cc
taken_first p (Of false (ty.Function params result)) h = refl

no_first : (t : TypeTree) → IsTrue (takes_const t) → None ≡ first_parameter (constant t)
no_first (Of c ty.Void) h = refl
no_first (Of c ty.Boolean) h = refl
no_first (Of c (ty.Integer bits signed)) h = refl
no_first (Of c (ty.Pointer to schema)) h = refl
no_first (Of c (ty.Array of count)) h = refl
no_first (Of c (ty.Struct id)) h = refl
no_first (Of true (ty.Function params result)) h = cc
no_first (Of false (ty.Function params result)) h = cc

pub parameter_in_tree : (m : ℕ → TypeTree) (node : Node) → IsProper m node → option_map (parameter_of m) (parameter_in node) ≡ first_parameter (tree m node)
parameter_in_tree m Void h = refl
parameter_in_tree m BoolNode h = refl
parameter_in_tree m (Int bits signed) h = refl
parameter_in_tree m (Pointer to qualifier) h = refl
parameter_in_tree m (Array of count) h = refl
parameter_in_tree m (Struct id) h = refl
parameter_in_tree m (Returns of) h = refl
parameter_in_tree m (Takes param rest) h = taken_first (m param) (m rest) h
parameter_in_tree m (Constant of) h = no_first (m of) h

pub parameter_is : (m : ℕ → TypeTree) (node : Node) (t : TypeTree) → IsProper m node → t ≡ tree m node → option_map (parameter_of m) (parameter_in node) ≡ first_parameter t
parameter_is m node t h e = parameter_in_tree m node h ∙ ap first_parameter (sym e)

pub parameter_below : (n : ℕ) (node : Node) (p : Numbered) → Below n node → parameter_in node ≡ Some p → IsBelow n p
parameter_below n Void p h e = cc
parameter_below n BoolNode p h e = cc
parameter_below n (Int bits signed) p h e = cc
parameter_below n (Pointer to qualifier) p h e = cc
parameter_below n (Array of count) p h e = cc
parameter_below n (Struct id) p h e = cc
parameter_below n (Returns of) p h e = cc
parameter_below n (Takes param rest) p h e = let same : record { of = param; rest = rest } ≡ p = cc in rw (sym same) (record { of = h.0; rest = h.1.0 })
parameter_below n (Constant of) p h e = cc

-- ---- a function without parameters

taken_last : (p t : TypeTree) → IsTrue (is_function t) → None ≡ last_result (taking p t)
taken_last p (Of true form) h = cc
taken_last p (Of false ty.Void) h = cc
taken_last p (Of false ty.Boolean) h = cc
taken_last p (Of false (ty.Integer bits signed)) h = cc
taken_last p (Of false (ty.Pointer to schema)) h = cc
taken_last p (Of false (ty.Array of count)) h = cc
taken_last p (Of false (ty.Struct id)) h = cc
taken_last p (Of false (ty.Function params result)) h = refl

no_last : (t : TypeTree) → IsTrue (takes_const t) → None ≡ last_result (constant t)
no_last (Of c ty.Void) h = refl
no_last (Of c ty.Boolean) h = refl
no_last (Of c (ty.Integer bits signed)) h = refl
no_last (Of c (ty.Pointer to schema)) h = refl
no_last (Of c (ty.Array of count)) h = refl
no_last (Of c (ty.Struct id)) h = refl
no_last (Of true (ty.Function params result)) h = cc
no_last (Of false (ty.Function params result)) h = cc

result_in_tree : (m : ℕ → TypeTree) (node : Node) → IsProper m node → option_map m (result_in node) ≡ last_result (tree m node)
result_in_tree m Void h = refl
result_in_tree m BoolNode h = refl
result_in_tree m (Int bits signed) h = refl
result_in_tree m (Pointer to qualifier) h = refl
result_in_tree m (Array of count) h = refl
result_in_tree m (Struct id) h = refl
result_in_tree m (Returns of) h = refl
result_in_tree m (Takes param rest) h = taken_last (m param) (m rest) h
result_in_tree m (Constant of) h = no_last (m of) h

pub result_is : (m : ℕ → TypeTree) (node : Node) (t : TypeTree) → IsProper m node → t ≡ tree m node → option_map m (result_in node) ≡ last_result t
result_is m node t h e = result_in_tree m node h ∙ ap last_result (sym e)

pub result_below : (n : ℕ) (node : Node) (of : ℕ) → Below n node → result_in node ≡ Some of → of < n
result_below n Void p h e = cc
result_below n BoolNode p h e = cc
result_below n (Int bits signed) p h e = cc
result_below n (Pointer to qualifier) p h e = cc
result_below n (Array of count) p h e = cc
result_below n (Struct id) p h e = cc
result_below n (Returns of) p h e = let same : of ≡ p = cc in rw (sym same) h.0
result_below n (Takes param rest) p h e = cc
result_below n (Constant of) p h e = cc

-- ---- what is called

pub function_called : (place : ℕ) (t : TypeTree) → IsTrue (conversions.is_function t) → function_by place (Some t) ≡ Ok t
function_called place (Of c ty.Void) h = cc
function_called place (Of c ty.Boolean) h = cc
function_called place (Of c (ty.Integer bits signed)) h = cc
function_called place (Of c (ty.Pointer to schema)) h = cc
function_called place (Of c (ty.Array of count)) h = cc
function_called place (Of c (ty.Struct id)) h = cc
function_called place (Of c (ty.Function params result)) h = refl

pub nothing_called : (place : ℕ) (t : TypeTree) → conversions.is_function t ≡ false → function_by place (Some t) ≡ breaks_at C8 place
nothing_called place (Of c ty.Void) h = refl
nothing_called place (Of c ty.Boolean) h = refl
nothing_called place (Of c (ty.Integer bits signed)) h = refl
nothing_called place (Of c (ty.Pointer to schema)) h = refl
nothing_called place (Of c (ty.Array of count)) h = refl
nothing_called place (Of c (ty.Struct id)) h = refl
nothing_called place (Of c (ty.Function params result)) h = cc
