-- What the calls of the table answer, from what it keeps.
use Rattle.std.proofs.Common.{◌≡◌, ℕ, ◌<◌, ◌==◌, true, false, List, length, refl, sym, ap, subst}
use Rattle.pa_ctype.specs.declared.node.Node.{Node}
use Rattle.pa_ctype.specs.declared.node.Facts.{Facts}
use Rattle.pa_ctype.specs.Types.{TypeTree, Of}
use Rattle.pa_ctype.specs.Equality.{same_type}
use Rattle.pa_ctype.specs.Qualifiers.{without_const, is_constant}
use Rattle.pa_ctype.specs.Nodes.{Fits, IsTable, taking, constant, takes_const, is_function}
use Rattle.pa_ctype.specs.Layouts.{Table}
use Rattle.pa_ctype.specs.Shapes.{shape_of}
use Rattle.pa_ctype.proofs.NodeTable.{fits_once}
use Rattle.pa_ctype.proofs.KindLaws.{function_is}
use Rattle.pa_ctype.proofs.Sameness.{same_by}

-- types are equal where their numbers are
pub same_number : (ns : List Node) (fs : List Facts) (old : List Node) → IsTable ns fs → ns ≡ old → (i j : ℕ) → i < length old → j < length old → (m : ℕ → TypeTree) → Fits m old → (i == j) ≡ same_type (m i) (m j)
same_number ns fs old t view i j h g m fits =
    same_by i j (m i) (m j) (ap m) (fits_once ns fs t m (subst (Fits m) (sym view) fits) i j (subst (λ l. i < length l) (sym view) h) (subst (λ l. j < length l) (sym view) g))

-- what takes `const` is without it
pub plain_constant : (t : TypeTree) → takes_const t ≡ true → t ≡ without_const (constant t)
plain_constant (Of true form) h = cc
plain_constant (Of false form) h = refl

pub is_const : (t : TypeTree) → true ≡ is_constant (constant t)
is_const (Of c form) = refl

pub plain_taking : (p t : TypeTree) → is_function t ≡ true → taking p t ≡ without_const (taking p t)
plain_taking p t h = let (params, result, e) = function_is t h in rw e refl

pub no_const_taking : (p t : TypeTree) → is_function t ≡ true → false ≡ is_constant (taking p t)
no_const_taking p t h = let (params, result, e) = function_is t h in rw e refl

-- a shape doesn't depend on `const`
pub plain_shape : (table : Table) (t u : TypeTree) → u ≡ without_const t → shape_of table u ≡ shape_of table t
plain_shape table (Of c form) u e = ap (shape_of table) e
