-- The types of values.
use Rattle.std.proofs.Common.{◌≡◌, ℕ, Bool, true, false, Option, Some, None, refl, sym, ap}
use Rattle.pa_ctype.specs.Types.{TypeTree, Of, FormTree}
use Rattle.pa_ctype.specs.Types as ty
use Rattle.pa_ctype.specs.Qualifiers.{without_const, with_const}
use Rattle.pa_convert.specs.Conversions.{target, value_type, pointer_to}

pub pointer_value : (t to : TypeTree) → Some to ≡ target t → pointer_to to ≡ value_type t
pointer_value (Of c ty.Void) to e = cc
pointer_value (Of c ty.Boolean) to e = cc
pointer_value (Of c (ty.Integer bits signed)) to e = cc
pointer_value (Of c (ty.Pointer at schema)) to e = let same : to ≡ at = cc in ap pointer_to same
pointer_value (Of c (ty.Array of count)) to e = cc
pointer_value (Of c (ty.Struct id)) to e = cc
pointer_value (Of c (ty.Function params result)) to e = cc

pub plain_value : (t : TypeTree) → None ≡ target t → without_const t ≡ value_type t
plain_value (Of c ty.Void) e = refl
plain_value (Of c ty.Boolean) e = refl
plain_value (Of c (ty.Integer bits signed)) e = refl
plain_value (Of c (ty.Pointer to schema)) e = cc
plain_value (Of c (ty.Array of count)) e = refl
plain_value (Of c (ty.Struct id)) e = refl
plain_value (Of c (ty.Function params result)) e = refl

pub without_more : (t : TypeTree) → with_const false t ≡ t
unfolding with_const
without_more (Of c (ty.Array of count)) = ap (λ (t : TypeTree). Of c (ty.Array t count)) (without_more of)
without_more (Of c (ty.Function params result)) = refl
without_more (Of true ty.Void) = refl
without_more (Of false ty.Void) = refl
without_more (Of true ty.Boolean) = refl
without_more (Of false ty.Boolean) = refl
without_more (Of true (ty.Integer bits signed)) = refl
without_more (Of false (ty.Integer bits signed)) = refl
without_more (Of true (ty.Pointer to schema)) = refl
without_more (Of false (ty.Pointer to schema)) = refl
without_more (Of true (ty.Struct id)) = refl
without_more (Of false (ty.Struct id)) = refl
