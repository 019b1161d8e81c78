use Rattle.std.proofs.Common.{◌≡◌, ℕ, ◌≤◌, ◌^◌, ℤ, pos, ◌*ℤ◌, List, Some, FitsSigned, refl, ap, ◌∙◌, subst, arith}
use Rattle.std.specs.Int.{w128}
use Rattle.std.specs.Int.RustNames.{unsigned_abs}
use Rattle.std.proofs.lemmas.Int.{to_z-of_z, fits_signed_mul, fits_signed_from_abs}
use Rattle.pa_store.specs.Operands.{IsShort}
use Rattle.pa_cmean.specs.Operations as spec
use Rattle.pa_ctype.specs.Types.{TypeTree}
use Rattle.pa_ctype.specs.Layouts.{Table}
use Rattle.pa_ctype.specs.Values.{CValue, Objects}
use Rattle.pa_store.specs.declared.value.Value.{Value}
use Rattle.pa_store.specs.declared.value.Value.TheVariants.{Number}
use Rattle.pa_store.specs.Views.{value_tree}
use Rattle.pa_store.specs.Store.{objects_tree}
use Rattle.pa_store.proofs.steps.stepped.Goals as goal

stepped_is : (names : ℕ → List ℕ) (table : Table) (of : TypeTree) (objects : Objects) (pointer : CValue) (number : Value) (n : ℤ) (size : ℕ) → number ≡ Number n → spec.bytes_of table of ≡ Some size
    → spec.moved objects (n *ℤ pos size) pointer ≡ spec.stepped table objects of pointer (value_tree names number)
stepped_is names table of objects pointer number n size is e = rw (is, e) refl

pub returns-in-Number : goal.returns-in-Number
returns-in-Number c t names h below again apart table of e =
    let objects = objects_tree names t c.args.objects.now in
    let pointer = value_tree names c.args.pointer in
    let n = c.in-Number.number in
    let short : unsigned_abs n ≤ 2 ^ 64 = subst IsShort c.in-Number.is c.requires.number in
    let small : unsigned_abs c.from.result ≤ 2 ^ 32 = let size = c.requires.size in rw c.from.ensures (omega arith) in
    let left : FitsSigned w128 n = fits_signed_from_abs w128 n (omega (arith, short)) in
    let right : FitsSigned w128 c.from.result = fits_signed_from_abs w128 c.from.result (omega (arith, small)) in
    let whole : FitsSigned w128 (n *ℤ c.from.result) = fits_signed_mul w128 n c.from.result (2 ^ 64) (2 ^ 32) short small (omega arith) in
    (rw (to_z-of_z w128 n left, to_z-of_z w128 c.from.result right, to_z-of_z w128 (n *ℤ c.from.result) whole) at c.moved.ensures t names h below again apart)
    ∙ ap (λ z. spec.moved objects (n *ℤ z) pointer) c.from.ensures ∙ stepped_is names table of objects pointer c.args.number n c.args.size c.in-Number.is e
