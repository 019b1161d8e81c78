-- Arrays without a length, by number.
use Rattle.std.proofs.Common.{◌≡◌, ℕ, ◌≤◌, ◌<◌, true, false, IsTrue, Option, Some, None, refl, ap, arith}
use Rattle.pa_ctype.specs.declared.node.Node.{Node}
use Rattle.pa_ctype.specs.declared.node.Node.TheVariants as node
use Rattle.pa_ctype.specs.Types.{TypeTree, Of, FormTree, array_of}
use Rattle.pa_ctype.specs.Types as ty
use Rattle.pa_ctype.specs.Layouts.{Table, IsComplete}
use Rattle.pa_ctype.specs.Nodes.{tree, taking, constant, takes_const, is_function, IsProper, Below}
use Rattle.pa_blocks.specs.declared.meant.Meant.{Meant}
use Rattle.pa_blocks.specs.declared.meant.Meant.TheVariants.{Local, Global, Constant, TypeName, Discriminator}
use Rattle.pa_blocks.specs.Blocks.{with_type, types_in}
use Rattle.pa_scope.specs.Numbered.{open_element, object_type, meaning_of}
use Rattle.pa_scope.specs.Scope.{with_length, completed_meaning}
use Rattle.pa_scope.specs.Scopes.{CompletesType}

pub open_below : (n : ℕ) (other : Node) (of : ℕ) → Below n other → Some of ≡ open_element other → of < n
open_below n (node.Array held None) of h e = let same : of ≡ held = cc in rw same h.0
open_below n (node.Array held (Some count)) of h e = cc
open_below n node.Void of h e = cc
open_below n node.Bool of h e = cc
open_below n (node.Int bits signed) of h e = cc
open_below n (node.Pointer to qualifier) of h e = cc
open_below n (node.Struct id) of h e = cc
open_below n (node.Returns held) of h e = cc
open_below n (node.Takes param rest) of h e = cc
open_below n (node.Constant held) of h e = cc

pub length_given : (m : ℕ → TypeTree) (count : ℕ) (other : Node) (of : ℕ) → Some of ≡ open_element other → Of false (ty.Array (m of) (Some count)) ≡ with_length count (tree m other)
length_given m count (node.Array held None) of e = let same : of ≡ held = cc in ap (λ i. Of false (ty.Array (m i) (Some count))) same
length_given m count (node.Array held (Some other)) of e = cc
length_given m count node.Void of e = cc
length_given m count node.Bool of e = cc
length_given m count (node.Int bits signed) of e = cc
length_given m count (node.Pointer to qualifier) of e = cc
length_given m count (node.Struct id) of e = cc
length_given m count (node.Returns held) of e = cc
length_given m count (node.Takes param rest) of e = cc
length_given m count (node.Constant held) of e = cc

pub opens : (table : Table) (m : ℕ → TypeTree) (count : ℕ) (other : Node) (of : ℕ) → Some of ≡ open_element other → CompletesType table count (tree m other) → IsComplete table (array_of (m of) count)
opens table m count (node.Array held None) of e h = let same : of ≡ held = cc in rw same h
opens table m count (node.Array held (Some other)) of e h = cc
opens table m count node.Void of e h = cc
opens table m count node.Bool of e h = cc
opens table m count (node.Int bits signed) of e h = cc
opens table m count (node.Pointer to qualifier) of e h = cc
opens table m count (node.Struct id) of e h = cc
opens table m count (node.Returns held) of e h = cc
opens table m count (node.Takes param rest) of e h = cc
opens table m count (node.Constant held) of e h = cc

no_parameter : (table : Table) (count : ℕ) (p t : TypeTree) → IsTrue (is_function t) → CompletesType table count (taking p t) → ⊥
no_parameter table count p (Of true form) h k = cc
no_parameter table count p (Of false ty.Void) h k = cc
no_parameter table count p (Of false ty.Boolean) h k = cc
no_parameter table count p (Of false (ty.Integer bits signed)) h k = cc
no_parameter table count p (Of false (ty.Pointer to schema)) h k = cc
no_parameter table count p (Of false (ty.Array of other)) h k = cc
no_parameter table count p (Of false (ty.Struct id)) h k = cc
no_parameter table count p (Of false (ty.Function params result)) h k = k

no_constant : (table : Table) (count : ℕ) (t : TypeTree) → IsTrue (takes_const t) → CompletesType table count (constant t) → ⊥
no_constant table count (Of true form) h k = cc
no_constant table count (Of false ty.Void) h k = k
no_constant table count (Of false ty.Boolean) h k = k
no_constant table count (Of false (ty.Integer bits signed)) h k = k
no_constant table count (Of false (ty.Pointer to schema)) h k = k
no_constant table count (Of false (ty.Array of other)) h k = cc
no_constant table count (Of false (ty.Struct id)) h k = k
no_constant table count (Of false (ty.Function params result)) h k = k

-- every other type has its length, or is no array
pub closed : (table : Table) (m : ℕ → TypeTree) (count : ℕ) (other : Node) → IsProper m other → None ≡ open_element other → CompletesType table count (tree m other) → ⊥
closed table m count (node.Array held None) p e h = cc
closed table m count (node.Array held (Some other)) p e h = h
closed table m count node.Void p e h = h
closed table m count node.Bool p e h = h
closed table m count (node.Int bits signed) p e h = h
closed table m count (node.Pointer to qualifier) p e h = h
closed table m count (node.Struct id) p e h = h
closed table m count (node.Returns held) p e h = h
closed table m count (node.Takes param rest) p e h = no_parameter table count (m param) (m rest) p h
closed table m count (node.Constant held) p e h = no_constant table count (m held) p h

pub object_known : (found : Option Meant) (of n : ℕ) → Some of ≡ object_type found → types_in found ≤ n → of < n
object_known None of n e h = cc
object_known (Some (Local number other)) of n e h = let same : of ≡ other = cc in omega arith
object_known (Some (Global other)) of n e h = let same : of ≡ other = cc in omega arith
object_known (Some (Constant value brought)) of n e h = cc
object_known (Some (TypeName other)) of n e h = cc
object_known (Some Discriminator) of n e h = cc

pub completes_means : (m : ℕ → TypeTree) (whole count of : ℕ) (found : Option Meant) → Some of ≡ object_type found → m whole ≡ with_length count (m of)
    → (means : Meant) → found ≡ Some means → meaning_of m (with_type whole means) ≡ completed_meaning count (meaning_of m means)
completes_means m whole count of found e f (Local number other) g = let same : of ≡ other = cc in rw (f, same) refl
completes_means m whole count of found e f (Global other) g = let same : of ≡ other = cc in rw (f, same) refl
completes_means m whole count of found e f (Constant value brought) g = refl
completes_means m whole count of found e f (TypeName other) g = refl
completes_means m whole count of found e f Discriminator g = refl
