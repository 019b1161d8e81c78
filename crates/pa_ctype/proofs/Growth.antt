-- A table of structs stays sound, and types keep their layouts, when a struct is added and when one gets its body.
use Rattle.std.proofs.Common.{◌≡◌, ℕ, zero, suc, ◌+◌, ◌≤◌, cond, List, [], ◌∷◌, ◌++◌, Some, None, refl, sym, ◌∙◌, ap, length, map, arith}
use Rattle.std.specs.Option.{option_and_then}
use Rattle.std.specs.Int.{next_multiple_of}
use Rattle.std.specs.Str.{bytes_eq}
use Rattle.std.specs.List.{slice_get, slice_set}
use Rattle.pa_ctype.specs.declared.ctype.Layout.{Layout}
use Rattle.pa_ctype.specs.declared.ctype.Member.{Member}
use Rattle.pa_ctype.specs.Types.{TypeTree}
use Rattle.pa_ctype.specs.Layouts.{Body, Table, body_of, placed, empty, padded, members_from, struct_layout, laid, HasLayout, layout_in, IsComplete, member_from, HasMember, IsSoundBody}
use Rattle.pa_ctype.proofs.Depth.{layout_is, member_from_keeps}
use Rattle.pa_ctype.proofs.Laws.{Keeps, then_some, layout_by_keeps, structs_at, struct_layout_keeps}

-- each body of the one table is one of the other, which has no fewer structs
pub record Extends (table more : Table) : Type 0 where
  pub bodies : (id : ℕ) (body : Body) → body_of table id ≡ Some body → body_of more id ≡ Some body
  pub count : length table ≤ length more

structs_extend : (depth : ℕ) (table more : Table) → Extends table more → Keeps (laid depth table) (laid depth more) → Keeps (structs_at depth table) (structs_at depth more)
structs_extend depth table more h keeps id l e =
    let (body, p, q) = then_some (struct_layout (laid depth table)) (body_of table id) l e in
    rw (h.bodies id body p) (struct_layout_keeps (laid depth table) (laid depth more) keeps body l q)

laid_extends : (depth : ℕ) (table more : Table) → Extends table more → Keeps (laid depth table) (laid depth more)
unfolding laid
laid_extends zero table more h t l e = e
laid_extends (suc depth) table more h t l e = layout_by_keeps (structs_at depth table) (structs_at depth more) (structs_extend depth table more h (laid_extends depth table more h)) t l e

-- a layout stays when the table grows
pub layout_extends : (table more : Table) (t : TypeTree) (l : Layout) → Extends table more → HasLayout table t l → HasLayout more t l
layout_extends table more t l h k = record { depth = k.depth; is_laid = laid_extends k.depth table more h t l k.is_laid }

-- so does a member's place
pub member_extends : (table more : Table) (id : ℕ) (name : List ℕ) (m : Member) → Extends table more → HasMember table id name m → HasMember more id name m
member_extends table more id name m h k =
    record { depth = k.depth; body = k.body; body_is = h.bodies id k.body k.body_is; found = member_from_keeps (laid k.depth table) (laid k.depth more) (laid_extends k.depth table more h) name empty 0 k.body m k.found }

complete_extends : (table more : Table) (t : TypeTree) → Extends table more → IsComplete table t → IsComplete more t
complete_extends table more t h (l, k) = (l, layout_extends table more t l h k)

-- so do bodies
pub sound_extends : (table more : Table) (body : Body) → Extends table more → IsSoundBody table body → IsSoundBody more body
unfolding IsSoundBody
sound_extends table more [] h k = tt
sound_extends table more (field ∷ body) h k =
    let n = h.count in let m = k.0.known in
    (record { complete = complete_extends table more field.of h k.0.complete; known = omega arith }, sound_extends table more body h k.1)

members_extend : (table more : Table) (so_far : Layout) (body : Body) → Extends table more → IsSoundBody table body → members_from (layout_in more) so_far body ≡ members_from (layout_in table) so_far body
unfolding IsSoundBody members_from
members_extend table more so_far [] h k = refl
members_extend table more so_far (field ∷ body) h k =
    let (l, c) = k.0.complete in
    rw (layout_is table field.of l c, layout_is more field.of l (layout_extends table more field.of l h c)) (members_extend table more (placed so_far l) body h k.1)

pub struct_extends : (table more : Table) (body : Body) → Extends table more → IsSoundBody table body → struct_layout (layout_in more) body ≡ struct_layout (layout_in table) body
struct_extends table more [] h k = refl
struct_extends table more (field ∷ body) h k = ap (option_and_then padded) (members_extend table more empty (field ∷ body) h k)

-- so are members' places
pub places_extend : (table more : Table) (name : List ℕ) (so_far : Layout) (index : ℕ) (body : Body) → Extends table more → IsSoundBody table body → member_from (layout_in more) name so_far index body ≡ member_from (layout_in table) name so_far index body
unfolding IsSoundBody member_from
places_extend table more name so_far index [] h k = refl
places_extend table more name so_far index (field ∷ body) h k =
    let (l, c) = k.0.complete in
    rw (layout_is table field.of l c, layout_is more field.of l (layout_extends table more field.of l h c))
    (ap (cond (bytes_eq field.name name) (Some (record { offset = next_multiple_of so_far.size l.align; index = index }))) (places_extend table more name (placed so_far l) (index + 1) body h k.1))

-- the structs of both tables, by their ids
pub get_before : {A : Type 0} (a b : List A) (id : ℕ) (x : A) → slice_get a id ≡ Some x → slice_get (a ++ b) id ≡ Some x
get_before [] b id x e = cc
get_before (y ∷ a) b zero x e = e
get_before (y ∷ a) b (suc id) x e = get_before a b id x e

bodies_more : (a b : Table) (id : ℕ) (body : Body) → body_of a id ≡ Some body → body_of (a ++ b) id ≡ Some body
bodies_more [] b id body e = cc
bodies_more (x ∷ a) b zero body e = e
bodies_more (x ∷ a) b (suc id) body e = bodies_more a b id body e

pub count_more : {A : Type 0} (a b : List A) → length a ≤ length (a ++ b)
count_more [] b = omega arith
count_more (x ∷ a) b = omega (arith, count_more a b)

pub extends_more : (a b : Table) → Extends a (a ++ b)
extends_more a b = record { bodies = bodies_more a b; count = count_more a b }

-- a body for a struct that has none
bodies_set : (table : Table) (id : ℕ) (new : Body) → slice_get table id ≡ Some None → (other : ℕ) (body : Body) → body_of table other ≡ Some body → body_of (slice_set table id (Some new)) other ≡ Some body
bodies_set [] id new at other body e = cc
bodies_set (x ∷ table) zero new at zero body e = let z : x ≡ None = cc in let w : None ≡ Some body = sym z ∙ e in cc
bodies_set (x ∷ table) zero new at (suc other) body e = e
bodies_set (x ∷ table) (suc id) new at zero body e = e
bodies_set (x ∷ table) (suc id) new at (suc other) body e = bodies_set table id new at other body e

pub count_set : {A : Type 0} (xs : List A) (id : ℕ) (x : A) → length xs ≤ length (slice_set xs id x)
count_set [] id x = omega arith
count_set (y ∷ xs) zero x = omega arith
count_set (y ∷ xs) (suc id) x = omega (arith, count_set xs id x)

pub extends_set : (table : Table) (id : ℕ) (new : Body) → slice_get table id ≡ Some None → Extends table (slice_set table id (Some new))
extends_set table id new at = record { bodies = bodies_set table id new at; count = count_set table id (Some new) }

pub map_set : {A B : Type 0} (f : A → B) (xs : List A) (i : ℕ) (x : A) → map f (slice_set xs i x) ≡ slice_set (map f xs) i (f x)
map_set f [] i x = refl
map_set f (y ∷ xs) zero x = refl
map_set f (y ∷ xs) (suc i) x = ap (λ l. f y ∷ l) (map_set f xs i x)
