-- The cells of an object of a type lie inside it, and have no value before one is put there.
use Rattle.std.proofs.Common.{◌≡◌, ℕ, zero, suc, ◌+◌, ◌*◌, ◌≤◌, ◌<◌, Bool, false, ◌||◌, List, [], ◌∷◌, ◌++◌, Option, Some, None, length, refl, sym, ap, subst, arith, suc-mul}
use Rattle.std.specs.Int.{next_multiple_of}
use Rattle.pa_ctype.specs.declared.ctype.Layout.{Layout}
use Rattle.pa_ctype.specs.Types.{TypeTree, Of, FormTree, Void, Boolean, Integer, Pointer, Array, Struct, Function}
use Rattle.pa_ctype.specs.Kept.{AreFine}
use Rattle.pa_ctype.specs.Layouts.{Body, Table, body_of, times, placed, empty, padded, members_from, struct_layout, layout_by, form_layout_by, laid, layout_in}
use Rattle.pa_ctype.specs.Values.{Cell, elements, elements_of, member_cells_by, member_cells, scalar, cells_by, form_cells_by, body_cells, cells_of, cells_in}
use Rattle.pa_ctype.proofs.Laying.{members_at_least, multiple_at_least}
use Rattle.pa_ctype.proofs.Laws.{then_some, small_is, layout_by_fine, structs_at, structs_fine, laid_fine}

-- each begins before that place, and has no value
unfoldable pub Within : ℕ → List Cell → Type 0
Within to [] = Unit {0}
Within to (cell ∷ cells) = ((cell.value ≡ None) × (cell.at < to)) × Within to cells

wider : (to high : ℕ) (cells : List Cell) → to ≤ high → Within to cells → Within high cells
unfolding Within
wider to high [] l h = tt
wider to high (cell ∷ cells) l h = let b = h.0.1 in ((h.0.0, omega arith), wider to high cells l h.1)

joined : (to : ℕ) (cells more : List Cell) → Within to cells → Within to more → Within to (cells ++ more)
unfolding Within
joined to [] more h k = k
joined to (cell ∷ cells) more h k = (h.0, joined to cells more h.1 k)

-- elements side by side
elements_within : (count size : ℕ) (cells : ℕ → List Cell) (at : ℕ) → ((at : ℕ) → Within (at + size) (cells at)) → Within (at + count * size) (elements count size cells at)
unfolding Within elements
elements_within zero size cells at h = tt
elements_within (suc count) size cells at h =
    let e : suc count * size ≡ count * size + size = suc-mul count size in
    joined (at + suc count * size) (cells at) (elements count size cells (at + size)) (wider (at + size) (at + suc count * size) (cells at) (omega (arith, e)) (h at))
    (wider (at + size + count * size) (at + suc count * size) (elements count size cells (at + size)) (omega (arith, e)) (elements_within count size cells (at + size) h))

-- members one behind the other
members_within : (lay : TypeTree → Option Layout) (cells : TypeTree → ℕ → List Cell) → ((t : TypeTree) (l : Layout) (at : ℕ) → lay t ≡ Some l → Within (at + l.size) (cells t at))
    → (at : ℕ) (so_far end : Layout) (body : Body) → members_from lay so_far body ≡ Some end → Within (at + end.size) (member_cells lay cells at so_far body)
unfolding Within members_from member_cells
members_within lay cells h at so_far end [] e = tt
members_within lay cells h at so_far end (field ∷ body) e =
    let (l, p, q) = then_some (λ x. members_from lay (placed so_far x) body) (lay field.of) end e in
    let start : ℕ = at + next_multiple_of so_far.size l.align in
    let more = members_at_least lay (placed so_far l) body end q in
    subst (λ o. Within (at + end.size) (member_cells_by (cells field.of) (λ next. member_cells lay cells at next body) at so_far o)) (sym p)
    (joined (at + end.size) (cells field.of start) (member_cells lay cells at (placed so_far l) body) (wider (start + l.size) (at + end.size) (cells field.of start) (omega arith) (h field.of l start p))
    (members_within lay cells h at (placed so_far l) end body q))

times_size : (count : ℕ) (k l : Layout) → times count k ≡ Some l → l.size ≡ count * k.size
times_size zero k l e = cc
times_size (suc n) k l e = sym (ap (λ x. x.size) (small_is (record { size = suc n * k.size; align = k.align }) l e).0)

-- where the cells of structs lie inside them, so do those of types
module _ (structs : ℕ → Option Layout) (cells : Bool → ℕ → ℕ → List Cell) (fine : AreFine structs) (within_structs : (constant : Bool) (id at : ℕ) (l : Layout) → structs id ≡ Some l → Within (at + l.size) (cells constant id at)) where
  one_within : (t : TypeTree) (at : ℕ) (l : Layout) → 1 ≤ l.size → Within (at + l.size) (scalar t at)
  unfolding Within
  one_within t at l h = ((refl, omega arith), tt)

  mutual
    unfolding layout_by form_layout_by cells_by form_cells_by

    type_within : (t : TypeTree) (within : Bool) (at : ℕ) (l : Layout) → layout_by structs t ≡ Some l → Within (at + l.size) (cells_by (layout_by structs) cells within t at)
    type_within (Of constant form) within at l e = form_within form (within || constant) at l e

    form_within : (form : FormTree) (constant : Bool) (at : ℕ) (l : Layout) → form_layout_by structs form ≡ Some l → Within (at + l.size) (form_cells_by (layout_by structs) cells constant form at)
    form_within Void constant at l e = cc
    form_within Boolean constant at l e = one_within (Of constant Boolean) at l (layout_by_fine structs fine (Of constant Boolean) l e).some
    form_within (Integer bits signed) constant at l e = one_within (Of constant (Integer bits signed)) at l (layout_by_fine structs fine (Of constant (Integer bits signed)) l e).some
    form_within (Pointer to schema) constant at l e = one_within (Of constant (Pointer to schema)) at l (layout_by_fine structs fine (Of constant (Pointer to schema)) l e).some
    form_within (Array of None) constant at l e = cc
    form_within (Array of (Some count)) constant at l e =
        let (k, p, q) = then_some (times count) (layout_by structs of) l e in
        let s = times_size count k l q in
        subst (λ o. Within (at + l.size) (elements_of o count (cells_by (layout_by structs) cells constant of) at)) (sym p)
        (subst (λ n. Within (at + n) (elements count k.size (cells_by (layout_by structs) cells constant of) at)) (sym s) (elements_within count k.size (cells_by (layout_by structs) cells constant of) at (λ place. type_within of constant place k p)))
    form_within (Struct id) constant at l e = within_structs constant id at l e
    form_within (Function params result) constant at l e = cc

structs_within : (depth : ℕ) (table : Table) → ((within : Bool) (t : TypeTree) (at : ℕ) (l : Layout) → laid depth table t ≡ Some l → Within (at + l.size) (cells_of depth table within t at))
    → (constant : Bool) (id at : ℕ) (l : Layout) → structs_at depth table id ≡ Some l → Within (at + l.size) (body_cells (member_cells (laid depth table) (cells_of depth table constant) at empty) (body_of table id))
structs_within depth table h constant id at l e =
    let (body, p, q) = then_some (struct_layout (laid depth table)) (body_of table id) l e in
    subst (λ o. Within (at + l.size) (body_cells (member_cells (laid depth table) (cells_of depth table constant) at empty) o)) (sym p) (by_body body q)
  where
    by_body : (body : Body) → struct_layout (laid depth table) body ≡ Some l → Within (at + l.size) (member_cells (laid depth table) (cells_of depth table constant) at empty body)
    by_body [] q = cc
    by_body (field ∷ body) q =
        let (end, r, s) = then_some padded (members_from (laid depth table) empty (field ∷ body)) l q in
        let z : next_multiple_of end.size end.align ≡ l.size = ap (λ x. x.size) (small_is (record { size = next_multiple_of end.size end.align; align = end.align }) l s).0 in
        wider (at + end.size) (at + l.size) (member_cells (laid depth table) (cells_of depth table constant) at empty (field ∷ body)) (omega (arith, multiple_at_least end.size end.align))
        (members_within (laid depth table) (cells_of depth table constant) (λ t k place f. h constant t place k f) at empty end (field ∷ body) r)

-- so of each type that is laid
laid_within : (depth : ℕ) (table : Table) (within : Bool) (t : TypeTree) (at : ℕ) (l : Layout) → laid depth table t ≡ Some l → Within (at + l.size) (cells_of depth table within t at)
unfolding laid cells_of
laid_within zero table within t at l e = type_within (λ id. None) (λ constant id place. []) (λ id l e. cc) (λ constant id at l e. cc) t within at l e
laid_within (suc depth) table within t at l e =
    type_within (structs_at depth table) (λ constant id place. body_cells (member_cells (laid depth table) (cells_of depth table constant) place empty) (body_of table id)) (structs_fine depth table (laid_fine depth table)) (structs_within depth table (laid_within depth table)) t within at l e

pub cells_within : (table : Table) (t : TypeTree) (l : Layout) → layout_in table t ≡ Some l → Within l.size (cells_in table t)
cells_within table t l e = let z : 0 + l.size ≡ l.size = omega arith in subst (λ n. Within n (cells_in table t)) z (laid_within (length table) table false t 0 l e)
