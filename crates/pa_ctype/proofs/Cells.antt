-- The cells of an object lie apart, ascending, inside its size.
use Rattle.std.proofs.Common.{◌≡◌, ℕ, zero, suc, ◌+◌, ◌*◌, ◌≤◌, ◌<◌, Bool, true, false, ◌||◌, List, [], ◌∷◌, ◌++◌, Option, Some, None, length, sym, ap, subst, arith, suc-mul}
use Rattle.std.specs.Int.{next_multiple_of}
use Rattle.pa_ctype.specs.declared.ctype.Layout.{Layout}
use Rattle.pa_ctype.specs.Types.{TypeTree, Of, FormTree, Void, Boolean, Integer, Pointer, Array, Struct, Function}
use Rattle.pa_ctype.specs.Kept.{AreFine}
use Rattle.pa_ctype.specs.Layouts.{Body, Table, body_of, times, placed, empty, padded, members_from, struct_layout, layout_by, form_layout_by, laid, layout_in}
use Rattle.pa_ctype.specs.Values.{Owner, Cell, Object, elements, elements_of, member_cells_by, member_cells, scalar, cells_by, form_cells_by, body_cells, cells_of, cells_in, fresh}
use Rattle.pa_ctype.proofs.Laying.{members_at_least, multiple_at_least}
use Rattle.pa_ctype.proofs.Laws.{then_some, small_is, layout_by_fine, structs_at, structs_fine, laid_fine}

-- one behind the other, from the first place on and before the second
pub LieIn : ℕ → ℕ → List Cell → Type 0
LieIn from to [] = Unit {0}
LieIn from to (cell ∷ cells) = ((from ≤ cell.at) × (cell.at < to)) × LieIn (suc cell.at) to cells

wider : (from to low high : ℕ) (cells : List Cell) → low ≤ from → to ≤ high → LieIn from to cells → LieIn low high cells
unfolding LieIn
wider from to low high [] l h k = tt
wider from to low high (cell ∷ cells) l h k = let a = k.0.0 in let b = k.0.1 in ((omega arith, omega arith), wider (suc cell.at) to (suc cell.at) high cells (omega arith) h k.1)

joined : (from middle to : ℕ) (cells more : List Cell) → from ≤ middle → middle ≤ to → LieIn from middle cells → LieIn middle to more → LieIn from to (cells ++ more)
unfolding LieIn
joined from middle to [] more l h k m = wider middle to from to more l (omega arith) m
joined from middle to (cell ∷ cells) more l h k m = let a = k.0.0 in let b = k.0.1 in ((a, omega arith), joined (suc cell.at) middle to cells more (omega arith) h k.1 m)

-- elements side by side
elements_lie : (count size : ℕ) (cells : ℕ → List Cell) (at : ℕ) → ((at : ℕ) → LieIn at (at + size) (cells at)) → LieIn at (at + count * size) (elements count size cells at)
unfolding LieIn elements
elements_lie zero size cells at h = tt
elements_lie (suc count) size cells at h =
    let e : suc count * size ≡ count * size + size = suc-mul count size in
    let rest : LieIn (at + size) (at + suc count * size) (elements count size cells (at + size)) = wider (at + size) (at + size + count * size) (at + size) (at + suc count * size) (elements count size cells (at + size)) (omega arith) (omega (arith, e)) (elements_lie count size cells (at + size) h) in
    joined at (at + size) (at + suc count * size) (cells at) (elements count size cells (at + size)) (omega arith) (omega (arith, e)) (h at) rest

-- members one behind the other
members_lie : (lay : TypeTree → Option Layout) (cells : TypeTree → ℕ → List Cell) → ((t : TypeTree) (l : Layout) (at : ℕ) → lay t ≡ Some l → LieIn at (at + l.size) (cells t at))
    → (at : ℕ) (so_far end : Layout) (body : Body) → members_from lay so_far body ≡ Some end → LieIn (at + so_far.size) (at + end.size) (member_cells lay cells at so_far body)
unfolding LieIn members_from member_cells
members_lie lay cells h at so_far end [] e = tt
members_lie lay cells h at so_far end (field ∷ body) e =
    let (l, p, q) = then_some (λ x. members_from lay (placed so_far x) body) (lay field.of) end e in
    let start : ℕ = at + next_multiple_of so_far.size l.align in
    let first = h field.of l start p in
    let rest = members_lie lay cells h at (placed so_far l) end body q in
    let more = members_at_least lay (placed so_far l) body end q in
    let a : at + so_far.size ≤ start = omega (arith, multiple_at_least so_far.size l.align) in
    subst (λ o. LieIn (at + so_far.size) (at + end.size) (member_cells_by (cells field.of) (λ next. member_cells lay cells at next body) at so_far o)) (sym p)
    (joined (at + so_far.size) (start + l.size) (at + end.size) (cells field.of start) (member_cells lay cells at (placed so_far l) body) (omega arith) (omega arith)
    (wider start (start + l.size) (at + so_far.size) (start + l.size) (cells field.of start) a (omega arith) first)
    (wider (at + (placed so_far l).size) (at + end.size) (start + l.size) (at + end.size) (member_cells lay cells at (placed so_far l) body) (omega arith) (omega arith) rest))

times_size : (count : ℕ) (k l : Layout) → times count k ≡ Some l → l.size ≡ count * k.size
times_size zero k l e = cc
times_size (suc n) k l e = sym (ap (λ x. x.size) (small_is (record { size = suc n * k.size; align = k.align }) l e).0)

-- where the cells of structs lie inside them, so do those of types
module _ (structs : ℕ → Option Layout) (cells : Bool → ℕ → ℕ → List Cell) (fine : AreFine structs) (lie : (constant : Bool) (id at : ℕ) (l : Layout) → structs id ≡ Some l → LieIn at (at + l.size) (cells constant id at)) where
  one_lies : (t : TypeTree) (at : ℕ) (l : Layout) → 1 ≤ l.size → LieIn at (at + l.size) (scalar t at)
  unfolding LieIn
  one_lies t at l h = ((omega arith, omega arith), tt)

  mutual
    unfolding layout_by form_layout_by cells_by form_cells_by

    cells_lie : (t : TypeTree) (within : Bool) (at : ℕ) (l : Layout) → layout_by structs t ≡ Some l → LieIn at (at + l.size) (cells_by (layout_by structs) cells within t at)
    cells_lie (Of constant form) within at l e = form_cells_lie form (within || constant) at l e

    form_cells_lie : (form : FormTree) (constant : Bool) (at : ℕ) (l : Layout) → form_layout_by structs form ≡ Some l → LieIn at (at + l.size) (form_cells_by (layout_by structs) cells constant form at)
    form_cells_lie Void constant at l e = cc
    form_cells_lie Boolean constant at l e = one_lies (Of constant Boolean) at l (layout_by_fine structs fine (Of constant Boolean) l e).some
    form_cells_lie (Integer bits signed) constant at l e = one_lies (Of constant (Integer bits signed)) at l (layout_by_fine structs fine (Of constant (Integer bits signed)) l e).some
    form_cells_lie (Pointer to schema) constant at l e = one_lies (Of constant (Pointer to schema)) at l (layout_by_fine structs fine (Of constant (Pointer to schema)) l e).some
    form_cells_lie (Array of None) constant at l e = cc
    form_cells_lie (Array of (Some count)) constant at l e =
        let (k, p, q) = then_some (times count) (layout_by structs of) l e in
        let s = times_size count k l q in
        subst (λ o. LieIn at (at + l.size) (elements_of o count (cells_by (layout_by structs) cells constant of) at)) (sym p)
        (subst (λ n. LieIn at (at + n) (elements count k.size (cells_by (layout_by structs) cells constant of) at)) (sym s) (elements_lie count k.size (cells_by (layout_by structs) cells constant of) at (λ place. cells_lie of constant place k p)))
    form_cells_lie (Struct id) constant at l e = lie constant id at l e
    form_cells_lie (Function params result) constant at l e = cc

structs_lie : (depth : ℕ) (table : Table) → ((within : Bool) (t : TypeTree) (at : ℕ) (l : Layout) → laid depth table t ≡ Some l → LieIn at (at + l.size) (cells_of depth table within t at))
    → (constant : Bool) (id at : ℕ) (l : Layout) → structs_at depth table id ≡ Some l → LieIn at (at + l.size) (body_cells (member_cells (laid depth table) (cells_of depth table constant) at empty) (body_of table id))
structs_lie depth table h constant id at l e =
    let (body, p, q) = then_some (struct_layout (laid depth table)) (body_of table id) l e in
    subst (λ o. LieIn at (at + l.size) (body_cells (member_cells (laid depth table) (cells_of depth table constant) at empty) o)) (sym p) (by_body body q)
  where
    by_body : (body : Body) → struct_layout (laid depth table) body ≡ Some l → LieIn at (at + l.size) (member_cells (laid depth table) (cells_of depth table constant) at empty body)
    by_body [] q = cc
    by_body (field ∷ body) q =
        let (end, r, s) = then_some padded (members_from (laid depth table) empty (field ∷ body)) l q in
        let z : next_multiple_of end.size end.align ≡ l.size = ap (λ x. x.size) (small_is (record { size = next_multiple_of end.size end.align; align = end.align }) l s).0 in
        wider (at + 0) (at + end.size) at (at + l.size) (member_cells (laid depth table) (cells_of depth table constant) at empty (field ∷ body)) (omega arith) (omega (arith, multiple_at_least end.size end.align))
        (members_lie (laid depth table) (cells_of depth table constant) (λ t k place f. h constant t place k f) at empty end (field ∷ body) r)

-- so of each type that is laid
laid_lie : (depth : ℕ) (table : Table) (within : Bool) (t : TypeTree) (at : ℕ) (l : Layout) → laid depth table t ≡ Some l → LieIn at (at + l.size) (cells_of depth table within t at)
unfolding laid cells_of LieIn
laid_lie zero table within t at l e = cells_lie (λ id. None) (λ constant id place. []) (λ id l e. cc) (λ constant id at l e. cc) t within at l e
laid_lie (suc depth) table within t at l e =
    cells_lie (structs_at depth table) (λ constant id place. body_cells (member_cells (laid depth table) (cells_of depth table constant) place empty) (body_of table id)) (structs_fine depth table (laid_fine depth table)) (structs_lie depth table (laid_lie depth table)) t within at l e

abbrev object_of_size : Owner → ℕ → List Cell → Object
object_of_size owner size cells = record { owner = owner; size = size; cells = cells; alive = true }

-- the cells of an object that comes to life lie apart, inside it
pub fresh_lie : (table : Table) (owner : Owner) (t : TypeTree) (object : Object) → fresh table owner t ≡ Some object → LieIn 0 object.size object.cells
fresh_lie table owner t object e =
    let (l, p, q) = then_some (λ l. Some (record { owner = owner; size = l.size; cells = cells_in table t; alive = true })) (layout_in table t) object e in
    let z : object_of_size owner l.size (cells_in table t) ≡ object = cc in
    let s : 0 + l.size ≡ l.size = omega arith in
    subst (λ o. LieIn 0 o.size o.cells) z (subst (λ n. LieIn 0 n (cells_in table t)) s (laid_lie (length table) table false t 0 l p))
