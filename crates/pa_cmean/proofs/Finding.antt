-- Going down a type finds the cell that the list of cells has at the place.
use Rattle.std.proofs.Common.{◌≡◌, ℕ, zero, suc, ◌+◌, ◌-◌, ◌*◌, ◌/◌, ◌%◌, ◌≤◌, ◌<◌, Bool, true, false, cond, ◌||◌, ◌==◌, if◌then◌else◌, List, [], ◌∷◌, ◌++◌, length, Option, Some, None, option_map, refl, sym, ◌∙◌, ap, subst, arith, zero-mul, suc-mul}
use Rattle.std.proofs.Math.Nat.{div-eq_of_lt, mod-eq_of_lt, div-eq-sub-div, mod-eq-sub-mod}
use Rattle.std.specs.Prelude.{nat_lt}
use Rattle.std.specs.Int.{next_multiple_of}
use Rattle.std.proofs.lemmas.Bool.{eq-eqb, ne_eqb, lt-ltb, le-ltb, ltb-true, ltb-false}
use Rattle.pa_ctype.specs.declared.ctype.Layout.{Layout}
use Rattle.pa_ctype.specs.Types.{TypeTree, Of, FormTree, Void, Boolean, Integer, Pointer, Array, Struct, Function}
use Rattle.pa_ctype.specs.Kept.{AreFine}
use Rattle.pa_ctype.specs.Layouts.{Body, Table, body_of, times, placed, empty, padded, members_from, struct_layout, layout_by, form_layout_by, laid, layout_in}
use Rattle.pa_ctype.specs.Values.{Cell, cell_at, elements, elements_of, scalar, member_cells, member_cells_by, cells_by, form_cells_by, body_cells, cells_of, cells_in}
use Rattle.pa_ctype.proofs.Laying.{members_at_least, multiple_at_least}
use Rattle.pa_ctype.proofs.Laws.{then_some, small_is, layout_by_fine, structs_at, structs_fine, laid_fine}
use Rattle.pa_cmean.specs.Finding.{only_at, find_element, find_elements, find_member_by, find_member, find_by, find_form_by, find_in_body, find_to, find_cell}

abbrev pub type_at : List Cell → ℕ → Option TypeTree
type_at cells place = option_map (λ cell. cell.of) (cell_at cells place)

-- The cells of a part that begins `at` bytes behind the object's first one, of which these are from one offset to another: outside
-- there is none, inside one is where it is found.
pub record Finds (from to at : ℕ) (cells : List Cell) (find : ℕ → Option TypeTree) : Type 0 where
  pub before : (place : ℕ) → place < at + from → type_at cells place ≡ None
  pub inside : (offset : ℕ) → from ≤ offset → offset < to → type_at cells (at + offset) ≡ find offset
  pub behind : (place : ℕ) → at + to ≤ place → type_at cells place ≡ None

abbrev or_else : Option TypeTree → Option TypeTree → Option TypeTree
or_else None b = b
or_else (Some t) b = Some t

joined_by : (c : Bool) (cell : Cell) (a b : List Cell) (place : ℕ) → type_at (a ++ b) place ≡ or_else (type_at a place) (type_at b place)
    → option_map (λ (x : Cell). x.of) (cond c (Some cell) (cell_at (a ++ b) place)) ≡ or_else (option_map (λ (x : Cell). x.of) (cond c (Some cell) (cell_at a place))) (type_at b place)
joined_by true cell a b place more = refl
joined_by false cell a b place more = more

joined_at : (a b : List Cell) (place : ℕ) → type_at (a ++ b) place ≡ or_else (type_at a place) (type_at b place)
unfolding cell_at
joined_at [] b place = refl
joined_at (cell ∷ a) b place = joined_by (cell.at == place) cell a b place (joined_at a b place)

or_none : (o : Option TypeTree) → or_else o None ≡ o
or_none None = refl
or_none (Some t) = refl

first_none : (a b : List Cell) (place : ℕ) → type_at a place ≡ None → type_at (a ++ b) place ≡ type_at b place
first_none a b place e = joined_at a b place ∙ ap (λ o. or_else o (type_at b place)) e

second_none : (a b : List Cell) (place : ℕ) → type_at b place ≡ None → type_at (a ++ b) place ≡ type_at a place
second_none a b place e = joined_at a b place ∙ ap (or_else (type_at a place)) e ∙ or_none (type_at a place)

-- no cell
pub no_cells : (from to at : ℕ) (find : ℕ → Option TypeTree) → to ≤ from → Finds from to at [] find
unfolding cell_at
no_cells from to at find h = record {
  before = λ place l. refl;
  inside = λ offset l m. absurd (omega arith);
  behind = λ place l. refl;
}

-- one cell
pub one_cell : (t : TypeTree) (at size : ℕ) → 1 ≤ size → Finds 0 size at (scalar t at) (λ offset. only_at offset t)
unfolding cell_at
one_cell t at size h = record { before = elsewhere_before; inside = here; behind = elsewhere_behind }
  where
    elsewhere_before : (place : ℕ) → place < at + 0 → type_at (scalar t at) place ≡ None
    elsewhere_before place l = let e : (at == place) ≡ false = ne_eqb at place (omega arith) in rw e refl

    elsewhere_behind : (place : ℕ) → at + size ≤ place → type_at (scalar t at) place ≡ None
    elsewhere_behind place l = let e : (at == place) ≡ false = ne_eqb at place (omega arith) in rw e refl

    here : (offset : ℕ) → 0 ≤ offset → offset < size → type_at (scalar t at) (at + offset) ≡ only_at offset t
    here zero l m = let e : (at == at + 0) ≡ true = eq-eqb at (at + 0) (omega arith) in rw e refl
    here (suc n) l m = let e : (at == at + suc n) ≡ false = ne_eqb at (at + suc n) (omega arith) in let f : (suc n == 0) ≡ false = ne_eqb (suc n) 0 (omega arith) in rw (e, f) refl

-- ---- elements

-- the first element, or those behind it
find_first : (count size : ℕ) (find : ℕ → Option TypeTree) (offset : ℕ) → offset < size → find_element (suc count) size find offset ≡ find offset
find_first count size find offset h =
    let d : offset / size ≡ 0 = div-eq_of_lt h in
    let r : offset % size ≡ offset = mod-eq_of_lt h in
    let t : nat_lt 0 (suc count) ≡ true = lt-ltb 0 (suc count) (omega arith) in
    rw (d, r, t) refl

one_more : (a b : ℕ) → nat_lt (a + 1) (suc b) ≡ nat_lt a b
one_more a b = by_test (nat_lt a b) refl
  where
    by_test : (c : Bool) → nat_lt a b ≡ c → nat_lt (a + 1) (suc b) ≡ c
    by_test true e = let l = ltb-true a b e in lt-ltb (a + 1) (suc b) (omega arith)
    by_test false e = let l = ltb-false a b e in le-ltb (a + 1) (suc b) (omega arith)

find_behind : (count size : ℕ) (find : ℕ → Option TypeTree) (offset : ℕ) → 1 ≤ size → size ≤ offset → find_element (suc count) size find offset ≡ find_element count size find (offset - size)
find_behind count size find offset p h =
    let d : offset / size ≡ (offset - size) / size + 1 = div-eq-sub-div p h in
    let r : offset % size ≡ (offset - size) % size = mod-eq-sub-mod h in
    let t : nat_lt ((offset - size) / size + 1) (suc count) ≡ nat_lt ((offset - size) / size) count = one_more ((offset - size) / size) count in
    rw (d, r, t) refl

pub elements_find : (count size : ℕ) (cells : ℕ → List Cell) (find : ℕ → Option TypeTree) (at : ℕ) → 1 ≤ size → ((at : ℕ) → Finds 0 size at (cells at) find) → Finds 0 (count * size) at (elements count size cells at) (find_element count size find)
unfolding elements
elements_find zero size cells find at p h = no_cells 0 (0 * size) at (find_element 0 size find) (omega (arith, zero-mul size))
elements_find (suc n) size cells find at p h = let rest = elements_find n size cells find (at + size) p h in record {
  before = λ place l. first_none (cells at) (elements n size cells (at + size)) place ((h at).before place l) ∙ rest.before place (omega arith);
  inside = λ offset l m. by_test offset m rest (nat_lt offset size) refl;
  behind = λ place l. first_none (cells at) (elements n size cells (at + size)) place ((h at).behind place (omega (arith, suc-mul n size))) ∙ rest.behind place (omega (arith, suc-mul n size));
}
  where
    by_test : (offset : ℕ) → offset < suc n * size → Finds 0 (n * size) (at + size) (elements n size cells (at + size)) (find_element n size find) → (b : Bool) → nat_lt offset size ≡ b
        → type_at (cells at ++ elements n size cells (at + size)) (at + offset) ≡ find_element (suc n) size find offset
    by_test offset m rest true e =
        let l : offset < size = ltb-true offset size e in
        second_none (cells at) (elements n size cells (at + size)) (at + offset) (rest.before (at + offset) (omega arith)) ∙ (h at).inside offset (omega arith) l ∙ sym (find_first n size find offset l)
    by_test offset m rest false e =
        let l : size ≤ offset = ltb-false offset size e in
        let k : at + offset ≡ at + size + (offset - size) = omega arith in
        first_none (cells at) (elements n size cells (at + size)) (at + offset) ((h at).behind (at + offset) (omega arith)) ∙ ap (type_at (elements n size cells (at + size))) k
        ∙ rest.inside (offset - size) (omega arith) (omega (arith, suc-mul n size)) ∙ sym (find_behind n size find offset p l)

-- ---- members

-- a member that begins at an offset, and the members behind it
two_parts : (from start size to at : ℕ) (cells more : List Cell) (find rest : ℕ → Option TypeTree) → from ≤ start → start + size ≤ to → Finds 0 size (at + start) cells find → Finds (start + size) to at more rest
    → Finds from to at (cells ++ more) (λ offset. if nat_lt offset start then None else if nat_lt offset (start + size) then find (offset - start) else rest offset)
two_parts from start size to at cells more find rest l m f r = record {
  before = λ place k. first_none cells more place (f.before place (omega arith)) ∙ r.before place (omega arith);
  inside = λ offset k n. by_start offset n (nat_lt offset start) refl;
  behind = λ place k. first_none cells more place (f.behind place (omega arith)) ∙ r.behind place k;
}
  where
    by_end : (offset : ℕ) → offset < to → start ≤ offset → (b : Bool) → nat_lt offset (start + size) ≡ b → type_at (cells ++ more) (at + offset) ≡ cond b (find (offset - start)) (rest offset)
    by_end offset n s true e =
        let i : offset < start + size = ltb-true offset (start + size) e in
        let k : at + offset ≡ at + start + (offset - start) = omega arith in
        second_none cells more (at + offset) (r.before (at + offset) (omega arith)) ∙ ap (type_at cells) k ∙ f.inside (offset - start) (omega arith) (omega arith)
    by_end offset n s false e =
        let i : start + size ≤ offset = ltb-false offset (start + size) e in
        first_none cells more (at + offset) (f.behind (at + offset) (omega arith)) ∙ r.inside offset i n

    by_start : (offset : ℕ) → offset < to → (b : Bool) → nat_lt offset start ≡ b → type_at (cells ++ more) (at + offset) ≡ cond b None (if nat_lt offset (start + size) then find (offset - start) else rest offset)
    by_start offset n true e =
        let i : offset < start = ltb-true offset start e in
        first_none cells more (at + offset) (f.before (at + offset) (omega arith)) ∙ r.before (at + offset) (omega arith)
    by_start offset n false e = by_end offset n (ltb-false offset start e) (nat_lt offset (start + size)) refl

pub members_find : (lay : TypeTree → Option Layout) (cells : TypeTree → ℕ → List Cell) (find : TypeTree → ℕ → Option TypeTree)
    → ((t : TypeTree) (l : Layout) (at : ℕ) → lay t ≡ Some l → Finds 0 l.size at (cells t at) (find t))
    → (at : ℕ) (so_far end : Layout) (body : Body) → members_from lay so_far body ≡ Some end → Finds so_far.size end.size at (member_cells lay cells at so_far body) (find_member lay find so_far body)
unfolding members_from member_cells find_member
members_find lay cells find h at so_far end [] e = let n : so_far.size ≡ end.size = ap (λ x. x.size) (let z : so_far ≡ end = cc in z) in no_cells so_far.size end.size at (λ offset. None) (omega arith)
members_find lay cells find h at so_far end (field ∷ body) e =
    let (l, p, q) = then_some (λ x. members_from lay (placed so_far x) body) (lay field.of) end e in
    subst (λ o. Finds so_far.size end.size at (member_cells_by (cells field.of) (λ next. member_cells lay cells at next body) at so_far o) (λ offset. find_member_by (find field.of) (λ next. find_member lay find next body offset) so_far offset o)) (sym p)
    (two_parts so_far.size (next_multiple_of so_far.size l.align) l.size end.size at (cells field.of (at + next_multiple_of so_far.size l.align)) (member_cells lay cells at (placed so_far l) body) (find field.of) (find_member lay find (placed so_far l) body)
    (multiple_at_least so_far.size l.align) (members_at_least lay (placed so_far l) body end q) (h field.of l (at + next_multiple_of so_far.size l.align) p) (members_find lay cells find h at (placed so_far l) end body q))

-- ---- types

times_is : (count : ℕ) (k l : Layout) → times count k ≡ Some l → l.size ≡ count * k.size
times_is zero k l e = cc
times_is (suc n) k l e = sym (ap (λ x. x.size) (small_is (record { size = suc n * k.size; align = k.align }) l e).0)

module _ (structs : ℕ → Option Layout) (cells : Bool → ℕ → ℕ → List Cell) (find : Bool → ℕ → ℕ → Option TypeTree) (fine : AreFine structs)
    (finds : (constant : Bool) (id at : ℕ) (l : Layout) → structs id ≡ Some l → Finds 0 l.size at (cells constant id at) (find constant id)) where
  mutual
    unfolding layout_by form_layout_by cells_by form_cells_by find_by find_form_by

    type_find : (t : TypeTree) (within : Bool) (at : ℕ) (l : Layout) → layout_by structs t ≡ Some l → Finds 0 l.size at (cells_by (layout_by structs) cells within t at) (find_by (layout_by structs) find within t)
    type_find (Of constant form) within at l e = form_find form (within || constant) at l e

    form_find : (form : FormTree) (constant : Bool) (at : ℕ) (l : Layout) → form_layout_by structs form ≡ Some l → Finds 0 l.size at (form_cells_by (layout_by structs) cells constant form at) (find_form_by (layout_by structs) find constant form)
    form_find Void constant at l e = cc
    form_find Boolean constant at l e = one_cell (Of constant Boolean) at l.size (layout_by_fine structs fine (Of constant Boolean) l e).some
    form_find (Integer bits signed) constant at l e = one_cell (Of constant (Integer bits signed)) at l.size (layout_by_fine structs fine (Of constant (Integer bits signed)) l e).some
    form_find (Pointer to schema) constant at l e = one_cell (Of constant (Pointer to schema)) at l.size (layout_by_fine structs fine (Of constant (Pointer to schema)) l e).some
    form_find (Array of None) constant at l e = cc
    form_find (Array of (Some count)) constant at l e =
        let (k, p, q) = then_some (times count) (layout_by structs of) l e in
        let z = times_is count k l q in
        subst (λ o. Finds 0 l.size at (elements_of o count (cells_by (layout_by structs) cells constant of) at) (find_elements o count (find_by (layout_by structs) find constant of))) (sym p)
        (subst (λ n. Finds 0 n at (elements count k.size (cells_by (layout_by structs) cells constant of) at) (find_element count k.size (find_by (layout_by structs) find constant of))) (sym z)
        (elements_find count k.size (cells_by (layout_by structs) cells constant of) (find_by (layout_by structs) find constant of) at (layout_by_fine structs fine of k p).some (λ place. type_find of constant place k p)))
    form_find (Struct id) constant at l e = finds constant id at l e
    form_find (Function params result) constant at l e = cc

abbrev FindsIn : ℕ → Table → Type 0
FindsIn depth table = (within : Bool) (t : TypeTree) (at : ℕ) (l : Layout) → laid depth table t ≡ Some l → Finds 0 l.size at (cells_of depth table within t at) (find_to depth table within t)

wider : (to more at : ℕ) (cells : List Cell) (find : ℕ → Option TypeTree) → to ≤ more → ((offset : ℕ) → to ≤ offset → offset < more → None ≡ find offset) → Finds 0 to at cells find → Finds 0 more at cells find
wider to more at cells find h none f = record {
  before = f.before;
  inside = λ offset l m. by_test offset m (nat_lt offset to) refl;
  behind = λ place l. f.behind place (omega arith);
}
  where
    by_test : (offset : ℕ) → offset < more → (b : Bool) → nat_lt offset to ≡ b → type_at cells (at + offset) ≡ find offset
    by_test offset m true e = f.inside offset (omega arith) (ltb-true offset to e)
    by_test offset m false e = let i : to ≤ offset = ltb-false offset to e in f.behind (at + offset) (omega arith) ∙ none offset i m

-- behind the last member nothing is found
past_members : (lay : TypeTree → Option Layout) (find : TypeTree → ℕ → Option TypeTree) (so_far end : Layout) (body : Body) (offset : ℕ) → members_from lay so_far body ≡ Some end → end.size ≤ offset → None ≡ find_member lay find so_far body offset
unfolding members_from find_member
past_members lay find so_far end [] offset e h = refl
past_members lay find so_far end (field ∷ body) offset e h =
    let (l, p, q) = then_some (λ x. members_from lay (placed so_far x) body) (lay field.of) end e in
    let start : ℕ = next_multiple_of so_far.size l.align in
    let m : start + l.size ≤ end.size = members_at_least lay (placed so_far l) body end q in
    let a : nat_lt offset start ≡ false = le-ltb offset start (omega arith) in
    let b : nat_lt offset (start + l.size) ≡ false = le-ltb offset (start + l.size) (omega arith) in
    rw (p, a, b) (past_members lay find (placed so_far l) end body offset q h)

structs_find : (depth : ℕ) (table : Table) → FindsIn depth table → (constant : Bool) (id at : ℕ) (l : Layout) → structs_at depth table id ≡ Some l
    → Finds 0 l.size at (body_cells (member_cells (laid depth table) (cells_of depth table constant) at empty) (body_of table id)) (λ place. find_in_body (λ body. find_member (laid depth table) (find_to depth table constant) empty body place) (body_of table id))
structs_find depth table h constant id at l e =
    let (body, p, q) = then_some (struct_layout (laid depth table)) (body_of table id) l e in
    subst (λ o. Finds 0 l.size at (body_cells (member_cells (laid depth table) (cells_of depth table constant) at empty) o) (λ place. find_in_body (λ body. find_member (laid depth table) (find_to depth table constant) empty body place) o)) (sym p) (by_body body q)
  where
    by_body : (body : Body) → struct_layout (laid depth table) body ≡ Some l → Finds 0 l.size at (member_cells (laid depth table) (cells_of depth table constant) at empty body) (find_member (laid depth table) (find_to depth table constant) empty body)
    by_body [] q = cc
    by_body (field ∷ body) q =
        let (end, r, s) = then_some padded (members_from (laid depth table) empty (field ∷ body)) l q in
        let z : next_multiple_of end.size end.align ≡ l.size = ap (λ x. x.size) (small_is (record { size = next_multiple_of end.size end.align; align = end.align }) l s).0 in
        wider end.size l.size at (member_cells (laid depth table) (cells_of depth table constant) at empty (field ∷ body)) (find_member (laid depth table) (find_to depth table constant) empty (field ∷ body)) (omega (arith, multiple_at_least end.size end.align))
        (λ offset k m. past_members (laid depth table) (find_to depth table constant) empty end (field ∷ body) offset r k)
        (members_find (laid depth table) (cells_of depth table constant) (find_to depth table constant) (λ t k place f. h constant t place k f) at empty end (field ∷ body) r)

laid_find : (depth : ℕ) (table : Table) → FindsIn depth table
unfolding laid cells_of find_to
laid_find zero table within t at l e = type_find (λ id. None) (λ constant id place. []) (λ constant id place. None) (λ id l e. cc) (λ constant id at l e. cc) t within at l e
laid_find (suc depth) table within t at l e =
    type_find (structs_at depth table) (λ constant id place. body_cells (member_cells (laid depth table) (cells_of depth table constant) place empty) (body_of table id))
    (λ constant id place. find_in_body (λ body. find_member (laid depth table) (find_to depth table constant) empty body place) (body_of table id)) (structs_fine depth table (laid_fine depth table)) (structs_find depth table (laid_find depth table)) t within at l e

-- in an object of a type each place has the cell that is found there, and behind its bytes there is none
pub finds_cell : (table : Table) (t : TypeTree) (l : Layout) (offset : ℕ) → layout_in table t ≡ Some l → offset < l.size → type_at (cells_in table t) offset ≡ find_cell table t offset
finds_cell table t l offset e h = let z : 0 + offset ≡ offset = omega arith in subst (λ n. type_at (cells_in table t) n ≡ find_cell table t offset) z ((laid_find (length table) table false t 0 l e).inside offset (omega arith) h)

pub no_cell_behind : (table : Table) (t : TypeTree) (l : Layout) (offset : ℕ) → layout_in table t ≡ Some l → l.size ≤ offset → type_at (cells_in table t) offset ≡ None
no_cell_behind table t l offset e h = (laid_find (length table) table false t 0 l e).behind offset (omega arith)
