-- What a part has at a place, by the kind of its type.
use Rattle.std.proofs.Common.{◌≡◌, ℕ, zero, suc, ◌+◌, ◌-◌, ◌/◌, ◌%◌, ◌≤◌, ◌<◌, Bool, true, false, ◌||◌, ◌==◌, if◌then◌else◌, nat_lt, List, [], ◌∷◌, length, take, drop, slice_index_or, max, ◌*◌, suc-mul, Option, Some, None, option_map, refl, sym, ◌∙◌, ap, subst, arith}
use Rattle.std.specs.Option.{option_and_then}
use Rattle.std.specs.List.{slice_get}
use Rattle.std.specs.Int.{next_multiple_of}
use Rattle.std.proofs.lemmas.Bool.{lt-ltb, le-ltb}
use Rattle.std.proofs.lemmas.Option.{slice_get-map}
use Rattle.pa_ctype.specs.declared.ctype.Layout.{Layout}
use Rattle.pa_ctype.specs.declared.ctype.Held.{Held}
use Rattle.pa_ctype.specs.Types.{TypeTree, Of, FormTree, Void, Boolean, Integer, Pointer, Array, Struct, Function, TypeTrees}
use Rattle.pa_ctype.specs.Kept.{EndsWithin}
use Rattle.pa_ctype.specs.Layouts.{Body, Table, body_of, times, placed, empty, padded, members_from, struct_layout, layout_by, form_layout_by, laid, IsLayoutOf, field_of, fields_of}
use Rattle.pa_ctype.specs.declared.node.Node.{Node}
use Rattle.pa_ctype.specs.Nodes.{at, Fits, constant, taking, is_function}
use Rattle.pa_ctype.specs.Tables.{TypeTable, types_bound}
use Rattle.pa_ctype.proofs.Laws.{then_some, small_is, structs_at}
use Rattle.pa_ctype.proofs.Laying.{multiple_at_least, ends_more, tail_is}
use Rattle.pa_cmean.specs.Finding.{only_at, find_element, find_elements, find_member_by, find_member, find_by, find_form_by, find_in_body, find_to}
use Rattle.pa_store.specs.declared.finding.Part.{Part}
use Rattle.pa_store.specs.declared.finding.Inside.{Inside}
use Rattle.pa_store.specs.declared.finding.Inside.TheVariants as inside
use Rattle.pa_store.specs.Found.{structs_in, HasLayoutAt, in_constant, cell_type, scalar_at, find_part, IsPart, IsArrayOf, IsStructWith, IsInside, IsWell, rank, rank_inside}

pub fits_at : (ns : List Node) → Fits (at ns) ns
fits_at ns = record { by = λ i h. refl }

-- ---- arrays

pub array_laid : (d : ℕ) (table : Table) (of : TypeTree) (count : ℕ) → HasLayoutAt d table (Of false (Array of (Some count))) → HasLayoutAt d table of
unfolding laid layout_by form_layout_by
array_laid zero table of count h = let (k, p, q) = then_some (times count) (layout_by (λ id. None) of) h.0 h.1 in (k, p)
array_laid (suc d) table of count h = let (k, p, q) = then_some (times count) (layout_by (structs_at d table) of) h.0 h.1 in (k, p)

pub array_finds : (d : ℕ) (table : Table) (within : Bool) (of : TypeTree) (count offset : ℕ) (k : Layout) → laid d table of ≡ Some k
    → find_to d table within (Of false (Array of (Some count))) offset ≡ find_element count k.size (find_to d table within of) offset
unfolding find_to find_by find_form_by
array_finds zero table true of count offset k p = ap (λ l. find_elements l count (find_to zero table true of) offset) p
array_finds zero table false of count offset k p = ap (λ l. find_elements l count (find_to zero table false of) offset) p
array_finds (suc d) table true of count offset k p = ap (λ l. find_elements l count (find_to (suc d) table true of) offset) p
array_finds (suc d) table false of count offset k p = ap (λ l. find_elements l count (find_to (suc d) table false of) offset) p

-- ---- structs

pub struct_bottom : (table : Table) (within : Bool) (id offset : ℕ) → find_to zero table within (Of false (Struct id)) offset ≡ None
unfolding find_to find_by find_form_by
struct_bottom table within id offset = refl

pub struct_finds : (d : ℕ) (table : Table) (within : Bool) (id offset : ℕ) → find_to (suc d) table within (Of false (Struct id)) offset
    ≡ find_in_body (λ body. find_member (laid d table) (find_to d table within) empty body offset) (body_of table id)
unfolding find_to find_by find_form_by
struct_finds d table true id offset = refl
struct_finds d table false id offset = refl

pub struct_laid : (d : ℕ) (table : Table) (id : ℕ) (body : Body) → HasLayoutAt (suc d) table (Of false (Struct id)) → body_of table id ≡ Some body → EndsWithin (laid d table) empty body
unfolding laid layout_by form_layout_by
struct_laid d table id body h e =
    let (b, p, q) = then_some (struct_layout (laid d table)) (body_of table id) h.0 h.1 in
    let z : b ≡ body = cc in
    subst (λ x. EndsWithin (laid d table) empty x) z (by_body b q)
  where
    by_body : (b : Body) → struct_layout (laid d table) b ≡ Some h.0 → EndsWithin (laid d table) empty b
    by_body [] q = cc
    by_body (field ∷ more) q =
        let (end, r, s) = then_some padded (members_from (laid d table) empty (field ∷ more)) h.0 q in
        let small = small_is (record { size = next_multiple_of end.size end.align; align = end.align }) h.0 s in
        record { end = end; ends = r; within = omega (arith, multiple_at_least end.size end.align, small.1) }

-- the body of a struct of the table
pub body_in : (names : ℕ → List ℕ) (t : TypeTable) (id : ℕ) → body_of (structs_in names t) id ≡ option_map (fields_of names (at t.nodes)) (option_and_then (λ body. body) (slice_get t.structs id))
body_in names t id = ap (option_and_then (λ body. body)) (slice_get-map _ t.structs id) ∙ by_entry (slice_get t.structs id)
  where
    by_entry : (o : Option (Option (List Held))) → option_and_then (λ body. body) (option_map (option_map (fields_of names (at t.nodes))) o) ≡ option_map (fields_of names (at t.nodes)) (option_and_then (λ body. body) o)
    by_entry None = refl
    by_entry (Some None) = refl
    by_entry (Some (Some members)) = refl

-- members that are left, the next one first
pub rest_is : (rest : List Held) (d : Held) (n : ℕ) → 1 ≤ length rest → n ≡ length rest → rest ≡ slice_index_or rest 0 d ∷ take (n - 1) (drop 1 rest)
rest_is [] d n h e = absurd (omega arith)
rest_is (first ∷ more) d n h e = ap (λ l. first ∷ l) (sym (tail_is first more n e))

pub first_laid : (lay : TypeTree → Option Layout) (names : ℕ → List ℕ) (m : ℕ → TypeTree) (so_far : Layout) (held : Held) (tail : List Held) → EndsWithin lay so_far (fields_of names m (held ∷ tail))
    → (l : Layout) × (lay (m held.of) ≡ Some l)
unfolding members_from
first_laid lay names m so_far held tail h =
    let (l, p, q) = then_some (λ x. members_from lay (placed so_far x) (fields_of names m tail)) (lay (m held.of)) h.end h.ends in (l, p)

pub next_ends : (lay : TypeTree → Option Layout) (names : ℕ → List ℕ) (m : ℕ → TypeTree) (so_far l : Layout) (held : Held) (tail : List Held) → lay (m held.of) ≡ Some l
    → EndsWithin lay so_far (fields_of names m (held ∷ tail)) → EndsWithin lay (placed so_far l) (fields_of names m tail)
next_ends lay names m so_far l held tail e h = ends_more lay so_far l (field_of names m held) (fields_of names m tail) h e

pub first_finds : (lay : TypeTree → Option Layout) (find : TypeTree → ℕ → Option TypeTree) (names : ℕ → List ℕ) (m : ℕ → TypeTree) (so_far l : Layout) (held : Held) (tail : List Held) (offset : ℕ) → lay (m held.of) ≡ Some l
    → find_member lay find so_far (fields_of names m (held ∷ tail)) offset ≡ find_member_by (find (m held.of)) (λ next. find_member lay find next (fields_of names m tail) offset) so_far offset (Some l)
unfolding find_member
first_finds lay find names m so_far l held tail offset e = ap (λ o. find_member_by (find (m held.of)) (λ next. find_member lay find next (fields_of names m tail) offset) so_far offset o) e

pub none_finds : (lay : TypeTree → Option Layout) (find : TypeTree → ℕ → Option TypeTree) (names : ℕ → List ℕ) (m : ℕ → TypeTree) (so_far : Layout) (rest : List Held) (offset : ℕ) → length rest ≡ 0
    → find_member lay find so_far (fields_of names m rest) offset ≡ None
unfolding find_member
none_finds lay find names m so_far [] offset e = refl
none_finds lay find names m so_far (held ∷ tail) offset e = absurd (omega arith)

-- ---- `const`

pub const_finds : (d : ℕ) (table : Table) (within : Bool) (t : TypeTree) (offset : ℕ) → find_to d table within (constant t) offset ≡ find_to d table true t offset
unfolding find_to find_by
const_finds zero table true (Of c form) offset = refl
const_finds zero table false (Of c form) offset = refl
const_finds (suc d) table true (Of c form) offset = refl
const_finds (suc d) table false (Of c form) offset = refl

pub const_laid : (d : ℕ) (table : Table) (t : TypeTree) → laid d table (constant t) ≡ laid d table t
unfolding laid layout_by
const_laid zero table (Of c form) = refl
const_laid (suc d) table (Of c form) = refl

-- ---- scalar types, and types without objects

scalar_is : (t : TypeTable) (part : Part) (form : FormTree) → at t.nodes part.of ≡ Of false form → option_map (cell_type t) (scalar_at part) ≡ only_at part.offset (Of (part.constant || false) form)
scalar_is t part form e = by_test (part.offset == 0)
  where
    by_test : (b : Bool) → option_map (cell_type t) (if b then Some (record { of = part.of; constant = part.constant }) else None) ≡ (if b then Some (Of (part.constant || false) form) else None)
    by_test true = ap (λ x. Some (in_constant part.constant x)) e
    by_test false = refl

-- what is found in a type that has at most one cell
pub data IsPlain : FormTree → Type 0 where
  boolean : IsPlain Boolean
  integer : {bits : ℕ} {signed : Bool} → IsPlain (Integer bits signed)
  pointer : {to : TypeTree} {schema : Option _} → IsPlain (Pointer to schema)

plain_finds : (d : ℕ) (table : Table) (within : Bool) (form : FormTree) (offset : ℕ) → IsPlain form → find_to d table within (Of false form) offset ≡ only_at offset (Of (within || false) form)
unfolding find_to find_by find_form_by
plain_finds zero table within form offset boolean = refl
plain_finds zero table within form offset integer = refl
plain_finds zero table within form offset pointer = refl
plain_finds (suc d) table within form offset boolean = refl
plain_finds (suc d) table within form offset integer = refl
plain_finds (suc d) table within form offset pointer = refl

pub scalar_finds : (names : ℕ → List ℕ) (t : TypeTable) (part : Part) (form : FormTree) → IsPlain form → at t.nodes part.of ≡ Of false form → option_map (cell_type t) (scalar_at part) ≡ find_part names t part
scalar_finds names t part form h e =
    scalar_is t part form e ∙ sym (plain_finds part.depth (structs_in names t) part.constant form part.offset h) ∙ ap (λ x. find_to part.depth (structs_in names t) part.constant x part.offset) (sym e)

pub data IsBare : FormTree → Type 0 where
  void : IsBare Void
  unsized : {of : TypeTree} → IsBare (Array of None)
  function : {params : TypeTrees} {result : TypeTree} → IsBare (Function params result)

bare_none : (d : ℕ) (table : Table) (within : Bool) (form : FormTree) (offset : ℕ) → IsBare form → None ≡ find_to d table within (Of false form) offset
unfolding find_to find_by find_form_by
bare_none zero table within form offset void = refl
bare_none zero table within form offset unsized = refl
bare_none zero table within form offset function = refl
bare_none (suc d) table within form offset void = refl
bare_none (suc d) table within form offset unsized = refl
bare_none (suc d) table within form offset function = refl

pub bare_finds : (names : ℕ → List ℕ) (t : TypeTable) (part : Part) (form : FormTree) → IsBare form → at t.nodes part.of ≡ Of false form → None ≡ find_part names t part
bare_finds names t part form h e = bare_none part.depth (structs_in names t) part.constant form part.offset h ∙ ap (λ x. find_to part.depth (structs_in names t) part.constant x part.offset) (sym e)

function_is : (t : TypeTree) → is_function t ≡ true → (params : TypeTrees) × (result : TypeTree) × (t ≡ Of false (Function params result))
function_is (Of false (Function params result)) h = (params, result, refl)
function_is (Of true form) h = cc
function_is (Of false Void) h = cc
function_is (Of false Boolean) h = cc
function_is (Of false (Integer bits signed)) h = cc
function_is (Of false (Pointer to schema)) h = cc
function_is (Of false (Array of count)) h = cc
function_is (Of false (Struct id)) h = cc

pub taking_finds : (names : ℕ → List ℕ) (t : TypeTable) (part : Part) (p q : TypeTree) → is_function q ≡ true → at t.nodes part.of ≡ taking p q → None ≡ find_part names t part
taking_finds names t part p q f e =
    let (params, result, z) = function_is q f in
    bare_finds names t part _ function (e ∙ ap (taking p) z)

-- ---- what the code knows at each step

pub clash : {A : Type 0} (o : Option A) (a : A) → o ≡ Some a → o ≡ None → ⊥
clash None a e h = cc
clash (Some b) a e h = cc

-- the layout that the table answers is the one at the depth, where there is one
known_laid : (d : ℕ) (table : Table) (t : TypeTree) (r : Option Layout) → HasLayoutAt d table t → IsLayoutOf table t r → laid d table t ≡ r
known_laid d table t None h a = absurd (a h.0 (record { depth = d; is_laid = h.1 }))
known_laid d table t (Some l) h a = h.1 ∙ ap Some (a.1 h.0 (record { depth = d; is_laid = h.1 }))

pub array_layout : (names : ℕ → List ℕ) (t : TypeTable) (part : Part) (of count : ℕ) → IsPart t part → IsArrayOf t part of count → HasLayoutAt part.depth (structs_in names t) (at t.nodes of)
array_layout names t part of count p a = array_laid part.depth (structs_in names t) (at t.nodes of) count (subst (HasLayoutAt part.depth (structs_in names t)) a (p.laid names))

pub array_known : (names : ℕ → List ℕ) (t : TypeTable) (part : Part) (of count : ℕ) → IsPart t part → IsArrayOf t part of count → (r : Option Layout) → IsLayoutOf (structs_in names t) (at t.nodes of) r
    → laid part.depth (structs_in names t) (at t.nodes of) ≡ r
array_known names t part of count p a r e = known_laid part.depth (structs_in names t) (at t.nodes of) r (array_layout names t part of count p a) e

pub array_part : (names : ℕ → List ℕ) (t : TypeTable) (part : Part) (of count : ℕ) (k : Layout) → IsArrayOf t part of count → laid part.depth (structs_in names t) (at t.nodes of) ≡ Some k
    → find_part names t part ≡ find_element count k.size (find_to part.depth (structs_in names t) part.constant (at t.nodes of)) part.offset
array_part names t part of count k a p =
    ap (λ x. find_to part.depth (structs_in names t) part.constant x part.offset) a ∙ array_finds part.depth (structs_in names t) part.constant (at t.nodes of) count part.offset k p

pub element_in : (count size : ℕ) (find : ℕ → Option TypeTree) (offset : ℕ) → offset / size < count → find_element count size find offset ≡ find (offset % size)
element_in count size find offset h = ap (λ b. if b then find (offset % size) else None) (lt-ltb (offset / size) count h)

pub element_out : (count size : ℕ) (find : ℕ → Option TypeTree) (offset : ℕ) → count ≤ offset / size → find_element count size find offset ≡ None
element_out count size find offset h = ap (λ b. if b then find (offset % size) else None) (le-ltb (offset / size) count h)

body_stands : (names : ℕ → List ℕ) (t : TypeTable) (id : ℕ) (members : List Held) → slice_get t.structs id ≡ Some (Some members) → body_of (structs_in names t) id ≡ Some (fields_of names (at t.nodes) members)
body_stands names t id members e = body_in names t id ∙ ap (λ o. option_map (fields_of names (at t.nodes)) (option_and_then (λ body. body) o)) e

pub struct_part : (names : ℕ → List ℕ) (t : TypeTable) (part : Part) (members : List Held) → IsStructWith t part members
    → find_member (laid (part.depth - 1) (structs_in names t)) (find_to (part.depth - 1) (structs_in names t) part.constant) empty (fields_of names (at t.nodes) members) part.offset ≡ find_part names t part
struct_part names t part members b =
    let table : Table = structs_in names t in
    let d : ℕ = part.depth - 1 in
    let deep = b.deep in
    let z : suc d ≡ part.depth = omega (arith, deep) in
    sym (ap (λ x. find_to part.depth table part.constant x part.offset) b.is
    ∙ ap (λ n. find_to n table part.constant (Of false (Struct b.id)) part.offset) (sym z)
    ∙ struct_finds d table part.constant b.id part.offset
    ∙ ap (find_in_body (λ body. find_member (laid d table) (find_to d table part.constant) empty body part.offset)) (body_stands names t b.id members b.stands))

pub struct_ends : (names : ℕ → List ℕ) (t : TypeTable) (part : Part) (members : List Held) → IsPart t part → IsStructWith t part members
    → EndsWithin (laid (part.depth - 1) (structs_in names t)) empty (fields_of names (at t.nodes) members)
struct_ends names t part members p b =
    let table : Table = structs_in names t in
    let deep = b.deep in
    let z : suc (part.depth - 1) ≡ part.depth = omega (arith, deep) in
    let whole : HasLayoutAt part.depth table (Of false (Struct b.id)) = subst (HasLayoutAt part.depth table) b.is (p.laid names) in
    struct_laid (part.depth - 1) table b.id (fields_of names (at t.nodes) members) (subst (λ n. HasLayoutAt n table (Of false (Struct b.id))) (sym z) whole) (body_stands names t b.id members b.stands)

pub struct_none : (names : ℕ → List ℕ) (t : TypeTable) (part : Part) (id : ℕ) → at t.nodes part.of ≡ Of false (Struct id) → 1 ≤ part.depth → None ≡ option_and_then (λ body. body) (slice_get t.structs id) → None ≡ find_part names t part
struct_none names t part id e deep n =
    let table : Table = structs_in names t in
    let d : ℕ = part.depth - 1 in
    let z : suc d ≡ part.depth = omega (arith, deep) in
    sym (ap (λ x. find_to part.depth table part.constant x part.offset) e
    ∙ ap (λ n. find_to n table part.constant (Of false (Struct id)) part.offset) (sym z)
    ∙ struct_finds d table part.constant id part.offset
    ∙ ap (find_in_body (λ body. find_member (laid d table) (find_to d table part.constant) empty body part.offset)) (body_in names t id ∙ ap (option_map (fields_of names (at t.nodes))) (sym n)))

pub struct_at_bottom : (names : ℕ → List ℕ) (t : TypeTable) (part : Part) (id : ℕ) → at t.nodes part.of ≡ Of false (Struct id) → part.depth ≡ 0 → None ≡ find_part names t part
struct_at_bottom names t part id e z =
    sym (ap (λ x. find_to part.depth (structs_in names t) part.constant x part.offset) e
    ∙ ap (λ n. find_to n (structs_in names t) part.constant (Of false (Struct id)) part.offset) z
    ∙ struct_bottom (structs_in names t) part.constant id part.offset)

-- the members that are left end within, the next one first
next_first : (names : ℕ → List ℕ) (t : TypeTable) (d : ℕ) (so_far : Layout) (rest : List Held) (d0 : Held) → 1 ≤ length rest → EndsWithin (laid d (structs_in names t)) so_far (fields_of names (at t.nodes) rest)
    → EndsWithin (laid d (structs_in names t)) so_far (fields_of names (at t.nodes) (slice_index_or rest 0 d0 ∷ take (length rest - 1) (drop 1 rest)))
next_first names t d so_far rest d0 h e = subst (λ r. EndsWithin (laid d (structs_in names t)) so_far (fields_of names (at t.nodes) r)) (rest_is rest d0 (length rest) h refl) e

pub held_laid : (names : ℕ → List ℕ) (t : TypeTable) (d : ℕ) (so_far : Layout) (rest : List Held) (d0 : Held) → 1 ≤ length rest → EndsWithin (laid d (structs_in names t)) so_far (fields_of names (at t.nodes) rest)
    → HasLayoutAt d (structs_in names t) (at t.nodes (slice_index_or rest 0 d0).of)
held_laid names t d so_far rest d0 h e =
    first_laid (laid d (structs_in names t)) names (at t.nodes) so_far (slice_index_or rest 0 d0) (take (length rest - 1) (drop 1 rest)) (next_first names t d so_far rest d0 h e)

pub held_known : (names : ℕ → List ℕ) (t : TypeTable) (d : ℕ) (so_far : Layout) (rest : List Held) (d0 : Held) → 1 ≤ length rest → EndsWithin (laid d (structs_in names t)) so_far (fields_of names (at t.nodes) rest)
    → (r : Option Layout) → IsLayoutOf (structs_in names t) (at t.nodes (slice_index_or rest 0 d0).of) r → laid d (structs_in names t) (at t.nodes (slice_index_or rest 0 d0).of) ≡ r
held_known names t d so_far rest d0 h e r v = known_laid d (structs_in names t) (at t.nodes (slice_index_or rest 0 d0).of) r (held_laid names t d so_far rest d0 h e) v

pub held_below : (k : ℕ) (rest : List Held) (d0 : Held) → 1 ≤ length rest → types_bound rest ≤ k → (slice_index_or rest 0 d0).of < k
held_below k [] d0 h b = absurd (omega arith)
held_below k (first ∷ more) d0 h b = omega (arith, b)

pub tail_ends : (names : ℕ → List ℕ) (t : TypeTable) (d : ℕ) (so_far l : Layout) (rest : List Held) (d0 : Held) → 1 ≤ length rest → laid d (structs_in names t) (at t.nodes (slice_index_or rest 0 d0).of) ≡ Some l
    → EndsWithin (laid d (structs_in names t)) so_far (fields_of names (at t.nodes) rest) → EndsWithin (laid d (structs_in names t)) (placed so_far l) (fields_of names (at t.nodes) (take (length rest - 1) (drop 1 rest)))
tail_ends names t d so_far l rest d0 h p e =
    next_ends (laid d (structs_in names t)) names (at t.nodes) so_far l (slice_index_or rest 0 d0) (take (length rest - 1) (drop 1 rest)) p (next_first names t d so_far rest d0 h e)

pub member_rest : (names : ℕ → List ℕ) (t : TypeTable) (d : ℕ) (within : Bool) (so_far l : Layout) (rest : List Held) (d0 : Held) (offset : ℕ) → 1 ≤ length rest → laid d (structs_in names t) (at t.nodes (slice_index_or rest 0 d0).of) ≡ Some l
    → find_member (laid d (structs_in names t)) (find_to d (structs_in names t) within) so_far (fields_of names (at t.nodes) rest) offset
    ≡ find_member_by (find_to d (structs_in names t) within (at t.nodes (slice_index_or rest 0 d0).of))
    (λ next. find_member (laid d (structs_in names t)) (find_to d (structs_in names t) within) next (fields_of names (at t.nodes) (take (length rest - 1) (drop 1 rest))) offset) so_far offset (Some l)
member_rest names t d within so_far l rest d0 offset h p =
    ap (λ r. find_member (laid d (structs_in names t)) (find_to d (structs_in names t) within) so_far (fields_of names (at t.nodes) r) offset) (rest_is rest d0 (length rest) h refl)
    ∙ first_finds (laid d (structs_in names t)) (find_to d (structs_in names t) within) names (at t.nodes) so_far l (slice_index_or rest 0 d0) (take (length rest - 1) (drop 1 rest)) offset p

module _ (find : ℕ → Option TypeTree) (more : Layout → Option TypeTree) (so_far l : Layout) (offset start : ℕ) (e : start ≡ next_multiple_of so_far.size l.align) where
  pub before_member : offset < start → find_member_by find more so_far offset (Some l) ≡ None
  before_member h = let a : nat_lt offset (next_multiple_of so_far.size l.align) ≡ true = lt-ltb offset (next_multiple_of so_far.size l.align) (subst (λ n. offset < n) e h) in rw a refl

  pub in_member : start ≤ offset → offset < start + l.size → find_member_by find more so_far offset (Some l) ≡ find (offset - start)
  in_member h k =
      let a : nat_lt offset (next_multiple_of so_far.size l.align) ≡ false = le-ltb offset (next_multiple_of so_far.size l.align) (subst (λ n. n ≤ offset) e h) in
      let b : nat_lt offset (next_multiple_of so_far.size l.align + l.size) ≡ true = lt-ltb offset (next_multiple_of so_far.size l.align + l.size) (subst (λ n. offset < n + l.size) e k) in
      rw (a, b) (ap (λ n. find (offset - n)) (sym e))

  pub behind_member : start ≤ offset → start + l.size ≤ offset → find_member_by find more so_far offset (Some l) ≡ more (placed so_far l)
  behind_member h k =
      let a : nat_lt offset (next_multiple_of so_far.size l.align) ≡ false = le-ltb offset (next_multiple_of so_far.size l.align) (subst (λ n. n ≤ offset) e h) in
      let b : nat_lt offset (next_multiple_of so_far.size l.align + l.size) ≡ false = le-ltb offset (next_multiple_of so_far.size l.align + l.size) (subst (λ n. n + l.size ≤ offset) e k) in
      rw (a, b) refl

pub placed_is : (so_far l : Layout) (start align : ℕ) → start ≡ next_multiple_of so_far.size l.align → align ≡ max so_far.align l.align → placed so_far l ≡ record { size = start + l.size; align = align }
placed_is so_far l start align e a = sym (λ i. record { size = e i + l.size; align = a i })

-- a struct in a struct lies less deep
pub shallower : (depth n of around : ℕ) → 1 ≤ depth → of < n → (depth - 1) * n + of < depth * n + around
shallower zero n of around h k = absurd (omega arith)
shallower (suc d) n of around h k = let z : suc d - 1 ≡ d = omega arith in rw z (omega (arith, suc-mul d n))

pub inside_well : (t : TypeTable) (around : Part) (i : Inside) → IsInside t around i → IsWell t i
inside_well t around (inside.Part part) h = h.0
inside_well t around (inside.Cell cell) h = h

pub inside_less : (t : TypeTable) (around : Part) (i : Inside) → IsInside t around i → rank_inside t i < suc (rank t around)
inside_less t around (inside.Part part) h = let k = h.1 in omega arith
inside_less t around (inside.Cell cell) h = omega arith
