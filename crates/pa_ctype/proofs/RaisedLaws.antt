-- Types, members and structs keep their layouts where their table stands behind another.
use Rattle.std.proofs.Common.{◌≡◌, ℕ, zero, suc, ◌+◌, ◌≤◌, cond, List, [], ◌∷◌, ◌++◌, length, map, Option, Some, None, option_map, refl, sym, ◌∙◌, ap, arith, zero-add, suc-add, length-append}
use Rattle.std.specs.Option.{option_and_then}
use Rattle.std.specs.Int.{next_multiple_of}
use Rattle.std.specs.List.{slice_get}
use Rattle.std.specs.Str.{bytes_eq}
use Rattle.std.proofs.lemmas.List.{length-map}
use Rattle.std.proofs.lemmas.Option.{slice_get-map}
use Rattle.pa_ctype.specs.declared.ctype.Layout.{Layout}
use Rattle.pa_ctype.specs.declared.ctype.Member.{Member}
use Rattle.pa_ctype.specs.Types.{TypeTree, Of, FormTree, Void, Boolean, Integer, Pointer, Array, Struct, Function, TypeTrees, Nil, Cons, trees_of, id_bound, form_id_bound, ids_bound}
use Rattle.pa_ctype.specs.Layouts.{Field, Body, Table, body_of, times, placed, empty, padded, members_from, struct_layout, layout_by, form_layout_by, laid, HasLayout, layout_in, member_from, HasMember, IsSoundField, IsSoundBody}
use Rattle.pa_ctype.specs.Raised.{raised, raised_form, raised_types, raised_field, raised_body, raised_table, followed}
use Rattle.pa_ctype.proofs.Depth.{layout_is, layout_has}
use Rattle.pa_ctype.proofs.Laws.{same_by_keeps, then_same, structs_at}

pub get_behind : {A : Type 0} (a b : List A) (id : ℕ) → slice_get (a ++ b) (length a + id) ≡ slice_get b id
get_behind [] b id = rw zero-add refl
get_behind (x ∷ a) b id = rw suc-add (get_behind a b id)

body_raised : (by : ℕ) (table : Table) (id : ℕ) → body_of (raised_table by table) id ≡ option_map (raised_body by) (body_of table id)
body_raised by table id = ap (option_and_then (λ body. body)) (slice_get-map (option_map (raised_body by)) table id) ∙ by_entry (slice_get table id)
  where
    by_entry : (o : Option (Option Body)) → option_and_then (λ body. body) (option_map (option_map (raised_body by)) o) ≡ option_map (raised_body by) (option_and_then (λ body. body) o)
    by_entry None = refl
    by_entry (Some None) = refl
    by_entry (Some (Some body)) = refl

pub body_behind : (a b : Table) (id : ℕ) → body_of (a ++ raised_table (length a) b) (length a + id) ≡ option_map (raised_body (length a)) (body_of b id)
body_behind a b id = ap (option_and_then (λ body. body)) (get_behind a (raised_table (length a) b) id) ∙ body_raised (length a) b id

mutual
  unfolding id_bound form_id_bound ids_bound raised raised_form raised_types

  pub bound_raised : (by : ℕ) (t : TypeTree) → id_bound (raised by t) ≤ by + id_bound t
  bound_raised by (Of constant form) = form_bound_raised by form

  form_bound_raised : (by : ℕ) (form : FormTree) → form_id_bound (raised_form by form) ≤ by + form_id_bound form
  form_bound_raised by Void = omega arith
  form_bound_raised by Boolean = omega arith
  form_bound_raised by (Integer bits signed) = omega arith
  form_bound_raised by (Pointer to schema) = bound_raised by to
  form_bound_raised by (Array of count) = bound_raised by of
  form_bound_raised by (Struct id) = omega arith
  form_bound_raised by (Function params result) = omega (arith, bounds_raised by params, bound_raised by result)

  bounds_raised : (by : ℕ) (ts : TypeTrees) → ids_bound (raised_types by ts) ≤ by + ids_bound ts
  bounds_raised by Nil = omega arith
  bounds_raised by (Cons t ts) = omega (arith, bound_raised by t, bounds_raised by ts)

mutual
  unfolding layout_by form_layout_by raised raised_form

  layout_by_raised : (by : ℕ) (structs more : ℕ → Option Layout) → ((id : ℕ) → more (by + id) ≡ structs id) → (t : TypeTree) → layout_by more (raised by t) ≡ layout_by structs t
  layout_by_raised by structs more h (Of constant form) = form_layout_raised by structs more h form

  form_layout_raised : (by : ℕ) (structs more : ℕ → Option Layout) → ((id : ℕ) → more (by + id) ≡ structs id) → (form : FormTree) → form_layout_by more (raised_form by form) ≡ form_layout_by structs form
  form_layout_raised by structs more h Void = refl
  form_layout_raised by structs more h Boolean = refl
  form_layout_raised by structs more h (Integer bits signed) = refl
  form_layout_raised by structs more h (Pointer to schema) = refl
  form_layout_raised by structs more h (Array of None) = refl
  form_layout_raised by structs more h (Array of (Some count)) = ap (option_and_then (times count)) (layout_by_raised by structs more h of)
  form_layout_raised by structs more h (Struct id) = h id
  form_layout_raised by structs more h (Function params result) = refl

-- types in order, each raised
pub raised_each : (by : ℕ) (ts : List TypeTree) → raised_types by (trees_of ts) ≡ trees_of (map (raised by) ts)
unfolding raised_types
raised_each by [] = refl
raised_each by (t ∷ ts) = ap (Cons (raised by t)) (raised_each by ts)

-- types are laid as before their ids were raised
abbrev pub AreAsBefore : ℕ → (TypeTree → Option Layout) → (TypeTree → Option Layout) → Type 0
AreAsBefore by lay more = (t : TypeTree) → more (raised by t) ≡ lay t

members_raised : (by : ℕ) (lay more : TypeTree → Option Layout) → AreAsBefore by lay more → (so_far : Layout) (body : Body) → members_from more so_far (raised_body by body) ≡ members_from lay so_far body
unfolding members_from
members_raised by lay more h so_far [] = refl
members_raised by lay more h so_far (field ∷ body) =
    ap (option_and_then (λ l. members_from more (placed so_far l) (raised_body by body))) (h field.of)
    ∙ then_same (λ l. members_from more (placed so_far l) (raised_body by body)) (λ l. members_from lay (placed so_far l) body) (λ l. members_raised by lay more h (placed so_far l) body) (lay field.of)

struct_raised : (by : ℕ) (lay more : TypeTree → Option Layout) → AreAsBefore by lay more → (body : Body) → struct_layout more (raised_body by body) ≡ struct_layout lay body
struct_raised by lay more h [] = refl
struct_raised by lay more h (field ∷ body) = ap (option_and_then padded) (members_raised by lay more h empty (field ∷ body))

module _ (a b : Table) where
  abbrev both : Table
  both = followed a b

  structs_raised : (depth : ℕ) → AreAsBefore (length a) (laid depth b) (laid depth both) → (id : ℕ) → structs_at depth both (length a + id) ≡ structs_at depth b id
  structs_raised depth h id = ap (option_and_then (struct_layout (laid depth both))) (body_behind a b id) ∙ by_body (body_of b id)
    where
      by_body : (o : Option Body) → option_and_then (struct_layout (laid depth both)) (option_map (raised_body (length a)) o) ≡ option_and_then (struct_layout (laid depth b)) o
      by_body None = refl
      by_body (Some body) = struct_raised (length a) (laid depth b) (laid depth both) h body

  laid_raised : (depth : ℕ) → AreAsBefore (length a) (laid depth b) (laid depth both)
  unfolding laid
  laid_raised zero t = layout_by_raised (length a) (λ id. None) (λ id. None) (λ id. refl) t
  laid_raised (suc depth) t = layout_by_raised (length a) (structs_at depth b) (structs_at depth both) (structs_raised depth (laid_raised depth)) t

  -- a type has the layout that it has in its own table, and no other
  pub layout_raised : (t : TypeTree) (l : Layout) → HasLayout b t l → HasLayout both (raised (length a) t) l
  layout_raised t l h = record { depth = h.depth; is_laid = laid_raised h.depth t ∙ h.is_laid }

  pub layout_was : (t : TypeTree) (l : Layout) → HasLayout both (raised (length a) t) l → HasLayout b t l
  layout_was t l h = record { depth = h.depth; is_laid = sym (laid_raised h.depth t) ∙ h.is_laid }

  abbrev here : Layout → ℕ → Layout → Option Member
  here so_far index l = Some (record { offset = next_multiple_of so_far.size l.align; index = index })

  abbrev next : (TypeTree → Option Layout) → List ℕ → Layout → ℕ → Field → Body → Layout → Option Member
  next lay name so_far index field rest l = cond (bytes_eq field.name name) (here so_far index l) (member_from lay name (placed so_far l) (index + 1) rest)

  member_from_raised : (depth : ℕ) (name : List ℕ) (so_far : Layout) (index : ℕ) (body : Body) → member_from (laid depth both) name so_far index (raised_body (length a) body) ≡ member_from (laid depth b) name so_far index body
  unfolding member_from
  member_from_raised depth name so_far index [] = refl
  member_from_raised depth name so_far index (field ∷ body) =
      ap (option_and_then (next (laid depth both) name so_far index field (raised_body (length a) body))) (laid_raised depth field.of)
      ∙ then_same (next (laid depth both) name so_far index field (raised_body (length a) body)) (next (laid depth b) name so_far index field body) (λ l. ap (cond (bytes_eq field.name name) (here so_far index l)) (member_from_raised depth name (placed so_far l) (index + 1) body)) (laid depth b field.of)

  -- so has a member its place
  pub member_raised : (id : ℕ) (name : List ℕ) (m : Member) → HasMember b id name m → HasMember both (length a + id) name m
  member_raised id name m h = record {
    depth = h.depth;
    body = raised_body (length a) h.body;
    body_is = body_behind a b id ∙ ap (option_map (raised_body (length a))) h.body_is;
    found = member_from_raised h.depth name empty 0 h.body ∙ h.found;
  }

  -- and none where it has none there
  pub layout_in_raised : (t : TypeTree) → layout_in both (raised (length a) t) ≡ layout_in b t
  layout_in_raised t = same_by_keeps (layout_in both (raised (length a) t)) (layout_in b t)
      (λ l e. layout_is b t l (layout_was t l (layout_has both (raised (length a) t) l e)))
      (λ l e. layout_is both (raised (length a) t) l (layout_raised t l (layout_has b t l e)))

  sound_field_raised : (field : Field) → IsSoundField b field → IsSoundField both (raised_field (length a) field)
  sound_field_raised field h =
      let (l, k) = h.complete in
      let n = h.known in
      record { complete = (l, layout_raised field.of l k); known = omega (arith, bound_raised (length a) field.of, length-both) }
    where
      length-both : length both ≡ length a + length b
      length-both = length-append a (raised_table (length a) b) ∙ ap (λ n. length a + n) (length-map b (option_map (raised_body (length a))))

  -- a body is sound where it was
  pub sound_raised : (body : Body) → IsSoundBody b body → IsSoundBody both (raised_body (length a) body)
  unfolding IsSoundBody
  sound_raised [] h = tt
  sound_raised (field ∷ body) h = (sound_field_raised field h.0, sound_raised body h.1)
