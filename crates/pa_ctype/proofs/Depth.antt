-- A type that has a layout has it where structs lie in one another as deep as there are structs. Each step of depth lays
-- one struct more, or no further step lays any.
use Rattle.std.proofs.Common.{◌≡◌, ℕ, zero, suc, ◌+◌, ◌-◌, ◌≤◌, ◌<◌, length, Bool, true, false, cond, List, [], ◌∷◌, Option, Some, None, refl, sym, ◌∙◌, ap, subst, arith, ◌⊎◌, inl, inr, zero-add, suc-add}
use Rattle.std.specs.Option.{option_and_then}
use Rattle.std.specs.Int.{next_multiple_of}
use Rattle.std.specs.Str.{bytes_eq}
use Rattle.std.proofs.lemmas.Bool.{cases_lt}
use Rattle.std.proofs.lemmas.Option.{slice_get_past}
use Rattle.pa_ctype.specs.declared.ctype.Layout.{Layout}
use Rattle.pa_ctype.specs.declared.ctype.Member.{Member}
use Rattle.pa_ctype.specs.Types.{TypeTree}
use Rattle.pa_ctype.specs.Layouts.{Body, Table, body_of, placed, empty, struct_layout, laid, HasLayout, layout_in, member_from, HasMember, member_of}
use Rattle.pa_ctype.proofs.Laws.{then_some, same_by_keeps, then_same, Keeps, layout_by_keeps, structs_at, structs_keep, laid_suc, laid_deeper}

-- how many of the first ids have a layout
abbrev pub has : Option Layout → ℕ
has None = 0
has (Some l) = 1

abbrev pub count : ℕ → (ℕ → Option Layout) → ℕ
count zero lay = 0
count (suc n) lay = has (lay n) + count n lay

has_within : (a : Option Layout) → has a ≤ 1
has_within None = omega arith
has_within (Some l) = omega arith

count_within : (n : ℕ) (lay : ℕ → Option Layout) → count n lay ≤ n
count_within zero lay = omega arith
count_within (suc n) lay = omega (arith, has_within (lay n), count_within n lay)

has_keeps : (a b : Option Layout) → ((l : Layout) → a ≡ Some l → b ≡ Some l) → has a ≤ has b
has_keeps None b h = omega arith
has_keeps (Some l) b h = let e = ap has (h l refl) in omega arith

count_keeps : (n : ℕ) (lay more : ℕ → Option Layout) → Keeps lay more → count n lay ≤ count n more
count_keeps zero lay more h = omega arith
count_keeps (suc n) lay more h = omega (arith, has_keeps (lay n) (more n) (h n), count_keeps n lay more h)

has_same : (a b : Option Layout) → ((l : Layout) → a ≡ Some l → b ≡ Some l) → has b ≤ has a → (l : Layout) → b ≡ Some l → a ≡ Some l
has_same None b h le l e = let k = ap has e in absurd (omega arith)
has_same (Some k) b h le l e = sym (h k refl) ∙ e

-- where no more ids have a layout, none has a new one
count_same : (n : ℕ) (lay more : ℕ → Option Layout) → Keeps lay more → count n more ≤ count n lay → (id : ℕ) → id < n → (l : Layout) → more id ≡ Some l → lay id ≡ Some l
count_same zero lay more h le id lt l e = absurd (omega arith)
count_same (suc n) lay more h le id lt l e =
    let a = has_keeps (lay n) (more n) (h n) in
    let b = count_keeps n lay more h in
    elim (cases_lt id n) [
      | inl under ↦ count_same n lay more h (omega arith) id under l e
      | inr over ↦ let last : id ≡ n = omega arith in rw last (has_same (lay n) (more n) (h n) (omega arith) l (subst (λ i. more i ≡ Some l) last e))
    ]

-- the layouts of structs that lie less deep
abbrev pub structs_below : ℕ → Table → ℕ → Option Layout
structs_below zero table id = None
structs_below (suc depth) table id = structs_at depth table id

below_keeps : (depth : ℕ) (table : Table) → Keeps (structs_below depth table) (structs_at depth table)
below_keeps zero table id l e = cc
below_keeps (suc depth) table id l e = structs_keep depth (suc depth) table (laid_suc depth table) id l e

-- one step deeper lays no struct more
abbrev pub IsStable : ℕ → Table → Type 0
IsStable depth table = Keeps (structs_at depth table) (structs_below depth table)

laid_stable : (depth : ℕ) (table : Table) → IsStable depth table → Keeps (laid (suc depth) table) (laid depth table)
unfolding laid
laid_stable zero table h t l e = layout_by_keeps (structs_at zero table) (λ id. None) h t l e
laid_stable (suc depth) table h t l e = layout_by_keeps (structs_at (suc depth) table) (structs_at depth table) h t l e

stable_next : (depth : ℕ) (table : Table) → IsStable depth table → IsStable (suc depth) table
stable_next depth table h = structs_keep (suc depth) depth table (laid_stable depth table h)

stable_add : (more depth : ℕ) (table : Table) → IsStable depth table → IsStable (more + depth) table
stable_add zero depth table h = rw zero-add h
stable_add (suc more) depth table h = rw suc-add (stable_next (more + depth) table (stable_add more depth table h))

no_struct : (depth : ℕ) (table : Table) (id : ℕ) (l : Layout) → length table ≤ id → structs_at depth table id ≡ Some l → ⊥
no_struct depth table id l h e =
    let gone : body_of table id ≡ None = ap (option_and_then (λ body. body)) (slice_get_past table id h) in
    let none : None ≡ Some l = sym (ap (option_and_then (struct_layout (laid depth table))) gone) ∙ e in
    cc

same_stable : (depth : ℕ) (table : Table) → count (length table) (structs_at depth table) ≤ count (length table) (structs_below depth table) → IsStable depth table
same_stable depth table h id l e = elim (cases_lt id (length table)) [
  | inl under ↦ count_same (length table) (structs_below depth table) (structs_at depth table) (below_keeps depth table) h id under l e
  | inr over ↦ absurd (no_struct depth table id l over e)
]

stable_or_more : (depth : ℕ) (table : Table) → IsStable depth table ⊎ (depth ≤ count (length table) (structs_below depth table))
stable_or_more zero table = inr (omega arith)
stable_or_more (suc depth) table = elim (stable_or_more depth table) [
  | inl h ↦ inl (stable_next depth table h)
  | inr m ↦ by_count m (cases_lt (count (length table) (structs_below depth table)) (count (length table) (structs_at depth table)))
]
  where
    by_count : depth ≤ count (length table) (structs_below depth table) → (count (length table) (structs_below depth table) < count (length table) (structs_at depth table)) ⊎ (count (length table) (structs_at depth table) ≤ count (length table) (structs_below depth table))
        → IsStable (suc depth) table ⊎ (suc depth ≤ count (length table) (structs_at depth table))
    by_count m (inl less) = inr (omega arith)
    by_count m (inr same) = inl (stable_next depth table (same_stable depth table same))

stable_end : (table : Table) → IsStable (length table) table
stable_end table = elim (stable_or_more (length table) table) [
  | inl h ↦ h
  | inr m ↦ same_stable (length table) table (omega (arith, count_within (length table) (structs_at (length table) table)))
]

laid_back : (more depth : ℕ) (table : Table) → IsStable depth table → Keeps (laid (more + depth) table) (laid depth table)
laid_back zero depth table h t l e = subst (λ d. laid d table t ≡ Some l) (zero-add depth) e
laid_back (suc more) depth table h t l e =
    laid_back more depth table h t l (laid_stable (more + depth) table (stable_add more depth table h) t l (subst (λ d. laid d table t ≡ Some l) (suc-add more depth) e))

-- what is laid is laid at this depth
pub laid_is : (depth : ℕ) (table : Table) → Keeps (laid depth table) (laid (length table) table)
laid_is depth table t l e = elim (cases_lt depth (length table)) [
  | inl under ↦ laid_deeper depth (length table) table (omega arith) t l e
  | inr over ↦
      let s : (depth - length table) + length table ≡ depth = omega arith in
      laid_back (depth - length table) (length table) table (stable_end table) t l (subst (λ d. laid d table t ≡ Some l) (sym s) e)
]

-- one more step of depth lays no more
pub laid_end : (table : Table) (t : TypeTree) → laid (suc (length table)) table t ≡ laid (length table) table t
laid_end table t = same_by_keeps (laid (suc (length table)) table t) (laid (length table) table t) (laid_is (suc (length table)) table t) (laid_suc (length table) table t)

-- the layout of a type is that of the function, and the function's is the type's
pub layout_is : (table : Table) (t : TypeTree) (l : Layout) → HasLayout table t l → layout_in table t ≡ Some l
layout_is table t l h = laid_is h.depth table t l h.is_laid

pub layout_has : (table : Table) (t : TypeTree) (l : Layout) → layout_in table t ≡ Some l → HasLayout table t l
layout_has table t l e = record { depth = length table; is_laid = e }

pub member_from_keeps : (lay more : TypeTree → Option Layout) → Keeps lay more → (name : List ℕ) (so_far : Layout) (index : ℕ) (body : Body) (m : Member) → member_from lay name so_far index body ≡ Some m → member_from more name so_far index body ≡ Some m
unfolding member_from
member_from_keeps lay more h name so_far index [] m e = cc
member_from_keeps lay more h name so_far index (field ∷ body) m e =
    let (l, p, q) = then_some (λ l. cond (bytes_eq field.name name) (Some (record { offset = next_multiple_of so_far.size l.align; index = index })) (member_from lay name (placed so_far l) (index + 1) body)) (lay field.of) m e in
    rw (h field.of l p) (by_test (bytes_eq field.name name) l (member_from_keeps lay more h name (placed so_far l) (index + 1) body m) q)
  where
    by_test : (b : Bool) (l : Layout) → (member_from lay name (placed so_far l) (index + 1) body ≡ Some m → member_from more name (placed so_far l) (index + 1) body ≡ Some m) → cond b (Some (record { offset = next_multiple_of so_far.size l.align; index = index })) (member_from lay name (placed so_far l) (index + 1) body) ≡ Some m
        → cond b (Some (record { offset = next_multiple_of so_far.size l.align; index = index })) (member_from more name (placed so_far l) (index + 1) body) ≡ Some m
    by_test true l keeps q = q
    by_test false l keeps q = keeps q

-- the member of a struct is that of the function, so a name has one member at most
pub member_is : (table : Table) (id : ℕ) (name : List ℕ) (m : Member) → HasMember table id name m → member_of table id name ≡ Some m
member_is table id name m h =
    ap (option_and_then (member_from (laid (length table) table) name empty 0)) h.body_is ∙ member_from_keeps (laid h.depth table) (laid (length table) table) (laid_is h.depth table) name empty 0 h.body m h.found

pub one_member : (table : Table) (id : ℕ) (name : List ℕ) (m other : Member) → HasMember table id name m → HasMember table id name other → m ≡ other
one_member table id name m other h k = let e : Some m ≡ Some other = sym (member_is table id name m h) ∙ member_is table id name other k in cc

abbrev here : Layout → ℕ → Layout → Option Member
here so_far index l = Some (record { offset = next_multiple_of so_far.size l.align; index = index })

-- where types have the same layouts, a member is at the same place
pub member_from_same : (lay more : TypeTree → Option Layout) → ((t : TypeTree) → lay t ≡ more t) → (name : List ℕ) (so_far : Layout) (index : ℕ) (body : Body) → member_from lay name so_far index body ≡ member_from more name so_far index body
unfolding member_from
member_from_same lay more h name so_far index [] = refl
member_from_same lay more h name so_far index (field ∷ body) =
    ap (option_and_then (λ l. cond (bytes_eq field.name name) (here so_far index l) (member_from lay name (placed so_far l) (index + 1) body))) (h field.of)
    ∙ then_same (λ l. cond (bytes_eq field.name name) (here so_far index l) (member_from lay name (placed so_far l) (index + 1) body)) (λ l. cond (bytes_eq field.name name) (here so_far index l) (member_from more name (placed so_far l) (index + 1) body))
    (λ l. ap (cond (bytes_eq field.name name) (here so_far index l)) (member_from_same lay more h name (placed so_far l) (index + 1) body)) (more field.of)
