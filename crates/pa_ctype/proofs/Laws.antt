-- Layouts by the depth of structs in one another.
use Rattle.std.proofs.Common.{◌≡◌, ℕ, zero, suc, ◌+◌, ◌-◌, ◌*◌, ◌/◌, ◌≤◌, Bool, true, false, cond, ◌||◌, ◌==◌, [], ◌∷◌, Option, Some, None, refl, sym, ◌∙◌, ap, subst, arith, nat_le, zero-add, suc-add, suc-mul}
use Rattle.std.specs.Option.{option_and_then}
use Rattle.std.specs.Int.{next_multiple_of}
use Rattle.std.proofs.lemmas.Bool.Decides.{nat_tests}
use Rattle.pa_ctype.specs.declared.ctype.Layout.{Layout}
use Rattle.pa_ctype.specs.Types.{TypeTree, Of, FormTree, Void, Boolean, Integer, Pointer, Array, Struct, Function}
use Rattle.pa_ctype.specs.Kept.{IsFine, AreFine}
use Rattle.pa_ctype.specs.Layouts.{Field, Body, Table, body_of, small, most_bytes, aligned_to_size, integer_layout, times, placed, empty, padded, members_from, struct_layout, layout_by, form_layout_by, laid, HasLayout}

-- what a step that may fail came from
pub then_some : {A B : Type 0} (f : A → Option B) (o : Option A) (b : B) → option_and_then f o ≡ Some b → (a : A) × (o ≡ Some a) × (f a ≡ Some b)
then_some f None b e = cc
then_some f (Some a) b e = (a, refl, e)

-- where structs have more layouts, types have more and keep theirs
abbrev pub Keeps : {A : Type 0} → (A → Option Layout) → (A → Option Layout) → Type 0
Keeps {A} lay more = (a : A) (l : Layout) → lay a ≡ Some l → more a ≡ Some l

mutual
  unfolding layout_by form_layout_by

  pub layout_by_keeps : (structs more : ℕ → Option Layout) → Keeps structs more → Keeps (layout_by structs) (layout_by more)
  layout_by_keeps structs more h (Of constant form) l e = form_layout_by_keeps structs more h form l e

  pub form_layout_by_keeps : (structs more : ℕ → Option Layout) → Keeps structs more → Keeps (form_layout_by structs) (form_layout_by more)
  form_layout_by_keeps structs more h Void l e = cc
  form_layout_by_keeps structs more h Boolean l e = e
  form_layout_by_keeps structs more h (Integer bits signed) l e = e
  form_layout_by_keeps structs more h (Pointer to schema) l e = e
  form_layout_by_keeps structs more h (Array of None) l e = cc
  form_layout_by_keeps structs more h (Array of (Some count)) l e = let (a, p, q) = then_some (times count) (layout_by structs of) l e in rw (layout_by_keeps structs more h of a p) q
  form_layout_by_keeps structs more h (Struct id) l e = h id l e
  form_layout_by_keeps structs more h (Function params result) l e = cc

pub members_from_keeps : (lay more : TypeTree → Option Layout) → Keeps lay more → (so_far : Layout) (body : Body) (l : Layout) → members_from lay so_far body ≡ Some l → members_from more so_far body ≡ Some l
unfolding members_from
members_from_keeps lay more h so_far [] l e = e
members_from_keeps lay more h so_far (field ∷ body) l e =
    let (a, p, q) = then_some (λ x. members_from lay (placed so_far x) body) (lay field.of) l e in
    rw (h field.of a p) (members_from_keeps lay more h (placed so_far a) body l q)

pub struct_layout_keeps : (lay more : TypeTree → Option Layout) → Keeps lay more → (body : Body) (l : Layout) → struct_layout lay body ≡ Some l → struct_layout more body ≡ Some l
struct_layout_keeps lay more h [] l e = cc
struct_layout_keeps lay more h (field ∷ body) l e =
    let (a, p, q) = then_some padded (members_from lay empty (field ∷ body)) l e in
    rw (members_from_keeps lay more h empty (field ∷ body) a p) q

abbrev pub structs_at : ℕ → Table → ℕ → Option Layout
structs_at depth table id = option_and_then (struct_layout (laid depth table)) (body_of table id)

pub structs_keep : (depth more : ℕ) (table : Table) → Keeps (laid depth table) (laid more table) → Keeps (structs_at depth table) (structs_at more table)
structs_keep depth more table h id l e =
    let (body, p, q) = then_some (struct_layout (laid depth table)) (body_of table id) l e in
    rw p (struct_layout_keeps (laid depth table) (laid more table) h body l q)

pub laid_suc : (depth : ℕ) (table : Table) → Keeps (laid depth table) (laid (suc depth) table)
unfolding laid
laid_suc zero table t l e = layout_by_keeps (λ id. None) (structs_at zero table) (λ id m f. cc) t l e
laid_suc (suc depth) table t l e = layout_by_keeps (structs_at depth table) (structs_at (suc depth) table) (structs_keep depth (suc depth) table (laid_suc depth table)) t l e

laid_add : (more depth : ℕ) (table : Table) → Keeps (laid depth table) (laid (more + depth) table)
laid_add zero depth table t l e = rw zero-add e
laid_add (suc more) depth table t l e = rw suc-add (laid_suc (more + depth) table t l (laid_add more depth table t l e))

-- deeper keeps the layouts
pub laid_deeper : (depth more : ℕ) (table : Table) → depth ≤ more → Keeps (laid depth table) (laid more table)
laid_deeper depth more table h t l e = let s : (more - depth) + depth ≡ more = omega arith in subst (λ d. laid d table t ≡ Some l) s (laid_add (more - depth) depth table t l e)

-- a type has one layout at most
pub one_layout : (table : Table) (t : TypeTree) (l other : Layout) → HasLayout table t l → HasLayout table t other → l ≡ other
one_layout table t l other h i =
    let a = laid_deeper h.depth (h.depth + i.depth) table (omega arith) t l h.is_laid in
    let b = laid_deeper i.depth (h.depth + i.depth) table (omega arith) t other i.is_laid in
    let e : Some l ≡ Some other = sym a ∙ b in cc

at_size_fine : (n : ℕ) → 1 ≤ n → n ≤ 8 → IsFine (aligned_to_size n)
at_size_fine n h k = record { positive = h; align = k; size = omega arith; some = h }

integer_fine : (bits : ℕ) (l : Layout) → integer_layout bits ≡ Some l → IsFine l
integer_fine bits l e = by_tests (bits == 8) (bits == 16) (bits == 32) (bits == 64) refl refl refl refl e
  where
    same : (n : ℕ) → Some (aligned_to_size n) ≡ Some l → 1 ≤ n → n ≤ 8 → IsFine l
    same n f h k = let z : aligned_to_size n ≡ l = cc in subst IsFine z (at_size_fine n h k)

    by_tests : (a b c d : Bool) → (bits == 8) ≡ a → (bits == 16) ≡ b → (bits == 32) ≡ c → (bits == 64) ≡ d → cond ((a || b) || (c || d)) (Some (aligned_to_size (bits / 8))) None ≡ Some l → IsFine l
    by_tests true b c d p q r s f = let z : bits ≡ 8 = grind (arith, nat_tests) in same (bits / 8) f (rw z (omega arith)) (rw z (omega arith))
    by_tests false true c d p q r s f = let z : bits ≡ 16 = grind (arith, nat_tests) in same (bits / 8) f (rw z (omega arith)) (rw z (omega arith))
    by_tests false false true d p q r s f = let z : bits ≡ 32 = grind (arith, nat_tests) in same (bits / 8) f (rw z (omega arith)) (rw z (omega arith))
    by_tests false false false true p q r s f = let z : bits ≡ 64 = grind (arith, nat_tests) in same (bits / 8) f (rw z (omega arith)) (rw z (omega arith))
    by_tests false false false false p q r s f = cc

-- what `small` lets through
pub small_is : (k l : Layout) → small k ≡ Some l → (k ≡ l) × (k.size ≤ most_bytes)
small_is k l e = by_test (nat_le k.size most_bytes) refl e
  where
    by_test : (b : Bool) → nat_le k.size most_bytes ≡ b → cond b (Some k) None ≡ Some l → (k ≡ l) × (k.size ≤ most_bytes)
    by_test true h f = (cc, grind (arith, nat_tests))
    by_test false h f = cc

some_product : (n s : ℕ) → 1 ≤ s → 1 ≤ suc n * s
some_product n s h = rw suc-mul (omega arith)

times_fine : (count : ℕ) (k l : Layout) → IsFine k → times count k ≡ Some l → IsFine l
times_fine zero k l h e = cc
times_fine (suc n) k l h e =
    let s = small_is (record { size = suc n * k.size; align = k.align }) l e in
    subst IsFine s.0 (record { positive = h.positive; align = h.align; size = s.1; some = some_product n k.size h.some })

mutual
  unfolding layout_by form_layout_by

  pub layout_by_fine : (structs : ℕ → Option Layout) → AreFine structs → (t : TypeTree) (l : Layout) → layout_by structs t ≡ Some l → IsFine l
  layout_by_fine structs h (Of constant form) l e = form_fine structs h form l e

  form_fine : (structs : ℕ → Option Layout) → AreFine structs → (form : FormTree) (l : Layout) → form_layout_by structs form ≡ Some l → IsFine l
  form_fine structs h Void l e = cc
  form_fine structs h Boolean l e = let z : aligned_to_size 1 ≡ l = cc in subst IsFine z (at_size_fine 1 (omega arith) (omega arith))
  form_fine structs h (Integer bits signed) l e = integer_fine bits l e
  form_fine structs h (Pointer to schema) l e = let z : aligned_to_size 8 ≡ l = cc in subst IsFine z (at_size_fine 8 (omega arith) (omega arith))
  form_fine structs h (Array of None) l e = cc
  form_fine structs h (Array of (Some count)) l e = let (k, p, q) = then_some (times count) (layout_by structs of) l e in times_fine count k l (layout_by_fine structs h of k p) q
  form_fine structs h (Struct id) l e = h id l e
  form_fine structs h (Function params result) l e = cc

-- what the members so far are like
record IsPart (l : Layout) : Type 0 where
  positive : 1 ≤ l.align
  align : l.align ≤ 8

part_more : (so_far l : Layout) → IsPart so_far → IsFine l → IsPart (placed so_far l)
part_more so_far l h k = let a = h.positive in let b = h.align in let c = k.align in record { positive = omega arith; align = omega arith }

members_part : (lay : TypeTree → Option Layout) → ((t : TypeTree) (l : Layout) → lay t ≡ Some l → IsFine l) → (so_far : Layout) (body : Body) (l : Layout) → IsPart so_far → members_from lay so_far body ≡ Some l → IsPart l × (so_far.size ≤ l.size)
unfolding members_from
members_part lay h so_far [] l p e = let z : so_far ≡ l = cc in (subst IsPart z p, let n : so_far.size ≡ l.size = ap (λ x. x.size) z in omega arith)
members_part lay h so_far (field ∷ body) l p e =
    let (k, a, q) = then_some (λ x. members_from lay (placed so_far x) body) (lay field.of) l e in
    let r = members_part lay h (placed so_far k) body l (part_more so_far k p (h field.of k a)) q in
    let s = r.1 in
    (r.0, omega arith)

first_member : (lay : TypeTree → Option Layout) → ((t : TypeTree) (l : Layout) → lay t ≡ Some l → IsFine l) → (field : Field) (body : Body) (l : Layout) → members_from lay empty (field ∷ body) ≡ Some l → 1 ≤ l.size
unfolding members_from
first_member lay h field body l e =
    let (k, a, q) = then_some (λ x. members_from lay (placed empty x) body) (lay field.of) l e in
    let f = h field.of k a in
    let r = members_part lay h (placed empty k) body l (part_more empty k (record { positive = omega arith; align = omega arith }) f) q in
    let s = r.1 in let o = f.some in omega arith

struct_fine : (lay : TypeTree → Option Layout) → ((t : TypeTree) (l : Layout) → lay t ≡ Some l → IsFine l) → (body : Body) (l : Layout) → struct_layout lay body ≡ Some l → IsFine l
struct_fine lay h [] l e = cc
struct_fine lay h (field ∷ body) l e =
    let (k, a, q) = then_some padded (members_from lay empty (field ∷ body)) l e in
    let s = small_is (record { size = next_multiple_of k.size k.align; align = k.align }) l q in
    let r = members_part lay h empty (field ∷ body) k (record { positive = omega arith; align = omega arith }) a in
    let o = first_member lay h field body k a in
    let p = r.0 in
    subst IsFine s.0 (record { positive = p.positive; align = p.align; size = s.1; some = omega arith })

pub structs_fine : (depth : ℕ) (table : Table) → ((t : TypeTree) (l : Layout) → laid depth table t ≡ Some l → IsFine l) → (id : ℕ) (l : Layout) → structs_at depth table id ≡ Some l → IsFine l
structs_fine depth table h id l e = let (body, p, q) = then_some (struct_layout (laid depth table)) (body_of table id) l e in struct_fine (laid depth table) h body l q

-- a layout has an alignment of 1 to 8, and a byte at least
pub laid_fine : (depth : ℕ) (table : Table) (t : TypeTree) (l : Layout) → laid depth table t ≡ Some l → IsFine l
unfolding laid
laid_fine zero table t l e = layout_by_fine (λ id. None) (λ id m f. cc) t l e
laid_fine (suc depth) table t l e = layout_by_fine (structs_at depth table) (structs_fine depth table (laid_fine depth table)) t l e

-- where structs have the same layouts, so have types, members and structs of them
pub same_by_keeps : (a b : Option Layout) → ((l : Layout) → a ≡ Some l → b ≡ Some l) → ((l : Layout) → b ≡ Some l → a ≡ Some l) → a ≡ b
same_by_keeps None None h k = refl
same_by_keeps None (Some l) h k = k l refl
same_by_keeps (Some l) b h k = sym (h l refl)

pub then_same : {A B : Type 0} (f g : A → Option B) → ((a : A) → f a ≡ g a) → (o : Option A) → option_and_then f o ≡ option_and_then g o
then_same f g h None = refl
then_same f g h (Some a) = h a

mutual
  unfolding layout_by form_layout_by

  pub layout_by_same : (structs more : ℕ → Option Layout) → ((id : ℕ) → structs id ≡ more id) → (t : TypeTree) → layout_by structs t ≡ layout_by more t
  layout_by_same structs more h (Of constant form) = form_layout_by_same structs more h form

  form_layout_by_same : (structs more : ℕ → Option Layout) → ((id : ℕ) → structs id ≡ more id) → (form : FormTree) → form_layout_by structs form ≡ form_layout_by more form
  form_layout_by_same structs more h Void = refl
  form_layout_by_same structs more h Boolean = refl
  form_layout_by_same structs more h (Integer bits signed) = refl
  form_layout_by_same structs more h (Pointer to schema) = refl
  form_layout_by_same structs more h (Array of None) = refl
  form_layout_by_same structs more h (Array of (Some count)) = ap (option_and_then (times count)) (layout_by_same structs more h of)
  form_layout_by_same structs more h (Struct id) = h id
  form_layout_by_same structs more h (Function params result) = refl

pub members_from_same : (lay more : TypeTree → Option Layout) → ((t : TypeTree) → lay t ≡ more t) → (so_far : Layout) (body : Body) → members_from lay so_far body ≡ members_from more so_far body
unfolding members_from
members_from_same lay more h so_far [] = refl
members_from_same lay more h so_far (field ∷ body) =
    ap (option_and_then (λ l. members_from lay (placed so_far l) body)) (h field.of)
    ∙ then_same (λ l. members_from lay (placed so_far l) body) (λ l. members_from more (placed so_far l) body) (λ l. members_from_same lay more h (placed so_far l) body) (more field.of)

pub struct_layout_same : (lay more : TypeTree → Option Layout) → ((t : TypeTree) → lay t ≡ more t) → (body : Body) → struct_layout lay body ≡ struct_layout more body
struct_layout_same lay more h [] = refl
struct_layout_same lay more h (field ∷ body) = ap (option_and_then padded) (members_from_same lay more h empty (field ∷ body))
