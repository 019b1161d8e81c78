-- The table of nodes: what its numbers stand for, and one more node.
use Rattle.std.proofs.Common.{◌≡◌, ℕ, zero, suc, ◌<◌, ◌≤◌, ◌+◌, Bool, true, false, List, [], ◌∷◌, ◌++◌, length, get_or, map, Option, Some, None, refl, sym, ap, ◌∙◌, subst, arith, below_more, option_map, slice_get, ◌⊎◌, inl, inr}
use Rattle.std.specs.Option.{unwrap_or}
use Rattle.std.proofs.lemmas.Option.{slice_get-map, slice_get_within, same_Some}
use Rattle.std.proofs.Math.Seq.{get_or-append_seam}
use Rattle.std.proofs.lemmas.List.{get_or_append_left, length-append, length-map}
use Rattle.std.specs.Map.{keys_of, values_of}
use Rattle.pa_pac.specs.declared.schema.Schema.{Schema}
use Rattle.pa_pac.specs.declared.key.Key.{Key}
use Rattle.pa_pac.specs.declared.key.Key.TheVariants as key
use Rattle.pa_ctype.specs.declared.node.SchemaKey.{SchemaKey}
use Rattle.pa_ctype.specs.declared.node.SchemaKey.TheVariants.{IA, IB, DA, DB, GA}
use Rattle.pa_ctype.specs.declared.node.Qualifier.{Qualifier}
use Rattle.pa_ctype.specs.declared.node.Node.{Node}
use Rattle.pa_ctype.specs.declared.node.Node.TheVariants.{Void, Int, Pointer, Array, Struct, Returns, Takes, Constant}
use Rattle.pa_ctype.specs.declared.node.Node.TheVariants as variant
use Rattle.pa_ctype.specs.declared.node.Facts.{Facts}
use Rattle.pa_ctype.specs.Types.{TypeTree, Of, FormTree, TypeTrees, Nil, Cons, type_depth}
use Rattle.pa_ctype.specs.Types as ty
use Rattle.pa_ctype.specs.Qualifiers.{bare, with_const}
use Rattle.pa_ctype.specs.Nodes.{key_of, schema_of, constant, is_function, takes_const, tree, parts, AllBelow, Below, grown, trees, at, Fits, Grown, Each, IsProper, extent_of, AreFacts, IsTable, Lacks, IsBareOf}
use Rattle.pa_ctype.proofs.KindLaws.{function_is}

abbrev void : TypeTree
void = Of false ty.Void

-- the types of a list of nodes
length_grown : (ts : List TypeTree) (ns : List Node) → length (grown ts ns) ≡ length ts + length ns
unfolding grown
length_grown ts [] = omega arith
length_grown ts (n ∷ ns) = let t = tree (λ i. get_or ts i void) n in let e = length_grown (ts ++ t ∷ []) ns in let f = length-append ts (t ∷ []) in omega arith

grown_append : (ts : List TypeTree) (ns more : List Node) → grown ts (ns ++ more) ≡ grown (grown ts ns) more
unfolding grown
grown_append ts [] more = refl
grown_append ts (k ∷ ns) more = grown_append (ts ++ tree (λ i. get_or ts i void) k ∷ []) ns more

grown_keeps : (ts : List TypeTree) (ns : List Node) (i : ℕ) → i < length ts → get_or (grown ts ns) i void ≡ get_or ts i void
unfolding grown
grown_keeps ts [] i h = refl
grown_keeps ts (n ∷ ns) i h = let t = tree (λ i. get_or ts i void) n in let f = length-append ts (t ∷ []) in grown_keeps (ts ++ t ∷ []) ns i (omega arith) ∙ get_or_append_left ts (t ∷ []) void i h

pub at_append : (ns more : List Node) (i : ℕ) → i < length ns → at (ns ++ more) i ≡ at ns i
unfolding at
at_append ns more i h = let e = length_grown [] ns in ap (λ ts. get_or ts i void) (grown_append [] ns more) ∙ grown_keeps (trees ns) more i (omega arith)

trees_push : (ns : List Node) (n : Node) → trees (ns ++ n ∷ []) ≡ trees ns ++ tree (at ns) n ∷ []
unfolding at grown
trees_push ns n = grown_append [] ns (n ∷ [])

at_push : (ns : List Node) (n : Node) (i : ℕ) → i ≡ length ns → at (ns ++ n ∷ []) i ≡ tree (at ns) n
unfolding at
at_push ns n i h = let e = length_grown [] ns in let same : i ≡ length (trees ns) = omega arith in rw (trees_push ns n, same) (get_or-append_seam (trees ns) (tree (at ns) n) [] void)

-- a node's type depends on its parts
pub tree_same : (f g : ℕ → TypeTree) (k : ℕ) (n : Node) → Below k n → ((i : ℕ) → i < k → f i ≡ g i) → tree f n ≡ tree g n
tree_same f g k Void h same = refl
tree_same f g k variant.Bool h same = refl
tree_same f g k (Int bits signed) h same = refl
tree_same f g k (Pointer to q) h same = ap (λ t. Of false (ty.Pointer t (option_map schema_of q))) (same to h.0)
tree_same f g k (Array of count) h same = ap (λ t. Of false (ty.Array t count)) (same of h.0)
tree_same f g k (Struct id) h same = refl
tree_same f g k (Returns of) h same = ap (λ t. Of false (ty.Function Nil t)) (same of h.0)
tree_same f g k (Takes param rest) h same = rw (same param h.0, same rest h.1.0) refl
tree_same f g k (Constant of) h same = ap constant (same of h.0)

-- so does whether it is proper
pub proper_same : (f g : ℕ → TypeTree) (k : ℕ) (n : Node) → Below k n → ((i : ℕ) → i < k → f i ≡ g i) → IsProper f n → IsProper g n
proper_same f g k Void h same p = tt
proper_same f g k variant.Bool h same p = tt
proper_same f g k (Int bits signed) h same p = tt
proper_same f g k (Pointer to q) h same p = tt
proper_same f g k (Array of count) h same p = tt
proper_same f g k (Struct id) h same p = tt
proper_same f g k (Returns of) h same p = tt
proper_same f g k (Takes param rest) h same p = subst (λ t. is_function t ≡ true) (same rest h.1.0) p
proper_same f g k (Constant of) h same p = subst (λ t. takes_const t ≡ true) (same of h.0) p

-- ---- different nodes have different types

hashed : Key → SchemaKey
hashed key.IA = IA
hashed key.IB = IB
hashed key.DA = DA
hashed key.DB = DB
hashed key.GA = GA

hashed_key : (k : SchemaKey) → hashed (key_of k) ≡ k
unfolding hashed
hashed_key IA = refl
hashed_key IB = refl
hashed_key DA = refl
hashed_key DB = refl
hashed_key GA = refl

qualifier : Schema → Qualifier
qualifier s = record { key = hashed s.key; addr = s.addr; disc = s.disc }

qualifier_of : (q : Option Qualifier) → option_map qualifier (option_map schema_of q) ≡ q
unfolding qualifier
qualifier_of None = refl
qualifier_of (Some q) = ap (λ k. Some (record { key = k; addr = q.addr; disc = q.disc })) (hashed_key q.key)

shape : TypeTree → Node
shape (Of true form) = Constant 0
shape (Of false ty.Void) = Void
shape (Of false ty.Boolean) = variant.Bool
shape (Of false (ty.Integer bits signed)) = Int bits signed
shape (Of false (ty.Pointer to schema)) = Pointer 0 (option_map qualifier schema)
shape (Of false (ty.Array of count)) = Array 0 count
shape (Of false (ty.Struct id)) = Struct id
shape (Of false (ty.Function Nil result)) = Returns 0
shape (Of false (ty.Function (Cons p ps) result)) = Takes 0 0

inside : TypeTree → List TypeTree
inside (Of true form) = Of false form ∷ []
inside (Of false (ty.Pointer to schema)) = to ∷ []
inside (Of false (ty.Array of count)) = of ∷ []
inside (Of false (ty.Function Nil result)) = result ∷ []
inside (Of false (ty.Function (Cons p ps) result)) = p ∷ Of false (ty.Function ps result) ∷ []
inside (Of false ty.Void) = []
inside (Of false ty.Boolean) = []
inside (Of false (ty.Integer bits signed)) = []
inside (Of false (ty.Struct id)) = []

head : List ℕ → ℕ
head [] = 0
head (x ∷ xs) = x

tail : List ℕ → List ℕ
tail [] = []
tail (x ∷ xs) = xs

build : Node → List ℕ → Node
build (Pointer to q) is = Pointer (head is) q
build (Array of count) is = Array (head is) count
build (Returns of) is = Returns (head is)
build (Takes param rest) is = Takes (head is) (head (tail is))
build (Constant of) is = Constant (head is)
build Void is = Void
build variant.Bool is = variant.Bool
build (Int bits signed) is = Int bits signed
build (Struct id) is = Struct id

-- what takes `const` has none
plain_is : (t : TypeTree) → takes_const t ≡ true → inside (constant t) ≡ t ∷ []
unfolding inside
plain_is (Of true form) h = cc
plain_is (Of false form) h = refl

constant_shape : (t : TypeTree) → shape (constant t) ≡ Constant 0
unfolding shape
constant_shape (Of c form) = refl

build_is : (m : ℕ → TypeTree) (n : Node) → IsProper m n → build (shape (tree m n)) (parts n) ≡ n
unfolding build shape head tail
build_is m Void p = refl
build_is m variant.Bool p = refl
build_is m (Int bits signed) p = refl
build_is m (Pointer to q) p = ap (Pointer to) (qualifier_of q)
build_is m (Array of count) p = refl
build_is m (Struct id) p = refl
build_is m (Returns of) p = refl
build_is m (Takes param rest) p = let (params, result, e) = function_is (m rest) p in rw e refl
build_is m (Constant of) p = ap (λ s. build s (of ∷ [])) (constant_shape (m of))

inside_is : (m : ℕ → TypeTree) (n : Node) → IsProper m n → inside (tree m n) ≡ map m (parts n)
unfolding inside
inside_is m Void p = refl
inside_is m variant.Bool p = refl
inside_is m (Int bits signed) p = refl
inside_is m (Pointer to q) p = refl
inside_is m (Array of count) p = refl
inside_is m (Struct id) p = refl
inside_is m (Returns of) p = refl
inside_is m (Takes param rest) p = let (params, result, e) = function_is (m rest) p in rw e refl
inside_is m (Constant of) p = plain_is (m of) p

first : TypeTree → List TypeTree → TypeTree
first d [] = d
first d (t ∷ ts) = t

others : List TypeTree → List TypeTree
others [] = []
others (t ∷ ts) = ts

abbrev Once : (ℕ → TypeTree) → ℕ → Type 0
Once m k = (i j : ℕ) → i < k → j < k → m i ≡ m j → i ≡ j

map_injective : (m : ℕ → TypeTree) (k : ℕ) → Once m k → (is js : List ℕ) → AllBelow k is → AllBelow k js → map m is ≡ map m js → is ≡ js
unfolding first others
map_injective m k once [] [] a b h = refl
map_injective m k once [] (j ∷ js) a b h = let e = ap length h in absurd (omega arith)
map_injective m k once (i ∷ is) [] a b h = let e = ap length h in absurd (omega arith)
map_injective m k once (i ∷ is) (j ∷ js) a b h = rw (once i j a.0 b.0 (ap (first void) h), map_injective m k once is js a.1 b.1 (ap others h)) refl

tree_injective : (m : ℕ → TypeTree) (k : ℕ) → Once m k → (a b : Node) → Below k a → Below k b → IsProper m a → IsProper m b → tree m a ≡ tree m b → a ≡ b
tree_injective m k once a b below_a below_b p q h =
    let same = map_injective m k once (parts a) (parts b) below_a below_b (sym (inside_is m a p) ∙ ap inside h ∙ inside_is m b q) in
    sym (build_is m a p) ∙ (λ x. build (shape (h x)) (same x)) ∙ build_is m b q

pub AllBelow_le : (k l : ℕ) → k ≤ l → (is : List ℕ) → AllBelow k is → AllBelow l is
AllBelow_le k l le [] h = h
AllBelow_le k l le (i ∷ is) h = (omega (arith, h.0), AllBelow_le k l le is h.1)

-- ---- one more node

-- the facts of a new node's type
pub record AreNodeFacts (ns : List Node) (n : Node) (f : Facts) : Type 0 where
  pub depth : f.depth ≡ type_depth (tree (at ns) n)
  pub shallow : f.depth ≤ length ns
  pub bare_before : f.bare ≤ length ns
  pub bare_is : at (ns ++ n ∷ []) f.bare ≡ bare (tree (at ns) n)
  pub extent : f.extent ≡ extent_of (tree (at ns) n)

module _ (ns : List Node) (fs : List Facts) (n : Node) (t : IsTable ns fs) (below : Below (length ns) n) (proper : IsProper (at ns) n) where
  more : List Node
  more = ns ++ n ∷ []

  old_node : (i : ℕ) → i < length ns → get_or more i Void ≡ get_or ns i Void
  unfolding more
  old_node i h = get_or_append_left ns (n ∷ []) Void i h

  new_node : get_or more (length ns) Void ≡ n
  unfolding more
  new_node = get_or-append_seam ns n [] Void

  old_at : (i : ℕ) → i < length ns → at more i ≡ at ns i
  unfolding more
  old_at i h = at_append ns (n ∷ []) i h

  new_at : at more (length ns) ≡ tree (at ns) n
  unfolding more
  new_at = at_push ns n (length ns) refl

  raised : (k : Node) → Below (length ns) k → tree (at ns) k ≡ tree (at more) k
  raised k h = tree_same (at ns) (at more) (length ns) k h (λ j g. sym (old_at j g))

  below_all : (i : ℕ) → i < length ns → Below (length ns) (get_or ns i Void)
  below_all i h = AllBelow_le i (length ns) (omega arith) (parts (get_or ns i Void)) (t.below i h)

  layer : (i : ℕ) → i < length ns + 1 → at more i ≡ tree (at more) (get_or more i Void)
  layer = below_more (λ i. at more i ≡ tree (at more) (get_or more i Void)) (length ns)
      (λ i h. old_at i h ∙ t.layers i h ∙ raised (get_or ns i Void) (below_all i h) ∙ ap (tree (at more)) (sym (old_node i h)))
      (new_at ∙ raised n below ∙ ap (tree (at more)) (sym new_node))

  under : (i : ℕ) → i < length ns + 1 → Below i (get_or more i Void)
  under = below_more (λ i. Below i (get_or more i Void)) (length ns)
      (λ i h. subst (Below i) (sym (old_node i h)) (t.below i h))
      (subst (Below (length ns)) (sym new_node) below)

  still : (i : ℕ) → i < length ns + 1 → IsProper (at more) (get_or more i Void)
  still = below_more (λ i. IsProper (at more) (get_or more i Void)) (length ns)
      (λ i h. subst (IsProper (at more)) (sym (old_node i h)) (proper_same (at ns) (at more) (length ns) (get_or ns i Void) (below_all i h) (λ j g. sym (old_at j g)) (t.proper i h)))
      (subst (IsProper (at more)) (sym new_node) (proper_same (at ns) (at more) (length ns) n below (λ j g. sym (old_at j g)) proper))

  long : length more ≡ length ns + 1
  unfolding more
  long = length-append ns (n ∷ [])

  pub grown_push : (nodes : List Node) → nodes ≡ ns ++ n ∷ [] → Grown ns nodes
  unfolding more
  grown_push nodes is = subst (Grown ns) (sym is) (record { longer = let e : length more ≡ length ns + 1 = long in omega (arith, e); same = old_at })

  pub new_is : (nodes : List Node) → nodes ≡ ns ++ n ∷ [] → at nodes (length ns) ≡ tree (at ns) n
  unfolding more
  new_is nodes is = ap (λ l. at l (length ns)) is ∙ new_at

  -- where it stands nowhere yet
  module _ (lacks : Lacks ns n) where
    clash : (i : ℕ) → i < length ns → at more i ≡ at more (length ns) → ⊥
    clash i h e = lacks i h (tree_injective (at ns) (length ns) t.once (get_or ns i Void) n (below_all i h) below (t.proper i h) proper (sym (t.layers i h) ∙ sym (old_at i h) ∙ e ∙ new_at))

    single : (i : ℕ) → i < length ns + 1 → (j : ℕ) → j < length ns + 1 → at more i ≡ at more j → i ≡ j
    single = below_more (λ i. (j : ℕ) → j < length ns + 1 → at more i ≡ at more j → i ≡ j) (length ns)
        (λ i h. below_more (λ j. at more i ≡ at more j → i ≡ j) (length ns) (λ j g e. t.once i j h g (sym (old_at i h) ∙ e ∙ old_at j g)) (λ e. absurd (clash i h e)))
        (below_more (λ j. at more (length ns) ≡ at more j → length ns ≡ j) (length ns) (λ j g e. absurd (clash j g (sym e))) (λ e. refl))

    -- what is kept stays so
    facts_stay : (i : ℕ) (f : Facts) → i < length ns → AreFacts ns i f → AreFacts more i f
    facts_stay i f h k =
        let b = k.bare_before in
        record {
          depth = k.depth ∙ ap type_depth (sym (old_at i h));
          shallow = k.shallow;
          bare_before = k.bare_before;
          bare_is = old_at f.bare (omega arith) ∙ k.bare_is ∙ ap bare (sym (old_at i h));
          extent = k.extent ∙ ap extent_of (sym (old_at i h));
        }

    facts_new : (f : Facts) → AreNodeFacts ns n f → AreFacts more (length ns) f
    unfolding more
    facts_new f k = record { depth = k.depth ∙ ap type_depth (sym new_at); shallow = k.shallow; bare_before = k.bare_before; bare_is = k.bare_is ∙ ap bare (sym new_at); extent = k.extent ∙ ap extent_of (sym new_at) }

    last : (gs : List Facts) (f : Facts) (i : ℕ) (g : Facts) → slice_get (gs ++ f ∷ []) i ≡ Some g → (slice_get gs i ≡ Some g) ⊎ ((i ≡ length gs) × (g ≡ f))
    last [] f zero g e = inr (refl, same_Some _ _ (sym e))
    last [] f (suc i) g e = cc
    last (x ∷ gs) f zero g e = inl e
    last (x ∷ gs) f (suc i) g e = elim (last gs f i g e) [
      | inl h ↦ inl h
      | inr h ↦ inr (ap suc h.0, h.1)
    ]

    table_more : (f : Facts) → AreNodeFacts ns n f → length fs ≡ length ns → length ns < 4294967296 → IsTable more (fs ++ f ∷ [])
    table_more f facts beside few =
        let e : length more ≡ length ns + 1 = long in
        record {
          layers = λ i h. layer i (omega (arith, e, h));
          below = λ i h. under i (omega (arith, e, h));
          proper = λ i h. still i (omega (arith, e, h));
          once = λ i j h g. single i (omega (arith, e, h)) j (omega (arith, e, g));
          few = omega (arith, e, few);
          kept = λ i g h. elim (last fs f i g h) [
            | inl old ↦ facts_stay i g (let w = slice_get_within fs i g old in omega arith) (t.kept i g old)
            | inr new ↦ let at_end : i ≡ length ns = new.0 ∙ beside in rw (at_end, new.1) (facts_new f facts)
          ];
        }

    pub table_push : (f : Facts) → AreNodeFacts ns n f → length fs ≡ length ns → length ns < 4294967296 → (nodes : List Node) (facts : List Facts) → nodes ≡ ns ++ n ∷ [] → facts ≡ fs ++ f ∷ [] → IsTable nodes facts
    unfolding more
    table_push f k beside few nodes facts is fact = rw (is, fact) (table_more f k beside few)

-- what is kept at a number
pub facts_of : (es : List (Node × Facts)) (i : ℕ) (k : Node) (f : Facts) → slice_get es i ≡ Some (k, f) → IsTable (keys_of es) (values_of es) → AreFacts (keys_of es) i f
facts_of es i k f h t = t.kept i f (slice_get-map (λ e. e.1) es i ∙ ap (option_map (λ e. e.1)) h)

-- the number of a new node's type without qualifiers
pub new_bare : (ns : List Node) (n : Node) (o : Option ℕ) (number b : ℕ) → IsBareOf ns n o → number ≡ length ns → b ≡ unwrap_or o number → (b ≤ length ns) × (at (ns ++ n ∷ []) b ≡ bare (tree (at ns) n))
new_bare ns n None number b h e is = (omega arith, at_push ns n b (is ∙ e) ∙ sym h)
new_bare ns n (Some k) number b h e is = let l = h.0 in (omega arith, ap (at (ns ++ n ∷ [])) is ∙ at_append ns (n ∷ []) k h.0 ∙ h.1)

-- what each type has, and a new node's
pub each_push : (p : TypeTree → Bool) (ns nodes : List Node) (n : Node) → nodes ≡ ns ++ n ∷ [] → Each p ns → p (tree (at ns) n) ≡ true → Each p nodes
each_push p ns nodes n is h e =
    let long = length-append ns (n ∷ []) in
    let more = below_more (λ i. p (at (ns ++ n ∷ []) i) ≡ true) (length ns) (λ i w. ap p (at_append ns (n ∷ []) i w) ∙ h i w) (ap p (at_push ns n (length ns) refl) ∙ e) in
    subst (Each p) (sym is) (λ i w. more i (omega (arith, long, w)))

-- ---- what gives each number its type
pub fits_grown : (m : ℕ → TypeTree) (old new : List Node) → Grown old new → Fits m new → Fits m old
fits_grown m old new g fits = record { by = λ i h. let l = g.longer in fits.by i (omega arith) ∙ g.same i h }

pub grown_trans : (a b c : List Node) → Grown a b → Grown b c → Grown a c
grown_trans a b c g h = record { longer = let l = g.longer in let k = h.longer in omega arith; same = λ i w. let l = g.longer in h.same i (omega arith) ∙ g.same i w }

pub grown_self : (a : List Node) → Grown a a
grown_self a = record { longer = omega arith; same = λ i h. refl }

pub fits_at : (ns : List Node) → Fits (at ns) ns
fits_at ns = record { by = λ i h. refl }

pub fits_node : (ns : List Node) (fs : List Facts) → IsTable ns fs → (m : ℕ → TypeTree) → Fits m ns → (i : ℕ) → i < length ns → m i ≡ tree m (get_or ns i Void)
fits_node ns fs t m fits i h = fits.by i h ∙ t.layers i h ∙ tree_same (at ns) m i (get_or ns i Void) (t.below i h) (λ j g. sym (fits.by j (omega (arith, g, h))))

pub fits_proper : (ns : List Node) (fs : List Facts) → IsTable ns fs → (m : ℕ → TypeTree) → Fits m ns → (i : ℕ) → i < length ns → IsProper m (get_or ns i Void)
fits_proper ns fs t m fits i h = proper_same (at ns) m i (get_or ns i Void) (t.below i h) (λ j g. sym (fits.by j (omega (arith, g, h)))) (t.proper i h)

pub fits_once : (ns : List Node) (fs : List Facts) → IsTable ns fs → (m : ℕ → TypeTree) → Fits m ns → (i j : ℕ) → i < length ns → j < length ns → m i ≡ m j → i ≡ j
fits_once ns fs t m fits i j h g e = t.once i j h g (sym (fits.by i h) ∙ e ∙ fits.by j g)

-- the type of a node in the table that it was put into
pub put_fits : (old new : List Node) (n : Node) (i : ℕ) → Grown old new → Below (length old) n → i < length new → at new i ≡ tree (at old) n → (m : ℕ → TypeTree) → Fits m new → m i ≡ tree m n
put_fits old new n i g below known is m fits =
    fits.by i known ∙ is ∙ tree_same (at old) m (length old) n below (λ j h. let l = g.longer in sym (fits.by j (omega arith) ∙ g.same j h))

-- the table without a node
pub no_table : IsTable [] []
unfolding grown
no_table = record { layers = λ i h. absurd (omega arith); below = λ i h. absurd (omega arith); proper = λ i h. absurd (omega arith); once = λ i j h g. absurd (omega arith); few = omega arith; kept = λ i f e. cc }

pub values_beside : (es : List (Node × Facts)) → length (values_of es) ≡ length (keys_of es)
values_beside es = length-map es (λ e. e.1) ∙ sym (length-map es (λ e. e.0))

-- ---- `const`

-- the type of a number by its node
pub layer_is : (ns : List Node) (fs : List Facts) → IsTable ns fs → (i : ℕ) (n k : Node) → i < length ns → n ≡ get_or ns i Void → n ≡ k → at ns i ≡ tree (at ns) k
layer_is ns fs t i n k h e f = t.layers i h ∙ ap (tree (at ns)) (sym e ∙ f)

pub below_is : (ns : List Node) (fs : List Facts) → IsTable ns fs → (i : ℕ) (n k : Node) → i < length ns → n ≡ get_or ns i Void → n ≡ k → Below i k
below_is ns fs t i n k h e f = subst (Below i) (sym e ∙ f) (t.below i h)

pub proper_is : (ns : List Node) (fs : List Facts) → IsTable ns fs → (i : ℕ) (n k : Node) → i < length ns → n ≡ get_or ns i Void → n ≡ k → IsProper (at ns) k
proper_is ns fs t i n k h e f = subst (IsProper (at ns)) (sym e ∙ f) (t.proper i h)

pub array_depth : (t u : TypeTree) (count : Option ℕ) → t ≡ Of false (ty.Array u count) → type_depth t ≡ suc (type_depth u)
unfolding type_depth
array_depth t u count e = ap type_depth e

pub array_const : (t u : TypeTree) (count : Option ℕ) → t ≡ Of false (ty.Array u count) → with_const true t ≡ Of false (ty.Array (with_const true u) count)
unfolding with_const
array_const t u count e = ap (with_const true) e
