-- The table of types: nodes, each of which names earlier nodes.
use Rattle.std.specs.Prelude.{◌≡◌, ℕ, ◌<◌, ◌≤◌, ◌*◌, nat_le, ◌||◌, ◌==◌, if◌then◌else◌, Bool, true, false, IsTrue, List, [], ◌∷◌, ◌++◌, length, get_or, slice_get, Option, Some, None, option_map}
use Rattle.pa_pac.specs.declared.key.Key.{Key}
use Rattle.pa_pac.specs.declared.key.Key.TheVariants as key
use Rattle.pa_pac.specs.declared.schema.Schema.{Schema}
use Rattle.pa_ctype.specs.declared.ctype.Layout.{Layout}
use Rattle.pa_ctype.specs.declared.node.SchemaKey.{SchemaKey}
use Rattle.pa_ctype.specs.declared.node.SchemaKey.TheVariants.{IA, IB, DA, DB, GA}
use Rattle.pa_ctype.specs.declared.node.Qualifier.{Qualifier}
use Rattle.pa_ctype.specs.declared.node.Node.{Node}
use Rattle.pa_ctype.specs.declared.node.Node.TheVariants.{Void, Int, Pointer, Array, Struct, Returns, Takes, Constant}
use Rattle.pa_ctype.specs.declared.node.Node.TheVariants as variant
use Rattle.pa_ctype.specs.declared.node.Extent.{Extent}
use Rattle.pa_ctype.specs.declared.node.Extent.TheVariants.{Nowhere, Fixed, Structs}
use Rattle.pa_ctype.specs.declared.node.Facts.{Facts}
use Rattle.pa_ctype.specs.Types.{TypeTree, Of, FormTree, TypeTrees, Nil, Cons, type_depth}
use Rattle.pa_ctype.specs.Types as ty
use Rattle.pa_ctype.specs.Qualifiers.{bare, with_const}
use Rattle.pa_ctype.specs.Layouts.{aligned_to_size, integer_layout, times, most_bytes}

-- ---- the type of a node

abbrev pub key_of : SchemaKey → Key
key_of IA = key.IA
key_of IB = key.IB
key_of DA = key.DA
key_of DB = key.DB
key_of GA = key.GA

abbrev pub schema_of : Qualifier → Schema
schema_of q = record { key = key_of q.key; addr = q.addr; disc = q.disc }

-- a function of one more parameter, which comes first
abbrev pub taking : TypeTree → TypeTree → TypeTree
taking p (Of c (ty.Function params result)) = Of c (ty.Function (Cons p params) result)
taking p t = t

abbrev pub constant : TypeTree → TypeTree
constant (Of c form) = Of true form

-- where numbers stand for these types
abbrev pub tree : (ℕ → TypeTree) → Node → TypeTree
tree m Void = Of false ty.Void
tree m variant.Bool = Of false ty.Boolean
tree m (Int bits signed) = Of false (ty.Integer bits signed)
tree m (Pointer to qualifier) = Of false (ty.Pointer (m to) (option_map schema_of qualifier))
tree m (Array of count) = Of false (ty.Array (m of) count)
tree m (Struct id) = Of false (ty.Struct id)
tree m (Returns of) = Of false (ty.Function Nil (m of))
tree m (Takes param rest) = taking (m param) (m rest)
tree m (Constant of) = constant (m of)

-- ---- the types of a table

-- the numbers in a node
abbrev pub parts : Node → List ℕ
parts (Pointer to qualifier) = to ∷ []
parts (Array of count) = of ∷ []
parts (Returns of) = of ∷ []
parts (Takes param rest) = param ∷ rest ∷ []
parts (Constant of) = of ∷ []
parts _ = []

abbrev pub AllBelow : ℕ → List ℕ → Type 0
AllBelow n [] = Unit {0}
AllBelow n (i ∷ is) = (i < n) × AllBelow n is

-- the node names only these
abbrev pub Below : ℕ → Node → Type 0
Below n node = AllBelow n (parts node)

-- the types of nodes, each over those before it
unfoldable pub grown : List TypeTree → List Node → List TypeTree
grown ts [] = ts
grown ts (n ∷ ns) = grown (ts ++ tree (λ i. get_or ts i (Of false ty.Void)) n ∷ []) ns

abbrev pub trees : List Node → List TypeTree
trees = grown []

-- the type of this number
unfoldable pub at : List Node → ℕ → TypeTree
at ns i = get_or (trees ns) i (Of false ty.Void)

-- m gives each number of the table its type
pub record Fits (m : ℕ → TypeTree) (ns : List Node) : Type 0 where
  pub by : (i : ℕ) → i < length ns → m i ≡ at ns i

-- the table only grows, so what gives each number of the new one its type does so for the old one
pub record Grown (old new : List Node) : Type 0 where
  pub longer : length old ≤ length new
  pub same : (i : ℕ) → i < length old → at new i ≡ at old i

-- ---- one spelling of a type

abbrev pub is_function : TypeTree → Bool
is_function (Of false (ty.Function params result)) = true
is_function _ = false

-- a type that can be made constant by itself: no constant one, no array and no function
abbrev pub takes_const : TypeTree → Bool
takes_const (Of false (ty.Array of count)) = false
takes_const (Of false (ty.Function params result)) = false
takes_const (Of c form) = if c then false else true

-- what is taken behind a parameter is a function; `const` is nowhere but on what takes it
abbrev pub IsProper : (ℕ → TypeTree) → Node → Type 0
IsProper m (Takes param rest) = IsTrue (is_function (m rest))
IsProper m (Constant of) = IsTrue (takes_const (m of))
IsProper m _ = Unit {0}

-- ---- what is kept of a type

abbrev pub fixed : Option Layout → Extent
fixed None = Nowhere
fixed (Some l) = Fixed l

-- an array of that many
abbrev pub many : ℕ → Extent → Extent
many n Nowhere = Nowhere
many n (Fixed l) = fixed (times n l)
many n (Structs id count) = if n == 0 || (if nat_le (n * count) most_bytes then false else true) then Nowhere else Structs id (n * count)

unfoldable mutual
  pub extent_of : TypeTree → Extent
  extent_of (Of c form) = form_extent form

  pub form_extent : FormTree → Extent
  form_extent ty.Void = Nowhere
  form_extent ty.Boolean = Fixed (aligned_to_size 1)
  form_extent (ty.Integer bits signed) = fixed (integer_layout bits)
  form_extent (ty.Pointer to schema) = Fixed (aligned_to_size 8)
  form_extent (ty.Array of None) = Nowhere
  form_extent (ty.Array of (Some count)) = many count (extent_of of)
  form_extent (ty.Struct id) = Structs id 1
  form_extent (ty.Function params result) = Nowhere

-- of the type of this number
pub record AreFacts (ns : List Node) (i : ℕ) (facts : Facts) : Type 0 where
  pub depth : facts.depth ≡ type_depth (at ns i)
  pub shallow : facts.depth ≤ i
  pub bare_before : facts.bare ≤ i
  pub bare_is : at ns facts.bare ≡ bare (at ns i)
  pub extent : facts.extent ≡ extent_of (at ns i)

pub record IsTable (ns : List Node) (facts : List Facts) : Type 0 where
  pub layers : (i : ℕ) → i < length ns → at ns i ≡ tree (at ns) (get_or ns i Void)
  pub below : (i : ℕ) → i < length ns → Below i (get_or ns i Void)
  pub proper : (i : ℕ) → i < length ns → IsProper (at ns) (get_or ns i Void)
  pub once : (i j : ℕ) → i < length ns → j < length ns → at ns i ≡ at ns j → i ≡ j
  pub few : length ns ≤ 4294967296
  pub kept : (i : ℕ) (f : Facts) → slice_get facts i ≡ Some f → AreFacts ns i f

-- the node stands at this number, or nowhere
abbrev pub Stands : List Node → Node → ℕ → Type 0
Stands ns n i = (i < length ns) × (get_or ns i Void ≡ n)

abbrev pub Lacks : List Node → Node → Type 0
Lacks ns n = (i : ℕ) → i < length ns → get_or ns i Void ≡ n → ⊥

-- the number of the type without qualifiers, or None where the node's own type has none
abbrev pub IsBareOf : List Node → Node → Option ℕ → Type 0
IsBareOf ns node None = bare (tree (at ns) node) ≡ tree (at ns) node
IsBareOf ns node (Some b) = (b < length ns) × (at ns b ≡ bare (tree (at ns) node))

-- ---- what the types of a table have in common

-- each type of the table has the property
abbrev pub Each : (TypeTree → Bool) → List Node → Type 0
Each p ns = (i : ℕ) → i < length ns → IsTrue (p (at ns i))

-- a type has the property where the types that it is made of have it
pub record IsInherited (p : TypeTree → Bool) : Type 0 where
  pub bare : (t : TypeTree) → IsTrue (p t) → IsTrue (p (bare t))
  pub constant : (t : TypeTree) → IsTrue (p t) → IsTrue (p (with_const true t))
  pub returns : (r : TypeTree) → IsTrue (p r) → IsTrue (p (Of false (ty.Function Nil r)))
  pub takes : (q t : TypeTree) → IsTrue (p q) → IsTrue (p t) → IsTrue (p (taking q t))

-- a property that each old type has, each new one has
abbrev pub Inherits : List Node → List Node → Type 0
Inherits old new = (p : TypeTree → Bool) → IsInherited p → Each p old → Each p new

-- where this type has it too
abbrev pub InheritsWith : TypeTree → List Node → List Node → Type 0
InheritsWith t old new = (p : TypeTree → Bool) → IsInherited p → Each p old → IsTrue (p t) → Each p new
