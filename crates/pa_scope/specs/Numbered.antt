-- A scope whose names and types are numbers, and the scope that it is where numbers stand for these names and types.
use Rattle.std.specs.Prelude.{◌≡◌, ℕ, suc, max, ◌≤◌, nat_eq, Bool, true, if◌then◌else◌, List, [], ◌∷◌, length, map, Option, Some, None, Result, Ok, Err}
use Rattle.std.specs.List.{list_any}
use Rattle.std.specs.Map.{lookup}
use Rattle.pa_num.specs.declared.fault.Fault.{Fault}
use Rattle.pa_num.specs.declared.fault.Fault.TheVariants.{Refused, Memory}
use Rattle.pa_ctype.specs.declared.node.Node.{Node}
use Rattle.pa_ctype.specs.declared.node.Node.TheVariants as node
use Rattle.pa_ctype.specs.Types.{TypeTree}
use Rattle.pa_ctype.specs.Nodes.{Fits}
use Rattle.pa_ctype.specs.Layouts.{table_of}
use Rattle.pa_ctype.specs.Tables.{TypeTable, AreApart}
use Rattle.pa_ctype.specs.Equality.{same_type}
use Rattle.pa_blocks.specs.declared.meant.Meant.{Meant}
use Rattle.pa_blocks.specs.declared.meant.Meant.TheVariants as by_number
use Rattle.pa_blocks.specs.Blocks.{Named, Blocks, types_bound, names_bound}
use Rattle.pa_scope.specs.declared.rule.TypeRule.{TypeRule}
use Rattle.pa_scope.specs.declared.rule.TypeRule.TheVariants.{C2, C26}
use Rattle.pa_scope.specs.declared.scope.Repeated.{Repeated}
use Rattle.pa_scope.specs.Answers.{Answer, breaks_at}
use Rattle.pa_scope.specs.Scope.{Meaning, Local, Global, Constant, TypeName, Discriminator, Declaration, StructTag, Scope}

-- tags of structs with ids, and tags of enumerations, in the order in which they came
pub record TagNumbers : Type 0 where
  pub structs : List (ℕ × ℕ)
  pub enums : List ℕ

abbrev pub id_of : List (ℕ × ℕ) → ℕ → Option ℕ
id_of tags tag = lookup (nat_eq tag) tags

abbrev pub has_tag : List ℕ → ℕ → Bool
has_tag tags tag = list_any (nat_eq tag) tags

-- ---- what the numbers stand for

abbrev pub meaning_of : (ℕ → TypeTree) → Meant → Meaning
meaning_of m (by_number.Local number of) = Local number (m of)
meaning_of m (by_number.Global of) = Global (m of)
meaning_of m (by_number.Constant value brought) = Constant value brought
meaning_of m (by_number.TypeName of) = TypeName (m of)
meaning_of m by_number.Discriminator = Discriminator

module _ (names : ℕ → List ℕ) (m : ℕ → TypeTree) where
  abbrev pub declaration_of : Named → Declaration
  declaration_of d = record { name = names d.name; means = meaning_of m d.means }

  abbrev pub block_of : List Named → List Declaration
  block_of = map declaration_of

  abbrev pub struct_tag_of : ℕ × ℕ → StructTag
  struct_tag_of t = record { name = names t.0; id = t.1 }

  abbrev pub scope_by : Blocks → TagNumbers → TypeTable → Scope
  scope_by b tags types = record {
    block = block_of b.block;
    around = map block_of b.around;
    struct_tags = map struct_tag_of tags.structs;
    enum_tags = map names tags.enums;
    structs = table_of names m types.structs;
  }

-- ---- numbers of names, of types and of structs are those of the table

abbrev pub tag_names : List (ℕ × ℕ) → ℕ
tag_names [] = 0
tag_names (t ∷ ts) = max (suc t.0) (tag_names ts)

abbrev pub tag_ids : List (ℕ × ℕ) → ℕ
tag_ids [] = 0
tag_ids (t ∷ ts) = max (suc t.1) (tag_ids ts)

abbrev pub enum_names : List ℕ → ℕ
enum_names [] = 0
enum_names (t ∷ ts) = max (suc t) (enum_names ts)

pub record IsSoundBy (b : Blocks) (tags : TagNumbers) (types : TypeTable) : Type 0 where
  pub names : names_bound b ≤ types.names
  pub types_are : types_bound b ≤ length types.nodes
  pub struct_names : tag_names tags.structs ≤ types.names
  pub struct_ids : tag_ids tags.structs ≤ length types.structs
  pub enum_names_are : enum_names tags.enums ≤ types.names

-- so for any names that are told apart and any types that fit the table
abbrev pub ForNames : TypeTable → ((ℕ → List ℕ) → (ℕ → TypeTree) → Type 0) → Type 0
ForNames t P = (names : ℕ → List ℕ) (m : ℕ → TypeTree) → Fits m t.nodes → AreApart t.names names → P names m

-- what a call may answer that leaves this scope, where the definition has this answer: want of memory says nothing
abbrev pub Meets : {T : Type 0} → Result T (Fault TypeRule) → Answer Scope → Scope → Type 0
Meets (Ok done) answer after = answer ≡ Ok after
Meets (Err (Refused rule place)) answer after = answer ≡ breaks_at rule place
Meets (Err Memory) answer after = Unit {0}

-- ---- arrays without a length

-- the type of an object or a function
abbrev pub object_type : Option Meant → Option ℕ
object_type (Some (by_number.Local number of)) = Some of
object_type (Some (by_number.Global of)) = Some of
object_type means = None

-- what an array without a length holds
abbrev pub open_element : Node → Option ℕ
open_element (node.Array of None) = Some of
open_element other = None

-- ---- a name that the block has already

-- a function or an object of the file that is declared again
abbrev pub both_global : Bool → Meant → Meant → Option Repeated
both_global true (by_number.Global before) (by_number.Global now) = Some (record { before = before; now = now })
both_global file before means = None

-- such a declaration has the same type; any other may not stand there
abbrev pub repeats : (ℕ → TypeTree) → ℕ → Scope → Option Repeated → Answer Scope
repeats m place s None = breaks_at C2 place
repeats m place s (Some types) = if same_type (m types.before) (m types.now) then Ok s else breaks_at C26 place
