-- What names mean at a place of a file (C11 6.2.1, 6.2.3): the declarations of the blocks that are open, the newest first, the tags
-- of structs and enumerations, and the structs.
use Rattle.std.specs.Prelude.{ℕ, ℤ, Bool, true, false, ◌==◌, if◌then◌else◌, List, [], ◌∷◌, ◌++◌, length, Option, Some, None, is_some, Ok, set}
use Rattle.std.specs.Str.{bytes_eq}
use Rattle.pa_ctype.specs.Types.{TypeTree, Of, Array}
use Rattle.pa_ctype.specs.Equality.{same_type}
use Rattle.pa_ctype.specs.Layouts.{Body, Table, body_of}
use Rattle.pa_blocks.specs.Blocks.{or_else}
use Rattle.pa_scope.specs.declared.rule.TypeRule.TheVariants.{C2, C26}
use Rattle.pa_scope.specs.Answers.{Answer, breaks_at}

-- how the names of the file that trees hold as numbers are spelled
abbrev pub Spelling : Type 0
Spelling = ℕ → List ℕ

-- What an ordinary name means. A local goes by its number in its function. A function is a global of a function type. A constant is
-- an enumerator, or brought in by an include line. `Discriminator` is `ptrauth_string_discriminator` of `<ptrauth.h>`.
pub data Meaning : Type 0 where
  Local : (number : ℕ) (of : TypeTree) → Meaning
  Global : (of : TypeTree) → Meaning
  Constant : (value : ℤ) (brought : Bool) → Meaning
  TypeName : (of : TypeTree) → Meaning
  Discriminator : Meaning

pub record Declaration : Type 0 where
  pub name : List ℕ
  pub means : Meaning

-- the tag of a struct, and its place in the table
pub record StructTag : Type 0 where
  pub name : List ℕ
  pub id : ℕ

-- The innermost block comes first, the file last; there is always the file. Tags stand in the order in which they came.
pub record Scope : Type 0 where
  pub block : List Declaration
  pub around : List (List Declaration)
  pub struct_tags : List StructTag
  pub enum_tags : List (List ℕ)
  pub structs : Table

-- at the beginning of a file
abbrev pub no_names : Scope
no_names = record { block = []; around = []; struct_tags = []; enum_tags = []; structs = [] }

-- ---- blocks (6.2.1p4)

abbrev pub entered : Scope → Scope
entered s = record s { block = []; around = s.block ∷ s.around }

abbrev pub left_to : List (List Declaration) → Scope → Scope
left_to [] s = s
left_to (block ∷ around) s = record s { block = block; around = around }

-- without the names of the innermost block; tags and structs stay for the rest of the file
abbrev pub left : Scope → Scope
left s = left_to s.around s

abbrev pub is_file_level : Scope → Bool
is_file_level s = length s.around == 0

-- ---- ordinary names

unfoldable pub in_block : List Declaration → List ℕ → Option Meaning
in_block [] name = None
in_block (d ∷ ds) name = if bytes_eq d.name name then Some d.means else in_block ds name

unfoldable pub in_blocks : List (List Declaration) → List ℕ → Option Meaning
in_blocks [] name = None
in_blocks (block ∷ blocks) name = or_else (in_block block name) (in_blocks blocks name)

-- the innermost meaning of a name
abbrev pub meaning : Scope → List ℕ → Option Meaning
meaning s name = or_else (in_block s.block name) (in_blocks s.around name)

-- with one more name in the innermost block
abbrev pub with_name : List ℕ → Meaning → Scope → Scope
with_name name means s = record s { block = record { name = name; means = means } ∷ s.block }

-- A name that the block has already. At file level functions and objects may be declared again, with the same type.
abbrev pub again : List ℕ → ℕ → Bool → Option Meaning → Meaning → Scope → Answer Scope
again name place file None means s = Ok (with_name name means s)
again name place true (Some (Global t)) (Global u) s = if same_type t u then Ok s else breaks_at C26 place
again name place file (Some m) means s = breaks_at C2 place

-- a declaration of a name, whose place this is (6.7p3, p4)
abbrev pub declared : List ℕ → ℕ → Meaning → Scope → Answer Scope
declared name place means s = again name place (is_file_level s) (in_block s.block name) means s

-- the declaration breaks the rule that a name stands once in a block
abbrev pub clashes : Bool → Option Meaning → Meaning → Bool
clashes file None means = false
clashes true (Some (Global t)) (Global u) = false
clashes file (Some m) means = true

abbrev pub is_twice : List ℕ → Meaning → Scope → Bool
is_twice name means s = clashes (is_file_level s) (in_block s.block name) means

-- an array without a length gets one (6.7.9p22)
abbrev pub with_length : ℕ → TypeTree → TypeTree
with_length count (Of c (Array of None)) = Of c (Array of (Some count))
with_length count t = t

abbrev pub completed_meaning : ℕ → Meaning → Meaning
completed_meaning count (Local number of) = Local number (with_length count of)
completed_meaning count (Global of) = Global (with_length count of)
completed_meaning count m = m

unfoldable pub completed_in : List ℕ → ℕ → List Declaration → List Declaration
completed_in name count [] = []
completed_in name count (d ∷ ds) =
    if bytes_eq d.name name then record d { means = completed_meaning count d.means } ∷ ds else d ∷ completed_in name count ds

abbrev pub is_in : List Declaration → List ℕ → Bool
is_in block name = is_some (in_block block name)

unfoldable pub completed_around : List ℕ → ℕ → List (List Declaration) → List (List Declaration)
completed_around name count [] = []
completed_around name count (block ∷ blocks) =
    if is_in block name then completed_in name count block ∷ blocks else block ∷ completed_around name count blocks

-- the innermost meaning of the name, an array without a length, has this one
abbrev pub completed : List ℕ → ℕ → Scope → Scope
completed name count s =
    if is_in s.block name then record s { block = completed_in name count s.block } else record s { around = completed_around name count s.around }

-- ---- tags and structs (6.2.3, 6.7.2.3)

unfoldable pub tag_in : List StructTag → List ℕ → Option ℕ
tag_in [] tag = None
tag_in (t ∷ ts) tag = if bytes_eq t.name tag then Some t.id else tag_in ts tag

abbrev pub struct_tag : Scope → List ℕ → Option ℕ
struct_tag s tag = tag_in s.struct_tags tag

-- a struct with its id
pub record Found : Type 0 where
  pub id : ℕ
  pub scope : Scope

abbrev pub found_or_new : Option ℕ → List ℕ → Scope → Found
found_or_new (Some id) tag s = record { id = id; scope = s }
found_or_new None tag s =
    record { id = length s.structs; scope = record s { struct_tags = s.struct_tags ++ record { name = tag; id = length s.structs } ∷ []; structs = s.structs ++ (None ∷ []) } }

-- the struct of a tag, a new one without a body where there is none
abbrev pub tagged : List ℕ → Scope → Found
tagged tag s = found_or_new (struct_tag s tag) tag s

abbrev pub has_body : Scope → ℕ → Bool
has_body s id = is_some (body_of s.structs id)

-- the struct with its body
abbrev pub with_body : ℕ → Body → Scope → Scope
with_body id body s = record s { structs = set s.structs id (Some body) }

-- A struct gets its body, which stands behind its members: a tag has one body at most, told at the tag (6.7.2.3p1). Without a tag
-- it is a new struct.
abbrev pub with_new_struct : Body → Scope → Found
with_new_struct body s = record { id = length s.structs; scope = record s { structs = s.structs ++ (Some body ∷ []) } }

abbrev pub with_body_at : ℕ → Body → Found → Answer Found
with_body_at place body f =
    if has_body f.scope f.id then breaks_at C2 place else Ok (record f { scope = with_body f.id body f.scope })

abbrev pub with_struct : Option (List ℕ) → ℕ → Body → Scope → Answer Found
with_struct None place body s = Ok (with_new_struct body s)
with_struct (Some tag) place body s = with_body_at place body (tagged tag s)

unfoldable pub has_name : List (List ℕ) → List ℕ → Bool
has_name [] name = false
has_name (n ∷ ns) name = if bytes_eq n name then true else has_name ns name

abbrev pub has_enum_tag : Scope → List ℕ → Bool
has_enum_tag s tag = has_name s.enum_tags tag

-- a tag of an enumeration, whose place this is, stands once
abbrev pub with_enum_tag : List ℕ → ℕ → Scope → Answer Scope
with_enum_tag tag place s = if has_enum_tag s tag then breaks_at C2 place else Ok (record s { enum_tags = s.enum_tags ++ tag ∷ [] })
