-- Specifiers, qualifiers and declarators (C11 6.7.2, 6.7.3, 6.7.6, 6.7.7; `__ptrauth` of Clang's Pointer Authentication page), as far
-- as they don't lead back to expressions.
use Rattle.std.specs.Prelude.{ℕ, ◌^◌, nat_lt, ℤ, pos, negsuc, int_lt, int_le, Bool, true, false, not, ◌&&◌, ◌||◌, if◌then◌else◌, List, [], ◌∷◌, ◌++◌, length, slice_get, is_some, Option, Some, None, Ok}
use Rattle.pa_pac.specs.declared.schema.Schema.{Schema}
use Rattle.pa_pac.specs.declared.key.Key.TheVariants.{IA}
use Rattle.pa_tree.specs.declared.operator.IntegerWord.{IntegerWord}
use Rattle.pa_tree.specs.declared.operator.IntegerWord.TheVariants as word
use Rattle.pa_tree.specs.Exprs.{BaseTree, DeclaratorTree}
use Rattle.pa_tree.specs.Exprs as tree
use Rattle.pa_tree.specs.Files.{declared_name}
use Rattle.pa_ctype.specs.Types.{TypeTree, Of, Boolean, Pointer, Array, Struct, Function, TypeTrees, Nil, Cons}
use Rattle.pa_ctype.specs.Layouts.{Table}
use Rattle.pa_scope.specs.declared.rule.TypeRule.{TypeRule}
use Rattle.pa_scope.specs.declared.rule.TypeRule.TheVariants.{C1, C2, C11, C14, C17, C18, C19, C22, C23, C24}
use Rattle.pa_scope.specs.Answers.{Answer, breaks_at, then_with, checked}
use Rattle.pa_convert.specs.Conversions.{integer, int, void, is_function, is_array, is_struct, is_function_pointer, is_complete, is_bounded, schema_of, adjusted}
use Rattle.pa_ctype.specs.Qualifiers.{with_const, without_const}
use Rattle.pa_rexpr.specs.Names.{is_reserved}
use Rattle.pa_scope.specs.Scope.{Spelling, Scope, Meaning, Local, TypeName, meaning, in_block, with_name, tagged, struct_tag, has_enum_tag}

-- ---- what a type is for, and what a declarator stands on

-- the type of a declared name, of a parameter, of a cast, or the operand of `sizeof`
pub data Use : Type 0 where
  Name : Use
  Parameter : Use
  CastTarget : Use
  Operand : Use

-- What a part of a declarator makes a pointer, an array or a function of: the type of the specifiers, or another part, which stands
-- behind it in the source and is known by its kind alone.
pub data Around : Type 0 where
  Base : (of : TypeTree) → Around
  APointer : Around
  AnArray : (has_length : Bool) → Around
  AFunction : Around

abbrev pub is_function_around : Around → Bool
is_function_around (Base of) = is_function of
is_function_around AFunction = true
is_function_around _ = false

abbrev pub is_array_around : Around → Bool
is_array_around (Base of) = is_array of
is_array_around (AnArray has_length) = true
is_array_around _ = false

-- a complete object type, whose size is looked at later
abbrev pub is_complete_around : Table → Around → Bool
is_complete_around table (Base of) = is_complete table of
is_complete_around table APointer = true
is_complete_around table (AnArray has_length) = has_length
is_complete_around table AFunction = false

abbrev pub has_schema_around : Around → Bool
has_schema_around (Base of) = is_some (schema_of of)
has_schema_around _ = false

abbrev pub is_struct_around : Around → Bool
is_struct_around (Base of) = is_struct of
is_struct_around _ = false

-- ---- the shape of a declarator

abbrev pub is_function_part : DeclaratorTree → Bool
is_function_part (tree.Grouped inner a z) = is_function_part inner
is_function_part (tree.Function of parameters a z) = true
is_function_part _ = false

abbrev pub is_name_alone : DeclaratorTree → Bool
is_name_alone (tree.Named name a z) = true
is_name_alone (tree.Absent a z) = true
is_name_alone (tree.Grouped inner a z) = is_name_alone inner
is_name_alone _ = false

abbrev pub spelled : Spelling → Option ℕ → List ℕ
spelled spelling None = []
spelled spelling (Some name) = spelling name

-- the name that a declarator declares, or nothing
abbrev pub name_of : Spelling → DeclaratorTree → List ℕ
name_of spelling declarator = spelled spelling (declared_name declarator)

-- where the name stands, or would
abbrev pub name_place : DeclaratorTree → ℕ
name_place (tree.Named name a z) = a
name_place (tree.Absent a z) = a
name_place (tree.Pointer qs of a z) = name_place of
name_place (tree.Grouped inner a z) = name_place inner
name_place (tree.Array of length a z) = name_place of
name_place (tree.Function of parameters a z) = name_place of

abbrev pub is_kept_plain : Use → Bool
is_kept_plain Parameter = true
is_kept_plain CastTarget = true
is_kept_plain _ = false

-- what the declarator is applied to is the type of a parameter, a result or a cast, which has no `__ptrauth`
abbrev pub forbids_schema : Use → DeclaratorTree → Bool
forbids_schema purpose declarator = is_function_part declarator || (is_name_alone declarator && is_kept_plain purpose)

-- ---- qualifiers

pub record Qualifiers : Type 0 where
  pub constant : Bool
  pub schema : Option Schema

abbrev pub unqualified : Qualifiers
unqualified = record { constant = false; schema = None }

-- what a qualifier stands on: whether that is a pointer to a function, and may have a schema
pub record Bearer : Type 0 where
  pub signable : Bool
  pub forbidden : Bool

abbrev pub number_or_zero : Option ℤ → ℤ
number_or_zero None = pos 0
number_or_zero (Some z) = z

-- an argument that is left out counts as 0
abbrev pub argument : ℕ → List ℤ → ℤ
argument index arguments = number_or_zero (slice_get arguments index)

abbrev pub place_or : ℕ → Option ℕ → ℕ
place_or place None = place
place_or place (Some at) = at

abbrev pub natural : ℤ → ℕ
natural (pos n) = n
natural (negsuc n) = 0

abbrev pub lies_below : ℤ → ℕ → Bool
lies_below z most = int_le (pos 0) z && int_lt z (pos most)

abbrev pub is_positive : ℤ → Bool
is_positive z = int_lt (pos 0) z

abbrev pub signed_with : Qualifiers → List ℤ → Qualifiers
signed_with q arguments = record q { schema = Some (record { key = IA; addr = is_positive (argument 1 arguments); disc = natural (argument 2 arguments) }) }

-- A `__ptrauth` at a place, with the places and values of its arguments: the address flag is 0 or 1 and the discriminator has 16
-- bits; it stands on a pointer to a function that has none yet; its key is that of functions.
abbrev pub with_ptrauth : ℕ → List ℕ → List ℤ → Bearer → Qualifiers → Answer Qualifiers
with_ptrauth place places arguments on q =
    if not (lies_below (argument 1 arguments) 2) then breaks_at C14 (place_or place (slice_get places 1))
    else if not (lies_below (argument 2 arguments) (2 ^ 16)) then breaks_at C14 (place_or place (slice_get places 2))
    else if not on.signable || is_some q.schema then breaks_at C17 place
    else if on.forbidden then breaks_at C18 place
    else if not (lies_below (argument 0 arguments) 1) then breaks_at C19 (place_or place (slice_get places 0))
    else Ok (signed_with q arguments)

abbrev pub with_schema : Option Schema → TypeTree → TypeTree
with_schema schema (Of c (Pointer to old)) = Of c (Pointer to schema)
with_schema schema t = t

abbrev pub qualified : Qualifiers → TypeTree → TypeTree
qualified q t = with_schema q.schema (with_const q.constant t)

-- ---- base types (6.7.2)

abbrev pub has_word : (IntegerWord → Bool) → List IntegerWord → Bool
has_word is [] = false
has_word is (w ∷ ws) = is w || has_word is ws

abbrev pub is_char : IntegerWord → Bool
is_char word.Char = true
is_char _ = false

abbrev pub is_short : IntegerWord → Bool
is_short word.Short = true
is_short _ = false

abbrev pub is_long : IntegerWord → Bool
is_long word.Long = true
is_long _ = false

abbrev pub is_unsigned : IntegerWord → Bool
is_unsigned word.Unsigned = true
is_unsigned _ = false

abbrev pub bits_of : List IntegerWord → ℕ
bits_of ws = if has_word is_char ws then 8 else if has_word is_short ws then 16 else if has_word is_long ws then 64 else 32

abbrev pub words_type : List IntegerWord → TypeTree
words_type ws = integer (bits_of ws) (not (has_word is_unsigned ws))

abbrev pub typedef_by : Option Meaning → TypeTree
typedef_by (Some (TypeName of)) = of
typedef_by _ = void

abbrev pub typedef_type : Scope → List ℕ → TypeTree
typedef_type s name = typedef_by (meaning s name)

-- the type that a qualifier in front of the base stands on: that of a typedef, or one that is no pointer
abbrev pub front_type : Spelling → Scope → BaseTree → TypeTree
front_type spelling s (tree.TypedefName name a z) = typedef_type s (spelling name)
front_type spelling s _ = void

abbrev pub bearer_of : Bool → TypeTree → Bearer
bearer_of forbidden of = record { signable = is_function_pointer of; forbidden = forbidden }

-- a type, with the scope behind it
pub record Based : Type 0 where
  pub of : TypeTree
  pub scope : Scope

abbrev pub based : TypeTree → Scope → Based
based of s = record { of = of; scope = s }

abbrev pub known_struct : ℕ → Scope → Option ℕ → Answer Based
known_struct place s None = breaks_at C1 place
known_struct place s (Some id) = Ok (based (Of false (Struct id)) s)

-- a tag of a struct that isn't known is a new one, but not in an expression
abbrev pub struct_named : Bool → List ℕ → ℕ → Scope → Answer Based
struct_named true tag place s = Ok (based (Of false (Struct (tagged tag s).id)) (tagged tag s).scope)
struct_named false tag place s = known_struct place s (struct_tag s tag)

-- the type of a base without a body; `grows`: it may bring in the tag of a struct. A name of a type is an ordinary
-- name (6.2.3), so it may not begin with `ptrauth_`.
-- Bodies stand at file level alone, and what they would be here is never asked.
abbrev pub base_type : Spelling → Bool → Scope → BaseTree → Answer Based
base_type spelling grows s (tree.Void a z) = Ok (based void s)
base_type spelling grows s (tree.Boolean a z) = Ok (based (Of false Boolean) s)
base_type spelling grows s (tree.Words words a z) = Ok (based (words_type words) s)
base_type spelling grows s (tree.TypedefName name a z) = if is_reserved (spelling name) then breaks_at C24 a else Ok (based (typedef_type s (spelling name)) s)
base_type spelling grows s (tree.StructTag tag a z) = struct_named grows (spelling tag.name) a s
base_type spelling grows s (tree.EnumTag tag a z) = if has_enum_tag s (spelling tag.name) then Ok (based int s) else breaks_at C1 a
base_type spelling grows s (tree.StructBody tag ms a z) = breaks_at C1 a
base_type spelling grows s (tree.EnumBody tag es a z) = breaks_at C1 a

abbrev pub front_qualifiers : Spelling → Scope → BaseTree → Qualifiers
front_qualifiers spelling s base = record { constant = false; schema = schema_of (front_type spelling s base) }

-- a base with the qualifiers in front of it and behind it
abbrev pub qualified_base : Answer Qualifiers → Answer Based → (Qualifiers → Based → Answer Qualifiers) → Answer Based
qualified_base before base after = then_with before (λ q. then_with base (λ b. then_with (after q b) (λ r. Ok (based (qualified r b.of) b.scope))))

-- ---- parts of a declarator

-- a parameter, whose name may be missing
pub record Param : Type 0 where
  pub name : List ℕ
  pub place : ℕ
  pub of : TypeTree

pub data Part : Type 0 where
  PointerPart : (qualifiers : Qualifiers) → Part
  ArrayPart : (count : Option ℕ) → Part
  FunctionPart : (params : List Param) → Part

abbrev pub param_types : List Param → TypeTrees
param_types [] = Nil
param_types (p ∷ ps) = Cons (without_const p.of) (param_types ps)

abbrev pub with_part : Part → TypeTree → TypeTree
with_part (PointerPart q) of = Of q.constant (Pointer of q.schema)
with_part (ArrayPart count) of = Of false (Array of count)
with_part (FunctionPart params) of = Of false (Function (param_types params) of)

-- the type that a declarator makes of a type (6.7.6p4 to p6); the part next to the name comes first
abbrev pub built : TypeTree → List Part → TypeTree
built of [] = of
built of (part ∷ parts) = with_part part (built of parts)

-- parts with the scope behind them
pub record Walked : Type 0 where
  pub parts : List Part
  pub scope : Scope

abbrev pub behind : Walked → Part → Scope → Walked
behind w part s = record { parts = w.parts ++ (part ∷ []); scope = s }

abbrev pub pointer_bearer : Use → Around → DeclaratorTree → Bearer
pointer_bearer purpose around of = record { signable = is_function_around around; forbidden = forbids_schema purpose of }

-- an array (6.7.6.2p1): the elements are complete, and there is at least one
abbrev pub array_part : ℕ → Around → Walked → Option ℕ → Answer Walked
array_part place around w count =
    if is_complete_around w.scope.structs around then Ok (behind w (ArrayPart count) w.scope) else breaks_at C11 place

abbrev pub array_of_length : ℕ → Around → Walked → ℕ → ℤ → Answer Walked
array_of_length place around w at z =
    then_with (array_part place around w (Some (natural z))) (λ done. if int_lt z (pos 1) then breaks_at C14 at else Ok done)

-- the result of a function is no function and no array, has no schema and is no struct; it has eight parameters at most
abbrev pub function_rule : Around → List Param → Option TypeRule
function_rule around params =
    if is_function_around around || is_array_around around then Some C11
    else if has_schema_around around then Some C18
    else if nat_lt 8 (length params) then Some C22
    else if is_struct_around around then Some C23
    else None

-- parameters with the scope behind them
pub record Params : Type 0 where
  pub params : List Param
  pub scope : Scope

abbrev pub function_part : ℕ → Around → Walked → Params → Answer Walked
function_part place around w p = checked place (function_rule around p.params) (behind w (FunctionPart p.params) p.scope)

-- ---- parameters (6.7.6.3)

abbrev pub is_named : List ℕ → Bool
is_named [] = false
is_named (c ∷ cs) = true

-- A parameter's type is bounded as it is written and complete as it is adjusted. It has no schema, which only a typedef could still
-- bring, and is no struct.
abbrev pub parameter_rule : Table → TypeTree → Option TypeRule
parameter_rule table written =
    if not (is_complete table (adjusted written) && is_bounded table written) then Some C11
    else if is_some (schema_of (adjusted written)) then Some C18
    else if is_struct written then Some C23
    else None

abbrev pub with_parameter : List ℕ → ℕ → TypeTree → Scope → Params
with_parameter name at of s =
    record { params = record { name = name; place = at; of = of } ∷ []; scope = if is_named name then with_name name (Local 0 of) s else s }

-- a parameter of this type as written, whose place and whose name's place these are
abbrev pub parameter_of : ℕ → List ℕ → ℕ → TypeTree → Scope → Answer Params
parameter_of place name at of s =
    if is_named name && is_some (in_block s.block name) then breaks_at C2 at
    else checked place (parameter_rule s.structs of) (with_parameter name at (adjusted of) s)

abbrev pub with_params : Params → Params → Params
with_params first rest = record { params = first.params ++ rest.params; scope = rest.scope }

-- ---- type names (6.7.7)

abbrev pub is_cast_target : Use → Bool
is_cast_target CastTarget = true
is_cast_target _ = false

abbrev pub type_name_rule : Table → Use → TypeTree → Option TypeRule
type_name_rule table purpose of =
    if not (is_bounded table of) then Some C11
    else if is_cast_target purpose && is_some (schema_of of) then Some C18
    else None

-- where a declarator begins
abbrev pub declarator_from : DeclaratorTree → ℕ
declarator_from (tree.Named name a z) = a
declarator_from (tree.Absent a z) = a
declarator_from (tree.Pointer qs of a z) = a
declarator_from (tree.Grouped inner a z) = a
declarator_from (tree.Array of length a z) = a
declarator_from (tree.Function of parameters a z) = a
