-- Specifiers with the bodies of structs and enumerations, which stand at file level (C11 6.7.2.1, 6.7.2.2).
use Rattle.std.specs.Prelude.{ℕ, ℤ, pos, ◌+ℤ◌, Bool, true, false, not, ◌&&◌, ◌||◌, if◌then◌else◌, List, [], ◌∷◌, ◌++◌, is_some, Option, Some, None, Ok}
use Rattle.std.specs.Str.{bytes_eq}
use Rattle.pa_tree.specs.declared.expr.Tag.{Tag}
use Rattle.pa_tree.specs.Exprs.{SpecsTree, BaseTree, MemberTree, MemberTrees, EnumeratorTree, EnumeratorTrees, DeclaratorTree, DeclaratorTrees, MaybeExprTree}
use Rattle.pa_tree.specs.Exprs as tree
use Rattle.pa_ctype.specs.Types.{TypeTree, Of, Struct}
use Rattle.pa_ctype.specs.Layouts.{Body, layout_in, struct_layout}
use Rattle.pa_scope.specs.declared.rule.TypeRule.TheVariants.{C2, C11, C14}
use Rattle.pa_scope.specs.Answers.{Answer, breaks_at, then_with}
use Rattle.pa_integer.specs.Integers.{same_int}
use Rattle.pa_rexpr.specs.Constants.{constant_at, in_type}
use Rattle.pa_convert.specs.Conversions.{int, is_complete, is_bounded}
use Rattle.pa_scope.specs.Scope.{Spelling, Scope, Constant, declared, Found, tagged, with_struct, with_enum_tag}
use Rattle.pa_rexpr.specs.Names.{from_of}
use Rattle.pa_rexpr.specs.Values.{read}
use Rattle.pa_rexpr.specs.Declarators.{Name, Base, Based, based, base_type, bearer_of, front_type, front_qualifiers, qualified_base, built, name_of, name_place, declarator_from, forbids_schema}
use Rattle.pa_rexpr.specs.Typing.{typing, qualifiers, parts_of}

-- ---- enumerations (6.7.2.2)

-- the value of the next enumerator, with the scope behind the last one
pub record Counted : Type 0 where
  pub next : ℤ
  pub scope : Scope

-- the value that an enumerator has, and where it is told
pub record Told : Type 0 where
  pub value : ℤ
  pub place : ℕ

abbrev pub enumerator_value : Spelling → ℕ → Counted → MaybeExprTree → Answer Told
enumerator_value spelling place c tree.NoExpr = Ok (record { value = c.next; place = place })
enumerator_value spelling place c (tree.SomeExpr e) =
    then_with (then_with (typing spelling c.scope 0 e) (λ x. constant_at (from_of e) (read x))) (λ z. Ok (record { value = z; place = from_of e }))

-- it is an `int` (6.7.2.2p2)
abbrev pub counted : Told → Scope → Answer Counted
counted t s = if same_int (in_type int t.value) t.value then Ok (record { next = t.value +ℤ pos 1; scope = s }) else breaks_at C14 t.place

abbrev pub enumerator : Spelling → Counted → EnumeratorTree → Answer Counted
enumerator spelling c (tree.OfEnumerator name value a z) =
    then_with (enumerator_value spelling a c value) (λ t. then_with (declared (spelling name) a (Constant t.value false) c.scope) (counted t))

abbrev pub enumerators : Spelling → Counted → EnumeratorTrees → Answer Counted
enumerators spelling c tree.NoEnumerators = Ok c
enumerators spelling c (tree.ConsEnumerator e es) = then_with (enumerator spelling c e) (λ d. enumerators spelling d es)

abbrev pub with_enum : Spelling → Option Tag → Scope → Answer Based
with_enum spelling None s = Ok (based int s)
with_enum spelling (Some tag) s = then_with (with_enum_tag (spelling tag.name) tag.from s) (λ next. Ok (based int next))

-- the tag is in scope behind the body
abbrev pub enum_body : Spelling → Option Tag → Scope → EnumeratorTrees → Answer Based
enum_body spelling tag s es = then_with (enumerators spelling (record { next = pos 0; scope = s }) es) (λ c. with_enum spelling tag c.scope)

-- ---- members (6.7.2.1)

-- the members so far, with the scope behind them
pub record Membered : Type 0 where
  pub fields : Body
  pub scope : Scope

abbrev pub has_field : Body → List ℕ → Bool
has_field [] name = false
has_field (f ∷ fs) name = bytes_eq f.name name || has_field fs name

abbrev pub with_field : List ℕ → TypeTree → Membered → Scope → Membered
with_field name of m s = record { fields = m.fields ++ (record { name = name; of = of } ∷ []); scope = s }

-- a member's name is new, and its type is a complete object type
abbrev pub member_of_type : List ℕ → ℕ → ℕ → TypeTree → Membered → Scope → Answer Membered
member_of_type name at place of m s =
    if has_field m.fields name then breaks_at C2 at
    else if not (is_complete s.structs of && is_bounded s.structs of) then breaks_at C11 place
    else Ok (with_field name of m s)

abbrev pub member_declarators : Spelling → TypeTree → Membered → DeclaratorTrees → Answer Membered
member_declarators spelling of m tree.NoDeclarators = Ok m
member_declarators spelling of m (tree.ConsDeclarator d ds) =
    then_with (then_with (parts_of spelling true Name (Base of) m.scope d) (λ w. member_of_type (name_of spelling d) (name_place d) (declarator_from d) (built of w.parts) m w.scope)) (λ next. member_declarators spelling of next ds)

-- one of the declarators makes the type that of a result
abbrev pub any_forbids : DeclaratorTrees → Bool
any_forbids tree.NoDeclarators = false
any_forbids (tree.ConsDeclarator d ds) = forbids_schema Name d || any_forbids ds

-- ---- structs (6.7.2.1, 6.7.2.3)

-- the tag is in scope in the body, as a struct without one
abbrev pub with_tag : Spelling → Option Tag → Scope → Scope
with_tag spelling None s = s
with_tag spelling (Some tag) s = (tagged (spelling tag.name) s).scope

abbrev pub tag_name : Spelling → Option Tag → Option (List ℕ)
tag_name spelling None = None
tag_name spelling (Some tag) = Some (spelling tag.name)

abbrev pub tag_place : ℕ → Option Tag → ℕ
tag_place place None = place
tag_place place (Some tag) = tag.from

-- the struct with this body, which has a layout
abbrev pub is_laid : Membered → Bool
is_laid m = is_some (struct_layout (layout_in m.scope.structs) m.fields)

abbrev pub laid_at : ℕ → Membered → Found → Answer Based
laid_at place m f = if is_laid m then Ok (based (Of false (Struct f.id)) f.scope) else breaks_at C11 place

abbrev pub struct_of : Spelling → Option Tag → ℕ → Membered → Answer Based
struct_of spelling tag place m = then_with (with_struct (tag_name spelling tag) (tag_place place tag) m.fields m.scope) (laid_at place m)

unfoldable mutual
  -- specifiers at file level; `forbidden`: the type may have no `__ptrauth`
  pub file_specs : Spelling → Bool → Scope → SpecsTree → Answer Based
  file_specs spelling forbidden s (tree.OfSpecs before base after a z) =
      qualified_base (qualifiers spelling s (bearer_of forbidden (front_type spelling s base)) (front_qualifiers spelling s base) before) (file_base spelling s base) (λ q b. qualifiers spelling b.scope (bearer_of forbidden b.of) q after)

  pub file_base : Spelling → Scope → BaseTree → Answer Based
  file_base spelling s (tree.StructBody tag ms a z) = then_with (members spelling (record { fields = []; scope = with_tag spelling tag s }) ms) (struct_of spelling tag a)
  file_base spelling s (tree.EnumBody tag es a z) = enum_body spelling tag s es
  file_base spelling s base = base_type spelling true s base

  pub members : Spelling → Membered → MemberTrees → Answer Membered
  members spelling m tree.NoMembers = Ok m
  members spelling m (tree.ConsMember first rest) = then_with (member spelling m first) (λ next. members spelling next rest)

  pub member : Spelling → Membered → MemberTree → Answer Membered
  member spelling m (tree.OfMember sp ds a z) = then_with (file_specs spelling (any_forbids ds) m.scope sp) (λ b. member_declarators spelling b.of (record m { scope = b.scope }) ds)
