-- What is told of a form holds of the type.
use Rattle.std.proofs.Common.{◌≡◌, ℕ, zero, suc, ◌<◌, IsTrue, List, [], ◌∷◌, Option, Some, None, option_map, slice_get, Ok, refl, ap, ◌∙◌, arith}
use Rattle.std.specs.Option.{option_and_then}
use Rattle.std.proofs.lemmas.Option.{slice_get-map}
use Rattle.pa_ctype.specs.declared.ctype.Held.{Held}
use Rattle.pa_ctype.specs.declared.ctype.Member.{Member}
use Rattle.pa_ctype.specs.Layouts.{Field, Body, Table, body_of, member_of, field_of, fields_of, table_of}
use Rattle.pa_ctype.specs.Tables.{types_bound}
use Rattle.pa_ctype.proofs.Laying.{table_body}
use Rattle.pa_ctype.specs.Types.{TypeTree, Of}
use Rattle.pa_ctype.specs.Types as ty
use Rattle.pa_convert.specs.declared.form.Form.{Form}
use Rattle.pa_convert.specs.declared.form.Form.TheVariants.{Void, Boolean, Integer, Pointer, Array, Struct, Function}
use Rattle.pa_convert.specs.Conversions.{is_function}
use Rattle.pa_convert.specs.Forms.{HasForm}
use Rattle.pa_scope.specs.declared.rule.TypeRule.TheVariants.{C12}
use Rattle.pa_scope.specs.Answers.{breaks_at}
use Rattle.pa_rexpr.specs.Values.{Typed}
use Rattle.pa_rexpr.specs.Places.{struct_id, field_at, member_of_type, member_in, member}
use Rattle.pa_place.specs.Answers.{struct_in}

no_struct : (t : TypeTree) → IsTrue (is_function t) → None ≡ struct_id t
no_struct (Of c ty.Void) h = refl
no_struct (Of c ty.Boolean) h = refl
no_struct (Of c (ty.Integer bits signed)) h = refl
no_struct (Of c (ty.Pointer to schema)) h = refl
no_struct (Of c (ty.Array of count)) h = refl
no_struct (Of c (ty.Struct id)) h = cc
no_struct (Of c (ty.Function params result)) h = refl

pub struct_of : (m : ℕ → TypeTree) (f : Form) (t : TypeTree) → HasForm m f t → struct_in f ≡ struct_id t
struct_of m Void t e = rw e refl
struct_of m Boolean t e = rw e refl
struct_of m (Integer bits signed) t e = rw e refl
struct_of m (Pointer to schema) t e = rw e refl
struct_of m (Array of count) t e = rw e refl
struct_of m (Struct id) t e = rw e refl
struct_of m Function t h = no_struct t h

-- ---- members of structs

module _ (names : ℕ → List ℕ) (m : ℕ → TypeTree) where
  of_field : (held : Option Held) → option_map (λ (field : Field). field.of) (option_map (field_of names m) held) ≡ option_map (λ (h : Held). m h.of) held
  of_field None = refl
  of_field (Some held) = refl

  -- the type of a member in a body
  pub field_found : (structs : List (Option (List Held))) (id index : ℕ) (members : List Held)
      → option_and_then (λ body. body) (slice_get structs id) ≡ Some members
      → option_map (λ (field : Field). field.of) (field_at (table_of names m structs) id index) ≡ option_map (λ (held : Held). m held.of) (slice_get members index)
  field_found structs id index members e =
      let body : body_of (table_of names m structs) id ≡ Some (fields_of names m members) = table_body 0 names m structs id ∙ ap (option_map (fields_of names m)) e in
      ap (λ b. option_map (λ (field : Field). field.of) (option_and_then (λ (body : Body). slice_get body index) b)) body
      ∙ ap (option_map (λ (field : Field). field.of)) (slice_get-map (field_of names m) members index)
      ∙ of_field (slice_get members index)

  -- there is no body
  pub field_missing : (structs : List (Option (List Held))) (id index : ℕ)
      → option_and_then (λ body. body) (slice_get structs id) ≡ None
      → option_map (λ (field : Field). field.of) (field_at (table_of names m structs) id index) ≡ None
  field_missing structs id index e =
      let body : body_of (table_of names m structs) id ≡ None = table_body 0 names m structs id ∙ ap (option_map (fields_of names m)) e in
      ap (λ b. option_map (λ (field : Field). field.of) (option_and_then (λ (body : Body). slice_get body index) b)) body

-- the number of a member's type is below the bound
pub type_below : (members : List Held) (index : ℕ) (held : Held) → slice_get members index ≡ Some held → held.of < types_bound members
type_below [] index held e = cc
type_below (first ∷ members) zero held e = let same : first ≡ held = cc in rw same (omega arith)
type_below (first ∷ members) (suc index) held e = omega (arith, type_below members index held e)

-- ---- the member of a name

module _ (table : Table) (place : ℕ) (name : List ℕ) (e : Typed) where
  lacks : (m : Member) (field : Option Field) → None ≡ option_map (λ (f : Field). f.of) field → member_in place e m field ≡ breaks_at C12 place
  lacks m None h = refl
  lacks m (Some f) h = cc

  has : (m : Member) (of : TypeTree) (field : Option Field) → Some of ≡ option_map (λ (f : Field). f.of) field
      → member_in place e m field ≡ Ok (member_of_type e m of)
  has m of None h = cc
  has m of (Some f) h = let same : f.of ≡ of = cc in ap (λ (t : TypeTree). Ok (member_of_type e m t)) same

  pub lacks_member : (id : ℕ) → Some id ≡ struct_id e.of → None ≡ member_of table id name
      → member table place name e ≡ breaks_at C12 place
  lacks_member id some none = rw (← some, ← none) refl

  pub lacks_field : (id : ℕ) (m : Member) → Some id ≡ struct_id e.of → Some m ≡ member_of table id name
      → None ≡ option_map (λ (f : Field). f.of) (field_at table id m.index)
      → member table place name e ≡ breaks_at C12 place
  lacks_field id m some found none = rw (← some, ← found) (lacks m (field_at table id m.index) none)

  pub member_is : (id : ℕ) (m : Member) (of : TypeTree) → Some id ≡ struct_id e.of → Some m ≡ member_of table id name
      → Some of ≡ option_map (λ (f : Field). f.of) (field_at table id m.index)
      → member table place name e ≡ Ok (member_of_type e m of)
  member_is id m of some found field = rw (← some, ← found) (has m of (field_at table id m.index) field)
