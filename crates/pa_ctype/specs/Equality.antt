-- Equality of types, as they are written. It is narrower than what C11 6.2.7 (and 6.7.2, 6.7.3, 6.7.6, which it names) calls
-- compatible.
use Rattle.std.specs.Prelude.{ℕ, Bool, true, false, ◌&&◌, ◌==◌, Option, Some, None}
use Rattle.pa_pac.specs.declared.schema.Schema.{Schema}
use Rattle.pa_pac.specs.Key.{same_key}
use Rattle.pa_ctype.specs.Types.{TypeTree, Of, FormTree, Void, Boolean, Integer, Pointer, Array, Struct, Function, TypeTrees, Nil, Cons}

abbrev pub same_bool : Bool → Bool → Bool
same_bool true b = b
same_bool false true = false
same_bool false false = true

abbrev pub same_schema : Option Schema → Option Schema → Bool
same_schema None None = true
same_schema (Some a) (Some b) = same_key a.key b.key && (same_bool a.addr b.addr && a.disc == b.disc)
same_schema _ _ = false

abbrev pub same_count : Option ℕ → Option ℕ → Bool
same_count None None = true
same_count (Some a) (Some b) = a == b
same_count _ _ = false

-- types that are equal as they are written
unfoldable mutual
  pub same_type : TypeTree → TypeTree → Bool
  same_type (Of a form) (Of b other) = same_bool a b && same_form form other

  pub same_form : FormTree → FormTree → Bool
  same_form Void Void = true
  same_form Boolean Boolean = true
  same_form (Integer a s) (Integer b r) = a == b && same_bool s r
  same_form (Pointer a s) (Pointer b r) = same_type a b && same_schema s r
  same_form (Array a m) (Array b n) = same_type a b && same_count m n
  same_form (Struct a) (Struct b) = a == b
  same_form (Function ps a) (Function qs b) = same_types ps qs && same_type a b
  same_form _ _ = false

  pub same_types : TypeTrees → TypeTrees → Bool
  same_types Nil Nil = true
  same_types (Cons a ps) (Cons b qs) = same_type a b && same_types ps qs
  same_types _ _ = false

-- but for a `const` of their own
abbrev pub same_but_const : TypeTree → TypeTree → Bool
same_but_const (Of a form) (Of b other) = same_form form other
