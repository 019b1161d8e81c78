-- What is said to be the same is equal, and what is equal is said to be.
use Rattle.std.proofs.Common.{◌≡◌, ℕ, Bool, true, false, ◌&&◌, ◌==◌, Option, Some, None, refl, sym, ap, ◌∙◌}
use Rattle.std.proofs.lemmas.Bool.{eqb-true, eq-eqb}
use Rattle.pa_pac.specs.declared.key.Key.{Key}
use Rattle.pa_pac.specs.declared.key.Key.TheVariants.{IA, IB, DA, DB, GA}
use Rattle.pa_pac.specs.declared.schema.Schema.{Schema}
use Rattle.pa_pac.specs.Key.{key_number, same_key}
use Rattle.pa_ctype.specs.Types.{TypeTree, Of, FormTree, Void, Boolean, Integer, Pointer, Array, Struct, Function, TypeTrees, Nil, Cons}
use Rattle.pa_ctype.specs.Equality.{same_bool, same_schema, same_count, same_type, same_form, same_types, same_but_const}
use Rattle.pa_ctype.specs.Qualifiers.{without_const}

both_true : (a b : Bool) → (a && b) ≡ true → (a ≡ true) × (b ≡ true)
both_true true b e = (refl, e)
both_true false b e = cc

true_both : (a b : Bool) → a ≡ true → b ≡ true → (a && b) ≡ true
true_both a b e f = rw (e, f) refl

bool_is : (a b : Bool) → same_bool a b ≡ true → a ≡ b
bool_is true true e = refl
bool_is true false e = cc
bool_is false true e = cc
bool_is false false e = refl

bool_self : (a : Bool) → same_bool a a ≡ true
bool_self true = refl
bool_self false = refl

key_is : (a b : Key) → same_key a b ≡ true → a ≡ b
key_is IA IA e = refl
key_is IB IB e = refl
key_is DA DA e = refl
key_is DB DB e = refl
key_is GA GA e = refl
key_is a b e = cc

key_self : (a : Key) → same_key a a ≡ true
key_self a = eq-eqb (key_number a) (key_number a) refl

abbrev schema_of : Key → Bool → ℕ → Schema
schema_of key addr disc = record { key = key; addr = addr; disc = disc }

schema_is : (a b : Option Schema) → same_schema a b ≡ true → a ≡ b
schema_is None None e = refl
schema_is None (Some b) e = cc
schema_is (Some a) None e = cc
schema_is (Some a) (Some b) e =
    let k = both_true (same_key a.key b.key) (same_bool a.addr b.addr && a.disc == b.disc) e in
    let l = both_true (same_bool a.addr b.addr) (a.disc == b.disc) k.1 in
    ap (λ x. Some (schema_of x a.addr a.disc)) (key_is a.key b.key k.0) ∙ ap (λ x. Some (schema_of b.key x a.disc)) (bool_is a.addr b.addr l.0) ∙ ap (λ x. Some (schema_of b.key b.addr x)) (eqb-true a.disc b.disc l.1)

schema_self : (a : Option Schema) → same_schema a a ≡ true
schema_self None = refl
schema_self (Some a) =
    true_both (same_key a.key a.key) (same_bool a.addr a.addr && a.disc == a.disc) (key_self a.key) (true_both (same_bool a.addr a.addr) (a.disc == a.disc) (bool_self a.addr) (eq-eqb a.disc a.disc refl))

count_is : (a b : Option ℕ) → same_count a b ≡ true → a ≡ b
count_is None None e = refl
count_is None (Some b) e = cc
count_is (Some a) None e = cc
count_is (Some a) (Some b) e = ap Some (eqb-true a b e)

count_self : (a : Option ℕ) → same_count a a ≡ true
count_self None = refl
count_self (Some a) = eq-eqb a a refl

mutual
  unfolding same_type same_form same_types

  pub type_is : (a b : TypeTree) → same_type a b ≡ true → a ≡ b
  type_is (Of c form) (Of d other) e =
      let k = both_true (same_bool c d) (same_form form other) e in
      ap (λ x. Of x form) (bool_is c d k.0) ∙ ap (Of d) (form_is form other k.1)

  pub form_is : (a b : FormTree) → same_form a b ≡ true → a ≡ b
  form_is Void Void e = refl
  form_is Boolean Boolean e = refl
  form_is (Integer m s) (Integer n r) e = let k = both_true (m == n) (same_bool s r) e in ap (λ x. Integer x s) (eqb-true m n k.0) ∙ ap (Integer n) (bool_is s r k.1)
  form_is (Pointer a s) (Pointer b r) e = let k = both_true (same_type a b) (same_schema s r) e in ap (λ x. Pointer x s) (type_is a b k.0) ∙ ap (Pointer b) (schema_is s r k.1)
  form_is (Array a m) (Array b n) e = let k = both_true (same_type a b) (same_count m n) e in ap (λ x. Array x m) (type_is a b k.0) ∙ ap (Array b) (count_is m n k.1)
  form_is (Struct m) (Struct n) e = ap Struct (eqb-true m n e)
  form_is (Function ps a) (Function qs b) e = let k = both_true (same_types ps qs) (same_type a b) e in ap (λ x. Function x a) (types_are ps qs k.0) ∙ ap (Function qs) (type_is a b k.1)
  form_is a b e = cc

  types_are : (a b : TypeTrees) → same_types a b ≡ true → a ≡ b
  types_are Nil Nil e = refl
  types_are (Cons a ps) (Cons b qs) e = let k = both_true (same_type a b) (same_types ps qs) e in ap (λ x. Cons x ps) (type_is a b k.0) ∙ ap (Cons b) (types_are ps qs k.1)
  types_are a b e = cc

mutual
  unfolding same_type same_form same_types

  pub type_self : (a : TypeTree) → same_type a a ≡ true
  type_self (Of c form) = true_both (same_bool c c) (same_form form form) (bool_self c) (form_self form)

  pub form_self : (a : FormTree) → same_form a a ≡ true
  form_self Void = refl
  form_self Boolean = refl
  form_self (Integer m s) = true_both (m == m) (same_bool s s) (eq-eqb m m refl) (bool_self s)
  form_self (Pointer a s) = true_both (same_type a a) (same_schema s s) (type_self a) (schema_self s)
  form_self (Array a m) = true_both (same_type a a) (same_count m m) (type_self a) (count_self m)
  form_self (Struct m) = eq-eqb m m refl
  form_self (Function ps a) = true_both (same_types ps ps) (same_type a a) (types_self ps) (type_self a)

  types_self : (a : TypeTrees) → same_types a a ≡ true
  types_self Nil = refl
  types_self (Cons a ps) = true_both (same_type a a) (same_types ps ps) (type_self a) (types_self ps)

-- so a test of what stands for the types tells too
pub same_by : (i j : ℕ) (a b : TypeTree) → (i ≡ j → a ≡ b) → (a ≡ b → i ≡ j) → (i == j) ≡ same_type a b
same_by i j a b go back = by (i == j) refl (same_type a b) refl
  where
    by : (x : Bool) → (i == j) ≡ x → (y : Bool) → same_type a b ≡ y → (i == j) ≡ same_type a b
    by true e true f = e ∙ sym f
    by false e false f = e ∙ sym f
    by true e false f = eq-eqb i j (back (go (eqb-true i j e))) ∙ sym (ap (same_type a) (sym (go (eqb-true i j e))) ∙ type_self a)
    by false e true f = eq-eqb i j (back (type_is a b f)) ∙ sym f

-- but for a `const` of their own
pub same_plain : (a b : TypeTree) → same_type (without_const a) (without_const b) ≡ same_but_const a b
unfolding same_type
same_plain (Of c form) (Of d other) = refl
