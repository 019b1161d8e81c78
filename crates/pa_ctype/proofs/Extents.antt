-- The layout of a type from its extent.
use Rattle.std.proofs.Common.{◌≡◌, ℕ, zero, suc, ◌*◌, ◌≤◌, ◌<◌, Bool, true, false, cond, ◌||◌, ◌==◌, nat_le, Option, Some, None, refl, sym, ap, ◌∙◌, arith, ◌⊎◌, inl, inr}
use Rattle.std.specs.Option.{option_and_then}
use Rattle.std.proofs.lemmas.Bool.Decides.{nat_tests}
use Rattle.std.proofs.Math.Nat.{mul_assoc, mul_comm, le-mul_of_pos_right, one-le-mul, mul-zero}
use Rattle.pa_ctype.specs.declared.ctype.Layout.{Layout}
use Rattle.pa_ctype.specs.declared.node.Extent.{Extent}
use Rattle.pa_ctype.specs.declared.node.Extent.TheVariants.{Nowhere, Fixed, Structs}
use Rattle.pa_ctype.specs.Types.{TypeTree, Of, FormTree, Void, Boolean, Integer, Pointer, Array, Struct, Function}
use Rattle.pa_ctype.specs.Layouts.{layout_by, form_layout_by, integer_layout, times, small, most_bytes}
use Rattle.pa_ctype.specs.Nodes.{fixed, many, extent_of, form_extent}
use Rattle.pa_ctype.specs.Kept.{layout_at, IsFine, AreFine}

fixed_layout : (structs : ℕ → Option Layout) (o : Option Layout) → layout_at structs (fixed o) ≡ o
fixed_layout structs None = refl
fixed_layout structs (Some l) = refl

abbrev sized : ℕ → ℕ → Layout
sized n align = record { size = n; align = align }

-- what `small` lets through, or not
small_at : (n align : ℕ) → ((n ≤ most_bytes) × (small (sized n align) ≡ Some (sized n align))) ⊎ ((most_bytes < n) × (small (sized n align) ≡ None))
small_at n align = by_test (nat_le n most_bytes) refl
  where
    by_test : (b : Bool) → nat_le n most_bytes ≡ b → ((n ≤ most_bytes) × (small (sized n align) ≡ Some (sized n align))) ⊎ ((most_bytes < n) × (small (sized n align) ≡ None))
    by_test true e = inl (grind (arith, nat_tests), rw e refl)
    by_test false e = inr (grind (arith, nat_tests), rw e refl)

over : (n align : ℕ) → most_bytes < n → small (sized n align) ≡ None
over n align h = let e : nat_le n most_bytes ≡ false = grind (arith, nat_tests) in rw e refl

times_is : (n : ℕ) (l : Layout) → 1 ≤ n → times n l ≡ small (sized (n * l.size) l.align)
times_is zero l h = absurd (omega arith)
times_is (suc n) l h = refl

no_elements : (o : Option Layout) → option_and_then (times 0) o ≡ None
no_elements None = refl
no_elements (Some l) = refl

-- a struct by itself
one_struct : (l : Layout) → IsFine l → Some l ≡ times 1 l
one_struct l h =
    let n : 1 * l.size ≡ l.size = omega arith in
    let e : nat_le l.size most_bytes ≡ true = let s = h.size in grind (arith, nat_tests) in
    rw (n, e) refl

-- elements of elements side by side
module _ (n k : ℕ) (l : Layout) (fine : IsFine l) (some : 1 ≤ n) where
  product : n * (k * l.size) ≡ (n * k) * l.size
  product = sym (mul_assoc n k l.size)

  more : k * l.size ≤ n * (k * l.size)
  more = let e = mul_comm n (k * l.size) in let g : k * l.size ≤ (k * l.size) * n = le-mul_of_pos_right (k * l.size) (omega arith) in omega arith

  pub too_many : most_bytes < n * k → option_and_then (times n) (times k l) ≡ None
  too_many h = by (small_at (k * l.size) l.align)
    where
      positive : 1 ≤ k
      positive = by_count k refl
        where
          by_count : (j : ℕ) → k ≡ j → 1 ≤ k
          by_count zero e = let z = ap (λ x. n * x) e in let y = mul-zero n in absurd (omega arith)
          by_count (suc j) e = omega arith

      wide : n * k ≤ n * (k * l.size)
      wide = let g : n * k ≤ (n * k) * l.size = le-mul_of_pos_right (n * k) (let s = fine.some in omega arith) in omega (arith, product)

      by : ((k * l.size ≤ most_bytes) × (small (sized (k * l.size) l.align) ≡ Some (sized (k * l.size) l.align))) ⊎ ((most_bytes < k * l.size) × (small (sized (k * l.size) l.align) ≡ None)) → option_and_then (times n) (times k l) ≡ None
      by (inl e) = ap (option_and_then (times n)) (times_is k l positive ∙ e.1) ∙ times_is n (sized (k * l.size) l.align) some ∙ over (n * (k * l.size)) l.align (let w = wide in omega arith)
      by (inr e) = ap (option_and_then (times n)) (times_is k l positive ∙ e.1)

  pub together : 1 ≤ k → option_and_then (times n) (times k l) ≡ times (n * k) l
  together positive = by (small_at (k * l.size) l.align) ∙ sym (times_is (n * k) l (one-le-mul some positive))
    where
      by : ((k * l.size ≤ most_bytes) × (small (sized (k * l.size) l.align) ≡ Some (sized (k * l.size) l.align))) ⊎ ((most_bytes < k * l.size) × (small (sized (k * l.size) l.align) ≡ None)) → option_and_then (times n) (times k l) ≡ small (sized ((n * k) * l.size) l.align)
      by (inl e) = ap (option_and_then (times n)) (times_is k l positive ∙ e.1) ∙ times_is n (sized (k * l.size) l.align) some ∙ ap (λ x. small (sized x l.align)) product
      by (inr e) = ap (option_and_then (times n)) (times_is k l positive ∙ e.1) ∙ sym (over ((n * k) * l.size) l.align (let m = more in let p = product in let h = e.0 in omega arith))

structs_of : (n k : ℕ) (o : Option Layout) → ((l : Layout) → o ≡ Some l → IsFine l) → 1 ≤ n → option_and_then (times n) (option_and_then (times k) o) ≡ option_and_then (times (n * k)) o
structs_of n k None fine h = refl
structs_of n zero (Some l) fine h = ap (λ x. times x l) (sym (mul-zero n))
structs_of n (suc k) (Some l) fine h = together n (suc k) l (fine l refl) h (omega arith)

none_of : (n k : ℕ) (o : Option Layout) → ((l : Layout) → o ≡ Some l → IsFine l) → 1 ≤ n → most_bytes < n * k → option_and_then (times n) (option_and_then (times k) o) ≡ None
none_of n k None fine h over = refl
none_of n k (Some l) fine h over = too_many n k l (fine l refl) h over

-- an array's layout
many_at : (structs : ℕ → Option Layout) → AreFine structs → (n : ℕ) (e : Extent) → option_and_then (times n) (layout_at structs e) ≡ layout_at structs (many n e)
many_at structs fine n Nowhere = refl
many_at structs fine n (Fixed l) = sym (fixed_layout structs (times n l))
many_at structs fine n (Structs id k) = by_tests (n == 0) (nat_le (n * k) most_bytes) refl refl
  where
    by_tests : (z b : Bool) → (n == 0) ≡ z → nat_le (n * k) most_bytes ≡ b → option_and_then (times n) (option_and_then (times k) (structs id)) ≡ layout_at structs (cond (z || cond b false true) Nowhere (Structs id (n * k)))
    by_tests true b e f = let none : n ≡ 0 = grind (arith, nat_tests) in rw none (no_elements (option_and_then (times k) (structs id)))
    by_tests false true e f = structs_of n k (structs id) (fine id) (grind (arith, nat_tests))
    by_tests false false e f = none_of n k (structs id) (fine id) (grind (arith, nat_tests)) (grind (arith, nat_tests))

one_at : (o : Option Layout) → ((l : Layout) → o ≡ Some l → IsFine l) → o ≡ option_and_then (times 1) o
one_at None fine = refl
one_at (Some l) fine = one_struct l (fine l refl)

mutual
  unfolding layout_by form_layout_by extent_of form_extent

  pub extent_layout : (structs : ℕ → Option Layout) → AreFine structs → (t : TypeTree) → layout_at structs (extent_of t) ≡ layout_by structs t
  extent_layout structs fine (Of c form) = form_layout structs fine form

  form_layout : (structs : ℕ → Option Layout) → AreFine structs → (form : FormTree) → layout_at structs (form_extent form) ≡ form_layout_by structs form
  form_layout structs fine Void = refl
  form_layout structs fine Boolean = refl
  form_layout structs fine (Integer bits signed) = fixed_layout structs (integer_layout bits)
  form_layout structs fine (Pointer to schema) = refl
  form_layout structs fine (Array of None) = refl
  form_layout structs fine (Array of (Some count)) = sym (many_at structs fine count (extent_of of)) ∙ ap (option_and_then (times count)) (extent_layout structs fine of)
  form_layout structs fine (Struct id) = sym (one_at (structs id) (fine id))
  form_layout structs fine (Function params result) = refl
