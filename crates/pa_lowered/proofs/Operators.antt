-- Operators on one number (C11 6.5.3.3).
use Rattle.std.proofs.Common.{◌≡◌, ℕ, suc, ◌+◌, ◌<◌, ◌≤◌, ℤ, neg_ℤ, List, ◌∷◌, ◌++◌, length, refl, sym, ap, subst, ◌∙◌, arith, Option, Some, None, length-append, Bool, true, false, IsTrue}
use Rattle.std.specs.Prelude.{slice_get, not, if◌then◌else◌, option_map, option_and_then}
use Rattle.pa_ctype.specs.Types.{TypeTree, Of, Void, Boolean, Integer, Pointer, Array, Struct, Function}
use Rattle.pa_ctype.specs.Values as value
use Rattle.pa_ctype.specs.Values.{CValue}
use Rattle.pa_typed.specs.Typed.{TypedExpr, Unary}
use Rattle.pa_typed.specs.declared.expr.UnaryOperation.{UnaryOperation}
use Rattle.pa_typed.specs.declared.expr.UnaryOperation.TheVariants.{Minus, Complement, Not}
use Rattle.pa_typed.specs.Units.{ProgramTree}
use Rattle.pa_integer.specs.Integers.{is_width, is_in_range, residue, of_bits, settled, negated, complemented}
use Rattle.pa_cmean.specs.Results.{Meaning, given}
use Rattle.pa_cmean.specs.Operations.{truth, unary, in_integer}
use Rattle.pa_cmean.specs.State.{State, Cont, Again}
use Rattle.pa_cmean.specs.Expressions.{eval}
use Rattle.pa_lir.specs.declared.op.Op.TheVariants as op
use Rattle.pa_lir.specs.declared.op.BinOp.TheVariants.{Eq}
use Rattle.pa_lir.specs.declared.op.UnOp.{UnOp}
use Rattle.pa_lir.specs.declared.op.UnOp.TheVariants as one
use Rattle.pa_lir.specs.declared.function.Lir.{Lir}
use Rattle.pa_lir.specs.Operators.{truth as flat_bit, of_number, unary as flat_unary}
use Rattle.pa_lir.specs.Values as flat
use Rattle.pa_lir.specs.Meaning.{Flat, act_of, gives, temp_in}
use Rattle.pa_lower.specs.Temporaries.{Room}
use Rattle.pa_lower.specs.Operations.{unary_ops, wrap_ops}
use Rattle.pa_lower.specs.Expressions.{expr_ops}
use Rattle.pa_lowered.specs.Objects.{Map, Grows, IsOf, Stands}
use Rattle.pa_lowered.specs.Results.{Follows}
use Rattle.pa_lowered.specs.Calls.{Temps, Entered, At}
use Rattle.pa_lowered.specs.Simulates.{value_type, Contains, IsRoom, Keeps}
use Rattle.pa_lowered.proofs.Containing.{contains_front, contains_behind, temp_given}
use Rattle.pa_lowered.proofs.Following.{grows_same, undefined_follows, tick_follows, weaker}
use Rattle.pa_lowered.proofs.Stepping.{gives_follows}
use Rattle.pa_lowered.proofs.Standing.{IsVoid, has_value, keeps_same, keeps_value}
use Rattle.pa_lowered.proofs.Numbers.{both_parts, both_true, wrapped_same, negative_is, turned_bits, turned_is, complement_is, turned_in_range}
use Rattle.pa_lowered.proofs.Branching.{truth_is}
use Rattle.pa_lowered.proofs.Testing.{HasTruth, is_zero, test_follows}
use Rattle.pa_lowered.proofs.Converting.{extend_follows}
use Rattle.pa_lowered.proofs.Evaluating.{with_left, SimExpr, TakesAt, takes_at, takes_grown}

-- each bit turned, in the type
complemented_is : (bits : ℕ) (signed : Bool) (z : ℤ) → IsTrue (is_width bits) → IsTrue (is_in_range bits signed z) → complemented bits signed z ≡ settled bits signed (turned_bits z)
complemented_is bits false z width in_range = ap (λ n. Some (of_bits bits false n)) (complement_is bits width z)
complemented_is bits true z width in_range =
    let stays : IsTrue (is_in_range bits true (turned_bits z)) = turned_in_range bits z ∙ in_range in
    ap (λ n. Some (of_bits bits true n)) (complement_is bits width z) ∙ ap (λ n. Some n) (wrapped_same bits width true (turned_bits z) stays) ∙ sym (ap (λ q. if q then Some (turned_bits z) else None) stays)

module _ (program : ProgramTree) (lir : Lir) (again : Again) (bound : ℕ) (w : Entered) (live : List ℕ) where
  -- A result stands in the temporary of the room: one of an unsigned type counts modulo its range, one of a signed type has to fit.
  pub settled_follows : (k signed : Bool) (bits : ℕ) (x : ℤ) (at c d l : ℕ) (r : Room) (before ts : Temps) (b m : Map) (go : Cont) (st : State) (s : Flat) → IsTrue (is_width bits) → st.left < bound → Grows b m → At w live at ts m st s → Keeps r before ts
      → temp_in ts r.to ≡ Some (flat.Number (residue 64 x)) → Contains w.function.ops at (wrap_ops (Of k (Integer bits signed)) r.to) → d + 5 ≤ c → TakesAt program lir again bound w live (at + length (wrap_ops (Of k (Integer bits signed)) r.to)) r (Of k (Integer bits signed)) before b d l go
      → Follows lir m c l (given (option_map (λ n. value.Number n) (settled bits signed x)) (λ v. go v st)) s
  settled_follows k false bits x at c d l r before ts b m go st s width lt g a kept has code pays t = extend_follows program lir again bound w live k false bits x at c d l r before ts b m go st s width lt g a kept has code pays t
  settled_follows k true bits x at c d l r before ts b m go st s width lt g a kept has code pays t = by_range (is_in_range bits true x) refl
    where
      by_range : (q : Bool) → is_in_range bits true x ≡ q → Follows lir m c l (given (option_map (λ n. value.Number n) (if q then Some x else None)) (λ v. go v st)) s
      by_range true e = weaker lir m d l c l _ s (omega arith) (omega arith) ((takes_at program lir again bound w live (at + 0) at r (Of k (Integer bits true)) before b d l go (omega arith) t).by (value.Number x) ts m st s lt g a (flat.Number (residue 64 x), has, (both_true (is_width bits) (is_in_range bits true x) width e, refl)) kept)
      by_range false e = undefined_follows lir m c l s

  -- the number in the temporary of the room becomes another
  changes_follow : (o : UnOp) (x y : ℕ) (at c l : ℕ) (r : Room) (before ts : Temps) (m : Map) (st : State) (s : Flat) (result : Meaning) → At w live at ts m st s → Keeps r before ts → temp_in ts r.to ≡ Some (flat.Number x) → of_number o x ≡ y → slice_get w.function.ops at ≡ Some (op.Un r.to o r.to)
      → ((g : Flat) (later : Temps) → At w live (suc at) later m st g → Keeps r before later → temp_in later r.to ≡ Some (flat.Number y) → Follows lir m c l result g) → Follows lir m (c + 5) l result s
  unfolding act_of
  changes_follow o x y at c l r before ts m st s result a kept has is here k =
      gives_follows lir w live at r.to (c + 5) c l (flat.Number y) ts m st s (op.Un r.to o r.to) result a here (ap (λ v. gives r.to (option_and_then (flat_unary o) v)) has ∙ ap (λ n. gives r.to (Some (flat.Number n))) is) (omega arith)
      (λ g same there. k g ((r.to, flat.Number y) ∷ ts) there (keeps_value r before ts (flat.Number y) kept) (temp_given ts r.to (flat.Number y)))

  -- the results of the operator settle to those of a number, which flat code computes
  one_follows : (o : UnOp) (result : ℕ → Bool → Option ℤ) (of : TypeTree) (z x : ℤ) → of_number o (residue 64 z) ≡ residue 64 x → ((k signed : Bool) (bits : ℕ) → of ≡ Of k (Integer bits signed) → IsTrue (is_width bits) → result bits signed ≡ settled bits signed x)
      → (at c d l : ℕ) (r : Room) (before ts : Temps) (b m : Map) (go : Cont) (st : State) (s : Flat) → st.left < bound → Grows b m → At w live at ts m st s → Keeps r before ts → temp_in ts r.to ≡ Some (flat.Number (residue 64 z))
      → Contains w.function.ops at (op.Un r.to o r.to ∷ wrap_ops of r.to) → d + 10 ≤ c → TakesAt program lir again bound w live (at + length (op.Un r.to o r.to ∷ wrap_ops of r.to)) r of before b d l go → Follows lir m c l (given (in_integer of result) (λ v. go v st)) s
  one_follows o result (Of k (Integer bits signed)) z x does law at c d l r before ts b m go st s lt g a kept has code pays t = by_width (is_width bits) refl
    where
      by_width : (q : Bool) → is_width bits ≡ q → Follows lir m c l (given (if q then option_map (λ n. value.Number n) (result bits signed) else None) (λ v. go v st)) s
      by_width true e = weaker lir m (d + 5 + 5) l c l _ s (omega arith) (omega arith) (changes_follow o (residue 64 z) (residue 64 x) at (d + 5) l r before ts m st s _ a kept has does code.0
          (λ q later there keeps at_to. subst (λ y. Follows lir m (d + 5) l (given (option_map (λ n. value.Number n) y) (λ v. go v st)) q) (sym (law k signed bits refl e))
          (settled_follows k signed bits x (suc at) (d + 5) d l r before later b m go st q e lt g there keeps at_to code.2 (omega arith) (takes_at program lir again bound w live _ (suc at + length (wrap_ops (Of k (Integer bits signed)) r.to)) r (Of k (Integer bits signed)) before b d l go (omega arith) t))))
      by_width false e = undefined_follows lir m c l s
  one_follows o result (Of k Void) z x does law at c d l r before ts b m go st s lt g a kept has code pays t = undefined_follows lir m c l s
  one_follows o result (Of k Boolean) z x does law at c d l r before ts b m go st s lt g a kept has code pays t = undefined_follows lir m c l s
  one_follows o result (Of k (Pointer to schema)) z x does law at c d l r before ts b m go st s lt g a kept has code pays t = undefined_follows lir m c l s
  one_follows o result (Of k (Array of count)) z x does law at c d l r before ts b m go st s lt g a kept has code pays t = undefined_follows lir m c l s
  one_follows o result (Of k (Struct id)) z x does law at c d l r before ts b m go st s lt g a kept has code pays t = undefined_follows lir m c l s
  one_follows o result (Of k (Function params f)) z x does law at c d l r before ts b m go st s lt g a kept has code pays t = undefined_follows lir m c l s

  -- what the operator asks of the types: `!` gives 1 or 0, others a number of their operand's type
  abbrev pub HasResult : UnaryOperation → (operand result : TypeTree) → Type 0
  HasResult Not operand result = HasTruth result
  HasResult Minus operand result = operand ≡ result
  HasResult Complement operand result = operand ≡ result

  unary_follows : (o : UnaryOperation) (from of : TypeTree) → (IsVoid from → ⊥) → HasResult o from of → (v : CValue) (u : flat.FlatValue) (at c d l : ℕ) (r : Room) (before ts : Temps) (b m : Map) (go : Cont) (st : State) (s : Flat) → IsRoom r → st.left < bound → Grows b m → At w live at ts m st s → Keeps r before ts
      → temp_in ts r.to ≡ Some u → Stands m from v u → Contains w.function.ops at (unary_ops o of r.to r.free) → d + 14 ≤ c → TakesAt program lir again bound w live (at + length (unary_ops o of r.to r.free)) r of before b d l go → Follows lir m c l (given (unary o of v) (λ v. go v st)) s
  unary_follows Not from of some type v u at c d l r before ts b m go st s room lt g a kept has stands code pays t =
      test_follows program lir again bound w live Eq (not (truth v)) at _ c d l r of before ts b m go u st s (λ objects. is_zero objects u ∙ ap (λ q. Some (flat.Number (flat_bit (not q)))) (truth_is m from v u stands)) type room lt g a kept has code pays refl t
  unary_follows Minus from of some type (value.Number z) u at c d l r before ts b m go st s room lt g a kept has stands code pays t =
      one_follows one.Neg (λ bits signed. negated bits signed z) of z (neg_ℤ z) (negative_is z) (λ k signed bits e width. refl) at c d l r before ts b m go st s lt g a kept (has ∙ ap (λ x. Some x) stands.1) code (omega arith) t
  unary_follows Complement from of some type (value.Number z) u at c d l r before ts b m go st s room lt g a kept has stands code pays t =
      one_follows one.Not (λ bits signed. complemented bits signed z) of z (turned_bits z) (turned_is z) (λ k signed bits e width. complemented_is bits signed z width (in_type k signed bits e)) at c d l r before ts b m go st s lt g a kept (has ∙ ap (λ x. Some x) stands.1) code (omega arith) t
    where
      in_type : (k signed : Bool) (bits : ℕ) → of ≡ Of k (Integer bits signed) → IsTrue (is_in_range bits signed z)
      in_type k signed bits e = (both_parts (is_width bits) (is_in_range bits signed z) (subst (λ t. IsOf t z) (type ∙ e) stands.0)).1
  unary_follows Minus from of some type (value.At place) u at c d l r before ts b m go st s room lt g a kept has stands code pays t = undefined_follows lir m c l s
  unary_follows Minus from of some type (value.Code name) u at c d l r before ts b m go st s room lt g a kept has stands code pays t = undefined_follows lir m c l s
  unary_follows Minus from of some type value.Null u at c d l r before ts b m go st s room lt g a kept has stands code pays t = undefined_follows lir m c l s
  unary_follows Complement from of some type (value.At place) u at c d l r before ts b m go st s room lt g a kept has stands code pays t = undefined_follows lir m c l s
  unary_follows Complement from of some type (value.Code name) u at c d l r before ts b m go st s room lt g a kept has stands code pays t = undefined_follows lir m c l s
  unary_follows Complement from of some type value.Null u at c d l r before ts b m go st s room lt g a kept has stands code pays t = undefined_follows lir m c l s

  pub unary_simulates : (o : UnaryOperation) (e : TypedExpr) (of : TypeTree) → (IsVoid (value_type e) → ⊥) → HasResult o (value_type e) of → SimExpr program lir again bound w live e → SimExpr program lir again bound w live (Unary o e of)
  unfolding eval expr_ops
  unary_simulates o e of some type is_part = record {
    by = λ n r same at c d l go ts m st s room cheap code t le a around.
        let parts = expr_ops n r e in
        tick_follows lir m c l bound st s _ a.ended le (λ j lt.
        is_part.by n r same at (c + 64) (c + 64) l _ ts m (record st { left = j }) s room (omega arith) (contains_front w.function.ops at parts (unary_ops o of r.to r.free) code)
        (record {
          by = λ v ts1 m1 st1 s1 lt1 g1 a1 in1 kept1.
              let u = has_value m1 (value_type e) v (temp_in ts1 r.to) some in1 in
              unary_follows o (value_type e) of some type v u.0 (at + length parts) (c + 64) d l r ts1 ts1 m1 m1 go st1 s1 room lt1 (grows_same m1) a1 (keeps_same r ts1) u.1 u.2 (contains_behind w.function.ops at parts (unary_ops o of r.to r.free) code) (omega arith)
              (takes_at program lir again bound w live (at + length (parts ++ unary_ops o of r.to r.free)) (at + length parts + length (unary_ops o of r.to r.free)) r of ts1 m1 d l go (omega (arith, length-append parts (unary_ops o of r.to r.free))) (takes_grown program lir again bound w live _ r of ts ts1 m m1 d l go g1 kept1 t));
        })
        (omega arith) (with_left w live at j ts m st s a) around);
  }
