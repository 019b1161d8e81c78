-- Conversions (C11 6.3.1.2, 6.3.1.3).
use Rattle.std.proofs.Common.{◌≡◌, ℕ, ◌+◌, ◌<◌, ◌≤◌, ℤ, List, [], ◌∷◌, ◌++◌, length, refl, ap, ◌∙◌, arith, Some, None, length-append, Bool, true, false, IsTrue}
use Rattle.std.specs.Prelude.{if◌then◌else◌, option_and_then}
use Rattle.pa_ctype.specs.Types.{TypeTree, Of, Void, Boolean, Integer, Pointer, Array, Struct, Function}
use Rattle.pa_ctype.specs.Values as value
use Rattle.pa_ctype.specs.Values.{CValue}
use Rattle.pa_typed.specs.Typed.{TypedExpr, Convert}
use Rattle.pa_typed.specs.Units.{ProgramTree}
use Rattle.pa_integer.specs.Integers.{is_width, residue, wrapped}
use Rattle.pa_cmean.specs.Results.{given}
use Rattle.pa_cmean.specs.Operations.{truth, converted, nothing}
use Rattle.pa_cmean.specs.State.{State, Cont, Again}
use Rattle.pa_cmean.specs.Expressions.{eval}
use Rattle.pa_lir.specs.declared.op.Op.TheVariants as op
use Rattle.pa_lir.specs.declared.op.BinOp.TheVariants.{Ne}
use Rattle.pa_lir.specs.declared.function.Lir.{Lir}
use Rattle.pa_lir.specs.Operators.{truth as flat_bit}
use Rattle.pa_lir.specs.Values as flat
use Rattle.pa_lir.specs.Values.{extended}
use Rattle.pa_lir.specs.Meaning.{Flat, act_of, gives, extends, temp_in}
use Rattle.pa_lower.specs.Programs.{is_value}
use Rattle.pa_lower.specs.Temporaries.{Room}
use Rattle.pa_lower.specs.Operations.{convert_ops}
use Rattle.pa_lower.specs.Expressions.{expr_ops}
use Rattle.pa_lowered.specs.Objects.{Map, Grows}
use Rattle.pa_lowered.specs.Results.{Follows}
use Rattle.pa_lowered.specs.Calls.{Temps, Entered, At}
use Rattle.pa_lowered.specs.Simulates.{value_type, Contains, IsIn, IsRoom, Keeps}
use Rattle.pa_lowered.proofs.Containing.{contains_front, contains_behind}
use Rattle.pa_lowered.proofs.Following.{grows_same, undefined_follows, tick_follows, weaker}
use Rattle.pa_lowered.proofs.Standing.{IsVoid, has_value, keeps_same}
use Rattle.pa_lowered.proofs.Numbers.{extends_is, wrapped_is_of}
use Rattle.pa_lowered.proofs.Branching.{truth_is}
use Rattle.pa_lowered.proofs.Testing.{not_zero, test_follows}
use Rattle.pa_lowered.proofs.Evaluating.{with_left, SimExpr, TakesAt, takes_at, takes_grown, value_follows}

module _ (program : ProgramTree) (lir : Lir) (again : Again) (bound : ℕ) (w : Entered) (live : List ℕ) where
  -- the low bits of a number, extended
  pub extend_follows : (k signed : Bool) (bits : ℕ) (z : ℤ) (at c d l : ℕ) (r : Room) (before ts : Temps) (b m : Map) (go : Cont) (st : State) (s : Flat) → IsTrue (is_width bits) → st.left < bound → Grows b m → At w live at ts m st s → Keeps r before ts
      → temp_in ts r.to ≡ Some (flat.Number (residue 64 z)) → Contains w.function.ops at (op.Extend r.to r.to bits signed ∷ []) → d + 5 ≤ c → TakesAt program lir again bound w live (at + 1) r (Of k (Integer bits signed)) before b d l go → Follows lir m c l (go (value.Number (wrapped bits signed z)) st) s
  unfolding act_of
  extend_follows k signed bits z at c d l r before ts b m go st s width lt g a kept has code pays t =
      value_follows program lir again bound w live at (at + 1) c d l r (Of k (Integer bits signed)) before ts b m go (value.Number (wrapped bits signed z)) (flat.Number (extended bits signed (residue 64 z))) st s (op.Extend r.to r.to bits signed) lt g a kept code.0
      (ap (λ x. gives r.to (option_and_then (extends bits signed) x)) has) pays (wrapped_is_of k signed bits z width, ap flat.Number (extends_is bits width signed z)) (omega arith) t

  converts_follow : (of from : TypeTree) → IsTrue (is_value of) → ((IsVoid of → ⊥) → IsVoid from → ⊥) → (v : CValue) (at c d l : ℕ) (r : Room) (before ts : Temps) (b m : Map) (go : Cont) (st : State) (s : Flat) → IsRoom r → st.left < bound → Grows b m → At w live at ts m st s → Keeps r before ts
      → IsIn m from v (temp_in ts r.to) → Contains w.function.ops at (convert_ops of r.to r.free) → d + 14 ≤ c → TakesAt program lir again bound w live (at + length (convert_ops of r.to r.free)) r of before b d l go → Follows lir m c l (given (converted of v) (λ x. go x st)) s
  converts_follow (Of k Void) from is some v at c d l r before ts b m go st s room lt g a kept has code pays t =
      weaker lir m d l c l (go nothing st) s (omega arith) (omega arith) ((takes_at program lir again bound w live (at + 0) at r (Of k Void) before b d l go (omega arith) t).by nothing ts m st s lt g a tt kept)
  converts_follow (Of k Boolean) from is some v at c d l r before ts b m go st s room lt g a kept has code pays t =
      let u = has_value m from v (temp_in ts r.to) (some (λ e. e)) has in
      test_follows program lir again bound w live Ne (truth v) at (at + 2) c d l r (Of k Boolean) before ts b m go u.0 st s (λ objects. not_zero objects u.0 ∙ ap (λ b. Some (flat.Number (flat_bit b))) (truth_is m from v u.0 u.2)) (refl, refl) room lt g a kept u.1 code pays (omega arith) t
  converts_follow (Of k (Integer bits signed)) from is some (value.Number z) at c d l r before ts b m go st s room lt g a kept has code pays t =
      let u = has_value m from (value.Number z) (temp_in ts r.to) (some (λ e. e)) has in by_width (is_width bits) refl u.0 u.1 u.2.1
    where
      by_width : (q : Bool) → is_width bits ≡ q → (u : flat.FlatValue) → temp_in ts r.to ≡ Some u → u ≡ flat.Number (residue 64 z) → Follows lir m c l (given (if q then Some (value.Number (wrapped bits signed z)) else None) (λ x. go x st)) s
      by_width true e u at_to is_u = extend_follows k signed bits z at c d l r before ts b m go st s e lt g a kept (at_to ∙ ap (λ x. Some x) is_u) code (omega arith) t
      by_width false e u at_to is_u = undefined_follows lir m c l s
  converts_follow (Of k (Integer bits signed)) from is some (value.At place) at c d l r before ts b m go st s room lt g a kept has code pays t = undefined_follows lir m c l s
  converts_follow (Of k (Integer bits signed)) from is some (value.Code name) at c d l r before ts b m go st s room lt g a kept has code pays t = undefined_follows lir m c l s
  converts_follow (Of k (Integer bits signed)) from is some value.Null at c d l r before ts b m go st s room lt g a kept has code pays t = undefined_follows lir m c l s
  converts_follow (Of k (Pointer to schema)) from is some v at c d l r before ts b m go st s room lt g a kept has code pays t = cc
  converts_follow (Of k (Array of count)) from is some v at c d l r before ts b m go st s room lt g a kept has code pays t = cc
  converts_follow (Of k (Struct id)) from is some v at c d l r before ts b m go st s room lt g a kept has code pays t = cc
  converts_follow (Of k (Function params result)) from is some v at c d l r before ts b m go st s room lt g a kept has code pays t = cc

  -- to void, from what isn't void, or to an integer type
  pub convert_simulates : (e : TypedExpr) (of : TypeTree) → IsTrue (is_value of) → ((IsVoid of → ⊥) → IsVoid (value_type e) → ⊥) → SimExpr program lir again bound w live e → SimExpr program lir again bound w live (Convert e of)
  unfolding eval expr_ops
  convert_simulates e of is some is_part = record {
    by = λ n r same at c d l go ts m st s room cheap code t le a around.
        let parts = expr_ops n r e in
        tick_follows lir m c l bound st s _ a.ended le (λ j lt.
        is_part.by n r same at (c + 64) (c + 64) l _ ts m (record st { left = j }) s room (omega arith) (contains_front w.function.ops at parts (convert_ops of r.to r.free) code)
        (record {
          by = λ v ts1 m1 st1 s1 lt1 g1 a1 in1 kept1.
              converts_follow of (value_type e) is some v (at + length parts) (c + 64) d l r ts1 ts1 m1 m1 go st1 s1 room lt1 (grows_same m1) a1 (keeps_same r ts1) in1 (contains_behind w.function.ops at parts (convert_ops of r.to r.free) code) (omega arith)
              (takes_at program lir again bound w live (at + length (parts ++ convert_ops of r.to r.free)) (at + length parts + length (convert_ops of r.to r.free)) r of ts1 m1 d l go (omega (arith, length-append parts (convert_ops of r.to r.free))) (takes_grown program lir again bound w live _ r of ts ts1 m m1 d l go g1 kept1 t));
        })
        (omega arith) (with_left w live at j ts m st s a) around);
  }
