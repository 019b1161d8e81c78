-- Expressions whose parts decide which part is evaluated next (C11 6.5.13 to 6.5.15), and the comma (6.5.17).
use Rattle.std.proofs.Common.{◌≡◌, ℕ, ◌+◌, ◌<◌, ◌≤◌, List, [], ◌∷◌, ◌++◌, length, refl, sym, ap, subst, ◌∙◌, arith, Option, Some, length-append}
use Rattle.std.specs.Prelude.{Bool, true, false}
use Rattle.pa_ctype.specs.Types.{TypeTree}
use Rattle.pa_ctype.specs.Values.{Place}
use Rattle.pa_typed.specs.Typed.{TypedExpr, And, Or, Choose, Comma}
use Rattle.pa_typed.specs.Units.{ProgramTree}
use Rattle.pa_cmean.specs.State.{State, Cont, Again}
use Rattle.pa_cmean.specs.Expressions.{eval, gives_truth}
use Rattle.pa_cmean.specs.Operations.{truth, of_truth}
use Rattle.pa_lir.specs.declared.op.Op.TheVariants as op
use Rattle.pa_lir.specs.declared.op.BinOp.TheVariants.{Ne}
use Rattle.pa_lir.specs.declared.function.Lir.{Lir}
use Rattle.pa_lir.specs.Values as flat
use Rattle.pa_lir.specs.Operators.{truth as flat_bit}
use Rattle.pa_lir.specs.Meaning.{Flat, act_of, temp_in}
use Rattle.pa_lower.specs.Temporaries.{Room}
use Rattle.pa_lower.specs.Operations.{truth_ops}
use Rattle.pa_lowered.specs.Objects.{Map, Stands}
use Rattle.pa_lowered.specs.Results.{Follows}
use Rattle.pa_lower.specs.Expressions.{expr_labels, expr_ops, either_ops}
use Rattle.pa_lowered.specs.Calls.{Temps, Entered, At}
use Rattle.pa_lowered.specs.Simulates.{value_type, Contains, IsRoom, HasSame}
use Rattle.pa_lowered.proofs.Containing.{contains_front, contains_behind}
use Rattle.pa_lowered.proofs.Following.{grows_same, tick_follows}
use Rattle.pa_lowered.proofs.Standing.{IsVoid, has_value, keeps_same, same_later}
use Rattle.pa_lowered.proofs.Evaluating.{with_left, SimExpr, TakesAt, takes_at, takes_grown, value_follows}
use Rattle.pa_lowered.proofs.Branching.{truth_is, either_follows}
use Rattle.pa_lowered.proofs.Testing.{HasTruth, truth_stands, not_zero, test_follows}

module _ (program : ProgramTree) (lir : Lir) (again : Again) (bound : ℕ) (w : Entered) (live : List ℕ) where
  -- under another name of the type
  takes_typed : (at : ℕ) (r : Room) (of type : TypeTree) (before : Temps) (b : Map) (c l : ℕ) (go : Cont) → type ≡ of → TakesAt program lir again bound w live at r of before b c l go → TakesAt program lir again bound w live at r type before b c l go
  takes_typed at r of type before b c l go e t = subst (λ z. TakesAt program lir again bound w live at r z before b c l go) (sym e) t

module _ (program : ProgramTree) (lir : Lir) (again : Again) (bound : ℕ) (w : Entered) (live : List ℕ) where
  pub comma_simulates : (first second : TypedExpr) (of : TypeTree) → value_type second ≡ of → SimExpr program lir again bound w live first → SimExpr program lir again bound w live second → SimExpr program lir again bound w live (Comma first second of)
  unfolding eval expr_ops
  comma_simulates first second of typed is_first is_second = record {
    by = λ n r same at c d l go ts m st s room cheap code t le a around.
        let a_ops = expr_ops n r first in let b_ops = expr_ops (n + expr_labels first) r second in
        tick_follows lir m c l bound st s _ a.ended le (λ j lt.
        is_first.by n r same at (c + 64) (c + 64) l _ ts m (record st { left = j }) s room (omega arith) (contains_front w.function.ops at a_ops b_ops code)
        (record {
          by = λ v ts1 m1 st1 s1 lt1 g1 a1 in1 kept1.
              is_second.by (n + expr_labels first) r same (at + length a_ops) (c + 64) d l go ts1 m1 st1 s1 room (omega arith) (contains_behind w.function.ops at a_ops b_ops code)
              (takes_typed program lir again bound w live (at + length a_ops + length b_ops) r of (value_type second) ts1 m1 d l go typed (takes_at program lir again bound w live (at + length (a_ops ++ b_ops)) (at + length a_ops + length b_ops) r of ts1 m1 d l go (omega (arith, length-append a_ops b_ops)) (takes_grown program lir again bound w live _ r of ts ts1 m m1 d l go g1 kept1 t)))
              (omega arith) a1 (same_later m m1 same r ts ts1 room g1 kept1 around);
        })
        (omega arith) (with_left w live at j ts m st s a) around);
  }

  -- the test has a number, a place or a function
  pub choose_simulates : (test when_true when_false : TypedExpr) (of : TypeTree) → (IsVoid (value_type test) → ⊥) → value_type when_true ≡ of → value_type when_false ≡ of
      → SimExpr program lir again bound w live test → SimExpr program lir again bound w live when_true → SimExpr program lir again bound w live when_false → SimExpr program lir again bound w live (Choose test when_true when_false of)
  unfolding eval expr_ops
  choose_simulates test when_true when_false of some typed_true typed_false is_test is_true is_false = record {
    by = λ n r same at c d l go ts m st s room cheap code t le a around.
        let i = n + expr_labels test in
        let tests = expr_ops n r test in let zeros = expr_ops (i + 2) r when_false in let ones = expr_ops (i + 2 + expr_labels when_false) r when_true in
        tick_follows lir m c l bound st s _ a.ended le (λ j lt.
        is_test.by n r same at (c + 64) (c + 64) l _ ts m (record st { left = j }) s room (omega arith) (contains_front w.function.ops at tests (either_ops i r.to zeros ones) code)
        (record {
          by = λ v ts1 m1 st1 s1 lt1 g1 a1 in1 kept1.
              let u = has_value m1 (value_type test) v (temp_in ts1 r.to) some in1 in
              either_follows program lir again bound w live (at + length tests) i r.to (c + 64) (c + 60) d l (value_type test) of v u.0 zeros ones r ts1 m1 go _ _ ts1 m1 st1 s1 a1 u.1 u.2 (contains_behind w.function.ops at tests (either_ops i r.to zeros ones) code)
              (takes_at program lir again bound w live (at + length (tests ++ either_ops i r.to zeros ones)) (at + length tests + length (either_ops i r.to zeros ones)) r of ts1 m1 d l go (omega (arith, length-append tests (either_ops i r.to zeros ones))) (takes_grown program lir again bound w live _ r of ts ts1 m m1 d l go g1 kept1 t)) (omega arith)
              (λ g there has takes. is_true.by (i + 2 + expr_labels when_false) r same _ (c + 60) d l go ts1 m1 st1 g room (omega arith) has (takes_typed program lir again bound w live _ r of (value_type when_true) ts1 m1 d l go typed_true takes) (omega arith) there (same_later m m1 same r ts ts1 room g1 kept1 around))
              (λ g there has takes. is_false.by (i + 2) r same _ (c + 60) (d + 1) l go ts1 m1 st1 g room (omega arith) has (takes_typed program lir again bound w live _ r of (value_type when_false) ts1 m1 (d + 1) l go typed_false takes) (omega arith) there (same_later m m1 same r ts ts1 room g1 kept1 around));
        })
        (omega arith) (with_left w live at j ts m st s a) around);
  }

  -- the right side of `&&` and `||`, whose value is 1 or 0
  right_follows : (right : TypedExpr) (of : TypeTree) → (IsVoid (value_type right) → ⊥) → HasTruth of → SimExpr program lir again bound w live right → (n : ℕ) (r : Room) (same : Option Place) (at c d l : ℕ) (go : Cont) (ts : Temps) (m : Map) (st : State) (s : Flat)
      → IsRoom r → d + 14 ≤ c → Contains w.function.ops at (expr_ops n r right ++ truth_ops r.to r.free) → TakesAt program lir again bound w live (at + length (expr_ops n r right ++ truth_ops r.to r.free)) r of ts m d l go → st.left ≤ bound → At w live at ts m st s → HasSame m same r ts
      → Follows lir m c l (eval program again same right (gives_truth go) st) s
  right_follows right of some type is_right n r same at c d l go ts m st s room cheap code t le a around =
      let rights = expr_ops n r right in
      is_right.by n r same at c c l (gives_truth go) ts m st s room (omega arith) (contains_front w.function.ops at rights (truth_ops r.to r.free) code)
      (record {
        by = λ v ts1 m1 st1 s1 lt1 g1 a1 in1 kept1.
            let u = has_value m1 (value_type right) v (temp_in ts1 r.to) some in1 in
            test_follows program lir again bound w live Ne (truth v) (at + length rights) (at + length (rights ++ truth_ops r.to r.free)) c d l r of ts1 ts1 m1 m1 go u.0 st1 s1 (λ objects. not_zero objects u.0 ∙ ap (λ b. Some (flat.Number (flat_bit b))) (truth_is m1 (value_type right) v u.0 u.2)) type room lt1 (grows_same m1) a1 (keeps_same r ts1) u.1
            (contains_behind w.function.ops at rights (truth_ops r.to r.free) code) cheap (omega (arith, length-append rights (truth_ops r.to r.free))) (takes_grown program lir again bound w live _ r of ts ts1 m m1 d l go g1 kept1 t);
      })
      le a around

  -- the value without the right side
  decided_follows : (b : Bool) (x : ℕ) (of : TypeTree) → HasTruth of → x ≡ flat_bit b → (r : Room) (at c d l : ℕ) (go : Cont) (ts : Temps) (m : Map) (st : State) (s : Flat)
      → st.left < bound → d + 6 ≤ c → Contains w.function.ops at (op.Const r.to x ∷ []) → TakesAt program lir again bound w live (at + 1) r of ts m d l go → At w live at ts m st s → Follows lir m c l (go (of_truth b) st) s
  unfolding act_of
  decided_follows b x of type is r at c d l go ts m st s lt cheap code t a =
      value_follows program lir again bound w live at (at + 1) c d l r of ts ts m m go (of_truth b) (flat.Number x) st s (op.Const r.to x) lt (grows_same m) a (keeps_same r ts) code.0 refl cheap
      (subst (λ y. Stands m of (of_truth b) (flat.Number y)) (sym is) (truth_stands m of b type)) (omega arith) t

  pub and_simulates : (left right : TypedExpr) (of : TypeTree) → (IsVoid (value_type left) → ⊥) → (IsVoid (value_type right) → ⊥) → HasTruth of
      → SimExpr program lir again bound w live left → SimExpr program lir again bound w live right → SimExpr program lir again bound w live (And left right of)
  unfolding eval expr_ops
  and_simulates left right of some_left some_right type is_left is_right = record {
    by = λ n r same at c d l go ts m st s room cheap code t le a around.
        let i = n + expr_labels left in
        let lefts = expr_ops n r left in let zeros = op.Const r.to 0 ∷ [] in let ones = expr_ops (i + 2) r right ++ truth_ops r.to r.free in
        tick_follows lir m c l bound st s _ a.ended le (λ j lt.
        is_left.by n r same at (c + 64) (c + 64) l _ ts m (record st { left = j }) s room (omega arith) (contains_front w.function.ops at lefts (either_ops i r.to zeros ones) code)
        (record {
          by = λ v ts1 m1 st1 s1 lt1 g1 a1 in1 kept1.
              let u = has_value m1 (value_type left) v (temp_in ts1 r.to) some_left in1 in
              either_follows program lir again bound w live (at + length lefts) i r.to (c + 64) (c + 60) d l (value_type left) of v u.0 zeros ones r ts1 m1 go _ _ ts1 m1 st1 s1 a1 u.1 u.2 (contains_behind w.function.ops at lefts (either_ops i r.to zeros ones) code)
              (takes_at program lir again bound w live (at + length (lefts ++ either_ops i r.to zeros ones)) (at + length lefts + length (either_ops i r.to zeros ones)) r of ts1 m1 d l go (omega (arith, length-append lefts (either_ops i r.to zeros ones))) (takes_grown program lir again bound w live _ r of ts ts1 m m1 d l go g1 kept1 t)) (omega arith)
              (λ g there has takes. right_follows right of some_right type is_right (i + 2) r same _ (c + 60) d l go ts1 m1 st1 g room (omega arith) has takes (omega arith) there (same_later m m1 same r ts ts1 room g1 kept1 around))
              (λ g there has takes. decided_follows false 0 of type refl r _ (c + 60) (d + 1) l go ts1 m1 st1 g lt1 (omega arith) has takes there);
        })
        (omega arith) (with_left w live at j ts m st s a) around);
  }

  pub or_simulates : (left right : TypedExpr) (of : TypeTree) → (IsVoid (value_type left) → ⊥) → (IsVoid (value_type right) → ⊥) → HasTruth of
      → SimExpr program lir again bound w live left → SimExpr program lir again bound w live right → SimExpr program lir again bound w live (Or left right of)
  unfolding eval expr_ops
  or_simulates left right of some_left some_right type is_left is_right = record {
    by = λ n r same at c d l go ts m st s room cheap code t le a around.
        let i = n + expr_labels left in
        let lefts = expr_ops n r left in let zeros = expr_ops (i + 2) r right ++ truth_ops r.to r.free in let ones = op.Const r.to 1 ∷ [] in
        tick_follows lir m c l bound st s _ a.ended le (λ j lt.
        is_left.by n r same at (c + 64) (c + 64) l _ ts m (record st { left = j }) s room (omega arith) (contains_front w.function.ops at lefts (either_ops i r.to zeros ones) code)
        (record {
          by = λ v ts1 m1 st1 s1 lt1 g1 a1 in1 kept1.
              let u = has_value m1 (value_type left) v (temp_in ts1 r.to) some_left in1 in
              either_follows program lir again bound w live (at + length lefts) i r.to (c + 64) (c + 60) d l (value_type left) of v u.0 zeros ones r ts1 m1 go _ _ ts1 m1 st1 s1 a1 u.1 u.2 (contains_behind w.function.ops at lefts (either_ops i r.to zeros ones) code)
              (takes_at program lir again bound w live (at + length (lefts ++ either_ops i r.to zeros ones)) (at + length lefts + length (either_ops i r.to zeros ones)) r of ts1 m1 d l go (omega (arith, length-append lefts (either_ops i r.to zeros ones))) (takes_grown program lir again bound w live _ r of ts ts1 m m1 d l go g1 kept1 t)) (omega arith)
              (λ g there has takes. decided_follows true 1 of type refl r _ (c + 60) d l go ts1 m1 st1 g lt1 (omega arith) has takes there)
              (λ g there has takes. right_follows right of some_right type is_right (i + 2) r same _ (c + 60) (d + 1) l go ts1 m1 st1 g room (omega arith) has takes (omega arith) there (same_later m m1 same r ts ts1 room g1 kept1 around));
        })
        (omega arith) (with_left w live at j ts m st s a) around);
  }
