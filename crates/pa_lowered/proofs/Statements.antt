-- Statements without a loop or switch of their own (C11 6.8.3, 6.8.4.1, 6.8.6).
use Rattle.std.proofs.Common.{◌≡◌, ℕ, suc, ◌+◌, ◌<◌, ◌≤◌, List, [], ◌∷◌, ◌++◌, length, refl, sym, subst, arith, Option, Some, None, length-append}
use Rattle.std.specs.Prelude.{slice_get}
use Rattle.pa_ctype.specs.Types.{TypeTree, Of, Void, Boolean, Integer, Pointer, Array, Struct, Function}
use Rattle.pa_ctype.specs.Values.{CValue}
use Rattle.pa_typed.specs.Typed.{TypedExpr, TypedStmt, Expression, If, IfElse, Case, Default, Break, Continue, Return}
use Rattle.pa_typed.specs.Units.{ProgramTree}
use Rattle.pa_cmean.specs.Results.{Meaning}
use Rattle.pa_cmean.specs.Operations.{truth, nothing}
use Rattle.pa_cmean.specs.State.{State, Exits, Again, choose}
use Rattle.pa_cmean.specs.Statements.{exec, evaluate, test}
use Rattle.pa_lir.specs.declared.op.Op.TheVariants as op
use Rattle.pa_lir.specs.declared.function.Lir.{Lir}
use Rattle.pa_lir.specs.Flow.{place_of_label}
use Rattle.pa_lir.specs.Meaning.{Flat, temp_in}
use Rattle.pa_lower.specs.Temporaries.{whole_room}
use Rattle.pa_lower.specs.Expressions.{expr_labels, either_ops}
use Rattle.pa_lower.specs.Statements.{Ways, whole_ops, jump_ops, branch_ops, stmt_labels, stmt_ops}
use Rattle.pa_lowered.specs.Objects.{Map}
use Rattle.pa_lowered.specs.Results.{Follows}
use Rattle.pa_lowered.specs.Calls.{Temps, Entered, At}
use Rattle.pa_lowered.specs.Simulates.{value_type, Contains, IsIn, IsRoom, IsGiven, Goes, Leads, Follow, SimulatesStmt}
use Rattle.pa_lowered.proofs.Containing.{contains_front, contains_behind}
use Rattle.pa_lowered.proofs.Following.{undefined_follows, tick_follows, weaker}
use Rattle.pa_lowered.proofs.Stepping.{label_follows, jump_follows}
use Rattle.pa_lowered.proofs.Standing.{IsVoid, has_value}
use Rattle.pa_lowered.proofs.Branching.{branch_follows}
use Rattle.pa_lowered.proofs.Evaluating.{with_left, SimExpr}

-- a whole expression has all temporaries to itself
pub whole_is_room : IsRoom whole_room
whole_is_room = record { to = omega arith; spare = λ t e. cc; same = λ t e. cc }

module _ (program : ProgramTree) (lir : Lir) (again : Again) (bound : ℕ) (w : Entered) (live : List ℕ) where
  abbrev pub SimStmt : TypedStmt → Type 0
  SimStmt t = SimulatesStmt program lir again bound w live t

  abbrev pub GoesAt : (at paid turned : ℕ) → (State → Meaning) → Type 0
  GoesAt at paid turned go = Goes program lir again bound w live at paid turned go

  abbrev pub FollowAt : (at : ℕ) (ways : Ways) (paid turned : ℕ) (x : Exits) → Type 0
  FollowAt at ways paid turned x = Follow program lir again bound w live at ways paid turned x

  abbrev pub LeadsTo : Option ℕ → (paid turned : ℕ) → (State → Meaning) → Type 0
  LeadsTo label paid turned go = Leads program lir again bound w live label paid turned go

  -- ---- ways out

  goes_paid : (at c d l : ℕ) (go : State → Meaning) → d ≤ c → GoesAt at d l go → GoesAt at c l go
  goes_paid at c d l go le h = record { by = λ ts m st s lt a. weaker lir m d l c l (go st) s le (omega arith) (h.by ts m st s lt a) }

  goes_at : (at there c l : ℕ) (go : State → Meaning) → at ≡ there → GoesAt at c l go → GoesAt there c l go
  goes_at at there c l go e h = subst (λ p. GoesAt p c l go) e h

  goes_label : (at label c l : ℕ) (go : State → Meaning) → slice_get w.function.ops at ≡ Some (op.Label label) → GoesAt (suc at) c l go → GoesAt at c l go
  goes_label at label c l go here h = record { by = λ ts m st s lt a. label_follows lir w live at label c l ts m st s (go st) a here (λ g there. h.by ts m st g lt there) }

  goes_jump : (at label to c l : ℕ) (go : State → Meaning) → slice_get w.function.ops at ≡ Some (op.Jump label) → place_of_label w.function.ops label ≡ Some to → GoesAt to c l go → GoesAt at (c + 1) l go
  goes_jump at label to c l go here found h = record { by = λ ts m st s lt a. jump_follows lir w live at label to (c + 1) c l ts m st s (go st) a here found (omega arith) (λ g there. weaker lir m c l c (suc l) (go st) g (omega arith) (omega arith) (h.by ts m st g lt there)) }

  leads_paid : (label : Option ℕ) (c d l : ℕ) (go : State → Meaning) → d ≤ c → LeadsTo label d l go → LeadsTo label c l go
  leads_paid None c d l go le h = h
  leads_paid (Some label) c d l go le h = (h.0, h.1, goes_paid h.0 c d l go le h.2)

  -- other ways on behind it
  follow_next : (at there : ℕ) (ways : Ways) (c d l : ℕ) (x : Exits) → d ≤ c → GoesAt there c l x.next → FollowAt at ways d l x → FollowAt there ways c l x
  follow_next at there ways c d l x le next h = record {
    next = next;
    leave = leads_paid ways.leave c d l x.leave le h.leave;
    proceed = leads_paid ways.proceed c d l x.proceed le h.proceed;
    give = record { by = λ v at from ts m st s lt a here is. weaker lir m (d + _) l (c + _) l (x.give v st) s (omega arith) (omega arith) (h.give.by v at from ts m st s lt a here is) };
  }

  -- a jump out of a loop or switch
  leads_follow : (label : Option ℕ) (at c d l : ℕ) (go : State → Meaning) (ts : Temps) (m : Map) (st : State) (s : Flat) → d + 1 ≤ c → Contains w.function.ops at (jump_ops label) → LeadsTo label d l go → st.left < bound → At w live at ts m st s → Follows lir m c l (go st) s
  leads_follow None at c d l go ts m st s le code h lt a = subst (λ r. Follows lir m c l r s) (sym (h st)) (undefined_follows lir m c l s)
  leads_follow (Some label) at c d l go ts m st s le code h lt a = weaker lir m (d + 1) l c l (go st) s le (omega arith) ((goes_jump at label h.0 d l go code.0 h.1 h.2).by ts m st s lt a)

  -- ---- statements

  pub break_simulates : SimStmt Break
  unfolding exec stmt_ops
  break_simulates = record {
    by = λ n ways at c d l x ts m st s cheap code f le a.
        tick_follows lir m c l bound st s _ a.ended le (λ j lt. leads_follow ways.leave at (c + 64) d l x.leave ts m (record st { left = j }) s (omega arith) code f.leave lt (with_left w live at j ts m st s a));
  }

  pub continue_simulates : SimStmt Continue
  unfolding exec stmt_ops
  continue_simulates = record {
    by = λ n ways at c d l x ts m st s cheap code f le a.
        tick_follows lir m c l bound st s _ a.ended le (λ j lt. leads_follow ways.proceed at (c + 64) d l x.proceed ts m (record st { left = j }) s (omega arith) code f.proceed lt (with_left w live at j ts m st s a));
  }

  pub nothing_simulates : SimStmt (Expression None)
  unfolding exec evaluate stmt_ops
  nothing_simulates = record {
    by = λ n ways at c d l x ts m st s cheap code f le a.
        tick_follows lir m c l bound st s _ a.ended le (λ j lt. weaker lir m d l (c + 64) l _ s (omega arith) (omega arith) ((goes_at (at + 0) at d l x.next (omega arith) f.next).by ts m (record st { left = j }) s lt (with_left w live at j ts m st s a)));
  }

  pub expression_simulates : (e : TypedExpr) → SimExpr program lir again bound w live e → SimStmt (Expression (Some e))
  unfolding exec evaluate stmt_ops
  expression_simulates e is_part = record {
    by = λ n ways at c d l x ts m st s cheap code f le a.
        tick_follows lir m c l bound st s _ a.ended le (λ j lt.
        is_part.by n whole_room None at (c + 64) d l (λ v. x.next) ts m (record st { left = j }) s whole_is_room (omega arith) code
        (record { by = λ v ts1 m1 st1 s1 lt1 g1 a1 in1 kept1. f.next.by ts1 m1 st1 s1 lt1 a1 })
        (omega arith) (with_left w live at j ts m st s a) tt);
  }

  -- behind a label of a switch
  pub case_simulates : (value : ℕ) (of : TypeTree) (body : TypedStmt) → SimStmt body → SimStmt (Case value of body)
  unfolding exec stmt_ops
  case_simulates value of body is_part = record {
    by = λ n ways at c d l x ts m st s cheap code f le a.
        tick_follows lir m c l bound st s _ a.ended le (λ j lt. is_part.by n ways at (c + 64) d l x ts m (record st { left = j }) s (omega arith) code f (omega arith) (with_left w live at j ts m st s a));
  }

  pub default_simulates : (body : TypedStmt) → SimStmt body → SimStmt (Default body)
  unfolding exec stmt_ops
  default_simulates body is_part = record {
    by = λ n ways at c d l x ts m st s cheap code f le a.
        tick_follows lir m c l bound st s _ a.ended le (λ j lt. is_part.by n ways at (c + 64) d l x ts m (record st { left = j }) s (omega arith) code f (omega arith) (with_left w live at j ts m st s a));
  }

  pub if_simulates : (e : TypedExpr) (body : TypedStmt) → (IsVoid (value_type e) → ⊥) → SimExpr program lir again bound w live e → SimStmt body → SimStmt (If e body)
  unfolding exec test stmt_ops
  if_simulates e body some is_test is_body = record {
    by = λ n ways at c d l x ts m st s cheap code f le a.
        let i = n + expr_labels e in let ops = w.function.ops in
        let tests = whole_ops n e in let bodies = stmt_ops (i + 2) ways body in
        let rest = branch_ops i (i + 1) ++ (bodies ++ op.Label (i + 1) ∷ []) in
        let p = at + length tests in
        let branch = contains_behind ops at tests rest code in
        let behind = contains_behind ops (suc (suc (suc p))) bodies (op.Label (i + 1) ∷ []) branch.2.2.2 in
        let end = suc (suc (suc p)) + length bodies in
        let count : at + length (tests ++ rest) ≡ suc end = omega (arith, length-append tests rest, length-append bodies (op.Label (i + 1) ∷ [])) in
        let next : GoesAt end d l x.next = goes_label end (i + 1) d l x.next behind.0 (goes_at (at + length (tests ++ rest)) (suc end) d l x.next count f.next) in
        tick_follows lir m c l bound st s _ a.ended le (λ j lt.
        is_test.by n whole_room None at (c + 64) (c + 64) l (λ v. choose (truth v) (exec program again body x) x.next) ts m (record st { left = j }) s whole_is_room (omega arith) (contains_front ops at tests rest code)
        (record {
          by = λ v ts1 m1 st1 s1 lt1 g1 a1 in1 kept1.
              let u = has_value m1 (value_type e) v (temp_in ts1 0) some in1 in
              branch_follows lir w live p 0 i (suc (suc p)) (c + 64) (c + 60) l (value_type e) v u.0 (exec program again body x) x.next ts1 m1 st1 s1 a1 u.1 u.2 branch.0 branch.2.2.1 (omega arith)
              (λ g there. label_follows lir w live (suc (suc p)) i (c + 60) l ts1 m1 st1 g _ there branch.2.2.0 (λ q here.
              is_body.by (i + 2) ways (suc (suc (suc p))) (c + 60) d l x ts1 m1 st1 q (omega arith) (contains_front ops (suc (suc (suc p))) bodies (op.Label (i + 1) ∷ []) branch.2.2.2) (follow_next (at + length (tests ++ rest)) end ways d d l x (omega arith) next f) (omega arith) here))
              (λ g there. weaker lir m1 (d + 1) l (c + 60) l _ g (omega arith) (omega arith) ((goes_jump (suc p) (i + 1) end d l x.next branch.2.0 behind.1 next).by ts1 m1 st1 g lt1 there));
        })
        (omega arith) (with_left w live at j ts m st s a) tt);
  }

  pub if_else_simulates : (e : TypedExpr) (when_true when_false : TypedStmt) → (IsVoid (value_type e) → ⊥) → SimExpr program lir again bound w live e → SimStmt when_true → SimStmt when_false → SimStmt (IfElse e when_true when_false)
  unfolding exec test stmt_ops
  if_else_simulates e when_true when_false some is_test is_true is_false = record {
    by = λ n ways at c d l x ts m st s cheap code f le a.
        let i = n + expr_labels e in let ops = w.function.ops in
        let tests = whole_ops n e in let zeros = stmt_ops (i + 2) ways when_false in let ones = stmt_ops (i + 2 + stmt_labels when_false) ways when_true in
        let rest = either_ops i 0 zeros ones in
        let p = at + length tests in
        let branch = contains_behind ops at tests rest code in
        let jump = suc p + length zeros in
        let behind_zeros = contains_behind ops (suc p) zeros (op.Jump (suc i) ∷ op.Label i ∷ (ones ++ op.Label (suc i) ∷ [])) branch.2 in
        let end = suc (suc jump) + length ones in
        let behind_ones = contains_behind ops (suc (suc jump)) ones (op.Label (suc i) ∷ []) behind_zeros.2.2 in
        let count : at + length (tests ++ rest) ≡ suc end = omega (arith, length-append tests rest, length-append zeros (op.Jump (suc i) ∷ op.Label i ∷ (ones ++ op.Label (suc i) ∷ [])), length-append ones (op.Label (suc i) ∷ [])) in
        let next : GoesAt end d l x.next = goes_label end (suc i) d l x.next behind_ones.0 (goes_at (at + length (tests ++ rest)) (suc end) d l x.next count f.next) in
        tick_follows lir m c l bound st s _ a.ended le (λ j lt.
        is_test.by n whole_room None at (c + 64) (c + 64) l (λ v. choose (truth v) (exec program again when_true x) (exec program again when_false x)) ts m (record st { left = j }) s whole_is_room (omega arith) (contains_front ops at tests rest code)
        (record {
          by = λ v ts1 m1 st1 s1 lt1 g1 a1 in1 kept1.
              let u = has_value m1 (value_type e) v (temp_in ts1 0) some in1 in
              branch_follows lir w live p 0 i (suc jump) (c + 64) (c + 60) l (value_type e) v u.0 (exec program again when_true x) (exec program again when_false x) ts1 m1 st1 s1 a1 u.1 u.2 branch.0 behind_zeros.2.1 (omega arith)
              (λ g there. label_follows lir w live (suc jump) i (c + 60) l ts1 m1 st1 g _ there behind_zeros.2.0 (λ q here.
              is_true.by (i + 2 + stmt_labels when_false) ways (suc (suc jump)) (c + 60) d l x ts1 m1 st1 q (omega arith) (contains_front ops (suc (suc jump)) ones (op.Label (suc i) ∷ []) behind_zeros.2.2) (follow_next (at + length (tests ++ rest)) end ways d d l x (omega arith) next f) (omega arith) here))
              (λ g there. is_false.by (i + 2) ways (suc p) (c + 60) (d + 1) l x ts1 m1 st1 g (omega arith) (contains_front ops (suc p) zeros (op.Jump (suc i) ∷ op.Label i ∷ (ones ++ op.Label (suc i) ∷ [])) branch.2)
              (follow_next (at + length (tests ++ rest)) jump ways (d + 1) d l x (omega arith) (goes_jump jump (suc i) end d l x.next behind_zeros.0 behind_ones.1 next) f) (omega arith) there);
        })
        (omega arith) (with_left w live at j ts m st s a) tt);
  }

  -- out of a function that gives nothing
  pub return_simulates : IsVoid w.result → SimStmt (Return None)
  unfolding exec stmt_ops
  return_simulates void = record {
    by = λ n ways at c d l x ts m st s cheap code f le a.
        tick_follows lir m c l bound st s _ a.ended le (λ j lt.
        weaker lir m (d + 6) l (c + 64) l _ s (omega arith) (omega arith) (f.give.by nothing at None ts m (record st { left = j }) s lt (with_left w live at j ts m st s a) code.0 (none_given m w.result ts void)));
  }
    where
      none_given : (m : Map) (of : TypeTree) (ts : Temps) → IsVoid of → IsGiven m of nothing None ts
      none_given m (Of k Void) ts h = refl
      none_given m (Of k Boolean) ts h = absurd h
      none_given m (Of k (Integer bits signed)) ts h = absurd h
      none_given m (Of k (Pointer to schema)) ts h = absurd h
      none_given m (Of k (Array of count)) ts h = absurd h
      none_given m (Of k (Struct id)) ts h = absurd h
      none_given m (Of k (Function params result)) ts h = absurd h

  -- with a value of the function's type
  pub give_simulates : (e : TypedExpr) → (IsVoid w.result → ⊥) → value_type e ≡ w.result → SimExpr program lir again bound w live e → SimStmt (Return (Some e))
  unfolding exec stmt_ops
  give_simulates e some typed is_part = record {
    by = λ n ways at c d l x ts m st s cheap code f le a.
        let parts = whole_ops n e in let returns = op.Return (Some 0) ∷ [] in
        tick_follows lir m c l bound st s _ a.ended le (λ j lt.
        is_part.by n whole_room None at (c + 64) (d + 6) l x.give ts m (record st { left = j }) s whole_is_room (omega arith) (contains_front w.function.ops at parts returns code)
        (record { by = λ v ts1 m1 st1 s1 lt1 g1 a1 in1 kept1. f.give.by v (at + length parts) (Some 0) ts1 m1 st1 s1 lt1 a1 (contains_behind w.function.ops at parts returns code).0 (value_given m1 w.result v ts1 some (subst (λ z. IsIn m1 z v (temp_in ts1 0)) typed in1)) })
        (omega arith) (with_left w live at j ts m st s a) tt);
  }
    where
      value_given : (m : Map) (of : TypeTree) (v : CValue) (ts : Temps) → (IsVoid of → ⊥) → IsIn m of v (temp_in ts 0) → IsGiven m of v (Some 0) ts
      value_given m (Of k Void) v ts h i = absurd (h tt)
      value_given m (Of k Boolean) v ts h i = (0, refl, i)
      value_given m (Of k (Integer bits signed)) v ts h i = (0, refl, i)
      value_given m (Of k (Pointer to schema)) v ts h i = (0, refl, i)
      value_given m (Of k (Array of count)) v ts h i = (0, refl, i)
      value_given m (Of k (Struct id)) v ts h i = (0, refl, i)
      value_given m (Of k (Function params result)) v ts h i = (0, refl, i)
