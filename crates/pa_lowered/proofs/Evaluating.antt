-- The value of an expression goes on from its temporary.
use Rattle.std.proofs.Common.{◌≡◌, ℕ, suc, ◌+◌, ◌<◌, ◌≤◌, List, [], ◌∷◌, ◌++◌, length, refl, subst, ◌∙◌, arith, Option, Some, None}
use Rattle.std.specs.Prelude.{slice_get}
use Rattle.pa_ctype.specs.Types.{TypeTree}
use Rattle.pa_ctype.specs.Values.{Place, CValue}
use Rattle.pa_typed.specs.Typed.{TypedExpr}
use Rattle.pa_typed.specs.Units.{ProgramTree}
use Rattle.pa_cmean.specs.Results.{Meaning, given}
use Rattle.pa_cmean.specs.State.{State, Cont, Again}
use Rattle.pa_cmean.specs.Expressions.{eval}
use Rattle.pa_lir.specs.declared.op.Op.{Op}
use Rattle.pa_lir.specs.declared.function.Lir.{Lir}
use Rattle.pa_lir.specs.Values.{FlatValue}
use Rattle.pa_lir.specs.Parts.{cost}
use Rattle.pa_lir.specs.Meaning.{Flat, Gives, act_of, temp_in}
use Rattle.pa_lower.specs.Temporaries.{Room, next_room}
use Rattle.pa_lower.specs.Expressions.{expr_ops}
use Rattle.pa_lowered.specs.Objects.{Map, Grows, Stands}
use Rattle.pa_lowered.specs.Results.{Follows}
use Rattle.pa_lowered.specs.Calls.{Temps, Entered, at_place, At}
use Rattle.pa_lowered.specs.Simulates.{value_type, Contains, IsIn, IsRoom, Keeps, HasSame, Takes, SimulatesExpr}
use Rattle.pa_lowered.proofs.Containing.{contains_front, contains_behind, temp_given}
use Rattle.pa_lowered.proofs.Following.{grows_twice, undefined_follows}
use Rattle.pa_lowered.proofs.Stepping.{gives_follows}
use Rattle.pa_lowered.proofs.Standing.{stands_in, in_later, next_is_room, keeps_twice, keeps_value, keeps_next, same_later, same_next}

-- what has no value is undefined
pub given_follows : {A : Type 0} (lir : Lir) (m : Map) (c l : ℕ) (o : Option A) (k : A → Meaning) (s : Flat) → ((x : A) → o ≡ Some x → Follows lir m c l (k x) s) → Follows lir m c l (given o k) s
given_follows lir m c l None k s h = undefined_follows lir m c l s
given_follows lir m c l (Some x) k s h = h x refl

module _ (w : Entered) (live : List ℕ) where
  -- less work is left
  pub with_left : (at n : ℕ) (ts : Temps) (m : Map) (st : State) (s : Flat) → At w live at ts m st s → At w live at ts m (record st { left = n }) s
  with_left at n ts m st s a = record { opens = a.opens; coming = a.coming; ended = a.ended; input = a.input; weight = a.weight; sees = a.sees }

module _ (program : ProgramTree) (lir : Lir) (again : Again) (bound : ℕ) (w : Entered) (live : List ℕ) where
  abbrev pub SimExpr : TypedExpr → Type 0
  SimExpr e = SimulatesExpr program lir again bound w live e

  abbrev pub TakesAt : (at : ℕ) (r : Room) (of : TypeTree) (before : Temps) (b : Map) (paid turned : ℕ) (go : Cont) → Type 0
  TakesAt at r of before b paid turned go = Takes program lir again bound w live at r of before b paid turned go

  pub takes_at : (at there : ℕ) (r : Room) (of : TypeTree) (before : Temps) (b : Map) (c l : ℕ) (go : Cont) → at ≡ there → TakesAt at r of before b c l go → TakesAt there r of before b c l go
  takes_at at there r of before b c l go e t = subst (λ p. TakesAt p r of before b c l go) e t

  pub takes_grown : (at : ℕ) (r : Room) (of : TypeTree) (a b : Temps) (m k : Map) (c l : ℕ) (go : Cont) → Grows m k → Keeps r a b → TakesAt at r of a m c l go → TakesAt at r of b k c l go
  takes_grown at r of a b m k c l go g kept t = record { by = λ v ts n st s lt h i there keeps. t.by v ts n st s lt (grows_twice m k n g h) i there (keeps_twice r a b ts kept keeps) }

  -- the last operation of an expression gives its value
  pub value_follows : (at next c d l : ℕ) (r : Room) (of : TypeTree) (before ts : Temps) (b m : Map) (go : Cont) (v : CValue) (u : FlatValue) (st : State) (s : Flat) (o : Op) → st.left < bound → Grows b m → At w live at ts m st s → Keeps r before ts
      → slice_get w.function.ops at ≡ Some o → act_of lir s.objects (at_place w at ts) o ≡ Some (Gives r.to u []) → d + cost o ≤ c → Stands m of v u → next ≡ suc at → TakesAt next r of before b d l go → Follows lir m c l (go v st) s
  value_follows at next c d l r of before ts b m go v u st s o lt g a kept here does pays stands is t =
      gives_follows lir w live at r.to c d l u ts m st s o _ a here does pays (λ q same i. (takes_at next (suc at) r of before b d l go is t).by v ((r.to, u) ∷ ts) m st q lt g i (stands_in m of v u _ (temp_given ts r.to u) stands) (keeps_value r before ts u kept))

  -- two parts, the value of the first one waiting for that of the other
  pub both_follow : (left right : TypedExpr) → SimExpr left → SimExpr right → (n i : ℕ) (r : Room) (same : Option Place) (at c l : ℕ) (rest : List Op) (k : CValue → CValue → State → Meaning) (ts : Temps) (m : Map) (st : State) (s : Flat)
      → IsRoom r → Contains w.function.ops at (expr_ops n r left ++ (expr_ops i (next_room r) right ++ rest))
      → ((u v : CValue) (ts2 : Temps) (m2 : Map) (st2 : State) (s2 : Flat) → st2.left < bound → Grows m m2 → At w live (at + length (expr_ops n r left) + length (expr_ops i (next_room r) right)) ts2 m2 st2 s2
      → IsIn m2 (value_type left) u (temp_in ts2 r.to) → IsIn m2 (value_type right) v (temp_in ts2 r.free) → Keeps r ts ts2 → Contains w.function.ops (at + length (expr_ops n r left) + length (expr_ops i (next_room r) right)) rest → Follows lir m2 c l (k u v st2) s2)
      → st.left ≤ bound → At w live at ts m st s → HasSame m same r ts → Follows lir m c l (eval program again same left (λ u. eval program again same right (k u)) st) s
  both_follow left right is_left is_right n i r same at c l rest k ts m st s room code then le a around =
      let first = expr_ops n r left in let second = expr_ops i (next_room r) right in
      let code2 = contains_behind w.function.ops at first (second ++ rest) code in
      let to_kept = room.to in
      is_left.by n r same at c c l (λ u. eval program again same right (k u)) ts m st s room (omega arith) (contains_front w.function.ops at first (second ++ rest) code)
      (record {
        by = λ u ts1 m1 st1 s1 lt1 g1 a1 in1 kept1.
            is_right.by i (next_room r) same (at + length first) c c l (k u) ts1 m1 st1 s1 (next_is_room r room) (omega arith) (contains_front w.function.ops (at + length first) second rest code2)
            (record {
              by = λ v ts2 m2 st2 s2 lt2 g2 a2 in2 kept2.
                  then u v ts2 m2 st2 s2 lt2 (grows_twice m m1 m2 g1 g2) a2
                  (in_later m1 m2 (value_type left) u (temp_in ts1 r.to) (temp_in ts2 r.to) g2 (keeps_next r ts1 ts2 kept2 r.to to_kept) in1) in2
                  (λ t below other spare. keeps_next r ts1 ts2 kept2 t below ∙ kept1 t below other spare)
                  (contains_behind w.function.ops (at + length first) second rest code2);
            })
            (omega arith) a1 (same_next m1 same r ts1 (same_later m m1 same r ts ts1 room g1 kept1 around));
      })
      le a around
