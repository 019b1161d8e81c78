-- One of two codes, by a number in a temporary (C11 6.5.13 to 6.5.15, 6.8.4.1).
use Rattle.std.proofs.Common.{◌≡◌, ℕ, zero, suc, ◌+◌, ◌≤◌, List, [], ◌∷◌, ◌++◌, length, refl, ap, ◌∙◌, arith, Some, length-append}
use Rattle.std.specs.Prelude.{slice_get, ◌==◌, not, Bool, true, false, option_map, option_and_then}
use Rattle.std.proofs.lemmas.Bool.Decides.{nat_tests}
use Rattle.pa_ctype.specs.Types.{TypeTree}
use Rattle.pa_ctype.specs.Values as value
use Rattle.pa_ctype.specs.Values.{CValue}
use Rattle.pa_cmean.specs.Results.{Meaning}
use Rattle.pa_cmean.specs.Operations.{truth}
use Rattle.pa_cmean.specs.State.{State, Cont, Again, choose}
use Rattle.pa_lir.specs.declared.op.Op.{Op}
use Rattle.pa_lir.specs.declared.op.Op.TheVariants as op
use Rattle.pa_lir.specs.declared.function.Lir.{Lir}
use Rattle.pa_lir.specs.Flow.{place_of_label}
use Rattle.pa_lir.specs.Values as flat
use Rattle.pa_lir.specs.Values.{FlatValue}
use Rattle.pa_lir.specs.Meaning.{Flat, Goes, Open, act_of, branches, temp_in}
use Rattle.pa_lowered.specs.Objects.{Map, Stands}
use Rattle.pa_lowered.specs.Results.{Follows}
use Rattle.pa_lowered.specs.Calls.{Temps, Entered, at_place, At}
use Rattle.pa_lowered.proofs.Following.{weaker}
use Rattle.pa_lowered.proofs.Stepping.{goes_follows, label_follows, jump_follows}
use Rattle.pa_lowered.proofs.Evaluating.{TakesAt, takes_at}
use Rattle.pa_lowered.proofs.Containing.{contains_front, contains_behind}
use Rattle.pa_lowered.specs.Simulates.{Contains}
use Rattle.pa_lower.specs.Expressions.{either_ops}
use Rattle.pa_lower.specs.Temporaries.{Room}
use Rattle.pa_typed.specs.Units.{ProgramTree}
use Rattle.pa_lowered.proofs.Numbers.{zero_is}

-- whether a value in a temporary is neither 0 nor null
abbrev pub flat_truth : FlatValue → Bool
flat_truth (flat.Number n) = not (n == 0)
flat_truth (flat.At object offset) = true
flat_truth (flat.Code name schema) = true

pub truth_is : (m : Map) (of : TypeTree) (v : CValue) (u : FlatValue) → Stands m of v u → flat_truth u ≡ truth v
truth_is m of (value.Number z) u h = ap flat_truth h.1 ∙ ap not (zero_is of z h.0)
truth_is m of (value.At place) u h = ap flat_truth h.1.is
truth_is m of (value.Code name) u h = ap flat_truth h.1
truth_is m of value.Null u h = ap flat_truth h.1

branches_on : (o : Open) (label : ℕ) (u : FlatValue) → flat_truth u ≡ true → branches o label u ≡ option_map Goes (place_of_label o.function.ops label)
branches_on o label (flat.Number zero) h = cc
branches_on o label (flat.Number (suc n)) h = refl
branches_on o label (flat.At object offset) h = refl
branches_on o label (flat.Code name schema) h = refl

branches_off : (o : Open) (label : ℕ) (u : FlatValue) → flat_truth u ≡ false → branches o label u ≡ Some (Goes (suc o.at))
branches_off o label (flat.Number zero) h = refl
branches_off o label (flat.Number (suc n)) h = absurd (grind (arith, nat_tests))
branches_off o label (flat.At object offset) h = cc
branches_off o label (flat.Code name schema) h = cc

module _ (lir : Lir) (w : Entered) (live : List ℕ) where
  -- the label is where the test isn't 0, the next operation where it is
  pub branch_follows : (at on label to c c' l : ℕ) (of : TypeTree) (v : CValue) (u : FlatValue) (on_true on_false : State → Meaning) (ts : Temps) (m : Map) (st : State) (s : Flat) → At w live at ts m st s → temp_in ts on ≡ Some u → Stands m of v u
      → slice_get w.function.ops at ≡ Some (op.Branch on label) → place_of_label w.function.ops label ≡ Some to → c' + 4 ≤ c
      → ((g : Flat) → At w live to ts m st g → Follows lir m c' l (on_true st) g) → ((g : Flat) → At w live (suc at) ts m st g → Follows lir m c' l (on_false st) g) → Follows lir m c l (choose (truth v) on_true on_false st) s
  unfolding act_of choose
  branch_follows at on label to c c' l of v u on_true on_false ts m st s a has stands here found pays is_true is_false = by_truth (truth v) (truth_is m of v u stands)
    where
      by_truth : (b : Bool) → flat_truth u ≡ b → Follows lir m c l (choose b on_true on_false st) s
      by_truth true e = goes_follows lir w live at to c c' l l ts m st s (op.Branch on label) _ a here (ap (λ x. option_and_then (branches (at_place w at ts) label) x) has ∙ branches_on (at_place w at ts) label u e ∙ ap (λ p. option_map Goes p) found) pays (omega arith) is_true
      by_truth false e = goes_follows lir w live at (suc at) c c' l l ts m st s (op.Branch on label) _ a here (ap (λ x. option_and_then (branches (at_place w at ts) label) x) has ∙ branches_off (at_place w at ts) label u e) pays (omega arith) is_false

module _ (program : ProgramTree) (lir : Lir) (again : Again) (bound : ℕ) (w : Entered) (live : List ℕ) where
  takes_label : (at label : ℕ) (r : Room) (of : TypeTree) (before : Temps) (b : Map) (c l : ℕ) (go : Cont) → slice_get w.function.ops at ≡ Some (op.Label label) → TakesAt program lir again bound w live (suc at) r of before b c l go → TakesAt program lir again bound w live at r of before b c l go
  takes_label at label r of before b c l go here t = record { by = λ v ts m st s lt g a i kept. label_follows lir w live at label c l ts m st s (go v st) a here (λ q there. t.by v ts m st q lt g there i kept) }

  takes_jump : (at label to : ℕ) (r : Room) (of : TypeTree) (before : Temps) (b : Map) (c l : ℕ) (go : Cont) → slice_get w.function.ops at ≡ Some (op.Jump label) → place_of_label w.function.ops label ≡ Some to → TakesAt program lir again bound w live to r of before b c l go → TakesAt program lir again bound w live at r of before b (c + 1) l go
  takes_jump at label to r of before b c l go here found t = record { by = λ v ts m st s lt g a i kept. jump_follows lir w live at label to (c + 1) c l ts m st s (go v st) a here found (omega arith) (λ q there. weaker lir m c l c (suc l) (go v st) q (omega arith) (omega arith) (t.by v ts m st q lt g there i kept)) }

  -- one of two codes that both leave a value in the room
  pub either_follows : (at n on c c' d l : ℕ) (of type : TypeTree) (v : CValue) (u : FlatValue) (zeros ones : List Op) (r : Room) (before : Temps) (b : Map) (go : Cont) (on_true on_false : State → Meaning) (ts : Temps) (m : Map) (st : State) (s : Flat)
      → At w live at ts m st s → temp_in ts on ≡ Some u → Stands m of v u → Contains w.function.ops at (either_ops n on zeros ones) → TakesAt program lir again bound w live (at + length (either_ops n on zeros ones)) r type before b d l go → c' + 4 ≤ c
      → ((g : Flat) → At w live (suc (suc (suc at + length zeros))) ts m st g → Contains w.function.ops (suc (suc (suc at + length zeros))) ones → TakesAt program lir again bound w live (suc (suc (suc at + length zeros)) + length ones) r type before b d l go → Follows lir m c' l (on_true st) g)
      → ((g : Flat) → At w live (suc at) ts m st g → Contains w.function.ops (suc at) zeros → TakesAt program lir again bound w live (suc at + length zeros) r type before b (d + 1) l go → Follows lir m c' l (on_false st) g)
      → Follows lir m c l (choose (truth v) on_true on_false st) s
  either_follows at n on c c' d l of type v u zeros ones r before b go on_true on_false ts m st s a has stands code t pays is_true is_false =
      let ops = w.function.ops in
      let jump = suc at + length zeros in
      let end = suc (suc jump) + length ones in
      let behind_zeros = contains_behind ops (suc at) zeros (op.Jump (suc n) ∷ op.Label n ∷ (ones ++ op.Label (suc n) ∷ [])) code.2 in
      let behind_ones = contains_behind ops (suc (suc jump)) ones (op.Label (suc n) ∷ []) behind_zeros.2.2 in
      let count : at + length (either_ops n on zeros ones) ≡ suc end = omega (arith, length-append zeros (op.Jump (suc n) ∷ op.Label n ∷ (ones ++ op.Label (suc n) ∷ [])), length-append ones (op.Label (suc n) ∷ [])) in
      let at_end : TakesAt program lir again bound w live end r type before b d l go = takes_label end (suc n) r type before b d l go behind_ones.0 (takes_at program lir again bound w live (at + length (either_ops n on zeros ones)) (suc end) r type before b d l go count t) in
      branch_follows lir w live at on n (suc jump) c c' l of v u on_true on_false ts m st s a has stands code.0 behind_zeros.2.1 pays
      (λ g there. label_follows lir w live (suc jump) n c' l ts m st g (on_true st) there behind_zeros.2.0 (λ q i. is_true q i (contains_front ops (suc (suc jump)) ones (op.Label (suc n) ∷ []) behind_zeros.2.2) at_end))
      (λ g there. is_false g there (contains_front ops (suc at) zeros (op.Jump (suc n) ∷ op.Label n ∷ (ones ++ op.Label (suc n) ∷ [])) code.2) (takes_jump jump (suc n) end r type before b d l go behind_zeros.0 behind_ones.1 at_end))
