-- Whether a value is neither 0 nor null, and whether it is, as 1 or 0 (C11 6.3.1.2, 6.5.3.3p5, 6.5.13p3).
use Rattle.std.proofs.Common.{◌≡◌, ℕ, suc, ◌+◌, ◌<◌, ◌≤◌, List, [], ◌∷◌, refl, ap, ◌∙◌, arith, Some}
use Rattle.std.specs.Prelude.{pos, ◌==◌, not, Bool, true, false}
use Rattle.pa_ctype.specs.Types.{TypeTree}
use Rattle.pa_typed.specs.Units.{ProgramTree}
use Rattle.pa_cmean.specs.Operations.{of_truth}
use Rattle.pa_cmean.specs.State.{State, Cont, Again}
use Rattle.pa_lir.specs.declared.op.Op.TheVariants as op
use Rattle.pa_lir.specs.declared.op.BinOp.{BinOp}
use Rattle.pa_lir.specs.declared.op.BinOp.TheVariants.{Eq, Ne}
use Rattle.pa_lir.specs.declared.function.Lir.{Lir}
use Rattle.pa_lir.specs.Operators.{binary, truth}
use Rattle.pa_lir.specs.Values as flat
use Rattle.pa_lir.specs.Values.{FlatValue, Objects}
use Rattle.pa_lir.specs.Meaning.{Flat, act_of, gives, on_two, temp_in}
use Rattle.pa_lower.specs.Temporaries.{Room}
use Rattle.pa_lowered.specs.Objects.{Map, Grows, IsOf, Stands}
use Rattle.pa_lowered.specs.Results.{Follows}
use Rattle.pa_lowered.specs.Calls.{Temps, Entered, At}
use Rattle.pa_lowered.specs.Simulates.{Contains, IsRoom, Keeps}
use Rattle.pa_lowered.proofs.Containing.{temp_given, temp_other}
use Rattle.pa_lowered.proofs.Stepping.{gives_follows}
use Rattle.pa_lowered.proofs.Standing.{keeps_free}
use Rattle.pa_lowered.proofs.Branching.{flat_truth}
use Rattle.pa_lowered.proofs.Evaluating.{TakesAt, value_follows}

pub not_zero : (objects : Objects) (u : FlatValue) → binary objects Ne u (flat.Number 0) ≡ Some (flat.Number (truth (flat_truth u)))
not_zero objects (flat.Number n) = refl
not_zero objects (flat.At object offset) = refl
not_zero objects (flat.Code name schema) = refl

twice : (b : Bool) → truth b ≡ truth (not (not b))
twice true = refl
twice false = refl

pub is_zero : (objects : Objects) (u : FlatValue) → binary objects Eq u (flat.Number 0) ≡ Some (flat.Number (truth (not (flat_truth u))))
is_zero objects (flat.Number n) = ap (λ x. Some (flat.Number x)) (twice (n == 0))
is_zero objects (flat.At object offset) = refl
is_zero objects (flat.Code name schema) = refl

-- the type has 1 and 0
abbrev pub HasTruth : TypeTree → Type 0
HasTruth of = IsOf of (pos 0) × IsOf of (pos 1)

pub truth_stands : (m : Map) (of : TypeTree) (b : Bool) → HasTruth of → Stands m of (of_truth b) (flat.Number (truth b))
truth_stands m of true h = (h.1, refl)
truth_stands m of false h = (h.0, refl)

module _ (program : ProgramTree) (lir : Lir) (again : Again) (bound : ℕ) (w : Entered) (live : List ℕ) where
  -- a value is compared with 0
  pub test_follows : (o : BinOp) (answer : Bool) (at next c d l : ℕ) (r : Room) (of : TypeTree) (before ts : Temps) (b m : Map) (go : Cont) (u : FlatValue) (st : State) (s : Flat) → ((objects : Objects) → binary objects o u (flat.Number 0) ≡ Some (flat.Number (truth answer))) → HasTruth of
      → IsRoom r → st.left < bound → Grows b m → At w live at ts m st s → Keeps r before ts → temp_in ts r.to ≡ Some u → Contains w.function.ops at (op.Const r.free 0 ∷ op.Bin r.to o r.to r.free ∷ []) → d + 14 ≤ c → next ≡ at + 2 → TakesAt program lir again bound w live next r of before b d l go → Follows lir m c l (go (of_truth answer) st) s
  unfolding act_of
  test_follows o answer at next c d l r of before ts b m go u st s does type room lt g a kept has code pays is t =
      let below = room.to in
      gives_follows lir w live at r.free c (d + 8) l (flat.Number 0) ts m st s (op.Const r.free 0) _ a code.0 refl (omega arith) (λ q same there.
      value_follows program lir again bound w live (suc at) next (d + 8) d l r of before ((r.free, flat.Number 0) ∷ ts) b m go (of_truth answer) (flat.Number (truth answer)) st q (op.Bin r.to o r.to r.free) lt g there (keeps_free r before ts r.free (flat.Number 0) (omega arith) kept) code.2.0
      (ap (λ x. on_two (λ u v. gives r.to (binary q.objects o u v)) x (temp_in ((r.free, flat.Number 0) ∷ ts) r.free)) (temp_other ts r.free r.to (flat.Number 0) (λ e. omega arith) ∙ has)
      ∙ ap (λ x. on_two (λ u v. gives r.to (binary q.objects o u v)) (Some u) x) (temp_given ts r.free (flat.Number 0))
      ∙ ap (gives r.to) (does q.objects))
      (omega arith) (truth_stands m of answer type) (omega arith) t)
