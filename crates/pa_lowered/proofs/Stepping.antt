-- One operation of an open call that stands to C's meaning: what is after it.
use Rattle.std.proofs.Common.{◌≡◌, ℕ, suc, ◌+◌, ◌≤◌, List, [], ◌∷◌, refl, ap, ◌∙◌, arith, Some}
use Rattle.std.specs.Prelude.{slice_get, option_map}
use Rattle.pa_cmean.specs.Results.{Meaning}
use Rattle.pa_cmean.specs.State.{State}
use Rattle.pa_lir.specs.declared.op.Op.{Op}
use Rattle.pa_lir.specs.declared.op.Op.TheVariants as op
use Rattle.pa_lir.specs.declared.function.Lir.{Lir}
use Rattle.pa_lir.specs.Values.{FlatValue}
use Rattle.pa_lir.specs.Parts.{cost, counted}
use Rattle.pa_lir.specs.Flow.{place_of_label}
use Rattle.pa_lir.specs.Meaning.{Flat, Act, Gives, Goes, unit, unit_from, unless_ended, continues, operates, applied, applied_if, act_of, counts}
use Rattle.pa_lowered.specs.Objects.{Map}
use Rattle.pa_lowered.specs.Results.{Follows}
use Rattle.pa_lowered.specs.Calls.{Temps, Entered, at_place, At}
use Rattle.pa_lowered.proofs.Following.{unit_follows}

module _ (lir : Lir) (w : Entered) (live : List ℕ) where
  -- the unit does what the operation says
  pub unit_is : (at : ℕ) (ts : Temps) (m : Map) (st : State) (s : Flat) (o : Op) (act : Act) → At w live at ts m st s → slice_get w.function.ops at ≡ Some o → act_of lir s.objects (at_place w at ts) o ≡ Some act
      → unit lir s ≡ applied (at_place w at ts) w.waiting act (counts o s)
  unfolding unit
  unit_is at ts m st s o act a here does =
      ap (λ e. unless_ended e s (unit_from lir s.coming s)) a.ended
      ∙ ap (λ c. unit_from lir c s) a.coming
      ∙ ap (λ os. continues lir os s) a.opens
      ∙ ap (λ p. operates lir (at_place w at ts) w.waiting p s) here
      ∙ ap (λ p. applied_if (at_place w at ts) w.waiting p (counts o s)) does

  -- a temporary gets a value
  pub gives_follows : (at to c c' l : ℕ) (u : FlatValue) (ts : Temps) (m : Map) (st : State) (s : Flat) (o : Op) (r : Meaning) → At w live at ts m st s → slice_get w.function.ops at ≡ Some o → act_of lir s.objects (at_place w at ts) o ≡ Some (Gives to u [])
      → c' + cost o ≤ c → ((g : Flat) → g.objects ≡ s.objects → At w live (suc at) ((to, u) ∷ ts) m st g → Follows lir m c' l r g) → Follows lir m c l r s
  unfolding applied
  gives_follows at to c c' l u ts m st s o r a here does pays k =
      unit_follows lir m (cost o) (counted o) c l c' l r s _ (unit_is at ts m st s o _ a here does)
      (record { output = refl; trace = refl; cost = refl; operations = refl; deep = refl }) pays (omega arith)
      (k _ refl (record { opens = refl; coming = a.coming; ended = a.ended; input = a.input; weight = a.weight; sees = a.sees }))

  -- it goes on at a place
  pub goes_follows : (at to c c' l l' : ℕ) (ts : Temps) (m : Map) (st : State) (s : Flat) (o : Op) (r : Meaning) → At w live at ts m st s → slice_get w.function.ops at ≡ Some o → act_of lir s.objects (at_place w at ts) o ≡ Some (Goes to)
      → c' + cost o ≤ c → l' ≤ l + counted o → ((g : Flat) → At w live to ts m st g → Follows lir m c' l' r g) → Follows lir m c l r s
  unfolding applied
  goes_follows at to c c' l l' ts m st s o r a here does pays turns k =
      unit_follows lir m (cost o) (counted o) c l c' l' r s _ (unit_is at ts m st s o _ a here does)
      (record { output = refl; trace = refl; cost = refl; operations = refl; deep = refl }) pays turns
      (k _ (record { opens = refl; coming = a.coming; ended = a.ended; input = a.input; weight = a.weight; sees = a.sees }))

  -- a label is passed
  pub label_follows : (at label c l : ℕ) (ts : Temps) (m : Map) (st : State) (s : Flat) (r : Meaning) → At w live at ts m st s → slice_get w.function.ops at ≡ Some (op.Label label)
      → ((g : Flat) → At w live (suc at) ts m st g → Follows lir m c l r g) → Follows lir m c l r s
  unfolding act_of
  label_follows at label c l ts m st s r a here k = goes_follows at (suc at) c c l l ts m st s (op.Label label) r a here refl (omega arith) (omega arith) k

  -- a jump to a label
  pub jump_follows : (at label to c c' l : ℕ) (ts : Temps) (m : Map) (st : State) (s : Flat) (r : Meaning) → At w live at ts m st s → slice_get w.function.ops at ≡ Some (op.Jump label) → place_of_label w.function.ops label ≡ Some to → c' + 1 ≤ c
      → ((g : Flat) → At w live to ts m st g → Follows lir m c' (suc l) r g) → Follows lir m c l r s
  unfolding act_of
  jump_follows at label to c c' l ts m st s r a here found pays k = goes_follows at to c c' l (suc l) ts m st s (op.Jump label) r a here (ap (λ p. option_map Goes p) found) pays (omega arith) k
