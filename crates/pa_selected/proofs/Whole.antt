-- The run of a program's machine code is what its flat code means, by induction on units.
use Rattle.std.proofs.Common.{◌≡◌, ℕ, zero, suc, ◌+◌, ◌≤◌, List, [], Option, Some, None, refl, sym, ap, subst, ◌∙◌, arith}
use Rattle.pa_object.specs.Machine.{Machine}
use Rattle.pa_object.specs.Run.{advance_by, watched}
use Rattle.pa_object.proofs.Growth.{advance_by-add}
use Rattle.pa_lir.specs.Meaning.{Coming, Flat, FlatEnd, FlatMeaning, Done, Stop, Undefined, unit, unit_from, unless_ended, run, begun, lmean}
use Rattle.pa_lir.proofs.Growth.{run_grows}
use Rattle.pa_lir.proofs.Runs.{run_ended}
use Rattle.pa_selected.specs.Values.{Addresses}
use Rattle.pa_selected.specs.Worlds.{World}
use Rattle.pa_selected.specs.Runs.{Simulates, IsWithinCosts, entry_cost}
use Rattle.pa_selected.specs.Whole.{AreWords, KeepsShown, DoesAs, stack_bytes}
use Rattle.pa_selected.proofs.Acting.{continued}
use Rattle.pa_selected.proofs.Arriving.{arrival_does}
use Rattle.pa_selected.proofs.Showing.{keeps_then}

-- what a run does, one does that comes before it
pub prepended : (w : World) (started n : ℕ) (m middle : Machine) (first before s : Flat) (e : Option FlatEnd) → advance_by w.pac [] n m ≡ middle → KeepsShown w first before m n → DoesAs w started middle before s e → DoesAs w started m first s e
prepended w started n m middle first before s None runs shows h = record {
  later = h.later;
  number = n + h.number;
  runs = advance_by-add w.pac [] n h.number m ∙ (ap (advance_by w.pac [] h.number) runs ∙ h.runs);
  addresses = h.addresses;
  simulates = h.simulates;
  within = h.within;
  shows = keeps_then w first before s m middle n h.number runs shows h.shows;
}
prepended w started n m middle first before s (Some (Done status)) runs shows h = record {
  later = h.later;
  number = n + h.number;
  runs = advance_by-add w.pac [] n h.number m ∙ (ap (advance_by w.pac [] h.number) runs ∙ h.runs);
  returned = h.returned;
  fewest = h.fewest;
  most = h.most;
  shows = keeps_then w first before s m middle n h.number runs shows h.shows;
}
prepended w started n m middle first before s (Some Stop) runs shows h = tt
prepended w started n m middle first before s (Some Undefined) runs shows h = tt

module _ (w : World) (words : AreWords w) (started : ℕ) where
  -- ---- one unit

  unit_does : (s : Flat) (m : Machine) (addresses : Addresses) → Simulates w addresses s m → IsWithinCosts started s m → s.ended ≡ None → (unit w.lir s).deep ≤ stack_bytes w → DoesAs w started m s (unit w.lir s) (unit w.lir s).ended
  unfolding unit
  unit_does s m addresses simulates within going few =
      let same : unit_from w.lir s.coming s ≡ unless_ended s.ended s (unit_from w.lir s.coming s) = sym (ap (λ e. unless_ended e s (unit_from w.lir s.coming s)) going) in
      subst (λ (x : Flat). DoesAs w started m s x x.ended) same (go s.coming refl (subst (λ (x : Flat). x.deep ≤ stack_bytes w) (sym same) few))
    where
      go : (c : Option Coming) → s.coming ≡ c → (unit_from w.lir c s).deep ≤ stack_bytes w → DoesAs w started m s (unit_from w.lir c s) (unit_from w.lir c s).ended
      go None none few = continued w started s m addresses simulates within going words s.opens none refl
      go (Some c) some few = arrival_does w started s m addresses simulates within going c some few

  -- ---- so many

  -- what so many units more do
  abbrev Rest : ℕ → Flat → Machine → Flat → Type 0
  Rest n s m before = DoesAs w started m before (run w.lir n (unit w.lir s)) (run w.lir n (unit w.lir s)).ended

  pub run_does : (n : ℕ) (s : Flat) (m : Machine) (addresses : Addresses) → Simulates w addresses s m → IsWithinCosts started s m → s.ended ≡ None → (run w.lir n s).deep ≤ stack_bytes w → DoesAs w started m s (run w.lir n s) (run w.lir n s).ended
  unfolding run advance_by watched
  run_does zero s m addresses simulates within going few = subst (DoesAs w started m s s) (sym going) (record {
    later = m;
    number = 0;
    runs = refl;
    addresses = addresses;
    simulates = simulates;
    within = within;
    shows = λ v e watches shows. shows;
  })
  run_does (suc n) s m addresses simulates within going few =
      let deeper = (run_grows w.lir n (unit w.lir s)).deeper in
      go (unit w.lir s).ended refl (unit_does s m addresses simulates within going (omega (arith, few, deeper))) (λ k more simulates within q. run_does n (unit w.lir s) k more simulates within q few)
    where
      go : (e : Option FlatEnd) → (unit w.lir s).ended ≡ e → DoesAs w started m s (unit w.lir s) e
          → ((k : Machine) (more : Addresses) → Simulates w more (unit w.lir s) k → IsWithinCosts started (unit w.lir s) k → (unit w.lir s).ended ≡ None → Rest n s k (unit w.lir s)) → Rest n s m s
      go None q h rest = prepended w started h.number m h.later s (unit w.lir s) (run w.lir n (unit w.lir s)) (run w.lir n (unit w.lir s)).ended h.runs h.shows (rest h.later h.addresses h.simulates h.within q)
      go (Some e) q h rest = subst (λ (x : Flat). DoesAs w started m s x x.ended) (sym (run_ended w.lir n (unit w.lir s) e q)) (subst (DoesAs w started m s (unit w.lir s)) (sym q) h)

-- ---- a program, from the call of `main`

pub program_does : (w : World) (input : List ℕ) (fuel : ℕ) (m : Machine) (addresses : Addresses) → AreWords w → Simulates w addresses (begun w.lir input) m → (lmean w.lir input fuel).deep ≤ stack_bytes w
    → DoesAs w m.count m (begun w.lir input) (run w.lir fuel (begun w.lir input)) (run w.lir fuel (begun w.lir input)).ended
program_does w input fuel m addresses words simulates few =
    run_does w words m.count fuel (begun w.lir input) m addresses simulates (record { fewest = omega arith; most = omega arith }) refl few
