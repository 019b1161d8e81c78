-- A run by its steps.
use Rattle.std.proofs.Common.{◌≡◌, ℕ, zero, suc, ◌+◌, ◌-◌, ◌<◌, ◌≤◌, max, List, [], true, map, Option, Some, None, refl, sym, ap, subst, ◌∙◌, arith}
use Rattle.pa_mem.proofs.Bytes.{outline}
use Rattle.pa_pac.specs.Signing.{Code}
use Rattle.pa_object.specs.declared.end.End.{End}
use Rattle.pa_object.specs.declared.script.Item.{Item}
use Rattle.pa_object.specs.Machine.{Machine}
use Rattle.pa_object.specs.Run.{Script, step, applied_all, advance, advance_by, run}
use Rattle.pa_object.specs.Script.{all_fit, all_lines, ordered_from}
use Rattle.pa_object.proofs.Growth.{
  IsFine,
  applied_all_wrote,
  advance-goes,
  advance-None,
  advance-count,
  advance_by_leaves,
  advance_by-count,
  advance_by-ended,
  advance_by-add,
  advance_by-later,
  all_fit-outlines,
  applied_all-before,
}
use Rattle.pa_machine.specs.declared.went.Went.TheVariants.{Goes, Ended}
use Rattle.pa_machine.specs.Items.{IsRest}
use Rattle.pa_machine.specs.Running.{Running, went}
use Rattle.pa_machine.proofs.Walks.{rest-none, rest-rest, rest-applied, rest-fits, rest-lines}

module _ (code : Code) (script : Script) where
  -- a run stands still where the number is reached
  pub run_reached : (n k : ℕ) (m : Machine) → k ≤ n → n ≤ max k m.count → run code script n m ≡ run code script k m
  run_reached n k m le most = let same : n - m.count ≡ k - m.count = omega arith in ap (λ j. advance_by code script j m) same

  pub run_same : (m : Machine) → run code script m.count m ≡ m
  unfolding advance_by
  run_same m = let none : m.count - m.count ≡ 0 = omega arith in ap (λ k. advance_by code script k m) none

  pub run_ended : (n : ℕ) (m : Machine) (e : End) → m.ended ≡ Some e → run code script n m ≡ m
  run_ended n m e q = advance_by-ended code script (n - m.count) m e q

  run_add : (n k : ℕ) (m : Machine) → m.count ≤ n → run code script (n + k) m ≡ advance_by code script k (run code script n m)
  run_add n k m le =
      let split : n + k - m.count ≡ n - m.count + k = omega arith in
      ap (λ j. advance_by code script j m) split ∙ advance_by-add code script (n - m.count) k m

  -- a run that has ended stays as it is
  pub run_later : (n k : ℕ) (m : Machine) (e : End) → n ≤ k → (run code script n m).ended ≡ Some e → run code script k m ≡ run code script n m
  run_later n k m e le q = advance_by-later code script (n - m.count) (k - m.count) m e (omega arith) q

  -- what fits before a run fits after it
  pub run-fits : (n : ℕ) (items : List Item) (m : Machine) → all_fit items m.memory ≡ true → all_fit items (run code script n m).memory ≡ true
  run-fits n items m h = all_fit-outlines items (run code script n m).memory m.memory (advance_by_leaves code script (n - m.count) m).memory ∙ h

-- a script has no item for the numbers from `low` to below `high`
abbrev Quiet : Script → ℕ → ℕ → Type 0
Quiet script low high = (number : ℕ) (m : Machine) → low ≤ number → number < high → applied_all script number m ≡ m

module _ (code : Code) (script : Script) where
  -- where no item comes, a machine advances as it does beside no script
  advance_by-quiet : (k n : ℕ) (m : Machine) → (m.ended ≡ None → m.count ≡ n) → Quiet script n (n + k) → advance_by code script k m ≡ advance_by code [] k m
  unfolding advance_by applied_all
  advance_by-quiet zero n m counted quiet = refl
  advance_by-quiet (suc k) n m counted quiet =
      at m.ended refl (advance_by-quiet k (suc n) (advance code [] m) next (λ number x low high. quiet number x (omega arith) (omega arith)))
    where
      next : (advance code [] m).ended ≡ None → (advance code [] m).count ≡ suc n
      next goes =
          let before = advance-None code [] m goes in
          advance-count code [] m before (subst IsFine (sym goes) tt) ∙ ap suc (counted before)

      at : (o : Option End) → m.ended ≡ o → advance_by code script k (advance code [] m) ≡ advance_by code [] k (advance code [] m) → advance_by code script (suc k) m ≡ advance_by code [] (suc k) m
      at (Some e) q more = advance_by-ended code script (suc k) m e q ∙ sym (advance_by-ended code [] (suc k) m e q)
      at None q more =
          let number : n ≤ m.count = let c = counted q in omega arith in
          let same : advance code script m ≡ advance code [] m =
          advance-goes code script m q ∙ ap (step code) (quiet m.count m number (let c = counted q in omega arith)) ∙ sym (advance-goes code [] m q) in
          ap (advance_by code script k) same ∙ more

  -- the items of the first instruction are done before it, and none comes behind it
  advance_by-first : (n k : ℕ) (m : Machine) → m.ended ≡ None → m.count ≡ n → 1 ≤ k → Quiet script (n + 1) (n + k) → advance_by code script k m ≡ advance_by code [] k (applied_all script m.count m)
  unfolding advance_by applied_all
  advance_by-first n zero m goes counted some quiet = absurd (omega arith)
  advance_by-first n (suc k) m goes counted some quiet =
      ap (advance_by code script k) same ∙ advance_by-quiet k (n + 1) (advance code [] written) next (λ number x low high. quiet number x low (omega arith))
    where
      written : Machine
      written = applied_all script m.count m

      wrote : written ≡ record m { memory = written.memory }
      wrote = (applied_all_wrote script m.count m).rest

      still : written.ended ≡ None
      still = ap (λ (x : Machine). x.ended) wrote ∙ goes

      same : advance code script m ≡ advance code [] written
      same = advance-goes code script m goes ∙ sym (advance-goes code [] written still)

      next : (advance code [] written).ended ≡ None → (advance code [] written).count ≡ n + 1
      next fine =
          let one = advance-count code [] written still (subst IsFine (sym fine) tt) in
          let count = ap (λ (x : Machine). x.count) wrote in
          omega arith

pub went-Goes : (o : Option End) → Goes ≡ went o → o ≡ None
went-Goes None q = refl
went-Goes (Some e) q = cc

pub went-Ended : (o : Option End) (e : End) → Ended e ≡ went o → o ≡ Some e
went-Ended None e q = cc
went-Ended (Some f) e q = cc

-- so far along a run: `left` is what stands behind the items that are done
pub record Reached {P : Type 0} (code : P → Code) (script left : List Item) (first now : Running P) (n : ℕ) : Type 0 where
  pub here : now.machine ≡ run (code first.pac) script n first.machine
  pub goes : now.machine.ended ≡ None
  pub counted : now.machine.count ≡ n
  pub pac : now.pac ≡ first.pac
  pub begun : first.machine.count ≤ n
  pub ordered : ordered_from n left ≡ true
  pub rest : IsRest n script left
  pub fits : all_fit left now.machine.memory ≡ true
  pub lines : all_lines left ≡ true

pub reached-none : {P : Type 0} (code : P → Code) (script left : List Item) (first : Running P) (n : ℕ) → n ≡ first.machine.count → first.machine.ended ≡ None → all_fit script first.machine.memory ≡ true → all_lines script ≡ true → ordered_from n left ≡ true → IsRest n script left
    → Reached code script left first first n
reached-none code script left first n is goes fits lines ordered rest = record {
  here = sym (ap (λ k. run (code first.pac) script k first.machine) is ∙ run_same (code first.pac) script first.machine);
  goes = goes;
  counted = sym is;
  pac = refl;
  begun = omega arith;
  ordered = ordered;
  rest = rest;
  fits = rest-fits n script left rest first.machine.memory fits;
  lines = rest-lines n script left rest lines;
}

-- room is made, and the items of the instruction are done
module _ {P : Type 0} (code : P → Code) (script left : List Item) (first now room written : Running P) (n : ℕ) (reached : Reached code script left first now n)
    (made : room ≡ record now { spare = room.spare }) (done : written ≡ record room { machine = applied_all left n room.machine }) where
  written-machine : written.machine ≡ applied_all script now.machine.count now.machine
  written-machine =
      let same : n ≤ now.machine.count = let counted = reached.counted in omega arith in
      ap (λ (x : Running P). x.machine) done
      ∙ ap (λ (x : Running P). applied_all left n x.machine) made
      ∙ ap (λ k. applied_all left k now.machine) (sym reached.counted)
      ∙ sym (rest-applied n script left reached.rest now.machine.count now.machine same)

  written-pac : written.pac ≡ first.pac
  written-pac = ap (λ (x : Running P). x.pac) done ∙ ap (λ (x : Running P). x.pac) made ∙ reached.pac

  written-rest : written.machine ≡ record now.machine { memory = (applied_all script now.machine.count now.machine).memory }
  written-rest = written-machine ∙ (applied_all_wrote script now.machine.count now.machine).rest

  pub written-goes : written.machine.ended ≡ None
  written-goes = ap (λ (m : Machine). m.ended) written-rest ∙ reached.goes

  pub written-count : written.machine.count ≡ n
  written-count = ap (λ (m : Machine). m.count) written-rest ∙ reached.counted

  pub written-ordered : (behind : List Item) → IsRest (n + 1) left behind → IsRest (n + 1) script behind
  written-ordered behind rest = rest-rest n (n + 1) script left behind (omega arith) reached.rest rest

  -- so many instructions are done, and no item comes between them
  module _ (k : ℕ) (behind : List Item) (rest : IsRest (n + 1) left behind) (ordered : ordered_from (n + k) behind ≡ true) (some : 1 ≤ k)
      (new : Running P) (advanced : new.machine ≡ advance_by (code written.pac) [] k written.machine) where
    quiet : Quiet script (n + 1) (n + k)
    quiet i m low high = rest-applied (n + 1) script behind (written-ordered behind rest) i m low ∙ applied_all-before behind (n + k) i m ordered high

    advanced-machine : new.machine ≡ advance_by (code first.pac) [] k (applied_all script now.machine.count now.machine)
    advanced-machine = advanced ∙ ap (λ p. advance_by (code p) [] k written.machine) written-pac ∙ ap (advance_by (code first.pac) [] k) written-machine

    pub advanced-here : new.machine ≡ run (code first.pac) script (n + k) first.machine
    advanced-here =
        advanced-machine
        ∙ sym (advance_by-first (code first.pac) script n k now.machine reached.goes reached.counted some quiet)
        ∙ ap (advance_by (code first.pac) script k) reached.here
        ∙ sym (run_add (code first.pac) script n k first.machine reached.begun)

    advanced-memory : map outline new.machine.memory ≡ map outline now.machine.memory
    advanced-memory =
        let all = applied_all script now.machine.count now.machine in
        ap (λ (m : Machine). map outline m.memory) advanced-machine ∙ (advance_by_leaves (code first.pac) [] k all).memory ∙ (applied_all_wrote script now.machine.count now.machine).memory

    pub advanced-reached : new.machine.ended ≡ None → new.pac ≡ written.pac → Reached code script behind first new (n + k)
    advanced-reached goes pac =
        let begun = reached.begun in
        let fits : all_fit left new.machine.memory ≡ true = all_fit-outlines left new.machine.memory now.machine.memory advanced-memory ∙ reached.fits in
        let ended : (advance_by (code written.pac) [] k written.machine).ended ≡ None = ap (λ (m : Machine). m.ended) (sym advanced) ∙ goes in
        record {
          here = advanced-here;
          goes = goes;
          counted = ap (λ (m : Machine). m.count) advanced ∙ advance_by-count (code written.pac) [] k written.machine ended ∙ ap (λ j. j + k) written-count;
          pac = pac ∙ written-pac;
          begun = omega arith;
          ordered = ordered;
          rest = rest-rest (n + 1) (n + k) script behind behind (omega arith) (written-ordered behind rest) (rest-none (n + k) behind);
          fits = rest-fits (n + 1) left behind rest new.machine.memory fits;
          lines = rest-lines (n + 1) left behind rest reached.lines;
        }

-- so far along instructions between which no item comes
pub record Alone {P : Type 0} (code : P → Code) (first now : Running P) (k : ℕ) : Type 0 where
  pub here : now.machine ≡ advance_by (code first.pac) [] k first.machine
  pub goes : now.machine.ended ≡ None
  pub spare : now.spare + k ≡ first.spare
  pub pac : now.pac ≡ first.pac

pub alone-none : {P : Type 0} (code : P → Code) (first : Running P) → first.machine.ended ≡ None → Alone code first first 0
unfolding advance_by
alone-none code first goes = record { here = refl; goes = goes; spare = omega arith; pac = refl }

module _ {P : Type 0} (code : P → Code) (first now : Running P) (k : ℕ) (alone : Alone code first now k) where
  pub alone-count : now.machine.count ≡ first.machine.count + k
  alone-count =
      let here = alone.here in
      ap (λ (m : Machine). m.count) here ∙ advance_by-count (code first.pac) [] k first.machine (ap (λ (m : Machine). m.ended) (sym here) ∙ alone.goes)

  module _ (new : Running P) (some : 0 < now.spare) (stepped : new ≡ record now { machine = step (code now.pac) now.machine; spare = now.spare - 1 }) where
    pub alone-here : new.machine ≡ advance_by (code first.pac) [] (k + 1) first.machine
    unfolding advance_by applied_all
    alone-here =
        ap (λ (x : Running P). x.machine) stepped
        ∙ ap (λ p. step (code p) now.machine) alone.pac
        ∙ sym (advance-goes (code first.pac) [] now.machine alone.goes)
        ∙ ap (advance (code first.pac) []) alone.here
        ∙ sym (advance_by-add (code first.pac) [] k 1 first.machine)

    pub alone-next : new.machine.ended ≡ None → Alone code first new (k + 1)
    alone-next goes =
        let spare = ap (λ (x : Running P). x.spare) stepped in
        let before = alone.spare in
        record { here = alone-here; goes = goes; spare = omega arith; pac = ap (λ (x : Running P). x.pac) stepped ∙ alone.pac }

    -- a run that has ended stays as it is
    pub alone-ended : (n : ℕ) (e : End) → k + 1 ≤ n → new.machine.ended ≡ Some e → new.machine ≡ advance_by (code first.pac) [] n first.machine
    alone-ended n e le ended =
        alone-here ∙ sym (advance_by-later (code first.pac) [] (k + 1) n first.machine e le (ap (λ (m : Machine). m.ended) (sym alone-here) ∙ ended))
