-- In every run beside every script, a branch lands exactly at the instructions whose rows are indirect branches, and a pointer
-- is signed under IB exactly at those of PACIBSP and PACIB; no run adds an entry of loading.
use Rattle.std.proofs.Common.{◌≡◌, ◌≢◌, ℕ, zero, suc, ◌≤◌, ◌⊎◌, inl, inr, Bool, true, false, List, [], ◌∷◌, ◌++◌, length, refl, sym, ap, ◌∙◌, arith}
use Rattle.std.specs.Prelude.{◌||◌}
use Rattle.std.specs.List.{list_any}
use Rattle.std.proofs.lemmas.Bool.{eq-eqb, ne_eqb, cases_eq}
use Rattle.pa_pac.specs.declared.event.Event.{Event}
use Rattle.pa_pac.specs.declared.event.When.{When}
use Rattle.pa_pac.specs.declared.event.When.TheVariants as moment
use Rattle.pa_pac.specs.Log.{Log}
use Rattle.pa_pac.specs.Signing.{Code}
use Rattle.pa_a64.specs.declared.instr.Instr.{Instr}
use Rattle.pa_object.specs.Machine.{Machine}
use Rattle.pa_object.specs.Rows.{events, entries_at, branches_indirectly, signs_under_ib, is_land, is_sign_under_ib}
use Rattle.pa_object.specs.Run.{Script, Watched, watched_once, watched}
use Rattle.pa_object.proofs.Rows.{events_land, events_sign_under_ib}
use Rattle.pa_object.proofs.StepsRun.{IsBefore, AreBefore}
use Rattle.pa_object.proofs.Watching.{Watches, moves}
use Rattle.pa_laws.specs.Made.{ran, is_loading, is_step, noted_at, ComesOf}
use Rattle.pa_laws.proofs.Advanced.{Advanced, Runs, rests, runs, advanced}

-- ---- entries of one instruction in front of a log

module _ (at : When → Bool) (p : Event → Bool) (number : ℕ) where
  -- where its moment is asked for
  noted_here : (new : List Event) (log : Log) → at (moment.Step number) ≡ true → noted_at at p (entries_at number new ++ log) ≡ (list_any p new || noted_at at p log)
  noted_here [] log h = refl
  noted_here (event ∷ new) log h = rw h (assoc (p event) (list_any p new) (noted_at at p log) (noted_here new log h))
    where
      assoc : (a b c : Bool) {d : Bool} → d ≡ (b || c) → (a || d) ≡ ((a || b) || c)
      assoc true b c e = refl
      assoc false b c e = e

  -- where it isn't
  noted_elsewhere : (new : List Event) (log : Log) → at (moment.Step number) ≡ false → noted_at at p (entries_at number new ++ log) ≡ noted_at at p log
  noted_elsewhere [] log h = refl
  noted_elsewhere (event ∷ new) log h = rw h (noted_elsewhere new log h)

not_yet : (number k : ℕ) (when : When) → k ≤ number → IsBefore k when → is_step number when ≡ false
not_yet number k moment.Load le h = refl
not_yet number k (moment.Step step) le h = ne_eqb step number (λ e. omega arith)

-- no entry is of an instruction that didn't run
none_yet : (p : Event → Bool) (number k : ℕ) (log : Log) → k ≤ number → AreBefore k log → noted_at (is_step number) p log ≡ false
none_yet p number k [] le h = refl
none_yet p number k (entry ∷ log) le h = rw (not_yet number k entry.when le h.0) (none_yet p number k log le h.1)

-- ---- runs

module _ (code : Code) (p : Event → Bool) (q : Instr → Bool) (exact : (instr : Instr) (m : Machine) → list_any p (events code instr m) ≡ q instr) where
  at_new : (w v : Watched) (r : Runs code w v) → Watches w → ComesOf p q w.trail w.machine.log
      → (number : ℕ) → ((number ≡ length w.trail) ⊎ (number ≢ length w.trail))
      → noted_at (is_step number) p (entries_at w.machine.count (events code r.instr r.before) ++ w.machine.log) ≡ ran q (record { at = r.before.pc; word = r.word } ∷ w.trail) number
  unfolding ran
  at_new w v r h comes number (inl e) =
      let at : w.machine.count ≡ number = sym h.counted ∙ sym e in
      rw (eq-eqb number (length w.trail) e, r.decodes)
      (noted_here (is_step number) p w.machine.count (events code r.instr r.before) w.machine.log (eq-eqb w.machine.count number at)
      ∙ ap (λ b. list_any p (events code r.instr r.before) || b) (none_yet p number (length w.trail) w.machine.log (omega arith) h.before)
      ∙ or_false (list_any p (events code r.instr r.before)) ∙ exact r.instr r.before)
    where
      or_false : (b : Bool) → (b || false) ≡ b
      or_false true = refl
      or_false false = refl
  at_new w v r h comes number (inr n) =
      let counted = h.counted in
      rw (ne_eqb number (length w.trail) n)
      (noted_elsewhere (is_step number) p w.machine.count (events code r.instr r.before) w.machine.log (ne_eqb w.machine.count number (λ e. n (sym e ∙ sym counted)))
      ∙ comes number)

  once_comes : (w v : Watched) → Advanced code w v → Watches w → ComesOf p q w.trail w.machine.log → ComesOf p q v.trail v.machine.log
  once_comes w v (rests r) h comes = λ number. ap (noted_at (is_step number) p) r.log ∙ comes number ∙ ap (λ trail. ran q trail number) (sym r.trail)
  once_comes w v (runs r) h comes = λ number.
      ap (noted_at (is_step number) p) r.log ∙ at_new w v r h comes number (cases_eq number (length w.trail)) ∙ ap (λ trail. ran q trail number) (sym r.trail)

  run_comes : (script : Script) (n : ℕ) (w : Watched) → Watches w → ComesOf p q w.trail w.machine.log
      → ComesOf p q (watched code script n w).trail (watched code script n w).machine.log
  unfolding watched
  run_comes script zero w h comes = comes
  run_comes script (suc n) w h comes =
      let v = watched_once code script w in
      run_comes script n v ((moves code script w).watches h) (once_comes w v (advanced code script w) h comes)

module _ (code : Code) (script : Script) (n : ℕ) (w : Watched) (h : Watches w) where
  -- an indirect branch lands at exactly the instructions that BR, BLR, RET and their authenticating forms are
  pub run_lands : ComesOf is_land branches_indirectly w.trail w.machine.log
      → ComesOf is_land branches_indirectly (watched code script n w).trail (watched code script n w).machine.log
  run_lands comes = run_comes code is_land branches_indirectly (events_land code) script n w h comes

  -- under IB exactly the instructions PACIBSP and PACIB sign
  pub run_signs_under_ib : ComesOf is_sign_under_ib signs_under_ib w.trail w.machine.log
      → ComesOf is_sign_under_ib signs_under_ib (watched code script n w).trail (watched code script n w).machine.log
  run_signs_under_ib comes = run_comes code is_sign_under_ib signs_under_ib (events_sign_under_ib code) script n w h comes

-- before its first instruction a machine has entries of loading alone
pub begins_comes : (p : Event → Bool) (q : Instr → Bool) (log : Log) → AreBefore 0 log → ComesOf p q [] log
unfolding ran
begins_comes p q log h = λ number. none_yet p number 0 log (omega arith) h

-- ---- loading

once_loading : (code : Code) (p : Event → Bool) (w v : Watched) → Advanced code w v → noted_at is_loading p v.machine.log ≡ noted_at is_loading p w.machine.log
once_loading code p w v (rests r) = ap (noted_at is_loading p) r.log
once_loading code p w v (runs r) =
    ap (noted_at is_loading p) r.log ∙ noted_elsewhere is_loading p w.machine.count (events code r.instr r.before) w.machine.log refl

-- no run adds an entry of loading
pub run_loading : (code : Code) (script : Script) (p : Event → Bool) (n : ℕ) (w : Watched) → noted_at is_loading p (watched code script n w).machine.log ≡ noted_at is_loading p w.machine.log
unfolding watched
run_loading code script p zero w = refl
run_loading code script p (suc n) w =
    let v = watched_once code script w in
    run_loading code script p n v ∙ once_loading code p w v (advanced code script w)
