-- What is left of the input, in every run beside every script: its SVC #2 took its bytes in their order, and nothing else did.
use Rattle.std.proofs.Common.{◌≡◌, ℕ, zero, suc, ◌+◌, one-add, zero-add, Bool, true, false, cond, List, [], ◌∷◌, drop, refl, sym, ap, ◌∙◌, Some}
use Rattle.std.specs.Prelude.{◌==◌}
use Rattle.std.proofs.lemmas.Bool.{eqb-true}
use Rattle.std.proofs.lemmas.List.Sums.{sum_by-cons}
use Rattle.pa_pac.specs.Signing.{Code}
use Rattle.pa_a64.specs.declared.instr.Instr.{Instr}
use Rattle.pa_a64.specs.declared.instr.Instr.TheVariants as i
use Rattle.pa_a64.specs.declared.instr.SumOp.TheVariants as sum
use Rattle.pa_a64.specs.declared.instr.LoadStoreOp.TheVariants.{Ldr}
use Rattle.pa_a64.specs.declared.instr.LoadStoreWordOp.TheVariants.{Ldrw}
use Rattle.pa_a64.specs.declared.instr.LoadStoreHalfOp.TheVariants.{Ldrh}
use Rattle.pa_a64.specs.declared.instr.LoadStoreByteOp.TheVariants.{Ldrb}
use Rattle.pa_a64.specs.declared.instr.LoadStoreUnscaledOp.TheVariants.{Ldur}
use Rattle.pa_a64.specs.declared.instr.LoadStorePairOp.TheVariants.{Ldp}
use Rattle.pa_a64.specs.declared.instr.BranchOp.TheVariants.{B}
use Rattle.pa_a64.specs.declared.instr.BranchRegisterOp.TheVariants.{Br}
use Rattle.pa_a64.specs.declared.instr.BranchAuthenticatedOp.TheVariants.{Braa}
use Rattle.pa_a64.specs.declared.instr.StackOp.TheVariants.{Retab}
use Rattle.pa_a64.specs.declared.instr.PlainOp.TheVariants.{Paciza}
use Rattle.pa_a64.specs.declared.instr.ExceptionOp.TheVariants.{Svc}
use Rattle.pa_a64.specs.Decoding.{decoded}
use Rattle.pa_object.specs.Machine.{Machine, next}
use Rattle.pa_object.specs.Effects.{effect, called, prints, reads, exits, behind_first}
use Rattle.pa_object.specs.Run.{Script, Place, Watched, watched_once, watched}
use Rattle.pa_laws.specs.Made.{is_some_and}
use Rattle.pa_laws.specs.Input.{reads_input, readings, left_of}
use Rattle.pa_laws.proofs.Advanced.{Advanced, rests, runs, advanced}

called_input : (number : ℕ) (m : Machine) → (called number m).input ≡ cond (number == 2) (behind_first m.input) m.input
called_input number m = at (number == 1) refl
  where
    other : (b : Bool) → (cond b (next (reads m)) (exits m)).input ≡ cond b (behind_first m.input) m.input
    other true = refl
    other false = refl

    at : (b : Bool) → number == 1 ≡ b → (cond b (next (prints m)) (cond (number == 2) (next (reads m)) (exits m))).input ≡ cond (number == 2) (behind_first m.input) m.input
    at true e = rw (eqb-true number 1 e) refl
    at false e = other (number == 2)

-- SVC #2 takes the first byte, while there is one, and no other instruction takes any
pub effect_input : (code : Code) (instr : Instr) (m : Machine) → (effect code instr m).input ≡ cond (reads_input instr) (behind_first m.input) m.input
unfolding effect
effect_input code (i.Sum sum.Add rd rn rm) m = refl
effect_input code (i.LoadStore Ldr rt rn imm) m = refl
effect_input code (i.LoadStoreWord Ldrw rt rn imm) m = refl
effect_input code (i.LoadStoreHalf Ldrh rt rn imm) m = refl
effect_input code (i.LoadStoreByte Ldrb rt rn imm) m = refl
effect_input code (i.LoadStoreUnscaled Ldur rt rn imm) m = refl
effect_input code (i.LoadStorePair Ldp rt rt2 rn imm) m = refl
effect_input code (i.Branch B words) m = refl
effect_input code (i.BranchRegister Br rn) m = refl
effect_input code (i.BranchAuthenticated Braa rn rm) m = refl
effect_input code (i.Stack Retab) m = refl
effect_input code (i.Plain Paciza rd) m = refl
effect_input code (i.Exception Svc number) m = called_input number m
effect_input code _ m = refl

behind-drop : (n : ℕ) (input : List ℕ) → behind_first (drop n input) ≡ drop (suc n) input
behind-drop zero [] = refl
behind-drop zero (byte ∷ bytes) = refl
behind-drop (suc n) [] = refl
behind-drop (suc n) (byte ∷ bytes) = behind-drop n bytes

-- one instruction more in a trail
left-more : (input : List ℕ) (at word : ℕ) (instr : Instr) (trail : List Place) → decoded word ≡ Some instr
    → left_of input (record { at = at; word = word } ∷ trail) ≡ cond (reads_input instr) (behind_first (left_of input trail)) (left_of input trail)
left-more input at word instr trail d =
    ap (λ n. drop n input) (sum_by-cons (λ place. cond (is_some_and reads_input (decoded place.word)) 1 0) (record { at = at; word = word }) trail)
    ∙ rw d (by (reads_input instr))
  where
    by : (b : Bool) → drop (cond b 1 0 + readings trail) input ≡ cond b (behind_first (left_of input trail)) (left_of input trail)
    by true = ap (λ n. drop n input) (one-add (readings trail)) ∙ sym (behind-drop (readings trail) input)
    by false = ap (λ n. drop n input) (zero-add (readings trail))

once_input : (code : Code) (input : List ℕ) (w v : Watched) → Advanced code w v → w.machine.input ≡ left_of input w.trail → v.machine.input ≡ left_of input v.trail
once_input code input w v (rests r) h = r.input ∙ h ∙ ap (left_of input) (sym r.trail)
once_input code input w v (runs r) h =
    r.input ∙ effect_input code r.instr r.before
    ∙ ap (λ l. cond (reads_input r.instr) (behind_first l) l) (r.same ∙ h)
    ∙ sym (left-more input r.before.pc r.word r.instr w.trail r.decodes) ∙ ap (left_of input) (sym r.trail)

-- what is left is the input behind as many bytes as SVC #2 ran
pub run_input : (code : Code) (script : Script) (input : List ℕ) (n : ℕ) (w : Watched) → w.machine.input ≡ left_of input w.trail
    → (watched code script n w).machine.input ≡ left_of input (watched code script n w).trail
unfolding watched
run_input code script input zero w h = h
run_input code script input (suc n) w h =
    let v = watched_once code script w in
    run_input code script input n v (once_input code input w v (advanced code script w) h)

-- before its first instruction a machine has its whole input
pub begins_input : (input : List ℕ) → input ≡ left_of input []
begins_input input = refl
