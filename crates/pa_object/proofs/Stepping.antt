-- The two ways of a step: a trap, or an instruction that stands at the place and is carried out.
use Rattle.std.proofs.Common.{◌≡◌, ℕ, Option, Some, None, refl, ap, ◌∙◌}
use Rattle.pa_pac.specs.Signing.{Code}
use Rattle.pa_a64.specs.declared.instr.Instr.{Instr}
use Rattle.pa_a64.specs.Decoding.{decoded}
use Rattle.pa_mem.specs.Memory.{fetch}
use Rattle.pa_object.specs.declared.end.End.TheVariants as end
use Rattle.pa_object.specs.declared.end.Trap.{Trap}
use Rattle.pa_object.specs.declared.end.Trap.TheVariants.{FetchAbort, BadWord}
use Rattle.pa_object.specs.Machine.{Machine}
use Rattle.pa_object.specs.Traps.{trap_of}
use Rattle.pa_object.specs.Effects.{effect}
use Rattle.pa_object.specs.Run.{ends, step, on_word, on_instr, unless_trap}

pub data StepIs (code : Code) (m : Machine) : Type 0 where
  traps : (trap : Trap) → step code m ≡ ends (end.Trap trap) m → StepIs code m
  does : (word : ℕ) (instr : Instr) → fetch m.memory m.pc ≡ Some word → decoded word ≡ Some instr → trap_of code instr m ≡ None
      → step code m ≡ effect code instr m → StepIs code m

no_word : (code : Code) (m : Machine) → fetch m.memory m.pc ≡ None → step code m ≡ ends (end.Trap FetchAbort) m
unfolding step
no_word code m e = ap (λ w. on_word code w m) e

no_row : (code : Code) (m : Machine) (word : ℕ) → fetch m.memory m.pc ≡ Some word → decoded word ≡ None → step code m ≡ ends (end.Trap BadWord) m
unfolding step
no_row code m word e d = ap (λ w. on_word code w m) e ∙ ap (λ x. on_instr code x m) d

by_row : (code : Code) (m : Machine) (word : ℕ) (instr : Instr) (trap : Option Trap) → fetch m.memory m.pc ≡ Some word → decoded word ≡ Some instr → trap_of code instr m ≡ trap
    → step code m ≡ unless_trap trap m (effect code instr m)
unfolding step
by_row code m word instr trap e d t = ap (λ w. on_word code w m) e ∙ ap (λ x. on_instr code x m) d ∙ ap (λ x. unless_trap x m (effect code instr m)) t

pub step_is : (code : Code) (m : Machine) → StepIs code m
step_is code m = at (fetch m.memory m.pc) refl
  where
    ran : (word : ℕ) (instr : Instr) → fetch m.memory m.pc ≡ Some word → decoded word ≡ Some instr → (trap : Option Trap) → trap_of code instr m ≡ trap → StepIs code m
    ran word instr e d None t = does word instr e d t (by_row code m word instr None e d t)
    ran word instr e d (Some trap) t = traps trap (by_row code m word instr (Some trap) e d t)

    found : (word : ℕ) → fetch m.memory m.pc ≡ Some word → (instr : Option Instr) → decoded word ≡ instr → StepIs code m
    found word e None d = traps BadWord (no_row code m word e d)
    found word e (Some instr) d = ran word instr e d (trap_of code instr m) refl

    at : (word : Option ℕ) → fetch m.memory m.pc ≡ word → StepIs code m
    at None e = traps FetchAbort (no_word code m e)
    at (Some word) e = found word e (decoded word) refl
