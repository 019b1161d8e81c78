-- The instruction that stands at the place.
use Rattle.std.proofs.Common.{◌≡◌, ℕ, List, Option, Some, None, refl, ap, ◌∙◌}
use Rattle.std.specs.Prelude.{option_and_then}
use Rattle.pa_pac.specs.Signing.{Code}
use Rattle.pa_a64.specs.declared.instr.Instr.{Instr}
use Rattle.pa_a64.specs.Decoding.{decoded, InRange}
use Rattle.pa_a64.proofs.RoundTrip.{encoded-decoded}
use Rattle.pa_mem.specs.Memory.{Region, fetch}
use Rattle.pa_object.specs.declared.end.Trap.{Trap}
use Rattle.pa_object.specs.declared.end.Trap.TheVariants.{FetchAbort, BadWord}
use Rattle.pa_object.specs.declared.end.End.TheVariants as end
use Rattle.pa_object.specs.Machine.{Machine}
use Rattle.pa_object.specs.Traps.{trap_of}
use Rattle.pa_object.specs.Effects.{effect}
use Rattle.pa_object.specs.Run.{step, ends, on_word, on_instr, unless_trap}
use Rattle.pa_processor.specs.Processor.{instruction_at, Traps}

then_parts : {A B : Type 0} (f : A → Option B) (o : Option A) (y : B) → option_and_then f o ≡ Some y → (x : A) × (o ≡ Some x) × (f x ≡ Some y)
then_parts f None y e = cc
then_parts f (Some x) y e = (x, refl, e)

pub known_range : (memory : List Region) (at : ℕ) (instr : Instr) → instruction_at memory at ≡ Some instr → InRange instr
known_range memory at instr e =
    let p = then_parts decoded (fetch memory at) instr e in
    (encoded-decoded p.0 instr p.2).0

-- a step traps, or carries the instruction out
pub known_step : (code : Code) (m : Machine) (instr : Instr) (trap : Option Trap) → instruction_at m.memory m.pc ≡ Some instr → trap_of code instr m ≡ trap → step code m ≡ unless_trap trap m (effect code instr m)
unfolding step
known_step code m instr trap e t =
    let p = then_parts decoded (fetch m.memory m.pc) instr e in
    ap (λ w. on_word code w m) p.1 ∙ ap (λ x. on_instr code x m) p.2 ∙ ap (λ x. unless_trap x m (effect code instr m)) t

pub no_word : (m : Machine) → fetch m.memory m.pc ≡ None → Traps FetchAbort m
unfolding step
no_word m e = λ code. ap (λ w. on_word code w m) e

pub no_row : (m : Machine) (word : ℕ) → fetch m.memory m.pc ≡ Some word → decoded word ≡ None → Traps BadWord m
unfolding step
no_row m word e d = λ code. ap (λ w. on_word code w m) e ∙ ap (λ x. on_instr code x m) d
