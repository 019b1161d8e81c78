-- What the instructions of a stub do, and what its authenticated jump leaves in the log.
use Rattle.std.proofs.Common.{◌≡◌, ℕ, suc, ◌+◌, ◌-◌, ◌%◌, ◌^◌, ◌<◌, Bool, true, false, eqb, List, ◌∷◌, get_or, set, refl, ◌∙◌, arith, Some}
use Rattle.std.specs.Prelude.{pos}
use Rattle.std.specs.List.{list_any}
use Rattle.std.proofs.lemmas.Bool.{and_from, or_right}
use Rattle.pa_num.specs.Arithmetic.{add64, scaled64}
use Rattle.pa_pac.specs.declared.key.Key.TheVariants.{IA}
use Rattle.pa_pac.specs.declared.event.Way.TheVariants as way
use Rattle.pa_pac.specs.declared.event.Event.TheVariants as event
use Rattle.pa_pac.specs.declared.event.When.{When}
use Rattle.pa_pac.specs.declared.event.When.TheVariants.{Step}
use Rattle.pa_pac.specs.Log.{Log, is_known}
use Rattle.pa_pac.specs.Signing.{Code, auth}
use Rattle.pa_a64.specs.declared.instr.Instr.TheVariants as i
use Rattle.pa_a64.specs.declared.instr.SumImmediateOp.TheVariants as immediate
use Rattle.pa_a64.specs.declared.instr.LoadStoreOp.TheVariants.{Ldr}
use Rattle.pa_a64.specs.declared.instr.BranchAuthenticatedOp.TheVariants.{Braa}
use Rattle.pa_mem.specs.Memory.{Read, allowed, load}
use Rattle.pa_object.specs.Machine.{Machine}
use Rattle.pa_object.specs.Traps.{trap_of}
use Rattle.pa_object.specs.Effects.{effect}
use Rattle.pa_object.specs.Run.{Place, step}
use Rattle.pa_object.specs.Shape.{shape, all_known}
use Rattle.pa_object.specs.Placed.{Stands}
use Rattle.pa_object.proofs.Steps.{step_at, add64_small}

-- ---- the rows

module _ (code : Code) where
  module _ (m : Machine) (pc_fits : m.pc + 4 < 2 ^ 64) where
    pub adrp_step : (rd pages page : ℕ) → Stands m.memory m.pc (i.Adrp rd (pos pages)) → add64 (m.pc - m.pc % 4096) (scaled64 4096 (pos pages)) ≡ page
        → step code m ≡ record m { registers = set m.registers rd page; pc = m.pc + 4; count = suc m.count }
    unfolding trap_of effect
    adrp_step rd pages page c e = step_at code m _ c refl ∙ rw (e, add64_small m.pc 4 pc_fits)

    -- nothing is added where the slot begins its page
    pub add_step : (v : ℕ) → Stands m.memory m.pc (i.SumImmediate immediate.Add 17 17 0 false) → get_or m.registers 17 0 ≡ v → v < 2 ^ 64
        → step code m ≡ record m { registers = set m.registers 17 v; pc = m.pc + 4; count = suc m.count }
    unfolding trap_of effect
    add_step v c e fits =
        let same : add64 v 0 ≡ v = add64_small v 0 (omega arith) ∙ omega arith in
        step_at code m _ c refl ∙ rw (e, same, add64_small m.pc 4 pc_fits)

    pub ldr_step : (at v : ℕ) → Stands m.memory m.pc (i.LoadStore Ldr 16 17 0) → get_or m.registers 17 0 ≡ at → at < 2 ^ 64
        → allowed Read m.memory at 8 ≡ true → load 8 m.memory at ≡ v
        → step code m ≡ record m { registers = set m.registers 16 v; pc = m.pc + 4; count = suc m.count }
    unfolding trap_of effect
    ldr_step at v c e fits may loaded =
        let same : add64 at 0 ≡ at = add64_small at 0 (omega arith) ∙ omega arith in
        step_at code m _ c (rw (e, same, may)) ∙ rw (e, same, loaded, add64_small m.pc 4 pc_fits)

  -- the branch goes to no next place
  pub braa_step : (m : Machine) (v modifier raw : ℕ) → Stands m.memory m.pc (i.BranchAuthenticated Braa 16 17)
      → get_or m.registers 16 0 ≡ v → get_or m.registers 17 0 ≡ modifier → auth code IA modifier v ≡ Some raw
      → step code m ≡ record m {
        pc = raw;
        count = suc m.count;
        log = record { when = Step m.count; event = event.Land way.Jump raw } ∷ record { when = Step m.count; event = event.Take IA modifier raw (is_known m.log IA modifier raw) } ∷ m.log;
      }
  unfolding trap_of effect
  braa_step m v modifier raw c e f g = step_at code m _ c (rw (e, f, g)) ∙ rw (e, f, g)

-- ---- the log

-- a jump through an import's slot shows nothing
pub shape-jumped : (got : List ℕ) (trail : List Place) (first second : When) (slot raw target : ℕ) (known : Bool) (log : Log) → list_any (λ s. eqb s slot) got ≡ true
    → shape got trail (record { when = first; event = event.Land way.Jump target } ∷ record { when = second; event = event.Take IA slot raw known } ∷ log) ≡ shape got trail log
unfolding shape
shape-jumped got trail first second slot raw target known log h = rw (or_right (eqb slot 0) (list_any (λ s. eqb s slot) got) h)

pub all_known-jumped : (first second : When) (modifier raw target : ℕ) (known : Bool) (log : Log) → known ≡ true → all_known log ≡ true
    → all_known (record { when = first; event = event.Land way.Jump target } ∷ record { when = second; event = event.Take IA modifier raw known } ∷ log) ≡ true
unfolding all_known
all_known-jumped first second modifier raw target known log e h = and_from _ _ e h
