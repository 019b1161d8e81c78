-- What accesses of the frame do.
use Rattle.std.proofs.Common.{◌≡◌, ℕ, ◌+◌, ◌*◌, ◌/◌, ◌%◌, ◌^◌, ◌<◌, Bool, true, false, cond, eqb, ltb, [], ◌∷◌, length, None, refl, ap, subst, ◌∙◌, arith, get_or-set_same}
use Rattle.std.specs.Prelude.{◌||◌}
use Rattle.pa_num.specs.Arithmetic.{add64}
use Rattle.pa_pac.specs.Signing.{Code}
use Rattle.pa_a64.specs.declared.instr.Instr.TheVariants as i
use Rattle.pa_a64.specs.declared.instr.SumImmediateOp.TheVariants as immediate
use Rattle.pa_a64.specs.declared.instr.LoadStoreOp.TheVariants.{Ldr, Str}
use Rattle.pa_mem.specs.Memory.{Read, Write, allowed, store, load}
use Rattle.pa_object.specs.Machine.{Machine, register, with_register, next}
use Rattle.pa_object.specs.Effects.{with_memory}
use Rattle.pa_object.specs.Run.{step}
use Rattle.pa_object.specs.Placed.{HasCode, Stands}
use Rattle.pa_object.proofs.Steps.{add64_small}
use Rattle.pa_object.proofs.StepsComputing.{sum_immediate_step}
use Rattle.pa_object.proofs.StepsMemory.{load_store_step}
use Rattle.pa_select.specs.Accesses as access
use Rattle.pa_selected.specs.Calls.{IsRunning}
use Rattle.pa_selected.proofs.Straight.{Goes, goes_then, goes_more, no_touch, fine_later, code_later, sets, puts}

-- these instructions make a register this number, and touch no others
pub record Makes (code : Code) (n : ℕ) (m : Machine) (rd word : ℕ) (touched : ℕ → Bool) : Type 0 where
  pub later : Machine
  pub goes : Goes code n m later m.memory touched
  pub value : register rd later ≡ word

-- these instructions store this number of 8 bytes
pub record Stores (code : Code) (n : ℕ) (m : Machine) (at value : ℕ) (touched : ℕ → Bool) : Type 0 where
  pub later : Machine
  pub goes : Goes code n m later (store 8 m.memory at value) touched

-- the pages and the rest of a place
whole_place : (place : ℕ) → place % 8 ≡ 0 → 4096 * (place / 4096) + 8 * (place % 4096 / 8) ≡ place
whole_place place aligned = omega arith

module _ (code : Code) where
  pub set_value : (m : Machine) (rd v : ℕ) → IsRunning m → rd < 31 → register rd (next (with_register rd v m)) ≡ v
  set_value m rd v fine low = get_or-set_same m.registers rd v 0 (omega (arith, fine.wide))

  -- a register becomes the stack pointer and a number
  pub adds_to_sp : (m : Machine) (rd imm : ℕ) (shifted : Bool) → m.ended ≡ None → m.pc + 4 < 2 ^ 64 → eqb rd 31 ≡ false → m.sp + cond shifted (4096 * imm) imm < 2 ^ 64 → Stands m.memory m.pc (i.SumImmediate immediate.Add rd 31 imm shifted)
      → step code m ≡ next (with_register rd (m.sp + cond shifted (4096 * imm) imm) m)
  adds_to_sp m rd imm shifted going low other room c =
      sum_immediate_step code m immediate.Add rd 31 imm shifted c ∙ rw (other, add64_small m.sp (cond shifted (4096 * imm) imm) room) refl

  -- ---- near and far

  load_near : (m : Machine) (rd place : ℕ) → IsRunning m → rd < 31 → place % 8 ≡ 0 → m.sp + place < 2 ^ 63 → m.pc + 4 < 2 ^ 64 → allowed Read m.memory (m.sp + place) 8 ≡ true
      → HasCode m.memory m.pc (i.LoadStore Ldr rd 31 (place / 8) ∷ []) → Makes code 1 m rd (load 8 m.memory (m.sp + place)) (λ k. eqb k rd)
  load_near m rd place fine low aligned near room may c =
      let whole : 8 * (place / 8) ≡ place = omega arith in
      let at : add64 m.sp (8 * (place / 8)) ≡ m.sp + place = ap (add64 m.sp) whole ∙ add64_small m.sp place (omega arith) in
      let done : step code m ≡ next (with_register rd (load 8 m.memory (m.sp + place)) m) =
      load_store_step code m Ldr rd 31 (place / 8) c.0 (ap (λ a. allowed Read m.memory a 8) at ∙ may) ∙ ap (λ a. next (with_register rd (load 8 m.memory a) m)) at in
      record { later = next (with_register rd (load 8 m.memory (m.sp + place)) m); goes = sets code m rd _ fine.going room done; value = set_value m rd _ fine low }

  store_near : (m : Machine) (rt place : ℕ) → IsRunning m → place % 8 ≡ 0 → m.sp + place < 2 ^ 63 → m.pc + 4 < 2 ^ 64 → allowed Write m.memory (m.sp + place) 8 ≡ true
      → HasCode m.memory m.pc (i.LoadStore Str rt 31 (place / 8) ∷ []) → Stores code 1 m (m.sp + place) (register rt m) (λ k. false)
  store_near m rt place fine aligned near room may c =
      let whole : 8 * (place / 8) ≡ place = omega arith in
      let at : add64 m.sp (8 * (place / 8)) ≡ m.sp + place = ap (add64 m.sp) whole ∙ add64_small m.sp place (omega arith) in
      let done : step code m ≡ next (with_memory 8 (m.sp + place) (register rt m) m) =
      load_store_step code m Str rt 31 (place / 8) c.0 (ap (λ a. allowed Write m.memory a 8) at ∙ may) ∙ ap (λ a. next (with_memory 8 a (register rt m) m)) at in
      record { later = next (with_memory 8 (m.sp + place) (register rt m) m); goes = puts code m 8 (m.sp + place) (register rt m) fine.going room done }

  -- x12 at the page of a place
  page_of : (m : Machine) (place : ℕ) → IsRunning m → m.sp + place < 2 ^ 63 → m.pc + 4 < 2 ^ 64 → Stands m.memory m.pc (i.SumImmediate immediate.Add 12 31 (place / 4096) true)
      → Makes code 1 m 12 (m.sp + 4096 * (place / 4096)) (λ k. eqb k 12)
  page_of m place fine near room c =
      let done = adds_to_sp m 12 (place / 4096) true fine.going room refl (omega arith) c in
      record { later = next (with_register 12 (m.sp + 4096 * (place / 4096)) m); goes = sets code m 12 _ fine.going room done; value = set_value m 12 _ fine (omega arith) }

  module _ (m : Machine) (r place : ℕ) (fine : IsRunning m) (aligned : place % 8 ≡ 0) (near : m.sp + place < 2 ^ 63) (room : m.pc + 8 < 2 ^ 64) where
    -- the place behind the page in x12
    far_at : (k : Machine) → k.sp ≡ m.sp → register 12 k ≡ m.sp + 4096 * (place / 4096) → add64 (register 12 k) (8 * (place % 4096 / 8)) ≡ m.sp + place
    far_at k s e =
        let whole = whole_place place aligned in
        ap (λ a. add64 a (8 * (place % 4096 / 8))) e ∙ (add64_small (m.sp + 4096 * (place / 4096)) (8 * (place % 4096 / 8)) (omega arith) ∙ omega arith)

    load_far : r < 31 → allowed Read m.memory (m.sp + place) 8 ≡ true
        → HasCode m.memory m.pc (i.SumImmediate immediate.Add 12 31 (place / 4096) true ∷ i.LoadStore Ldr r 12 (place % 4096 / 8) ∷ [])
        → Makes code 2 m r (load 8 m.memory (m.sp + place)) (λ k. eqb k 12 || eqb k r)
    load_far low may c =
        let first = page_of m place fine near (omega arith) c.0 in
        let k = first.later in
        let fine1 = fine_later code 1 m k m.memory _ fine first.goes in
        let rest = code_later code 1 m k m.memory _ (i.LoadStore Ldr r 12 (place % 4096 / 8) ∷ []) fine first.goes c.1 in
        let at = far_at k first.goes.sp first.value in
        let same : k.memory ≡ m.memory = first.goes.memory in
        let done : step code k ≡ next (with_register r (load 8 m.memory (m.sp + place)) k) =
        load_store_step code k Ldr r 12 (place % 4096 / 8) rest.0 (ap (λ a. allowed Read k.memory a 8) at ∙ (ap (λ x. allowed Read x (m.sp + place) 8) same ∙ may))
        ∙ (ap (λ a. next (with_register r (load 8 k.memory a) k)) at ∙ ap (λ x. next (with_register r (load 8 x (m.sp + place)) k)) same) in
        let second : Goes code 1 k (next (with_register r (load 8 m.memory (m.sp + place)) k)) k.memory (λ i. eqb i r) =
        sets code k r _ fine1.going (omega (arith, first.goes.pc)) done in
        record {
          later = next (with_register r (load 8 m.memory (m.sp + place)) k);
          goes = subst (λ x. Goes code 2 m (next (with_register r (load 8 m.memory (m.sp + place)) k)) x (λ i. eqb i 12 || eqb i r)) same
              (goes_then code 1 1 m k (next (with_register r (load 8 m.memory (m.sp + place)) k)) m.memory k.memory _ _ first.goes second);
          value = set_value k r _ fine1 low;
        }

    store_far : eqb r 12 ≡ false → allowed Write m.memory (m.sp + place) 8 ≡ true
        → HasCode m.memory m.pc (i.SumImmediate immediate.Add 12 31 (place / 4096) true ∷ i.LoadStore Str r 12 (place % 4096 / 8) ∷ [])
        → Stores code 2 m (m.sp + place) (register r m) (λ k. eqb k 12 || false)
    store_far other may c =
        let first = page_of m place fine near (omega arith) c.0 in
        let k = first.later in
        let fine1 = fine_later code 1 m k m.memory _ fine first.goes in
        let rest = code_later code 1 m k m.memory _ (i.LoadStore Str r 12 (place % 4096 / 8) ∷ []) fine first.goes c.1 in
        let at = far_at k first.goes.sp first.value in
        let same : k.memory ≡ m.memory = first.goes.memory in
        let value : register r k ≡ register r m = first.goes.others r other in
        let done : step code k ≡ next (with_memory 8 (m.sp + place) (register r m) k) =
        load_store_step code k Str r 12 (place % 4096 / 8) rest.0 (ap (λ a. allowed Write k.memory a 8) at ∙ (ap (λ x. allowed Write x (m.sp + place) 8) same ∙ may))
        ∙ (ap (λ a. next (with_memory 8 a (register r k) k)) at ∙ ap (λ v. next (with_memory 8 (m.sp + place) v k)) value) in
        let second = puts code k 8 (m.sp + place) (register r m) fine1.going (omega (arith, first.goes.pc)) done in
        record {
          later = next (with_memory 8 (m.sp + place) (register r m) k);
          goes = subst (λ x. Goes code 2 m (next (with_memory 8 (m.sp + place) (register r m) k)) (store 8 x (m.sp + place) (register r m)) (λ i. eqb i 12 || false)) same
              (goes_then code 1 1 m k (next (with_memory 8 (m.sp + place) (register r m) k)) m.memory (store 8 k.memory (m.sp + place) (register r m)) _ _ first.goes second);
        }

    -- ---- accesses

    pub loads : r < 31 → allowed Read m.memory (m.sp + place) 8 ≡ true → HasCode m.memory m.pc (access.load r place)
        → Makes code (length (access.load r place)) m r (load 8 m.memory (m.sp + place)) (λ k. eqb k 12 || eqb k r)
    loads low may c = go (ltb place 32768) c
      where
        go : (b : Bool) → HasCode m.memory m.pc (cond b (i.LoadStore Ldr r 31 (place / 8) ∷ []) (i.SumImmediate immediate.Add 12 31 (place / 4096) true ∷ i.LoadStore Ldr r 12 (place % 4096 / 8) ∷ []))
            → Makes code (length (cond b (i.LoadStore Ldr r 31 (place / 8) ∷ []) (i.SumImmediate immediate.Add 12 31 (place / 4096) true ∷ i.LoadStore Ldr r 12 (place % 4096 / 8) ∷ []))) m r (load 8 m.memory (m.sp + place)) (λ k. eqb k 12 || eqb k r)
        go true c =
            let made = load_near m r place fine low aligned near (omega arith) may c in
            record { later = made.later; goes = goes_more code 1 m _ m.memory _ _ (λ k h. (no_touch (eqb k 12) (eqb k r) h).1) made.goes; value = made.value }
        go false c = load_far low may c

    pub stores : eqb r 12 ≡ false → allowed Write m.memory (m.sp + place) 8 ≡ true → HasCode m.memory m.pc (access.store r place)
        → Stores code (length (access.store r place)) m (m.sp + place) (register r m) (λ k. eqb k 12 || false)
    stores other may c = go (ltb place 32768) c
      where
        go : (b : Bool) → HasCode m.memory m.pc (cond b (i.LoadStore Str r 31 (place / 8) ∷ []) (i.SumImmediate immediate.Add 12 31 (place / 4096) true ∷ i.LoadStore Str r 12 (place % 4096 / 8) ∷ []))
            → Stores code (length (cond b (i.LoadStore Str r 31 (place / 8) ∷ []) (i.SumImmediate immediate.Add 12 31 (place / 4096) true ∷ i.LoadStore Str r 12 (place % 4096 / 8) ∷ []))) m (m.sp + place) (register r m) (λ k. eqb k 12 || false)
        go true c =
            let made = store_near m r place fine aligned near (omega arith) may c in
            record { later = made.later; goes = goes_more code 1 m _ _ _ _ (λ k h. refl) made.goes }
        go false c = store_far other may c

  -- ---- addresses

  module _ (m : Machine) (rd place : ℕ) (fine : IsRunning m) (low : rd < 31) (other : eqb rd 31 ≡ false) (near : m.sp + place < 2 ^ 63) (room : m.pc + 8 < 2 ^ 64) where
    address_near : HasCode m.memory m.pc (i.SumImmediate immediate.Add rd 31 place false ∷ []) → Makes code 1 m rd (m.sp + place) (λ k. eqb k rd)
    address_near c =
        let done = adds_to_sp m rd place false fine.going (omega arith) other (omega arith) c.0 in
        record { later = next (with_register rd (m.sp + place) m); goes = sets code m rd _ fine.going (omega arith) done; value = set_value m rd _ fine low }

    address_far : HasCode m.memory m.pc (i.SumImmediate immediate.Add rd 31 (place / 4096) true ∷ i.SumImmediate immediate.Add rd rd (place % 4096) false ∷ [])
        → Makes code 2 m rd (m.sp + place) (λ k. eqb k rd || eqb k rd)
    address_far c =
        let done = adds_to_sp m rd (place / 4096) true fine.going (omega arith) other (omega arith) c.0 in
        let k = next (with_register rd (m.sp + 4096 * (place / 4096)) m) in
        let first : Goes code 1 m k m.memory (λ i. eqb i rd) = sets code m rd _ fine.going (omega arith) done in
        let fine1 = fine_later code 1 m k m.memory _ fine first in
        let rest = code_later code 1 m k m.memory _ (i.SumImmediate immediate.Add rd rd (place % 4096) false ∷ []) fine first c.1 in
        let value : register rd k ≡ m.sp + 4096 * (place / 4096) = set_value m rd _ fine low in
        let sum : add64 (m.sp + 4096 * (place / 4096)) (place % 4096) ≡ m.sp + place = add64_small (m.sp + 4096 * (place / 4096)) (place % 4096) (omega arith) ∙ omega arith in
        let done2 : step code k ≡ next (with_register rd (m.sp + place) k) =
        sum_immediate_step code k immediate.Add rd rd (place % 4096) false rest.0 ∙ rw (other, value, sum) refl in
        let second : Goes code 1 k (next (with_register rd (m.sp + place) k)) m.memory (λ i. eqb i rd) = sets code k rd _ fine1.going (omega (arith, first.pc)) done2 in
        record { later = next (with_register rd (m.sp + place) k); goes = goes_then code 1 1 m k _ m.memory m.memory _ _ first second; value = set_value k rd _ fine1 low }

    pub makes_address : HasCode m.memory m.pc (access.address rd place) → Makes code (length (access.address rd place)) m rd (m.sp + place) (λ k. eqb k rd || eqb k rd)
    makes_address c = go (ltb place 4096) c
      where
        go : (b : Bool) → HasCode m.memory m.pc (cond b (i.SumImmediate immediate.Add rd 31 place false ∷ []) (i.SumImmediate immediate.Add rd 31 (place / 4096) true ∷ i.SumImmediate immediate.Add rd rd (place % 4096) false ∷ []))
            → Makes code (length (cond b (i.SumImmediate immediate.Add rd 31 place false ∷ []) (i.SumImmediate immediate.Add rd 31 (place / 4096) true ∷ i.SumImmediate immediate.Add rd rd (place % 4096) false ∷ []))) m rd (m.sp + place) (λ k. eqb k rd || eqb k rd)
        go true c =
            let made = address_near c in
            record { later = made.later; goes = goes_more code 1 m _ m.memory _ _ (λ k h. (no_touch (eqb k rd) (eqb k rd) h).1) made.goes; value = made.value }
        go false c = address_far c
