-- Runs of straight code without a second writer, part by part.
use Rattle.std.proofs.Common.{◌≡◌, ℕ, ◌+◌, ◌*◌, ◌^◌, ◌<◌, Bool, true, false, cond, eqb, ltb, List, [], length, get_or, None, refl, sym, ap, subst, ◌∙◌, arith}
use Rattle.std.specs.Prelude.{◌||◌, ◌&&◌}
use Rattle.pa_pac.specs.Signing.{Code}
use Rattle.pa_a64.specs.declared.instr.Instr.{Instr}
use Rattle.pa_mem.specs.Memory.{Region, Right, allowed, fetch, store}
use Rattle.pa_object.specs.Machine.{Machine, register, with_register, next}
use Rattle.pa_object.specs.Effects.{with_memory}
use Rattle.pa_object.specs.Run.{step, advance_by, applied_all}
use Rattle.pa_object.specs.Placed.{HasCode}
use Rattle.pa_object.specs.Widths.{HasWidths}
use Rattle.pa_selected.specs.Calls.{IsRunning}
use Rattle.pa_object.proofs.Steps.{add64_small, register-set}
use Rattle.pa_object.proofs.Growth.{advance-goes, advance_by-add, advance_by_leaves, allowed-outlines}
use Rattle.pa_object.proofs.Fetched.{Separate, separate-outlines, run_fetched}
use Rattle.pa_object.proofs.Wide.{run_wide}
use Rattle.pa_object.proofs.Widths.{run_widths}
use Rattle.pa_object.proofs.Placed.{HasCode-same}

-- So many instructions lead from one machine to another, one behind the other. They leave this memory, and no other registers
-- than these and the flags are touched.
pub record Goes (code : Code) (n : ℕ) (m later : Machine) (left : List Region) (touched : ℕ → Bool) : Type 0 where
  pub runs : advance_by code [] n m ≡ later
  pub pc : later.pc ≡ m.pc + 4 * n
  pub count : later.count ≡ m.count + n
  pub sp : later.sp ≡ m.sp
  pub memory : later.memory ≡ left
  pub input : later.input ≡ m.input
  pub output : later.output ≡ m.output
  pub log : later.log ≡ m.log
  pub ended : later.ended ≡ None
  pub others : (i : ℕ) → touched i ≡ false → register i later ≡ register i m

pub untouched : (a b : Bool) → a ≡ false → b ≡ false → (a || b) ≡ false
untouched true b h k = h
untouched false b h k = k

pub no_touch : (a b : Bool) → (a || b) ≡ false → (a ≡ false) × (b ≡ false)
no_touch true b e = cc
no_touch false b e = (refl, e)

-- more registers may be touched
pub goes_more : (code : Code) (n : ℕ) (m later : Machine) (left : List Region) (touched also : ℕ → Bool) → ((i : ℕ) → also i ≡ false → touched i ≡ false) → Goes code n m later left touched → Goes code n m later left also
goes_more code n m later left touched also less g = record {
  runs = g.runs;
  pc = g.pc;
  count = g.count;
  sp = g.sp;
  memory = g.memory;
  input = g.input;
  output = g.output;
  log = g.log;
  ended = g.ended;
  others = λ i h. g.others i (less i h);
}

module _ (code : Code) where
  pub one : (m later : Machine) → m.ended ≡ None → step code m ≡ later → advance_by code [] 1 m ≡ later
  unfolding advance_by applied_all
  one m later going e = advance-goes code [] m going ∙ e

  -- one part behind another
  pub goes_then : (n k : ℕ) (m middle later : Machine) (one two : List Region) (touched also : ℕ → Bool)
      → Goes code n m middle one touched → Goes code k middle later two also → Goes code (n + k) m later two (λ i. touched i || also i)
  goes_then n k m middle later one two touched also a b = record {
    runs = advance_by-add code [] n k m ∙ (ap (advance_by code [] k) a.runs ∙ b.runs);
    pc = omega (arith, a.pc, b.pc);
    count = omega (arith, a.count, b.count);
    sp = b.sp ∙ a.sp;
    memory = b.memory;
    input = b.input ∙ a.input;
    output = b.output ∙ a.output;
    log = b.log ∙ a.log;
    ended = b.ended;
    others = λ i h. let both = no_touch (touched i) (also i) h in b.others i both.1 ∙ a.others i both.0;
  }

  -- ---- what stays

  separate : (m : Machine) → IsRunning m → Separate m.memory
  separate m fine = record { apart = fine.apart; exclusive = fine.exclusive }

  separate_behind : (n : ℕ) (m later : Machine) → IsRunning m → advance_by code [] n m ≡ later → Separate later.memory
  separate_behind n m later fine runs = subst (λ (x : Machine). Separate x.memory) runs (separate-outlines m.memory _ (advance_by_leaves code [] n m).memory (separate m fine))

  pub runs_on : (n : ℕ) (m later : Machine) → IsRunning m → advance_by code [] n m ≡ later → later.ended ≡ None → IsRunning later
  runs_on n m later fine runs ended = record {
    going = ended;
    wide = subst (λ (x : Machine). length x.registers ≡ 31) runs (run_wide code [] n m ∙ fine.wide);
    widths = subst HasWidths runs (run_widths code [] n m refl fine.widths);
    apart = (separate_behind n m later fine runs).apart;
    exclusive = (separate_behind n m later fine runs).exclusive;
  }

  -- what stands in memory still stands there
  pub code_stays : (n : ℕ) (m later : Machine) → IsRunning m → advance_by code [] n m ≡ later → (is : List Instr) (at : ℕ) → HasCode m.memory at is → HasCode later.memory at is
  code_stays n m later fine runs is at c =
      HasCode-same m.memory later.memory at is (λ p low high. ap (λ (x : Machine). fetch x.memory p) (sym runs) ∙ run_fetched code [] n m p (separate m fine) refl) c

  -- and may be read and written as before
  pub allowed_stays : (n : ℕ) (m later : Machine) → advance_by code [] n m ≡ later → (right : Right) (at k : ℕ) → allowed right later.memory at k ≡ allowed right m.memory at k
  allowed_stays n m later runs right at k =
      ap (λ (x : Machine). allowed right x.memory at k) (sym runs) ∙ allowed-outlines right _ m.memory at k (advance_by_leaves code [] n m).memory

  pub fine_later : (n : ℕ) (m later : Machine) (left : List Region) (touched : ℕ → Bool) → IsRunning m → Goes code n m later left touched → IsRunning later
  fine_later n m later left touched fine g = runs_on n m later fine g.runs g.ended

  pub code_same : (n : ℕ) (m later : Machine) (left : List Region) (touched : ℕ → Bool) (is : List Instr) (at : ℕ) → IsRunning m → Goes code n m later left touched → HasCode m.memory at is → HasCode later.memory at is
  code_same n m later left touched is at fine g c = code_stays n m later fine g.runs is at c

  -- and so do the instructions that come next
  pub code_later : (n : ℕ) (m later : Machine) (left : List Region) (touched : ℕ → Bool) (is : List Instr) → IsRunning m → Goes code n m later left touched → HasCode m.memory (m.pc + 4 * n) is → HasCode later.memory later.pc is
  code_later n m later left touched is fine g c = subst (λ p. HasCode later.memory p is) (sym g.pc) (code_same n m later left touched is (m.pc + 4 * n) fine g c)

  -- ---- single instructions

  pub sets : (m : Machine) (rd v : ℕ) → m.ended ≡ None → m.pc + 4 < 2 ^ 64 → step code m ≡ next (with_register rd v m) → Goes code 1 m (next (with_register rd v m)) m.memory (λ i. eqb i rd)
  sets m rd v going low e = record {
    runs = one m _ going e;
    pc = add64_small m.pc 4 low;
    count = omega arith;
    sp = refl;
    memory = refl;
    input = refl;
    output = refl;
    log = refl;
    ended = going;
    others = λ i h. register-set m.registers rd i v ∙ ap (λ b. cond (b && ltb rd (length m.registers)) v (get_or m.registers i 0)) h;
  }

  pub puts : (m : Machine) (n at v : ℕ) → m.ended ≡ None → m.pc + 4 < 2 ^ 64 → step code m ≡ next (with_memory n at v m) → Goes code 1 m (next (with_memory n at v m)) (store n m.memory at v) (λ i. false)
  puts m n at v going low e = record {
    runs = one m _ going e;
    pc = add64_small m.pc 4 low;
    count = omega arith;
    sp = refl;
    memory = refl;
    input = refl;
    output = refl;
    log = refl;
    ended = going;
    others = λ i h. refl;
  }

  -- no instruction
  pub goes_none : (m : Machine) (touched : ℕ → Bool) → IsRunning m → Goes code 0 m m m.memory touched
  unfolding advance_by
  goes_none m touched running = record {
    runs = refl;
    pc = omega arith;
    count = omega arith;
    sp = refl;
    memory = refl;
    input = refl;
    output = refl;
    log = refl;
    ended = running.going;
    others = λ i h. refl;
  }
