-- The machine's state, and how instructions read and change it.
use Rattle.std.specs.Prelude.{ℕ, suc, ◌+◌, ◌%◌, ◌^◌, List, [], ◌∷◌, replicate, slice_index, slice_set, Bool, true, false, not, ◌&&◌, ◌||◌, ◌==◌, nat_le, if◌then◌else◌, Option, Some, None}
use Rattle.pa_num.specs.Arithmetic.{add64, sub64, is_negative64}
use Rattle.pa_pac.specs.declared.key.Key.{Key}
use Rattle.pa_pac.specs.declared.event.Way.{Way}
use Rattle.pa_pac.specs.declared.event.Event.{Event}
use Rattle.pa_pac.specs.declared.event.Event.TheVariants as event
use Rattle.pa_pac.specs.declared.event.When.TheVariants.{Step}
use Rattle.pa_pac.specs.Log.{Log, is_known}
use Rattle.pa_mem.specs.Memory.{Region}
use Rattle.pa_object.specs.declared.end.End.{End}
use Rattle.pa_object.specs.declared.flags.Flags.{Flags}

-- registers x0 to x30, the stack pointer, the flags, memory, the place of the next instruction, the count of those that
-- ran, what is left of the input, the output, the log with its newest entry first, and the end if it has come
pub record Machine : Type 0 where
  pub registers : List ℕ
  pub sp : ℕ
  pub flags : Flags
  pub memory : List Region
  pub pc : ℕ
  pub count : ℕ
  pub input : List ℕ
  pub output : List ℕ
  pub log : Log
  pub ended : Option End

-- a machine before its first instruction: zeros in all registers and flags, and the whole input left; that the input is of
-- bytes is a premise where a theorem needs it
abbrev pub begun : (memory : List Region) (log : Log) (pc sp : ℕ) (input : List ℕ) → Machine
begun memory log pc sp input = record {
  registers = replicate 31 0;
  sp = sp;
  flags = record { negative = false; zero = false; carry = false; overflow = false };
  memory = memory;
  pc = pc;
  count = 0;
  input = input;
  output = [];
  log = log;
  ended = None;
}

-- a register, where 31 is the zero register
abbrev pub register : ℕ → Machine → ℕ
register i m = slice_index m.registers i

-- a register, where 31 is the stack pointer
abbrev pub register_or_sp : ℕ → Machine → ℕ
register_or_sp i m = if i == 31 then m.sp else slice_index m.registers i

abbrev pub with_register : ℕ → ℕ → Machine → Machine
with_register i value m = record m { registers = slice_set m.registers i value }

abbrev pub with_register_or_sp : ℕ → ℕ → Machine → Machine
with_register_or_sp i value m =
    record m { registers = if i == 31 then m.registers else slice_set m.registers i value; sp = if i == 31 then value else m.sp }

-- the instruction is done, and the next one is at this place
abbrev pub goes_to : ℕ → Machine → Machine
goes_to at m = record m { pc = at; count = suc m.count }

-- the place behind the instruction
abbrev pub after : Machine → ℕ
after m = add64 m.pc 4

abbrev pub next : Machine → Machine
next m = goes_to (after m) m

-- an event of the instruction that is being done
abbrev pub noted : Event → Machine → Machine
noted e m = record m { log = record { when = Step m.count; event = e } ∷ m.log }

abbrev pub signs : Key → ℕ → ℕ → ℕ → Machine → Machine
signs key modifier raw signed m = noted (event.Sign key modifier raw signed) m

abbrev pub takes : Key → ℕ → ℕ → Machine → Machine
takes key modifier raw m = noted (event.Take key modifier raw (is_known m.log key modifier raw)) m

abbrev pub lands : Way → ℕ → Machine → Machine
lands way target m = goes_to target (noted (event.Land way target) m)

abbrev pub differ : Bool → Bool → Bool
differ a b = if a then not b else b

-- the flags of a difference: C is set where nothing was borrowed, V where the integers' difference doesn't fit
unfoldable pub flags_of_difference : ℕ → ℕ → Flags
flags_of_difference x y = record {
  negative = is_negative64 (sub64 x y);
  zero = sub64 x y == 0;
  carry = nat_le y x;
  overflow = differ (is_negative64 x) (is_negative64 y) && differ (is_negative64 (sub64 x y)) (is_negative64 x);
}

-- the sixteen conditions: eq, ne, cs, cc, mi, pl, vs, vc, hi, ls, ge, lt, gt, le, and twice always
unfoldable pub condition_holds : ℕ → Flags → Bool
condition_holds condition f =
    if condition == 0 then f.zero
    else (if condition == 1 then not f.zero
    else (if condition == 2 then f.carry
    else (if condition == 3 then not f.carry
    else (if condition == 4 then f.negative
    else (if condition == 5 then not f.negative
    else (if condition == 6 then f.overflow
    else (if condition == 7 then not f.overflow
    else (if condition == 8 then f.carry && not f.zero
    else (if condition == 9 then not f.carry || f.zero
    else (if condition == 10 then not (differ f.negative f.overflow)
    else (if condition == 11 then differ f.negative f.overflow
    else (if condition == 12 then not f.zero && not (differ f.negative f.overflow)
    else (if condition == 13 then f.zero || differ f.negative f.overflow
    else true)))))))))))))
