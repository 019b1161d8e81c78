-- How wide the numbers of a machine are.
use Rattle.std.specs.Prelude.{ℕ, ◌^◌, ◌<◌, List, slice_index}
use Rattle.pa_mem.specs.Memory.{AreBytes, IsBytes}
use Rattle.pa_object.specs.Machine.{Machine}

-- each is a number of 64 bits
abbrev pub AreWords : List ℕ → Type 0
AreWords values = (i : ℕ) → slice_index values i < 2 ^ 64

-- registers and places are numbers of 64 bits, and memory and what is left of the input are of bytes
pub record HasWidths (m : Machine) : Type 0 where
  pub registers : AreWords m.registers
  pub sp : m.sp < 2 ^ 64
  pub pc : m.pc < 2 ^ 64
  pub memory : IsBytes m.memory
  pub input : AreBytes m.input
