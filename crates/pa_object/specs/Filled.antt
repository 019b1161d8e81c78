-- A reference that is filled: its word with the field that says where the name lies (Arm Architecture Reference Manual: BL,
-- ADRP, ADD with an immediate).
use Rattle.std.specs.Prelude.{ℕ, ◌-◌, ◌/◌, ◌%◌, ℤ, pos, negsuc, nat_le, if◌then◌else◌}
use Rattle.std.specs.Option.{option_map_or}
use Rattle.pa_a64.specs.declared.instr.Instr.{Instr}
use Rattle.pa_a64.specs.declared.instr.Instr.TheVariants as i
use Rattle.pa_a64.specs.declared.instr.BranchOp.TheVariants.{Bl}
use Rattle.pa_a64.specs.declared.instr.SumImmediateOp.TheVariants.{Add}
use Rattle.pa_a64.specs.Decoding.{decoded, encoded}
use Rattle.pa_object.specs.declared.object.RefKind.{RefKind}
use Rattle.pa_object.specs.declared.object.RefKind.TheVariants as refers

-- the second number less the first
abbrev pub distance : (from to : ℕ) → ℤ
distance from to = if nat_le from to then pos (to - from) else negsuc (from - to - 1)

-- how many words, and how many pages of 4,096 bytes, one address lies behind another
abbrev pub words_between : (from to : ℕ) → ℤ
words_between from to = distance (from / 4) (to / 4)

abbrev pub pages_between : (from to : ℕ) → ℤ
pages_between from to = distance (from / 4096) (to / 4096)

-- the instruction at an address, with the field that the reference fills for a target
abbrev pub filled : RefKind → (at target : ℕ) → Instr → Instr
filled refers.Call at target (i.Branch Bl words) = i.Branch Bl (words_between at target)
filled refers.Page at target (i.Adrp rd pages) = i.Adrp rd (pages_between at target)
filled refers.SlotPage at target (i.Adrp rd pages) = i.Adrp rd (pages_between at target)
filled refers.Low at target (i.SumImmediate Add rd rn imm shifted) = i.SumImmediate Add rd rn (target % 4096) shifted
filled refers.SlotLow at target (i.SumImmediate Add rd rn imm shifted) = i.SumImmediate Add rd rn (target % 4096) shifted
filled kind at target instr = instr

-- the word of it; a word of no row stays
abbrev pub filled_word : RefKind → (at target : ℕ) → (word : ℕ) → ℕ
filled_word kind at target word = option_map_or (λ instr. encoded (filled kind at target instr)) (decoded word) word
