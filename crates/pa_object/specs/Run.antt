-- One step of the machine, and its run beside a second writer.
use Rattle.std.specs.Prelude.{ℕ, zero, suc, ◌-◌, ◌==◌, if◌then◌else◌, List, [], ◌∷◌, Option, Some, None, unwrap_or}
use Rattle.pa_pac.specs.Signing.{Code}
use Rattle.pa_a64.specs.declared.instr.Instr.{Instr}
use Rattle.pa_a64.specs.Decoding.{decoded}
use Rattle.pa_mem.specs.Memory.{Region, fetch, bytes_at, with_bytes}
use Rattle.pa_object.specs.declared.end.End.{End}
use Rattle.pa_object.specs.declared.end.End.TheVariants as end
use Rattle.pa_object.specs.declared.end.Trap.{Trap}
use Rattle.pa_object.specs.declared.end.Trap.TheVariants.{FetchAbort, BadWord}
use Rattle.pa_object.specs.declared.script.Deed.{Deed}
use Rattle.pa_object.specs.declared.script.Deed.TheVariants.{Write, Copy}
use Rattle.pa_object.specs.declared.script.Item.{Item}
use Rattle.pa_object.specs.Machine.{Machine}
use Rattle.pa_object.specs.Traps.{trap_of}
use Rattle.pa_object.specs.Effects.{effect}

-- ---- one instruction

abbrev pub ends : End → Machine → Machine
ends e m = record m { ended = Some e }

-- a trap changes nothing but the end
abbrev pub unless_trap : Option Trap → Machine → Machine → Machine
unless_trap None m done = done
unless_trap (Some trap) m done = ends (end.Trap trap) m

abbrev pub on_instr : Code → Option Instr → Machine → Machine
on_instr code None m = ends (end.Trap BadWord) m
on_instr code (Some instr) m = unless_trap (trap_of code instr m) m (effect code instr m)

abbrev pub on_word : Code → Option ℕ → Machine → Machine
on_word code None m = ends (end.Trap FetchAbort) m
on_word code (Some word) m = on_instr code (decoded word) m

-- fetch at the place, find the row, and apply it
unfoldable pub step : Code → Machine → Machine
step code m = on_word code (fetch m.memory m.pc) m

-- ---- the second writer

abbrev pub Script : Type 0
Script = List Item

-- the memory after a deed; a copy reads all its bytes first
abbrev pub done_to : Deed → List Region → List Region
done_to (Write at bytes) memory = with_bytes memory at bytes
done_to (Copy to from count) memory = with_bytes memory to (bytes_at count memory from)

abbrev pub applied : Item → Machine → Machine
applied item m = record m { memory = done_to item.deed m.memory }

-- the items of this number, in the script's order
unfoldable pub applied_all : Script → ℕ → Machine → Machine
applied_all [] number m = m
applied_all (item ∷ items) number m = applied_all items number (if item.step == number then applied item m else m)

-- ---- a run

abbrev pub unless_ended : Option End → Machine → Machine → Machine
unless_ended None m done = done
unless_ended (Some e) m done = m

-- what comes before an instruction, and the instruction; an ended machine stays as it is
unfoldable pub advance : Code → Script → Machine → Machine
advance code script m = unless_ended m.ended m (step code (applied_all script m.count m))

unfoldable pub advance_by : Code → Script → ℕ → Machine → Machine
advance_by code script zero m = m
advance_by code script (suc n) m = advance_by code script n (advance code script m)

-- the run until n instructions ran in all
abbrev pub run : Code → Script → ℕ → Machine → Machine
run code script n m = advance_by code script (n - m.count) m

-- the end of a run for a bound: the machine's own, or the bound
abbrev pub end_of : Machine → End
end_of m = unwrap_or m.ended end.Bound

-- ---- the trail of a run

-- where an instruction stood, and the word that was fetched there
pub record Place : Type 0 where
  pub at : ℕ
  pub word : ℕ

-- a machine and the instructions that it has run, the newest first; one that traps isn't among them
pub record Watched : Type 0 where
  pub machine : Machine
  pub trail : List Place

abbrev pub placed : ℕ → Option ℕ → List Place → List Place
placed at None trail = trail
placed at (Some word) trail = record { at = at; word = word } ∷ trail

-- an instruction ran where the count rose
abbrev pub trailed : Machine → Machine → List Place → List Place
trailed before later trail = if before.count == later.count then trail else placed before.pc (fetch before.memory before.pc) trail

abbrev pub watched_once : Code → Script → Watched → Watched
watched_once code script w =
    record {
      machine = advance code script w.machine;
      trail = trailed (applied_all script w.machine.count w.machine) (advance code script w.machine) w.trail;
    }

unfoldable pub watched : Code → Script → ℕ → Watched → Watched
watched code script zero w = w
watched code script (suc n) w = watched code script n (watched_once code script w)
