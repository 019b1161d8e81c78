-- What a run reads of its input.
use Rattle.std.specs.Prelude.{ℕ, Bool, false, ◌==◌, List, drop}
use Rattle.std.specs.List.{count_by}
use Rattle.pa_a64.specs.declared.instr.Instr.{Instr}
use Rattle.pa_a64.specs.declared.instr.Instr.TheVariants as i
use Rattle.pa_a64.specs.declared.instr.ExceptionOp.TheVariants.{Svc}
use Rattle.pa_a64.specs.Decoding.{decoded}
use Rattle.pa_object.specs.Run.{Place}
use Rattle.pa_laws.specs.Made.{is_some_and}

-- SVC #2, the system call that reads a byte
abbrev pub reads_input : Instr → Bool
reads_input (i.Exception Svc number) = number == 2
reads_input other = false

-- how many instructions of a trail read a byte
abbrev pub readings : List Place → ℕ
readings trail = count_by (λ place. is_some_and reads_input (decoded place.word)) trail

-- what is left of an input behind the instructions of a trail: each SVC #2 takes the next byte, while there is one
abbrev pub left_of : List ℕ → List Place → List ℕ
left_of input trail = drop (readings trail) input
