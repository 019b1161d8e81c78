-- What a shelf in memory answers.
use Rattle.std.specs.Prelude.{◌≡◌, ℕ, nat_lt, Bool, true, false, if◌then◌else◌, List, length, ⊤, Option, Some, None, Result, Ok, Err, Vec}
use Rattle.pa_io.specs.declared.outside.ShelfFault.{ShelfFault}
use Rattle.pa_io.specs.declared.outside.ShelfFault.TheVariants.{Failed, Long, Memory}

-- the whole file, unless there is none or it is longer than the limit
abbrev pub file_answer : Option (List ℕ) → ℕ → Result (List ℕ) ShelfFault
file_answer None limit = Err Failed
file_answer (Some bytes) limit = if nat_lt limit (length bytes) then Err Long else Ok bytes

-- the same, unless the call is one that fails
abbrev pub call_answer : Bool → Option (List ℕ) → ℕ → Result (List ℕ) ShelfFault
call_answer true file limit = Err Failed
call_answer false file limit = file_answer file limit

-- this is the answer, or there is no memory for it
abbrev pub Gives : {A : Type 0} → Result (Vec ℕ A) ShelfFault → Result (List ℕ) ShelfFault → Type 0
Gives (Ok bytes) answer = answer ≡ Ok bytes.items
Gives (Err Failed) answer = answer ≡ Err Failed
Gives (Err Long) answer = answer ≡ Err Long
Gives (Err Memory) answer = ⊤

-- for that one answer, or for all others
abbrev pub OnMemory : {T : Type 0} → Result T ShelfFault → Type 0 → Type 0
OnMemory (Ok answer) P = ⊤
OnMemory (Err Failed) P = ⊤
OnMemory (Err Long) P = ⊤
OnMemory (Err Memory) P = P

abbrev pub UnlessMemory : {T : Type 0} → Result T ShelfFault → Type 0 → Type 0
UnlessMemory (Ok answer) P = P
UnlessMemory (Err Failed) P = P
UnlessMemory (Err Long) P = P
UnlessMemory (Err Memory) P = ⊤
