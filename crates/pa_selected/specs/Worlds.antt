-- Where the code of a program lies, and what stands there: the code of its functions with each call filled (`pa_object`,
-- references of kind Call), and the two functions of the runtime with their stubs.
use Rattle.std.specs.Prelude.{◌≡◌, ◌≤◌, ◌<◌, ℕ, ◌+◌, ◌-◌, ◌*◌, ◌%◌, ◌^◌, true, List, [], ◌∷◌, ◌++◌, length, take, sum_by, Some}
use Rattle.pa_pac.specs.declared.key.Key.TheVariants.{IA}
use Rattle.pa_pac.specs.Signing as signing
use Rattle.pa_pac.specs.Signing.{auth}
use Rattle.pa_a64.specs.declared.instr.Instr.{Instr}
use Rattle.pa_a64.specs.declared.instr.Instr.TheVariants.{Branch, Stack, Exception}
use Rattle.pa_a64.specs.declared.instr.BranchOp.TheVariants.{Bl}
use Rattle.pa_a64.specs.declared.instr.StackOp.TheVariants.{Retab, Pacibsp}
use Rattle.pa_a64.specs.declared.instr.ExceptionOp.TheVariants.{Svc}
use Rattle.pa_mem.specs.Memory.{Region, Read, Write, allowed, load}
use Rattle.pa_object.specs.Filled.{words_between}
use Rattle.pa_object.specs.Placed.{HasCode}
use Rattle.pa_object.specs.Stub.{stub}
use Rattle.pa_lir.specs.declared.op.Op.{Op}
use Rattle.pa_lir.specs.declared.op.Op.TheVariants as op
use Rattle.pa_lir.specs.declared.function.LirFn.{LirFn}
use Rattle.pa_lir.specs.declared.function.Lir.{Lir}
use Rattle.pa_lir.specs.Meaning.{function_named, putchar, getchar}
use Rattle.pa_select.specs.Registers.{x0}
use Rattle.pa_select.specs.Selectable.{IsSelectable}
use Rattle.pa_select.specs.Selected.{prologue, load_arguments, store_result, words_of, placed_code, count_of_words}

-- The program, the function that makes authentication codes, the stack's first byte and its end, where `main` goes back to, and
-- by the name of a function where its calls go, and where its first instruction lies. These differ where the function is the
-- runtime's: its calls go to a stub, which takes the pointer in the name's slot.
pub record World : Type 0 where
  pub lir : Lir
  pub pac : signing.Code
  pub low : ℕ
  pub top : ℕ
  pub back : ℕ
  pub entry : List ℕ → ℕ
  pub first : List ℕ → ℕ
  pub slot : List ℕ → ℕ

-- ---- code with its calls filled

-- the BL to the function of a name, so many words from the first of the function that calls it
abbrev pub call_of : World → LirFn → (at : ℕ) → (name : List ℕ) → Instr
call_of w f at name = Branch Bl (words_between (w.entry f.name + 4 * at) (w.entry name))

-- an operation of a function that begins so many words from the function's first
abbrev pub linked : World → LirFn → (at : ℕ) → Op → List Instr
linked w f at (op.Call to name arguments) =
    load_arguments f x0 arguments
    ++ (call_of w f (at + length (load_arguments f x0 arguments)) name ∷ store_result f to)
linked w f at o = placed_code f at o

unfoldable pub linked_body : World → LirFn → (at : ℕ) → List Op → List Instr
linked_body w f at [] = []
linked_body w f at (o ∷ os) = linked w f at o ++ linked_body w f (at + words_of f o) os

abbrev pub linked_code : World → LirFn → List Instr
linked_code w f = prologue f ++ linked_body w f (length (prologue f)) f.ops

-- where an operation of a function begins, in words from the function's first
abbrev pub place_of_op : LirFn → (at : ℕ) → ℕ
place_of_op f at = length (prologue f) + sum_by (words_of f) (take at f.ops)

-- ---- what stands in memory

-- no address of code has a bit above the lower 47
abbrev pub most_code : ℕ
most_code = 2 ^ 47

-- the functions of the program have code, and stand in memory with their calls filled
pub record IsPlaced (w : World) (memory : List Region) (f : LirFn) : Type 0 where
  pub selectable : IsSelectable f
  pub code : HasCode memory (w.entry f.name) (linked_code w f)
  pub aligned : w.entry f.name % 4 ≡ 0
  pub low : w.entry f.name + 4 * count_of_words f + 64 < most_code
  pub first : w.first f.name ≡ w.entry f.name

-- so many bytes from an address on have none from one address up to another
abbrev pub IsOff : (at size low high : ℕ) → Type 0
IsOff at size low high = at < high → at + size ≤ low

-- A function of the runtime, with the number of its system call, and its stub. The slot's pointer is not on the stack.
pub record IsImported (w : World) (memory : List Region) (name : List ℕ) (number : ℕ) : Type 0 where
  pub stub : HasCode memory (w.entry name) (stub (w.entry name) (w.slot name))
  pub code : HasCode memory (w.first name) (Stack Pacibsp ∷ Exception Svc number ∷ Stack Retab ∷ [])
  pub low : w.first name + 16 < most_code
  pub reads : allowed Read memory (w.slot name) 8 ≡ true
  pub accepted : auth w.pac IA (w.slot name) (load 8 memory (w.slot name)) ≡ Some (w.first name)
  pub off : IsOff (w.slot name) 8 w.low w.top
  pub slot_low : w.slot name + 8 < 2 ^ 63

-- the stack can be read and written
pub record HasStack (w : World) (memory : List Region) : Type 0 where
  pub reads : allowed Read memory w.low (w.top - w.low) ≡ true
  pub writes : allowed Write memory w.low (w.top - w.low) ≡ true
  pub ordered : w.low ≤ w.top
  pub some : 0 < w.low
  pub low : w.top < 2 ^ 63

-- a name has a function of the program
abbrev pub Names : World → (name : List ℕ) → LirFn → Type 0
Names w name f = function_named w.lir.functions name ≡ Some f

-- an address of an instruction
pub record IsCodeAddress (at : ℕ) : Type 0 where
  pub aligned : at % 4 ≡ 0
  pub low : at + 16 < most_code

pub record HasCodeAndStack (w : World) (memory : List Region) : Type 0 where
  pub functions : (name : List ℕ) (f : LirFn) → Names w name f → (f.name ≡ name) × IsPlaced w memory f
  pub putchar : IsImported w memory putchar 1
  pub getchar : IsImported w memory getchar 2
  pub entries : (name : List ℕ) → IsCodeAddress (w.entry name)
  pub back : IsCodeAddress w.back
  pub stack : HasStack w memory
