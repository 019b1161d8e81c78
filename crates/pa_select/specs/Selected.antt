-- The code of a function: its prologue, and the instructions of each operation in order. Return addresses are signed under the
-- key IB over the stack pointer (Clang, Pointer Authentication: return addresses). The frame is that of `pa_frame`, and x29 and
-- x30 are saved in its first 16 bytes.
use Rattle.std.specs.Prelude.{ℕ, suc, ◌+◌, ◌-◌, ◌==◌, ℤ, pos, if◌then◌else◌, List, [], ◌∷◌, ◌++◌, length, take, sum_by, Option, Some, None, option_and_then}
use Rattle.std.specs.Option.{option_map_or}
use Rattle.pa_a64.specs.declared.instr.Instr.{Instr}
use Rattle.pa_a64.specs.declared.instr.Instr.TheVariants.{LoadStorePair, Branch, CompareBranch, Stack}
use Rattle.pa_a64.specs.declared.instr.SumImmediateOp.TheVariants as immediate
use Rattle.pa_a64.specs.declared.instr.LoadStorePairOp.TheVariants.{Ldp, Stp}
use Rattle.pa_a64.specs.declared.instr.BranchOp.TheVariants.{B, Bl}
use Rattle.pa_a64.specs.declared.instr.CompareBranchOp.TheVariants.{Cbz}
use Rattle.pa_a64.specs.declared.instr.StackOp.TheVariants.{Retab, Pacibsp}
use Rattle.pa_object.specs.Filled.{distance}
use Rattle.pa_lir.specs.declared.op.BinOp.{BinOp}
use Rattle.pa_lir.specs.declared.op.Op.{Op}
use Rattle.pa_lir.specs.declared.op.Op.TheVariants as op
use Rattle.pa_lir.specs.declared.function.LirLocal.{LirLocal}
use Rattle.pa_lir.specs.declared.function.LirFn.{LirFn}
use Rattle.pa_lir.specs.Flow.{is_label}
use Rattle.pa_frame.specs.Frames.{place_of_temp, place_of_local, size_of_frame}
use Rattle.pa_select.specs.Registers.{x0, x9, x10, x29, x30, sp}
use Rattle.pa_select.specs.Accesses.{load, store, moved_by, address}
use Rattle.pa_select.specs.Constants.{constant}
use Rattle.pa_select.specs.Computing.{binary, unary, extended, load_sized, store_sized}

-- ---- the frame

abbrev pub load_temp : LirFn → (register temp : ℕ) → List Instr
load_temp f register temp = load register (place_of_temp f temp)

abbrev pub store_temp : LirFn → (register temp : ℕ) → List Instr
store_temp f register temp = store register (place_of_temp f temp)

-- a register is stored where a parameter lies; one without bytes has no place of its own
abbrev pub store_parameter : LirFn → (number : ℕ) → LirLocal → List Instr
store_parameter f number local = if local.size == 0 then [] else store number (place_of_local f number)

-- the parameters from this number on, each from the register of its number
unfoldable pub store_parameters : LirFn → (number : ℕ) → List LirLocal → List Instr
store_parameters f number [] = []
store_parameters f number (local ∷ locals) = store_parameter f number local ++ store_parameters f (suc number) locals

-- the return address is signed before anything is stored
abbrev pub prologue : LirFn → List Instr
prologue f =
    Stack Pacibsp
    ∷ moved_by immediate.Sub sp sp (size_of_frame f)
    ++ (LoadStorePair Stp x29 x30 sp (pos 0) ∷ store_parameters f 0 (take f.parameters f.locals))

-- the return address is authenticated where the stack pointer is that of the entry again
abbrev pub epilogue : LirFn → List Instr
epilogue f = LoadStorePair Ldp x29 x30 sp (pos 0) ∷ moved_by immediate.Add sp sp (size_of_frame f) ++ (Stack Retab ∷ [])

-- ---- operations

-- temporaries into the argument registers from this one on
unfoldable pub load_arguments : LirFn → (register : ℕ) → List ℕ → List Instr
load_arguments f register [] = []
load_arguments f register (t ∷ ts) = load_temp f register t ++ load_arguments f (suc register) ts

abbrev pub load_result : LirFn → Option ℕ → List Instr
load_result f from = option_map_or (load_temp f x0) from []

abbrev pub store_result : LirFn → Option ℕ → List Instr
store_result f to = option_map_or (store_temp f x0) to []

-- A branch goes on behind its second instruction where x9 is 0, so B alone has to reach the label: it reaches 33,554,431 words.
abbrev pub branch : LirFn → (temp : ℕ) → (words : ℤ) → List Instr
branch f temp words = load_temp f x9 temp ++ (CompareBranch Cbz x9 (pos 2) ∷ Branch B words ∷ [])

-- an instruction computes of a temporary in x9
abbrev pub computed : LirFn → Instr → (from to : ℕ) → List Instr
computed f instr from to = load_temp f x9 from ++ (instr ∷ store_temp f x9 to)

-- the left operand in x9 and the right one in x10
abbrev pub operands : LirFn → (left right : ℕ) → List Instr
operands f left right = load_temp f x9 left ++ load_temp f x10 right

abbrev pub bin : LirFn → (to : ℕ) → BinOp → (left right : ℕ) → List Instr
bin f to operator left right = operands f left right ++ (binary operator ++ store_temp f x9 to)

-- The BL is filled by a reference.
abbrev pub called : LirFn → (to : Option ℕ) → (arguments : List ℕ) → List Instr
called f to arguments = load_arguments f x0 arguments ++ (Branch Bl (pos 0) ∷ store_result f to)

-- The instructions of an operation. `words` is how far its label lies from its last instruction, where it goes to one.
abbrev pub code_of : LirFn → (words : ℤ) → Op → List Instr
code_of f words (op.Const to value) = constant x9 value ++ store_temp f x9 to
code_of f words (op.Bin to operator left right) = bin f to operator left right
code_of f words (op.Un to operator from) = computed f (unary operator) from to
code_of f words (op.Extend to from bits signed) = computed f (extended bits signed) from to
code_of f words (op.Local to local) = address x9 (place_of_local f local) ++ store_temp f x9 to
code_of f words (op.Load to at bytes signed) = computed f (load_sized bytes signed) at to
code_of f words (op.Store at from bytes) = operands f at from ++ (store_sized bytes ∷ [])
code_of f words (op.Call to name arguments) = called f to arguments
code_of f words (op.Jump label) = Branch B words ∷ []
code_of f words (op.Branch on label) = branch f on words
code_of f words (op.Return from) = load_result f from ++ epilogue f
code_of f words _ = []

-- how many words an operation has, wherever its label lies
abbrev pub words_of : LirFn → Op → ℕ
words_of f o = length (code_of f (pos 0) o)

-- ---- places, counted in words from the function's first

-- of a label, in operations that begin at a place
unfoldable pub label_from : LirFn → (at : ℕ) → List Op → (label : ℕ) → Option ℕ
label_from f at [] label = None
label_from f at (o ∷ os) label = if is_label label o then Some at else label_from f (at + words_of f o) os label

-- of a label of the function; a label that isn't there has none
abbrev pub label_at : LirFn → (label : ℕ) → Option ℕ
label_at f label = label_from f (length (prologue f)) f.ops label

-- where an operation goes
abbrev pub label_of : Op → Option ℕ
label_of (op.Jump label) = Some label
label_of (op.Branch on label) = Some label
label_of _ = None

-- how far an operation's label lies from its last instruction, where the operation begins at a place
abbrev pub words_to : (last : ℕ) → Option ℕ → ℤ
words_to last None = pos 0
words_to last (Some to) = distance last to

abbrev pub target_of : LirFn → Op → Option ℕ
target_of f o = option_and_then (label_at f) (label_of o)

-- an operation that begins at a place and goes to another one
abbrev pub code_to : LirFn → (at : ℕ) → (to : Option ℕ) → Op → List Instr
code_to f at to o = code_of f (words_to (at + words_of f o - 1) to) o

abbrev pub placed_code : LirFn → (at : ℕ) → Op → List Instr
placed_code f at o = code_to f at (target_of f o) o

-- ---- the function

-- operations from a place on
unfoldable pub body : LirFn → (at : ℕ) → List Op → List Instr
body f at [] = []
body f at (o ∷ os) = placed_code f at o ++ body f (at + words_of f o) os

abbrev pub count_of_words : LirFn → ℕ
count_of_words f = length (prologue f) + sum_by (words_of f) f.ops

abbrev pub function_code : LirFn → List Instr
function_code f = prologue f ++ body f (length (prologue f)) f.ops
