-- The instructions of a program of the first form: `start`, `_main`, and the stub that reaches `_putchar` in the runtime
-- image (Clang, Pointer Authentication: return addresses; ld64's `__auth_stubs`).
use Rattle.std.specs.Prelude.{ℕ, ◌+◌, ◌-◌, ◌*◌, ◌/◌, ◌%◌, List, [], ◌∷◌, ◌++◌, length, false, pos}
use Rattle.pa_a64.specs.declared.instr.Instr.{Instr}
use Rattle.pa_a64.specs.declared.instr.Instr.TheVariants.{MoveWide, SumImmediate, LoadStore, LoadStorePair, Adrp, Branch, BranchAuthenticated, Stack, Exception}
use Rattle.pa_a64.specs.declared.instr.MoveWideOp.TheVariants.{Movz, Movk}
use Rattle.pa_a64.specs.declared.instr.SumImmediateOp.TheVariants.{Add, Sub}
use Rattle.pa_a64.specs.declared.instr.LoadStoreOp.TheVariants.{Ldr}
use Rattle.pa_a64.specs.declared.instr.LoadStorePairOp.TheVariants.{Ldp, Stp}
use Rattle.pa_a64.specs.declared.instr.BranchOp.TheVariants.{Bl}
use Rattle.pa_a64.specs.declared.instr.BranchAuthenticatedOp.TheVariants.{Braa}
use Rattle.pa_a64.specs.declared.instr.StackOp.TheVariants.{Retab, Pacibsp}
use Rattle.pa_a64.specs.declared.instr.ExceptionOp.TheVariants.{Svc, Brk}
use Rattle.pa_straight.specs.declared.source.Straight.{Straight}

-- ---- the text

-- calls `_main`, and ends the program with what that gives
abbrev pub start : List Instr
start = Branch Bl (pos 3) ∷ Exception Svc 3 ∷ Exception Brk 0 ∷ []

-- the return address is signed, and saved with x29 in a frame of 16 bytes
abbrev pub prologue : List Instr
prologue = Stack Pacibsp ∷ SumImmediate Sub 31 31 16 false ∷ LoadStorePair Stp 29 30 31 (pos 0) ∷ []

-- a number of 32 bits for x0
abbrev pub in_x0 : ℕ → List Instr
in_x0 n = MoveWide Movz 0 (n % 65536) 0 ∷ MoveWide Movk 0 (n / 65536) 1 ∷ []

-- a call of the stub with the number n: `behind` calls come after it, and gap words lie between the text and the stub
abbrev pub call : (gap n behind : ℕ) → List Instr
call gap n behind = in_x0 n ++ Branch Bl (pos (3 * behind + 6 + gap)) ∷ []

abbrev pub calls : (gap : ℕ) → List ℕ → List Instr
calls gap [] = []
calls gap (n ∷ ns) = call gap n (length ns) ++ calls gap ns

-- the number is given back
abbrev pub epilogue : ℕ → List Instr
epilogue n = in_x0 n ++ LoadStorePair Ldp 29 30 31 (pos 0) ∷ SumImmediate Add 31 31 16 false ∷ Stack Retab ∷ []

-- the words between the text of n calls and the next multiple of 16 bytes
abbrev pub gap_behind : ℕ → ℕ
gap_behind prints = (prints + 1) % 4

abbrev pub text : Straight → List Instr
text s = start ++ (prologue ++ (calls (gap_behind (length s.prints)) s.prints ++ epilogue s.returns))

-- ---- the stub

-- authenticates the pointer in a slot under the slot's address and goes there; the slot begins a page, n pages of 4,096 bytes
-- after the stub's own
abbrev pub stub : ℕ → List Instr
stub pages =
    Adrp 17 (pos pages) ∷ SumImmediate Add 17 17 0 false ∷ LoadStore Ldr 16 17 0 ∷ BranchAuthenticated Braa 16 17 ∷ []

-- ---- places, counted from the image's first byte

abbrev pub text_place : ℕ
text_place = 0x400

-- after `start`
abbrev pub main_place : ℕ
main_place = text_place + 12

-- after the text of n calls, at a multiple of 16
abbrev pub stub_place : ℕ → ℕ
stub_place prints = text_place + 12 * prints + 44 + 4 * gap_behind prints

-- where `__DATA` begins
abbrev pub slot_place : ℕ
slot_place = 0x4000

-- from the stub's page to the slot's
abbrev pub pages_between : ℕ → ℕ
pages_between prints = 4 - stub_place prints / 4096
