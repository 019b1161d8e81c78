-- The registers that the code uses (Procedure Call Standard for the Arm 64-bit Architecture, 6.1.1).
use Rattle.std.specs.Prelude.{ℕ}

-- arguments and results: the first of each
abbrev pub x0 : ℕ
x0 = 0

-- what an operation computes with; no function keeps them for its caller
abbrev pub x9 : ℕ
x9 = 9

abbrev pub x10 : ℕ
x10 = 10

abbrev pub x11 : ℕ
x11 = 11

-- the address of what lies far in the frame
abbrev pub x12 : ℕ
x12 = 12

-- the frame pointer and the link register
abbrev pub x29 : ℕ
x29 = 29

abbrev pub x30 : ℕ
x30 = 30

-- by the row, the stack pointer or the zero register
abbrev pub sp : ℕ
sp = 31

abbrev pub xzr : ℕ
xzr = 31
