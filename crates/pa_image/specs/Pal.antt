-- The runtime image, which programs bind to (mach-o/loader.h; Procedure Call Standard for the Arm 64-bit Architecture: the
-- first argument and the result stand in x0).
use Rattle.std.specs.Prelude.{ℕ, List, [], ◌∷◌, ◌++◌, map, true, if◌then◌else◌, Option, Some, None, codes}
use Rattle.std.specs.Str.{bytes_eq}
use Rattle.pa_a64.specs.declared.instr.Instr.{Instr}
use Rattle.pa_a64.specs.declared.instr.Instr.TheVariants.{Stack, Exception}
use Rattle.pa_a64.specs.declared.instr.StackOp.TheVariants.{Retab, Pacibsp}
use Rattle.pa_a64.specs.declared.instr.ExceptionOp.TheVariants.{Svc}
use Rattle.pa_a64.specs.Decoding.{encoded}
use Rattle.pa_object.specs.declared.object.Mark.{Mark}
use Rattle.pa_macho.specs.declared.header.Role.TheVariants.{Library}
use Rattle.pa_image.specs.declared.image.Image.{Image}

-- a function that asks the system for this service, and returns what it gives
abbrev pub service : ℕ → List Instr
service number = Stack Pacibsp ∷ Exception Svc number ∷ Stack Retab ∷ []

-- prints the low byte of x0, and leaves that byte there
abbrev pub putchar : List Instr
putchar = service 1

-- the next byte of the input, or -1
abbrev pub getchar : List Instr
getchar = service 2

-- a function that other images see
abbrev pub public_mark : List ℕ → ℕ → Mark
public_mark name at = record { name = name; at = at; public = true }

abbrev pub marks : List Mark
marks = public_mark (codes "_putchar") 0 ∷ public_mark (codes "_getchar") 3 ∷ []

-- the two functions, and nothing else
unfoldable pub pal : Image
pal = record {
  role = Library;
  text = map encoded (putchar ++ getchar);
  stubs = [];
  consts = [];
  got = 0;
  cells = [];
  marks = marks;
  imports = [];
  fixes = [];
}

-- the functions that it exports, and where they lie in memory
abbrev pub exports : List ℕ → Option ℕ
exports name = if bytes_eq name (codes "_putchar") then Some 0x180000400 else (if bytes_eq name (codes "_getchar") then Some 0x18000040c else None)
