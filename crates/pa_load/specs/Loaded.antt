-- The state in which a program begins: it and its runtime image in memory, its slots filled and signed.
use Rattle.std.specs.Prelude.{◌≡◌, ℕ, ◌+◌, ◌-◌, ◌*◌, ◌<◌, ◌^◌, true, false, List, [], ◌∷◌, ◌++◌, length, map, replicate, position, is_none, Option, None, unwrap_or}
use Rattle.pa_pac.specs.Log.{Log}
use Rattle.pa_pac.specs.Signing.{Code}
use Rattle.pa_macho.specs.declared.header.Role.TheVariants.{Main, Library}
use Rattle.pa_macho.specs.declared.places.Places.{Places}
use Rattle.pa_macho.specs.Layout.{base_of, places_of, up}
use Rattle.pa_mem.specs.declared.access.Rights.{Rights}
use Rattle.pa_mem.specs.Memory.{Region, region_of}
use Rattle.pa_object.specs.Machine.{Machine, begun}
use Rattle.pa_image.specs.declared.image.Image.{Image}
use Rattle.pa_image.specs.Bytes.{header_of, part}
use Rattle.pa_image.specs.Places.{base_at, data_base, exported, mapped, text_base, Mapped}
use Rattle.pa_processor.specs.declared.loaded.Loaded.{Loaded}
use Rattle.pa_image.specs.Writing.{bytes_of}
use Rattle.pa_load.specs.Filling.{Filling, filled, filling_log}

-- memory, the log with its newest entry first, the place of the first instruction, and the stack pointer
pub record State : Type 0 where
  pub memory : List Region
  pub log : Log
  pub pc : ℕ
  pub sp : ℕ

abbrev pub state_of : Loaded → State
state_of loaded = record { memory = loaded.space; log = loaded.log.entries; pc = loaded.pc; sp = loaded.sp }

-- the machine of a state, with its input
abbrev pub begun_in : State → (input : List ℕ) → Machine
begun_in state input = begun state.memory state.log state.pc state.sp input

-- ---- imports

-- the function that the runtime image exports under a name; it lies where its file says
abbrev pub import_address : (runtime : Image) → (name : List ℕ) → Option ℕ
import_address runtime name = exported (base_of Library) runtime.marks name

-- the first import of a program that the runtime image doesn't export
abbrev pub first_missing : (main runtime : Image) → Option ℕ
first_missing main runtime = position (λ name. is_none (import_address runtime name)) main.imports

abbrev pub import_addresses : (main runtime : Image) → List ℕ
import_addresses main runtime = map (λ name. unwrap_or (import_address runtime name) 0) main.imports

-- what the slots of the program are filled from
abbrev pub filling : (main runtime : Image) → (slide : ℕ) → Filling
filling main runtime slide = record {
  shift = 0x4000 * slide;
  base = base_at main.role slide;
  slots_base = data_base (mapped main slide);
  imports = import_addresses main runtime;
}

-- ---- memory

-- __TEXT is read and run, __DATA and the stack are read and written, __LINKEDIT is read
abbrev pub text_rights : Rights
text_rights = record { read = true; write = false; run = true }

abbrev pub data_rights : Rights
data_rights = record { read = true; write = true; run = false }

abbrev pub linkedit_rights : Rights
linkedit_rights = record { read = true; write = false; run = false }

-- 8 MiB, whose end is where the stack pointer starts
abbrev pub stack_base : ℕ
stack_base = 0x16F800000

abbrev pub stack_size : ℕ
stack_size = 0x800000

-- n zeros
unfoldable pub blank : ℕ → List ℕ
blank n = replicate n 0

abbrev pub stack : Region
stack = region_of stack_base (blank stack_size) data_rights

-- __LINKEDIT ends with its file; in memory zeros fill its last page
abbrev pub padded : List ℕ → List ℕ
padded bytes = bytes ++ replicate (up 0x4000 (length bytes) - length bytes) 0

-- the segments of an image at their addresses
abbrev pub segments : (base : ℕ) → Places → (text contents linkedit : List ℕ) → List Region
segments base p text contents linkedit =
    region_of base text text_rights ∷ region_of (base + p.got) contents data_rights
    ∷ region_of (base + p.linkedit) linkedit linkedit_rights ∷ []

-- an image in memory, where `fill` is done to its __DATA
abbrev pub image_regions : Mapped → (fill : List ℕ → List ℕ) → List Region
image_regions m fill =
    let p = places_of (header_of m.image) in
    let bytes = bytes_of m.image in
    segments m.base p (part 0 p.got bytes) (fill (part p.got p.linkedit bytes)) (padded (part p.linkedit p.end bytes))

-- both images where they lie: the program moved by the slide, the runtime image where its file says
abbrev pub both : (main runtime : Image) → (slide : ℕ) → List Mapped
both main runtime slide = mapped main slide ∷ mapped runtime 0 ∷ []

-- ---- the state

-- the regions stand in the order of their addresses
unfoldable pub loaded : Code → (main runtime : Image) → (slide : ℕ) → State
loaded code main runtime slide =
    let fills = filling main runtime slide in
    record {
      memory =
          image_regions (mapped main slide) (filled code fills main.fixes)
          ++ stack ∷ image_regions (mapped runtime 0) (λ contents. contents);
      log = filling_log code fills main.fixes;
      pc = text_base (base_at main.role slide);
      sp = stack_base + stack_size;
    }

-- A program whose imports the runtime image exports begins in this state under this slide. The runtime image has nothing to
-- be filled.
pub record IsLoaded (code : Code) (main runtime : Image) (slide : ℕ) (state : State) : Type 0 where
  pub program : main.role ≡ Main
  pub library : runtime.role ≡ Library
  pub no_fixes : runtime.fixes ≡ []
  pub no_imports : runtime.imports ≡ []
  pub slide_fits : slide < 2 ^ 16
  pub found : first_missing main runtime ≡ None
  pub state_is : state ≡ loaded code main runtime slide
