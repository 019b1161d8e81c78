-- Regions that are added in the order of their addresses, and the segments of a file.
use Rattle.std.specs.Prelude.{ℕ, ◌+◌, ◌≤◌, ◌<◌, ◌^◌, List, [], ◌∷◌, ◌++◌, length}
use Rattle.pa_macho.specs.declared.places.Places.{Places}
use Rattle.pa_macho.specs.Layout.{Ordered, base_of, places_of}
use Rattle.pa_macho.specs.declared.header.Role.TheVariants.{Library}
use Rattle.pa_mem.specs.Memory.{Region}
use Rattle.pa_pac.specs.Signing.{Code}
use Rattle.pa_image.specs.declared.image.Image.{Image}
use Rattle.pa_image.specs.Bytes.{header_of, part}
use Rattle.pa_image.specs.Writing.{bytes_of}
use Rattle.pa_load.specs.declared.segments.Segments.{Segments}
use Rattle.pa_load.specs.Filling.{Filling, filled}
use Rattle.pa_load.specs.Loaded.{padded, segments, stack}

-- each region ends at this address or below it
abbrev pub AllBelow : (limit : ℕ) → List Region → Type 0
AllBelow limit [] = Unit {0}
AllBelow limit (region ∷ regions) = (region.base + length region.bytes ≤ limit) × AllBelow limit regions

-- the segments of these bytes, with zeros after the last
abbrev pub segments_of : Places → (bytes : List ℕ) → Segments
segments_of p bytes = record {
  text = part 0 p.got bytes;
  contents = part p.got p.linkedit bytes;
  linkedit = padded (part p.linkedit p.end bytes);
}

-- the segments of a program's file, with its slots filled
abbrev pub program_of : Code → Filling → (main : Image) → Places → Segments
program_of code f main p =
    let file = segments_of p (bytes_of main) in
    record { text = file.text; contents = filled code f main.fixes file.contents; linkedit = file.linkedit }

-- segments that stand one after the other from a base on, and end with their image's last page
pub record Fits (base : ℕ) (p : Places) (segments : Segments) : Type 0 where
  pub order : Ordered p
  pub small : base + p.end < 2 ^ 60
  pub text : length segments.text ≤ p.got
  pub contents : p.got + length segments.contents ≤ p.linkedit
  pub linkedit : p.linkedit + length segments.linkedit ≤ p.end + 0x4000

-- these segments, the stack and those of the runtime image
abbrev pub memory_of : (base : ℕ) → Places → Segments → (runtime : Image) → List Region
memory_of base p program runtime =
    let q = places_of (header_of runtime) in
    let library = segments_of q (bytes_of runtime) in
    segments base p program.text program.contents program.linkedit
    ++ stack ∷ segments (base_of Library) q library.text library.contents library.linkedit
