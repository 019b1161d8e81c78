-- The image of two objects: one calls `_putchar` and names a global with two slots, the other has `_main` and a literal.
use Rattle.std.proofs.Common.{◌≡◌, true, false, [], ◌∷◌, replicate, refl, codes}
use Rattle.std.specs.Prelude.{pos}
use Rattle.pa_pac.specs.declared.key.Key.TheVariants.{IA}
use Rattle.pa_a64.specs.Parts.{fields}
use Rattle.pa_a64.specs.Parts as parts
use Rattle.pa_a64.specs.Decoding.{decoded, decoded_among, decoded_by, encoded}
use Rattle.pa_object.specs.declared.object.Global.{Global}
use Rattle.pa_object.specs.declared.object.Object.{Object}
use Rattle.pa_object.specs.declared.object.RefKind.TheVariants.{Call, Page, Low}
use Rattle.pa_object.specs.declared.object.SlotValue.TheVariants.{Address, Signed}
use Rattle.pa_macho.specs.declared.header.Role.TheVariants.{Main}
use Rattle.pa_macho.specs.Layout.{places_of}
use Rattle.pa_fixups.specs.declared.kind.FixKind.TheVariants.{Rebase, AuthRebase, AuthBind}
use Rattle.pa_image.specs.declared.image.Image.{Image}
use Rattle.pa_linker.specs.Layout.{layout_of, sections_of}
use Rattle.pa_linker.specs.Linked.{cleared, image_of}

abbrev pub variable : Global
variable = record {
  name = codes "_g";
  align = 8;
  constant = false;
  bytes = replicate 16 7;
  slots = record { offset = 0; value = Address (codes "_g") (pos 16) } ∷ record { offset = 8; value = Signed (codes "_f") (record { key = IA; addr = true; disc = 7 }) } ∷ [];
}

abbrev pub literal : Global
literal = record { name = codes "_s"; align = 1; constant = true; bytes = 104 ∷ 105 ∷ 0 ∷ []; slots = [] }

-- pacibsp; bl _putchar; adrp x0, the page of _g; add x0, x0, its place there; retab
abbrev pub first : Object
first = record {
  code = 0xD503237F ∷ 0x94000000 ∷ 0x90000000 ∷ 0x91000000 ∷ 0xD65F0FFF ∷ [];
  marks = record { name = codes "_f"; at = 0; public = false } ∷ [];
  refs = record { at = 3; kind = Low; name = codes "_g" } ∷ record { at = 1; kind = Call; name = codes "_putchar" } ∷ record { at = 2; kind = Page; name = codes "_g" } ∷ [];
  globals = variable ∷ [];
}

-- pacibsp; bl _f; retab
abbrev pub second : Object
second = record {
  code = 0xD503237F ∷ 0x94000000 ∷ 0xD65F0FFF ∷ [];
  marks = record { name = codes "_main"; at = 0; public = true } ∷ [];
  refs = record { at = 1; kind = Call; name = codes "_f" } ∷ [];
  globals = literal ∷ [];
}

-- `start`, _f at 0x40c, _main at 0x420, the stub at 0x430, the slots at 0x4000, 0x4010 and 0x4018
abbrev pub image : Image
image = record {
  role = Main;
  text = 0x94000008 ∷ 0xD4000061 ∷ 0xD4200000 ∷ 0xD503237F ∷ 0x94000008 ∷ 0x90000020 ∷ 0x91004000 ∷ 0xD65F0FFF ∷ 0xD503237F ∷ 0x97FFFFFA ∷ 0xD65F0FFF ∷ [];
  stubs = 0x90000031 ∷ 0x91000231 ∷ 0xF9400230 ∷ 0xD71F0A11 ∷ [];
  consts = 104 ∷ 105 ∷ 0 ∷ [];
  got = 8;
  cells = replicate 16 0;
  marks = record { name = codes "_f"; at = 3; public = false } ∷ record { name = codes "_main"; at = 8; public = true } ∷ [];
  imports = codes "_putchar" ∷ [];
  fixes = record { at = 0; kind = AuthBind 0 (record { key = IA; addr = true; disc = 0 }) } ∷ record { at = 16; kind = Rebase 0x100004020 0 } ∷ record { at = 24; kind = AuthRebase 0x40c (record { key = IA; addr = true; disc = 7 }) } ∷ [];
}

pub worked : image_of (first ∷ second ∷ []) ≡ image
unfolding image_of layout_of places_of decoded decoded_among decoded_by fields encoded parts.word sections_of cleared
worked = refl
