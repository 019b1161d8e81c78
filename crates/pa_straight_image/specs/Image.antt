-- The image of a program of the first form (mach-o/loader.h; mach-o/fixup-chains.h, pointer format 1).
use Rattle.std.specs.Prelude.{◌≡◌, ℕ, ◌*◌, List, [], ◌∷◌, length, map, true, codes}
use Rattle.pa_pac.specs.declared.key.Key.TheVariants.{IA}
use Rattle.pa_a64.specs.Decoding.{encoded}
use Rattle.pa_object.specs.declared.object.Mark.{Mark}
use Rattle.pa_macho.specs.declared.header.Role.TheVariants.{Main}
use Rattle.pa_fixups.specs.declared.kind.Fix.{Fix}
use Rattle.pa_fixups.specs.declared.kind.FixKind.TheVariants.{AuthBind}
use Rattle.pa_image.specs.declared.image.Image.{Image}
use Rattle.pa_straight.specs.declared.source.Straight.{Straight}
use Rattle.pa_straight.specs.Source.{IsSource}
use Rattle.pa_straight_image.specs.Code.{text, stub, pages_between}

-- what a program has once, where it prints
abbrev pub once : {X : Type 0} → (prints : List ℕ) → List X → List X
once [] xs = []
once (n ∷ ns) xs = xs

-- the function after `start`
abbrev pub main_mark : Mark
main_mark = record { name = codes "_main"; at = 3; public = true }

-- the first slot of `__auth_got` holds the address of the first import, signed under the key IA over the slot's own address
abbrev pub putchar_slot : Fix
putchar_slot = record { at = 0; kind = AuthBind 0 (record { key = IA; addr = true; disc = 0 }) }

abbrev pub imports_of : Straight → List (List ℕ)
imports_of s = once s.prints (codes "_putchar" ∷ [])

unfoldable pub image_of : Straight → Image
image_of s = record {
  role = Main;
  text = map encoded (text s);
  stubs = once s.prints (map encoded (stub (pages_between (length s.prints))));
  consts = [];
  got = 8 * length (imports_of s);
  cells = [];
  marks = main_mark ∷ [];
  imports = imports_of s;
  fixes = once s.prints (putchar_slot ∷ []);
}

-- the image of some program
abbrev pub IsProgram : Image → Type 0
IsProgram image = (s : Straight) × IsSource s × (image ≡ image_of s)
