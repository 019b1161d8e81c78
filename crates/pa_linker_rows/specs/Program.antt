-- Three objects that can be linked.
use Rattle.std.specs.Prelude.{ℕ, true, false, pos, List, [], ◌∷◌, codes, replicate}
use Rattle.pa_pac.specs.declared.key.Key.TheVariants.{IA}
use Rattle.pa_object.specs.declared.object.Global.{Global}
use Rattle.pa_object.specs.declared.object.Mark.{Mark}
use Rattle.pa_object.specs.declared.object.Object.{Object}
use Rattle.pa_object.specs.declared.object.Ref.{Ref}
use Rattle.pa_object.specs.declared.object.RefKind.{RefKind}
use Rattle.pa_object.specs.declared.object.RefKind.TheVariants.{Call, Page, Low}
use Rattle.pa_object.specs.declared.object.Slot.{Slot}
use Rattle.pa_object.specs.declared.object.SlotValue.{SlotValue}
use Rattle.pa_object.specs.declared.object.SlotValue.TheVariants.{Address, Signed}
use Rattle.pa_object.specs.Linkable.{Text}

abbrev pub mark : Text → Mark
mark name = record { name = name; at = 0; public = true }

abbrev pub reference : (at : ℕ) → RefKind → Text → Ref
reference at kind name = record { at = at; kind = kind; name = name }

abbrev pub slot : (offset : ℕ) → SlotValue → Slot
slot offset value = record { offset = offset; value = value }

-- the address of a function, signed under the key IA
abbrev pub signed : Text → (disc : ℕ) → SlotValue
signed name disc = Signed name (record { key = IA; addr = true; disc = disc })

-- a global without a slot
abbrev pub plain : Text → (align : ℕ) → (bytes : List ℕ) → Global
plain name align bytes = record { name = name; align = align; constant = false; bytes = bytes; slots = [] }

abbrev pub literal : Text → (bytes : List ℕ) → Global
literal name bytes = record { name = name; align = 1; constant = true; bytes = bytes; slots = [] }

-- the address of _f, _f signed, and _getchar signed
abbrev pub pointers : Global
pointers = record {
  name = codes "_g";
  align = 16;
  constant = false;
  bytes = replicate 24 7;
  slots = slot 0 (Address (codes "_f") (pos 4)) ∷ slot 8 (signed (codes "_f") 7) ∷ slot 16 (signed (codes "_getchar") 9) ∷ [];
}

-- pacibsp; bl _putchar; bl _putchar; adrp x0, the page of _g; add x0, x0, its place there; retab
abbrev pub first : Object
first = record {
  code = 0xD503237F ∷ 0x94000000 ∷ 0x94000000 ∷ 0x90000000 ∷ 0x91000000 ∷ 0xD65F0FFF ∷ [];
  marks = mark (codes "_f") ∷ [];
  refs =
      reference 1 Call (codes "_putchar") ∷ reference 2 Call (codes "_putchar") ∷ reference 3 Page (codes "_g")
      ∷ reference 4 Low (codes "_g") ∷ [];
  globals = plain (codes "_c") 1 (5 ∷ []) ∷ pointers ∷ [];
}

abbrev pub second : Object
second = record {
  code = [];
  marks = [];
  refs = [];
  globals = literal (codes "_s") (104 ∷ 105 ∷ 0 ∷ []) ∷ plain (codes "_d") 4 (1 ∷ 2 ∷ 3 ∷ 4 ∷ []) ∷ [];
}

-- pacibsp; bl _f; retab
abbrev pub third : Object
third = record {
  code = 0xD503237F ∷ 0x94000000 ∷ 0xD65F0FFF ∷ [];
  marks = mark (codes "_main") ∷ [];
  refs = reference 1 Call (codes "_f") ∷ [];
  globals = literal (codes "_t") (33 ∷ 0 ∷ []) ∷ [];
}

abbrev pub objects : List Object
objects = first ∷ second ∷ third ∷ []
