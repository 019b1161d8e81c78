-- A program that can be linked: `_main` calls `_putchar` and names a global, which holds its own end's address and `_main`
-- signed.
use Rattle.std.proofs.Common.{◌≡◌, inl, inr, ℕ, ◌≤◌, ◌<◌, true, false, List, [], ◌∷◌, length, replicate, refl, subst, arith, codes, Some, slice_get}
use Rattle.std.specs.Prelude.{pos}
use Rattle.std.proofs.lemmas.List.Elements.{All-from_recursion}
use Rattle.std.proofs.lemmas.Cmp.{nat_eq_equiv, nat_list_eq_equiv}
use Rattle.std.proofs.lemmas.Map.Made.{IsDistinct-from_count}
use Rattle.pa_pac.specs.declared.key.Key.TheVariants.{IA}
use Rattle.pa_a64.specs.Parts.{fields}
use Rattle.pa_a64.specs.Decoding.{decoded, decoded_among, decoded_by}
use Rattle.pa_object.specs.declared.object.Global.{Global}
use Rattle.pa_object.specs.declared.object.Object.{Object}
use Rattle.pa_object.specs.declared.object.RefKind.{RefKind}
use Rattle.pa_object.specs.declared.object.RefKind.TheVariants.{Call, Page, Low}
use Rattle.pa_object.specs.declared.object.SlotValue.TheVariants.{Address, Signed}
use Rattle.pa_object.specs.Linkable.{Linkable, IsName, IsCode, IsRef, IsFilledBy, IsGlobal, IsSlot, Ascends, functions, functions_of}

-- pacibsp; bl; adrp x0; add x0, x0; retab
abbrev words : List ℕ
words = 3573752703 ∷ 2483027968 ∷ 2415919104 ∷ 2432696320 ∷ 3596554239 ∷ []

abbrev global : Global
global = record {
  name = codes "_g";
  align = 8;
  constant = false;
  bytes = replicate 16 0;
  slots = record { offset = 0; value = Address (codes "_g") (pos 16) } ∷ record { offset = 8; value = Signed (codes "_main") (record { key = IA; addr = true; disc = 7 }) } ∷ [];
}

abbrev program : Object
program = record {
  code = words;
  marks = record { name = codes "_main"; at = 0; public = true } ∷ [];
  refs = record { at = 1; kind = Call; name = codes "_putchar" } ∷ record { at = 2; kind = Page; name = codes "_g" } ∷ record { at = 3; kind = Low; name = codes "_g" } ∷ [];
  globals = global ∷ [];
}

is_main : IsName (codes "_main")
is_main = record { some = λ e. cc; no_zero = λ e. cc; not_runtime = λ e. cc }

is_global : IsName (codes "_g")
is_global = record { some = λ e. cc; no_zero = λ e. cc; not_runtime = λ e. cc }

fills : (at : ℕ) (kind : RefKind) (word other : ℕ) → slice_get words at ≡ Some word → IsFilledBy (decoded word) kind → slice_get words at ≡ Some other → IsFilledBy (decoded other) kind
fills at kind word other e h f = let same : word ≡ other = cc in subst (λ w. IsFilledBy (decoded w) kind) same h

call_fills : IsFilledBy (decoded 2483027968) Call
unfolding decoded decoded_among decoded_by fields
call_fills = tt

page_fills : IsFilledBy (decoded 2415919104) Page
unfolding decoded decoded_among decoded_by fields
page_fills = tt

low_fills : IsFilledBy (decoded 2432696320) Low
unfolding decoded decoded_among decoded_by fields
low_fills = tt

is_code : IsCode (codes "_main" ∷ []) (codes "_g" ∷ []) program
unfolding Ascends
is_code = record {
  marks_ascend = tt;
  marks_at_words = All-from_recursion (λ mark. mark.at < length words) program.marks (omega arith, tt);
  marks_short = All-from_recursion (λ mark. length mark.name ≤ 300) program.marks (omega arith, tt);
  one_ref_a_word = IsDistinct-from_count nat_eq_equiv (1 ∷ 2 ∷ 3 ∷ []) refl;
  refs = All-from_recursion (IsRef words (codes "_main" ∷ []) (codes "_g" ∷ [])) program.refs (
    record { stands = omega arith; fills = λ word e. fills 1 Call 2483027968 word refl call_fills e; names = refl },
    (
      record { stands = omega arith; fills = λ word e. fills 2 Page 2415919104 word refl page_fills e; names = refl },
      (record { stands = omega arith; fills = λ word e. fills 3 Low 2432696320 word refl low_fills e; names = refl }, tt),
    ),
  );
}

functions_are : functions_of (program ∷ []) ≡ record { name = codes "_main"; size = 20 } ∷ []
unfolding functions
functions_are = refl

is_held : IsGlobal (record { name = codes "_main"; size = 20 } ∷ []) (record { name = codes "_g"; size = 16 } ∷ []) global
unfolding Ascends
is_held = record {
  alignment = inr (inr (inr (inl refl)));
  slots_ascend = (omega arith, tt);
  slots = All-from_recursion (IsSlot (record { name = codes "_main"; size = 20 } ∷ []) (record { name = codes "_g"; size = 16 } ∷ []) 16) global.slots (
    record { aligned = refl; inside = omega arith; value = (record { name = codes "_g"; size = 16 }, (1, omega arith, refl), refl, omega arith) },
    (record { aligned = refl; inside = omega arith; value = (refl, λ e. cc) }, tt),
  );
  slots_aligned = λ e. omega arith;
  literals_plain = λ e. absurd (let z : false ≡ true = e in cc);
}

pub linkable : Linkable (program ∷ [])
unfolding functions
linkable = record {
  names_fit = All-from_recursion IsName (codes "_main" ∷ codes "_g" ∷ []) (is_main, (is_global, tt));
  names_distinct = IsDistinct-from_count nat_list_eq_equiv (codes "_main" ∷ codes "_g" ∷ []) refl;
  has_main = refl;
  code = All-from_recursion (IsCode (codes "_main" ∷ []) (codes "_g" ∷ [])) (program ∷ []) (is_code, tt);
  globals = All-from_recursion (IsGlobal (record { name = codes "_main"; size = 20 } ∷ []) (record { name = codes "_g"; size = 16 } ∷ [])) (global ∷ []) (is_held, tt);
  few_words = omega arith;
  small_data = omega arith;
  few_marks = omega arith;
}
