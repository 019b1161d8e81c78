-- The three objects are linkable.
use Rattle.std.proofs.Common.{◌≡◌, inl, inr, ℕ, ◌≤◌, ◌<◌, true, false, List, [], ◌∷◌, length, refl, subst, arith, codes, Some, slice_get}
use Rattle.std.proofs.lemmas.List.Elements.{All-from_recursion}
use Rattle.std.proofs.lemmas.Cmp.{nat_eq_equiv, nat_list_eq_equiv}
use Rattle.std.proofs.lemmas.Map.Made.{IsDistinct-from_count}
use Rattle.pa_a64.specs.Parts.{fields}
use Rattle.pa_a64.specs.Decoding.{decoded, decoded_among, decoded_by}
use Rattle.pa_object.specs.declared.object.RefKind.{RefKind}
use Rattle.pa_object.specs.declared.object.RefKind.TheVariants.{Call, Page, Low}
use Rattle.pa_object.specs.Linkable.{Named, Text, Linkable, IsName, IsCode, IsRef, IsFilledBy, IsGlobal, IsSlot, Ascends, functions}
use Rattle.pa_linker_rows.specs.Program.{first, second, third, objects, literal, plain, pointers}

abbrev F : List Text
F = codes "_f" ∷ codes "_main" ∷ []

abbrev D : List Text
D = codes "_c" ∷ codes "_g" ∷ codes "_s" ∷ codes "_d" ∷ codes "_t" ∷ []

abbrev named : Text → ℕ → Named
named name size = record { name = name; size = size }

-- the functions and the globals, with their sizes
abbrev SF : List Named
SF = named (codes "_f") 24 ∷ named (codes "_main") 12 ∷ []

abbrev SD : List Named
SD = named (codes "_c") 1 ∷ named (codes "_g") 24 ∷ named (codes "_s") 3 ∷ named (codes "_d") 4 ∷ named (codes "_t") 2 ∷ []

fills : (code : List ℕ) (at : ℕ) (kind : RefKind) (word other : ℕ) → slice_get code at ≡ Some word → IsFilledBy (decoded word) kind → slice_get code at ≡ Some other → IsFilledBy (decoded other) kind
fills code at kind word other e h f = let same : word ≡ other = cc in subst (λ w. IsFilledBy (decoded w) kind) same h

call_fills : IsFilledBy (decoded 0x94000000) Call
unfolding decoded decoded_among decoded_by fields
call_fills = tt

page_fills : IsFilledBy (decoded 0x90000000) Page
unfolding decoded decoded_among decoded_by fields
page_fills = tt

low_fills : IsFilledBy (decoded 0x91000000) Low
unfolding decoded decoded_among decoded_by fields
low_fills = tt

first_code : IsCode F D first
unfolding Ascends
first_code = record {
  marks_ascend = tt;
  marks_at_words = All-from_recursion (λ mark. mark.at < length first.code) first.marks (omega arith, tt);
  marks_short = All-from_recursion (λ mark. length mark.name ≤ 300) first.marks (omega arith, tt);
  one_ref_a_word = IsDistinct-from_count nat_eq_equiv (1 ∷ 2 ∷ 3 ∷ 4 ∷ []) refl;
  refs = All-from_recursion (IsRef first.code F D) first.refs (
    record { stands = omega arith; fills = λ word e. fills first.code 1 Call 0x94000000 word refl call_fills e; names = refl },
    (
      record { stands = omega arith; fills = λ word e. fills first.code 2 Call 0x94000000 word refl call_fills e; names = refl },
      (
        record { stands = omega arith; fills = λ word e. fills first.code 3 Page 0x90000000 word refl page_fills e; names = refl },
        (record { stands = omega arith; fills = λ word e. fills first.code 4 Low 0x91000000 word refl low_fills e; names = refl }, tt),
      ),
    ),
  );
}

second_code : IsCode F D second
unfolding Ascends
second_code = record {
  marks_ascend = tt;
  marks_at_words = All-from_recursion (λ mark. mark.at < length second.code) second.marks tt;
  marks_short = All-from_recursion (λ mark. length mark.name ≤ 300) second.marks tt;
  one_ref_a_word = IsDistinct-from_count nat_eq_equiv [] refl;
  refs = All-from_recursion (IsRef second.code F D) second.refs tt;
}

third_code : IsCode F D third
unfolding Ascends
third_code = record {
  marks_ascend = tt;
  marks_at_words = All-from_recursion (λ mark. mark.at < length third.code) third.marks (omega arith, tt);
  marks_short = All-from_recursion (λ mark. length mark.name ≤ 300) third.marks (omega arith, tt);
  one_ref_a_word = IsDistinct-from_count nat_eq_equiv (1 ∷ []) refl;
  refs = All-from_recursion (IsRef third.code F D) third.refs
      (record { stands = omega arith; fills = λ word e. fills third.code 1 Call 0x94000000 word refl call_fills e; names = refl }, tt);
}

pointers_held : IsGlobal SF SD pointers
unfolding Ascends
pointers_held = record {
  alignment = inr (inr (inr (inr refl)));
  slots_ascend = (omega arith, (omega arith, tt));
  slots = All-from_recursion (IsSlot SF SD 24) pointers.slots (
    record { aligned = refl; inside = omega arith; value = (named (codes "_f") 24, (0, omega arith, refl), refl, omega arith) },
    (
      record { aligned = refl; inside = omega arith; value = (refl, λ e. cc) },
      (record { aligned = refl; inside = omega arith; value = (refl, λ e. cc) }, tt),
    ),
  );
  slots_aligned = λ e. omega arith;
  literals_plain = λ e. absurd (let z : false ≡ true = e in cc);
}

literal_held : (name : Text) (bytes : List ℕ) → IsGlobal SF SD (literal name bytes)
unfolding Ascends
literal_held name bytes = record {
  alignment = inl refl;
  slots_ascend = tt;
  slots = All-from_recursion (IsSlot SF SD (length bytes)) [] tt;
  slots_aligned = λ e. absurd (e refl);
  literals_plain = λ e. (refl, refl);
}

byte_held : IsGlobal SF SD (plain (codes "_c") 1 (5 ∷ []))
unfolding Ascends
byte_held = record {
  alignment = inl refl;
  slots_ascend = tt;
  slots = All-from_recursion (IsSlot SF SD 1) [] tt;
  slots_aligned = λ e. absurd (e refl);
  literals_plain = λ e. absurd (let z : false ≡ true = e in cc);
}

word_held : IsGlobal SF SD (plain (codes "_d") 4 (1 ∷ 2 ∷ 3 ∷ 4 ∷ []))
unfolding Ascends
word_held = record {
  alignment = inr (inr (inl refl));
  slots_ascend = tt;
  slots = All-from_recursion (IsSlot SF SD 4) [] tt;
  slots_aligned = λ e. absurd (e refl);
  literals_plain = λ e. absurd (let z : false ≡ true = e in cc);
}

is_f : IsName (codes "_f")
is_f = record { some = λ e. cc; no_zero = λ e. cc; not_runtime = λ e. cc }

is_main : IsName (codes "_main")
is_main = record { some = λ e. cc; no_zero = λ e. cc; not_runtime = λ e. cc }

is_c : IsName (codes "_c")
is_c = record { some = λ e. cc; no_zero = λ e. cc; not_runtime = λ e. cc }

is_g : IsName (codes "_g")
is_g = record { some = λ e. cc; no_zero = λ e. cc; not_runtime = λ e. cc }

is_s : IsName (codes "_s")
is_s = record { some = λ e. cc; no_zero = λ e. cc; not_runtime = λ e. cc }

is_d : IsName (codes "_d")
is_d = record { some = λ e. cc; no_zero = λ e. cc; not_runtime = λ e. cc }

is_t : IsName (codes "_t")
is_t = record { some = λ e. cc; no_zero = λ e. cc; not_runtime = λ e. cc }

abbrev every_name : List Text
every_name = codes "_f" ∷ codes "_main" ∷ codes "_c" ∷ codes "_g" ∷ codes "_s" ∷ codes "_d" ∷ codes "_t" ∷ []

pub linkable : Linkable objects
unfolding functions
linkable = record {
  names_fit = All-from_recursion IsName every_name (is_f, (is_main, (is_c, (is_g, (is_s, (is_d, (is_t, tt)))))));
  names_distinct = IsDistinct-from_count nat_list_eq_equiv every_name refl;
  has_main = refl;
  code = All-from_recursion (IsCode F D) objects (first_code, (second_code, (third_code, tt)));
  globals = All-from_recursion (IsGlobal SF SD)
      (plain (codes "_c") 1 (5 ∷ []) ∷ pointers ∷ literal (codes "_s") (104 ∷ 105 ∷ 0 ∷ []) ∷ plain (codes "_d") 4 (1 ∷ 2 ∷ 3 ∷ 4 ∷ []) ∷ literal (codes "_t") (33 ∷ 0 ∷ []) ∷ [])
      (byte_held, (pointers_held, (literal_held (codes "_s") (104 ∷ 105 ∷ 0 ∷ []), (word_held, (literal_held (codes "_t") (33 ∷ 0 ∷ []), tt)))));
  few_words = omega arith;
  small_data = omega arith;
  few_marks = omega arith;
}
