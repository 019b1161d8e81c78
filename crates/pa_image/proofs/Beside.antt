-- What the bytes of an image tell of what stands beside its code and its slots: that it is of bytes.
use Rattle.std.proofs.Common.{◌≡◌, ℕ, zero, suc, ◌-◌, true, List, [], ◌∷◌, ◌++◌, length, drop, replicate, map, subst, arith}
use Rattle.std.specs.Prelude.{ltb}
use Rattle.std.specs.List.{concat, list_all}
use Rattle.std.proofs.lemmas.Bool.{and_parts, ltb-true}
use Rattle.pa_layout.specs.Fields.{two, spelled}
use Rattle.pa_layout.specs.Names.{ended}
use Rattle.pa_macho.specs.Layout.{places_of}
use Rattle.pa_fixups.specs.declared.tables.DataAt.{DataAt}
use Rattle.pa_fixups.specs.Fixups.{header_of as fixups_header, segments_of, pages_of as pages_fields, imports_at, starts_end, entries, fixups_bytes, fixups_with}
use Rattle.pa_slots.proofs.Pages.{IsBytes-drop}
use Rattle.pa_symbols.specs.Symbols.{names_of}
use Rattle.pa_image.specs.declared.image.Image.{Image}
use Rattle.pa_image.specs.Bytes.{header_of, data_at, IsImage}
use Rattle.pa_image.specs.Writing.{AreBytes, AllBytes, BesideBytes}
use Rattle.pa_image.proofs.Cut.{IsBytes-part}

-- ---- parts of bytes

front : (xs ys : List ℕ) → AreBytes (xs ++ ys) → AreBytes xs
front [] ys b i = omega arith
front (x ∷ xs) ys b zero = b 0
front (x ∷ xs) ys b (suc i) = front xs ys (λ k. b (suc k)) i

behind : (xs ys : List ℕ) → AreBytes (xs ++ ys) → AreBytes ys
behind [] ys b = b
behind (x ∷ xs) ys b = behind xs ys (λ k. b (suc k))

parts : (pieces : List (List ℕ)) → AreBytes (concat pieces) → AllBytes pieces
parts [] b = tt
parts (piece ∷ pieces) b = (front piece (concat pieces) b, parts pieces (behind piece (concat pieces) b))

names : (texts : List (List ℕ)) → AreBytes (ended texts) → AllBytes texts
names [] b = tt
names (text ∷ texts) b =
    let more : AreBytes (0 ∷ ended texts) = behind text (0 ∷ ended texts) b in
    (front text (0 ∷ ended texts) b, names texts (λ i. more (suc i)))

-- numbers that pass the test are bytes
pub tested : (bytes : List ℕ) → list_all (λ byte. ltb byte 256) bytes ≡ true → AreBytes bytes
tested [] t = λ i. omega arith
tested (byte ∷ bytes) t = go (and_parts (ltb byte 256) (list_all (λ b. ltb b 256) bytes) t).0 (tested bytes (and_parts (ltb byte 256) (list_all (λ b. ltb b 256) bytes) t).1)
  where
    go : ltb byte 256 ≡ true → AreBytes bytes → AreBytes (byte ∷ bytes)
    go lt more zero = ltb-true byte 256 lt
    go lt more (suc i) = more i

-- ---- of an image

imports_of : (at : DataAt) (starts : List ℕ) (imports : List (List ℕ)) → AreBytes (fixups_bytes at (fixups_with starts imports)) → AllBytes imports
unfolding fixups_bytes
imports_of at starts imports b =
    let all = parts
    (spelled (fixups_header at (length imports)) ∷ spelled (segments_of at) ∷ spelled (pages_fields at) ∷ spelled (map two starts) ∷ replicate (imports_at at - starts_end at) 0 ∷ spelled (entries 1 imports) ∷ (0 ∷ []) ∷ ended imports ∷ []) b in
    names imports all.1.1.1.1.1.1.1.0

pub beside_of : (image : Image) (bytes : List ℕ) → AreBytes bytes → IsImage image bytes → BesideBytes image
beside_of image bytes b i =
    let h = header_of image in
    let p = places_of h in
    let s = i.parts in
    let starts : List ℕ = s.starts in
    let strings : AreBytes (0 ∷ ended (names_of image.marks)) = subst AreBytes s.marks.strings_are (IsBytes-part p.strings p.end bytes b) in
    let consts : AreBytes (drop p.consts bytes) = IsBytes-drop p.consts bytes b in
    record {
      consts = front image.consts _ (subst AreBytes s.consts.reads consts);
      marks = names (names_of image.marks) (λ i. strings (suc i));
      imports = imports_of (data_at h.role p) starts image.imports (subst AreBytes s.fixups.bytes_are (IsBytes-part p.linkedit p.fixups_end bytes b));
    }
