-- Fields that stand in bytes are the bytes that they spell, and what is spelled stands there.
use Rattle.std.proofs.Common.{◌≡◌, ℕ, zero, suc, ◌+◌, ◌*◌, ◌-◌, ◌/◌, ◌%◌, ◌^◌, ◌<◌, ◌≤◌, Bool, true, false, cond, eqb, leb, List, [], ◌∷◌, ◌++◌, length, get_or, drop, map, Option, Some, None, refl, sym, ap, subst, ◌∙◌, append_assoc, arith, drop-cons, replicate}
use Rattle.std.proofs.Math.Nat.{pow-suc, div-div-eq-div-mul, div-one}
use Rattle.std.specs.Int.{byte_at, bytes_low_first}
use Rattle.std.proofs.lemmas.List.{get_or-drop, length-append, length-drop, drop-drop, drop_at, drop-append-le, append-nil, nil_from_length}
use Rattle.std.proofs.lemmas.Bool.{eqb-true, and_parts, and_from, ne_eqb, leb-true, le-leb, eq-eqb, ltb-true, lt-ltb}
use Rattle.byteorder.specs.Endian.{little_from, little_number, little_bytes}
use Rattle.byteorder.specs.Numbers.{little_number-reads_back, length-bytes_low_first, little_from-lt, little_from-append}
use Rattle.pa_layout.specs.declared.field.FileField.{FileField}
use Rattle.pa_layout.specs.Fields.{bytes_in, number, numbers, stands, wrong_from, IsAt, spelled, size_of, AllFit, has_room, all_have_room, nonzero_in, two}

-- a file's bytes
abbrev pub IsBytes : List ℕ → Type 0
IsBytes bytes = (i : ℕ) → get_or bytes i 0 < 256

-- ---- parts at places

pub IsAt-append : (bytes : List ℕ) (at : ℕ) (xs ys : List ℕ) (next : ℕ) → next ≡ at + length xs → IsAt bytes at xs → IsAt bytes next ys → IsAt bytes at (xs ++ ys)
IsAt-append bytes at xs ys next e p q = record {
  inside = omega (arith, length-append xs ys, q.inside);
  reads =
      let end : at + length (xs ++ ys) ≡ next + length ys = omega (arith, length-append xs ys) in
      p.reads ∙ ap (λ (n : ℕ). xs ++ drop n bytes) (sym e) ∙ ap (λ (r : List ℕ). xs ++ r) q.reads
      ∙ sym (append_assoc xs ys (drop (next + length ys) bytes)) ∙ ap (λ (n : ℕ). (xs ++ ys) ++ drop n bytes) (sym end);
}

pub IsAt-first : (bytes : List ℕ) (at : ℕ) (xs ys : List ℕ) → IsAt bytes at (xs ++ ys) → IsAt bytes at xs
IsAt-first bytes at xs ys p =
    let len = length-append xs ys in
    let whole : drop at bytes ≡ xs ++ (ys ++ drop (at + length (xs ++ ys)) bytes) = p.reads ∙ append_assoc xs ys (drop (at + length (xs ++ ys)) bytes) in
    let rest : drop (at + length xs) bytes ≡ ys ++ drop (at + length (xs ++ ys)) bytes =
    sym (drop-drop (length xs) at bytes) ∙ ap (drop (length xs)) whole ∙ drop_at xs (ys ++ drop (at + length (xs ++ ys)) bytes) (length xs) refl in
    record { inside = omega (arith, p.inside, len); reads = whole ∙ ap (λ (r : List ℕ). xs ++ r) (sym rest) }

pub IsAt-second : (bytes : List ℕ) (at : ℕ) (xs ys : List ℕ) → IsAt bytes at (xs ++ ys) → IsAt bytes (at + length xs) ys
IsAt-second bytes at xs ys p =
    let len = length-append xs ys in
    let whole : drop at bytes ≡ xs ++ (ys ++ drop (at + length (xs ++ ys)) bytes) = p.reads ∙ append_assoc xs ys (drop (at + length (xs ++ ys)) bytes) in
    let rest : drop (at + length xs) bytes ≡ ys ++ drop (at + length (xs ++ ys)) bytes =
    sym (drop-drop (length xs) at bytes) ∙ ap (drop (length xs)) whole ∙ drop_at xs (ys ++ drop (at + length (xs ++ ys)) bytes) (length xs) refl in
    let end : at + length (xs ++ ys) ≡ at + length xs + length ys = omega (arith, len) in
    record { inside = omega (arith, p.inside, len); reads = rest ∙ ap (λ (n : ℕ). ys ++ drop n bytes) end }

pub IsAt-nil : (bytes : List ℕ) (at : ℕ) → at ≤ length bytes → IsAt bytes at []
IsAt-nil bytes at le = record { inside = omega arith; reads = ap (λ (n : ℕ). drop n bytes) (omega arith) }

-- the bytes are what stands at 0 up to their end
pub IsAt-whole : (bytes part : List ℕ) → IsAt bytes 0 part → length part ≡ length bytes → bytes ≡ part
IsAt-whole bytes part p len =
    let none : drop (0 + length part) bytes ≡ [] = nil_from_length _ (omega (arith, length-drop (0 + length part) bytes)) in
    p.reads ∙ ap (λ (r : List ℕ). part ++ r) none ∙ append-nil part

-- bytes stand in themselves
pub IsAt-itself : (bytes : List ℕ) → IsAt bytes 0 bytes
IsAt-itself bytes =
    let none : drop (0 + length bytes) bytes ≡ [] = nil_from_length _ (omega (arith, length-drop (0 + length bytes) bytes)) in
    record { inside = omega arith; reads = sym (append-nil bytes) ∙ ap (λ (r : List ℕ). bytes ++ r) (sym none) }

-- what is left of the bytes stands there
pub IsAt-rest : (bytes : List ℕ) (at : ℕ) → at ≤ length bytes → IsAt bytes at (drop at bytes)
IsAt-rest bytes at le =
    let none : drop (at + length (drop at bytes)) bytes ≡ [] = nil_from_length _ (omega (arith, length-drop at bytes, length-drop (at + length (drop at bytes)) bytes)) in
    record { inside = omega (arith, length-drop at bytes); reads = sym (append-nil (drop at bytes)) ∙ ap (λ (r : List ℕ). drop at bytes ++ r) (sym none) }

-- what stands up to the end is what is left of the bytes
pub IsAt-end : (bytes : List ℕ) (at : ℕ) (part : List ℕ) → IsAt bytes at part → at + length part ≡ length bytes → drop at bytes ≡ part
IsAt-end bytes at part p e =
    let none : drop (at + length part) bytes ≡ [] = nil_from_length _ (omega (arith, length-drop (at + length part) bytes)) in
    p.reads ∙ ap (λ (r : List ℕ). part ++ r) none ∙ append-nil part

-- what stands in a part stands in the bytes
pub IsAt-within : (bytes part inner : List ℕ) (at place : ℕ) → IsAt bytes at part → IsAt part place inner → IsAt bytes (at + place) inner
IsAt-within bytes part inner at place p q =
    let end : at + place + length inner ≡ (place + length inner) + at = omega arith in
    let rest : drop (place + length inner) (part ++ drop (at + length part) bytes) ≡ drop (place + length inner) part ++ drop (at + length part) bytes =
    drop-append-le (place + length inner) part (drop (at + length part) bytes) q.inside in
    record {
      inside = omega (arith, p.inside, q.inside);
      reads =
          sym (drop-drop place at bytes) ∙ ap (drop place) p.reads
          ∙ drop-append-le place part (drop (at + length part) bytes) (omega (arith, q.inside))
          ∙ ap (λ (l : List ℕ). l ++ drop (at + length part) bytes) q.reads
          ∙ append_assoc inner (drop (place + length inner) part) (drop (at + length part) bytes)
          ∙ ap (λ (l : List ℕ). inner ++ l) (sym rest ∙ ap (drop (place + length inner)) (sym p.reads) ∙ drop-drop (place + length inner) at bytes ∙ ap (λ (n : ℕ). drop n bytes) (omega arith));
    }

-- ---- numbers

byte_at-pow : (k x : ℕ) → byte_at k x ≡ x / 256 ^ k % 256
byte_at-pow zero x = ap (λ (y : ℕ). y % 256) (sym (div-one x))
byte_at-pow (suc k) x = refl

-- the bytes of a number of n bytes are those that it was read from
little_from-spelled : (n j i : ℕ) (xs : List ℕ) → IsBytes xs → (x : ℕ) → x / 256 ^ j ≡ little_from i n xs → i + n ≤ length xs → bytes_low_first j n x ++ drop (i + n) xs ≡ drop i xs
little_from-spelled zero j i xs fits x e le = ap (λ (k : ℕ). drop k xs) (omega arith)
little_from-spelled (suc n) j i xs fits x e le =
    let byte : byte_at j x ≡ get_or xs i 0 = byte_at-pow j x ∙ omega (arith, e, fits i) in
    let next : x / 256 ^ suc j ≡ little_from (suc i) n xs = ap (λ (p : ℕ). x / p) (pow-suc 256 j) ∙ sym (div-div-eq-div-mul x (256 ^ j) 256) ∙ omega (arith, e, fits i) in
    let rest = little_from-spelled n (suc j) (suc i) xs fits x next (omega arith) in
    let end : i + suc n ≡ suc i + n = omega arith in
    let lt : i < length xs = omega arith in
    rw (byte, end, rest) (sym (drop-cons xs i 0 lt))

-- a number that is read is spelled by the bytes that it was read from
pub number-spelled : (n at : ℕ) (bytes : List ℕ) → IsBytes bytes → at + n ≤ length bytes → IsAt bytes at (little_bytes n (number n at bytes))
number-spelled n at bytes fits le =
    let len = length-bytes_low_first 0 n (number n at bytes) in
    let e = little_from-spelled n 0 0 (drop at bytes) (λ i. rw get_or-drop (fits (at + i))) (number n at bytes) (div-one _) (omega (arith, length-drop at bytes)) in
    let next : drop (0 + n) (drop at bytes) ≡ drop (at + length (little_bytes n (number n at bytes))) bytes = drop-drop (0 + n) at bytes ∙ ap (λ (k : ℕ). drop k bytes) (omega (arith, len)) in
    record { inside = omega (arith, len); reads = sym e ∙ ap (λ (r : List ℕ). little_bytes n (number n at bytes) ++ r) next }

pub number-read : (n at x : ℕ) (bytes : List ℕ) → x < 256 ^ n → IsAt bytes at (little_bytes n x) → number n at bytes ≡ x
number-read n at x bytes lt p = ap (little_number n) p.reads ∙ little_number-reads_back n x _ lt

pub number-lt : (n at : ℕ) (bytes : List ℕ) → IsBytes bytes → number n at bytes < 256 ^ n
number-lt n at bytes fits = little_from-lt 0 n (drop at bytes) (λ i. rw get_or-drop (fits (at + i)))

-- a number that stands in a part is the one that stands in the bytes
pub number-within : (n at place : ℕ) (bytes part : List ℕ) → IsAt bytes at part → place + n ≤ length part → number n (at + place) bytes ≡ number n place part
number-within n at place bytes part p le =
    let long : n ≤ length (drop place part) = omega (arith, length-drop place part) in
    ap (little_number n) (sym (drop-drop place at bytes) ∙ ap (drop place) p.reads ∙ drop-append-le place part (drop (at + length part) bytes) (omega arith))
    ∙ little_from-append n (drop place part) (drop (at + length part) bytes) long

-- ---- zeros

nonzero-skip : (n : ℕ) (m at a i : ℕ) (bytes : List ℕ) → little_from i n (drop a bytes) ≡ 0 → at ≡ a + i → nonzero_in at (n + m) bytes ≡ nonzero_in (at + n) m bytes
nonzero-skip zero m at a i bytes z ea =
    let k : 0 + m ≡ m = omega arith in
    let l : at + 0 ≡ at = omega arith in
    rw (k, l) refl
nonzero-skip (suc n) m at a i bytes z ea =
    let here : get_or bytes at 0 ≡ 0 = ap (λ (x : ℕ). get_or bytes x 0) ea ∙ omega (arith, get_or-drop a bytes i 0) in
    let rest = nonzero-skip n m (at + 1) a (suc i) bytes (omega arith) (omega arith) in
    let k : suc n + m ≡ suc (n + m) = omega arith in
    let l : at + suc n ≡ at + 1 + n = omega arith in
    rw (k, l, here) rest

pub nonzero-eight : (at high : ℕ) (bytes : List ℕ) → 8 ≤ high - at → number 8 at bytes ≡ 0 → nonzero_in (at + 8) (high - (at + 8)) bytes ≡ nonzero_in at (high - at) bytes
nonzero-eight at high bytes le z =
    let k : high - at ≡ 8 + (high - (at + 8)) = omega arith in
    rw k (sym (nonzero-skip 8 (high - (at + 8)) at at 0 bytes z (omega arith)))

pub nonzero-next : (at high : ℕ) (bytes : List ℕ) → at < high → get_or bytes at 0 ≡ 0 → nonzero_in (at + 1) (high - (at + 1)) bytes ≡ nonzero_in at (high - at) bytes
nonzero-next at high bytes lt z =
    let k : high - at ≡ suc (high - (at + 1)) = omega arith in
    rw (k, z) refl

pub nonzero-here : (at high : ℕ) (bytes : List ℕ) → at < high → (get_or bytes at 0 ≡ 0 → ⊥) → nonzero_in at (high - at) bytes ≡ Some at
nonzero-here at high bytes lt ne =
    let k : high - at ≡ suc (high - (at + 1)) = omega arith in
    let t : eqb (get_or bytes at 0) 0 ≡ false = ne_eqb _ _ ne in
    rw (k, t) refl

cond_none : (b : Bool) (o : Option ℕ) (x : ℕ) → cond b o (Some x) ≡ None → (b ≡ true) × (o ≡ None)
cond_none true o x e = (refl, e)
cond_none false o x e = absurd cc

pub zeros-stand : (at n : ℕ) (bytes : List ℕ) → at + n ≤ length bytes → nonzero_in at n bytes ≡ None → IsAt bytes at (replicate n 0)
zeros-stand at zero bytes le e = IsAt-nil bytes at (omega arith)
zeros-stand at (suc n) bytes le e =
    let a = cond_none (eqb (get_or bytes at 0) 0) (nonzero_in (at + 1) n bytes) at e in
    let z : get_or bytes at 0 ≡ 0 = eqb-true _ _ a.0 in
    let rest = zeros-stand (at + 1) n bytes (omega arith) a.1 in
    let next : suc at ≡ at + 1 = omega arith in
    let here : IsAt bytes at (0 ∷ []) = record { inside = omega arith; reads = drop-cons bytes at 0 (omega arith) ∙ ap (λ (b : ℕ). b ∷ drop (suc at) bytes) z ∙ ap (λ (k : ℕ). 0 ∷ drop k bytes) next } in
    IsAt-append bytes at (0 ∷ []) (replicate n 0) (at + 1) refl here rest

pub zeros-read : (at n : ℕ) (bytes : List ℕ) → IsAt bytes at (replicate n 0) → nonzero_in at n bytes ≡ None
zeros-read at zero bytes p = refl
zeros-read at (suc n) bytes p =
    let same : at ≡ at + 0 = omega arith in
    let z : get_or bytes at 0 ≡ 0 = ap (λ (k : ℕ). get_or bytes k 0) same ∙ sym (get_or-drop at bytes 0 0) ∙ ap (λ (l : List ℕ). get_or l 0 0) p.reads in
    rw z (zeros-read (at + 1) n bytes (IsAt-second bytes at (0 ∷ []) (replicate n 0) p))

-- ---- tables

pub length-spelled : (fields : List FileField) → length (spelled fields) ≡ size_of fields
length-spelled [] = refl
length-spelled (field ∷ fields) =
    length-append (little_bytes (bytes_in field.width) field.value) (spelled fields)
    ∙ omega (arith, length-bytes_low_first 0 (bytes_in field.width) field.value, length-spelled fields)

pub spelled-append : (xs ys : List FileField) → spelled (xs ++ ys) ≡ spelled xs ++ spelled ys
spelled-append [] ys = refl
spelled-append (x ∷ xs) ys =
    ap (λ (l : List ℕ). little_bytes (bytes_in x.width) x.value ++ l) (spelled-append xs ys)
    ∙ sym (append_assoc (little_bytes (bytes_in x.width) x.value) (spelled xs) (spelled ys))

-- what stands at its place is spelled there
pub stand-spelled : (at : ℕ) (fields : List FileField) (bytes : List ℕ) → IsBytes bytes → at ≤ length bytes → wrong_from at fields bytes ≡ None → IsAt bytes at (spelled fields) × AllFit fields
stand-spelled at [] bytes fits le e = (IsAt-nil bytes at le, tt)
stand-spelled at (f ∷ fs) bytes fits le e =
    let a = cond_none (stands f at bytes) (wrong_from (at + bytes_in f.width) fs bytes) at e in
    let p = and_parts _ _ a.0 in
    let q = and_parts _ _ p.1 in
    let inside : at + bytes_in f.width ≤ length bytes = leb-true _ _ p.0 in
    let value : number (bytes_in f.width) at bytes ≡ f.value = eqb-true _ _ q.0 in
    let rest = stand-spelled (at + bytes_in f.width) fs bytes fits inside a.1 in
    let here = subst (λ (v : ℕ). IsAt bytes at (little_bytes (bytes_in f.width) v)) value (number-spelled (bytes_in f.width) at bytes fits inside) in
    let small : number (bytes_in f.width) at bytes < 256 ^ bytes_in f.width = number-lt (bytes_in f.width) at bytes fits in (
      IsAt-append bytes at _ (spelled fs) (at + bytes_in f.width) (omega (arith, length-bytes_low_first 0 (bytes_in f.width) f.value)) here rest.0,
      (subst (λ (v : ℕ). v < 256 ^ bytes_in f.width) value small, q.1, rest.1),
    )

-- what is spelled stands at its place
pub spelled-stand : (at : ℕ) (fields : List FileField) (bytes : List ℕ) → AllFit fields → IsAt bytes at (spelled fields) → wrong_from at fields bytes ≡ None
spelled-stand at [] bytes fits p = refl
spelled-stand at (f ∷ fs) bytes fits p =
    let len = length-bytes_low_first 0 (bytes_in f.width) f.value in
    let here = IsAt-first bytes at (little_bytes (bytes_in f.width) f.value) (spelled fs) p in
    let next = IsAt-second bytes at (little_bytes (bytes_in f.width) f.value) (spelled fs) p in
    let rest = spelled-stand (at + bytes_in f.width) fs bytes fits.2 (subst (λ (n : ℕ). IsAt bytes n (spelled fs)) (omega (arith, len)) next) in
    let inside : leb (at + bytes_in f.width) (length bytes) ≡ true = le-leb _ _ (omega (arith, here.inside, len)) in
    let value : number (bytes_in f.width) at bytes ≡ f.value = number-read (bytes_in f.width) at f.value bytes fits.0 here in
    let same : eqb (number (bytes_in f.width) at bytes) f.value ≡ true = eq-eqb _ _ value in
    rw (inside, same, fits.1) rest

-- the values that stand in the bytes
abbrev pub Values : ℕ → List FileField → List ℕ → Type 0
Values at [] bytes = Unit {0}
Values at (field ∷ fields) bytes = (number (bytes_in field.width) at bytes ≡ field.value) × Values (at + bytes_in field.width) fields bytes

pub values_from : (at : ℕ) (fields : List FileField) (bytes : List ℕ) → wrong_from at fields bytes ≡ None → Values at fields bytes
values_from at [] bytes e = tt
values_from at (f ∷ fs) bytes e =
    let a = cond_none (stands f at bytes) (wrong_from (at + bytes_in f.width) fs bytes) at e in
    (eqb-true _ _ (and_parts _ _ (and_parts _ _ a.0).1).0, values_from (at + bytes_in f.width) fs bytes a.1)

pub values_at : (at : ℕ) (fields : List FileField) (bytes : List ℕ) → IsAt bytes at (spelled fields) × AllFit fields → Values at fields bytes
values_at at fields bytes m = values_from at fields bytes (spelled-stand at fields bytes m.1 m.0)

-- which values may stand in a table
abbrev pub AllAllowed : List FileField → Type 0
AllAllowed [] = Unit {0}
AllAllowed (field ∷ fields) = (field.allowed ≡ true) × AllAllowed fields

pub all_allowed : (at : ℕ) (fields : List FileField) (bytes : List ℕ) → wrong_from at fields bytes ≡ None → AllAllowed fields
all_allowed at [] bytes e = tt
all_allowed at (f ∷ fs) bytes e =
    let a = cond_none (stands f at bytes) (wrong_from (at + bytes_in f.width) fs bytes) at e in
    ((and_parts _ _ (and_parts _ _ a.0).1).1, all_allowed (at + bytes_in f.width) fs bytes a.1)

-- fields fit exactly where the test says so
pub fit_from_room : (fields : List FileField) → all_have_room fields ≡ true → AllFit fields
fit_from_room [] e = tt
fit_from_room (f ∷ fs) e =
    let a = and_parts (has_room f) (all_have_room fs) e in
    let b = and_parts f.allowed _ a.0 in
    (ltb-true _ _ b.1, b.0, fit_from_room fs a.1)

pub room_from_fit : (fields : List FileField) → AllFit fields → all_have_room fields ≡ true
room_from_fit [] h = refl
room_from_fit (f ∷ fs) h =
    and_from (has_room f) (all_have_room fs) (and_from f.allowed _ h.1 (lt-ltb _ _ h.0)) (room_from_fit fs h.2)

-- ---- rows of numbers of two bytes

pub numbers-stand : (count at : ℕ) (bytes : List ℕ) → at + 2 * count ≤ length bytes → wrong_from at (map two (numbers count 2 at bytes)) bytes ≡ None
numbers-stand zero at bytes le = refl
numbers-stand (suc count) at bytes le =
    let inside : leb (at + 2) (length bytes) ≡ true = le-leb _ _ (omega arith) in
    let same : eqb (number 2 at bytes) (number 2 at bytes) ≡ true = eq-eqb _ _ refl in
    rw (inside, same) (numbers-stand count (at + 2) bytes (omega arith))

pub length-numbers : (count n at : ℕ) (bytes : List ℕ) → length (numbers count n at bytes) ≡ count
length-numbers zero n at bytes = refl
length-numbers (suc count) n at bytes = ap suc (length-numbers count n (at + n) bytes)

pub size_of-twos : (row : List ℕ) → size_of (map two row) ≡ 2 * length row
size_of-twos [] = refl
size_of-twos (x ∷ xs) = omega (arith, size_of-twos xs)

pub numbers-again : (row : List ℕ) (at : ℕ) (bytes : List ℕ) → Values at (map two row) bytes → numbers (length row) 2 at bytes ≡ row
numbers-again [] at bytes v = refl
numbers-again (x ∷ xs) at bytes v = let rest = numbers-again xs (at + 2) bytes v.1 in rw (v.0, rest) refl
