-- A table of names only grows, so numbers stand for the same names in it.
use Rattle.std.proofs.Common.{◌≡◌, ◌⊎◌, inl, inr, ⊎_elim, ℕ, zero, suc, ◌<◌, ◌≤◌, ◌+◌, Bool, true, false, ◌||◌, List, [], ◌∷◌, ◌++◌, length, map, drop, drop-cons, add-one, Some, refl, sym, ap, subst, ◌∙◌, append_assoc, arith, true≢false}
use Rattle.std.specs.Prelude.{slice_get, unwrap_or, get_or, if◌then◌else◌}
use Rattle.std.specs.List.{list_any, IsDistinct}
use Rattle.std.specs.Str.{bytes_eq}
use Rattle.std.proofs.lemmas.Bool.{cases_lt}
use Rattle.std.proofs.lemmas.List.{append-nil, map-append, length-map, length-append, get_or_append_left}
use Rattle.std.proofs.lemmas.Map.Keys.{apart_from_distinct}
use Rattle.std.proofs.lemmas.Option.{slice_get-map, slice_get-get_or, slice_get_within, get_or_from_slice_get, unwrap_or-slice_get}
use Rattle.std.proofs.lemmas.Slice.Eq.{bytes_eq-Decides}
use denote.Ref.{Bor}
use Rattle.indexmap.specs.IndexSet.{insert_key}
use Rattle.pa_ctype.specs.Nodes.{AllBelow}
use Rattle.pa_ctype.specs.Tables.{AreApart}
use Rattle.pa_typed.specs.declared.unit.Declared.{Declared}
use Rattle.pa_typed.specs.declared.unit.Unit.{Unit as CUnit}
use Rattle.pa_typed.specs.Units.{name_in}
use Rattle.pa_link.specs.declared.names.FileNames.{FileNames}
use Rattle.pa_link.specs.Names.{texts_of, with_name, IsGrown, linkage_name, linkage_names, linkages_from}
use Rattle.pa_link.specs.NameNumbers.{AreNumbersOf, EachFile}

pub grown-refl : (ks : List (Bor (List ℕ))) → IsGrown ks ks
grown-refl ks = ([], sym (append-nil (texts_of ks)))

pub grown-trans : (a b c : List (Bor (List ℕ))) → IsGrown a b → IsGrown b c → IsGrown a c
grown-trans a b c p q = (p.0 ++ q.0, q.1 ∙ ap (λ t. t ++ q.0) p.1 ∙ append_assoc (texts_of a) p.0 q.0)

pub grown-insert : (eq : Bor (List ℕ) → Bor (List ℕ) → Bool) (ks : List (Bor (List ℕ))) (k : Bor (List ℕ)) → IsGrown ks (insert_key eq ks k)
grown-insert eq ks k = by (list_any (eq k) ks)
  where
    by : (b : Bool) → IsGrown ks (if b then ks else ks ++ k ∷ [])
    by true = grown-refl ks
    by false = (k.now ∷ [], map-append (λ n. n.now) ks (k ∷ []))

pub grown-length : (a b : List (Bor (List ℕ))) → IsGrown a b → length a ≤ length b
grown-length a b p =
    let old = length-map a (λ n. n.now) in
    let new = length-map b (λ n. n.now) in
    let sum = ap length p.1 ∙ length-append (texts_of a) p.0 in
    omega (arith, old, new, sum)

-- the name at a place of the table
pub stored_name : (ks : List (Bor (List ℕ))) (i : ℕ) (k : Bor (List ℕ)) → slice_get ks i ≡ Some k → name_in (texts_of ks) i ≡ k.now
stored_name ks i k e = ap (λ o. unwrap_or o []) (slice_get-map (λ n. n.now) ks i) ∙ rw e refl

name_kept : (ts more : List (List ℕ)) (i : ℕ) → i < length ts → name_in (ts ++ more) i ≡ name_in ts i
name_kept ts more i h = unwrap_or-slice_get (ts ++ more) i [] ∙ get_or_append_left ts more [] i h ∙ sym (unwrap_or-slice_get ts i [])

names_kept : (ts more : List (List ℕ)) (numbers : List ℕ) → AllBelow (length ts) numbers → map (name_in (ts ++ more)) numbers ≡ map (name_in ts) numbers
names_kept ts more [] h = refl
names_kept ts more (i ∷ is) h = rw (name_kept ts more i h.0, names_kept ts more is h.1) refl

-- numbers stand for the same names in a table that has grown
pub grown_names : (a b : List (Bor (List ℕ))) (numbers : List ℕ) → IsGrown a b → AllBelow (length a) numbers
    → map (name_in (texts_of b)) numbers ≡ map (name_in (texts_of a)) numbers
grown_names a b numbers p h =
    ap (λ ts. map (name_in ts) numbers) p.1 ∙ names_kept (texts_of a) p.0 numbers (rw (length-map a (λ n. n.now)) h)

-- one number more
pub pushed_names : (a b : List (Bor (List ℕ))) (numbers : List ℕ) (n : ℕ) (name : List ℕ) → IsGrown a b → AllBelow (length a) numbers → name_in (texts_of b) n ≡ name
    → map (name_in (texts_of b)) (numbers ++ n ∷ []) ≡ map (name_in (texts_of a)) numbers ++ name ∷ []
pushed_names a b numbers n name p h is = map-append (name_in (texts_of b)) numbers (n ∷ []) ∙ rw (grown_names a b numbers p h, is) refl

-- what is put in the table is put among its names
any-texts : (name : Bor (List ℕ)) (ks : List (Bor (List ℕ))) → list_any (λ k. bytes_eq name.now k.now) ks ≡ list_any (bytes_eq name.now) (texts_of ks)
any-texts name [] = refl
any-texts name (k ∷ ks) = ap (λ r. bytes_eq name.now k.now || r) (any-texts name ks)

pub inserted_texts : (ks : List (Bor (List ℕ))) (name : Bor (List ℕ)) → texts_of (insert_key (λ x y. bytes_eq x.now y.now) ks name) ≡ with_name (texts_of ks) name.now
inserted_texts ks name = by (list_any (λ k. bytes_eq name.now k.now) ks) ∙ ap (λ b. if b then texts_of ks else texts_of ks ++ name.now ∷ []) (any-texts name ks)
  where
    by : (b : Bool) → texts_of (if b then ks else ks ++ name ∷ []) ≡ (if b then texts_of ks else texts_of ks ++ name.now ∷ [])
    by true = refl
    by false = map-append (λ n. n.now) ks (name ∷ [])

-- ---- numbers of files

pub below_more : (k l : ℕ) → k ≤ l → (is : List ℕ) → AllBelow k is → AllBelow l is
below_more k l le [] h = h
below_more k l le (i ∷ is) h = (omega (arith, le, h.0), below_more k l le is h.1)

below-parts : (k : ℕ) (is : List ℕ) (n : ℕ) → AllBelow k (is ++ n ∷ []) → AllBelow k is × (n < k)
below-parts k [] n h = (tt, h.0)
below-parts k (i ∷ is) n h = let rest = below-parts k is n h.1 in ((h.0, rest.0), rest.1)

pub numbers_are : (a b : List (Bor (List ℕ))) (plain linkage : List (List ℕ)) (f : FileNames) (all : List ℕ) → IsGrown a b
    → map (name_in (texts_of a)) f.plain ≡ plain → AllBelow (length a) f.plain
    → map (name_in (texts_of b)) all ≡ linkage → AllBelow (length b) all → all ≡ f.linkage ++ f.unnamed ∷ []
    → AreNumbersOf (texts_of b) plain linkage f
numbers_are a b plain linkage f all grows plain_is plain_known linkage_is linkage_known is =
    let count = length-map b (λ n. n.now) in
    let parts = below-parts (length b) f.linkage f.unnamed (subst (AllBelow (length b)) is linkage_known) in
    record {
      plain = grown_names a b f.plain grows plain_known ∙ plain_is;
      linkage = sym (map-append (name_in (texts_of b)) f.linkage (f.unnamed ∷ [])) ∙ ap (map (name_in (texts_of b))) (sym is) ∙ linkage_is;
      plain_known = rw count (below_more (length a) (length b) (grown-length a b grows) f.plain plain_known);
      linkage_known = rw count parts.0;
      unnamed_known = rw count parts.1;
    }

pub numbers_grown : (a b : List (Bor (List ℕ))) → IsGrown a b → (plain linkage : List (List ℕ)) (f : FileNames) → AreNumbersOf (texts_of a) plain linkage f → AreNumbersOf (texts_of b) plain linkage f
numbers_grown a b grows plain linkage f h =
    let count = length-map a (λ n. n.now) in
    let more = λ (is : List ℕ) (k : AllBelow (length (texts_of a)) is). below_more (length a) (length b) (grown-length a b grows) is (subst (λ n. AllBelow n is) count k) in
    let all = f.linkage ++ f.unnamed ∷ [] in
    let all_known : AllBelow (length (texts_of a)) all = below-join (length (texts_of a)) f.linkage f.unnamed h.linkage_known h.unnamed_known in
    numbers_are a b plain linkage f all grows h.plain (subst (λ n. AllBelow n f.plain) count h.plain_known)
    (grown_names a b all grows (subst (λ n. AllBelow n all) count all_known) ∙ map-append (name_in (texts_of a)) f.linkage (f.unnamed ∷ []) ∙ h.linkage)
    (more all all_known) refl
  where
    below-join : (k : ℕ) (is : List ℕ) (n : ℕ) → AllBelow k is → n < k → AllBelow k (is ++ n ∷ [])
    below-join k [] n h l = (l, tt)
    below-join k (i ∷ is) n h l = (h.0, below-join k is n h.1 l)

-- ---- names of the files, by place

pub linkages-length : (file : ℕ) (units : List CUnit) → length (linkages_from file units) ≡ length units
linkages-length file [] = refl
linkages-length file (u ∷ us) = ap suc (linkages-length (suc file) us)

pub linkages-at : (file : ℕ) (units : List CUnit) (i : ℕ) (u : CUnit) → slice_get units i ≡ Some u → slice_get (linkages_from file units) i ≡ Some (linkage_names (file + i) u.names u.declared)
linkages-at file [] i u e = cc
linkages-at file (v ∷ us) zero u e = let same : v ≡ u = cc in let n : file + 0 ≡ file = omega arith in rw (same, n) refl
linkages-at file (v ∷ us) (suc i) u e = let n : file + suc i ≡ suc file + i = omega arith in rw n (linkages-at (suc file) us i u e)

pushed-get : {X : Type 0} (xs : List X) (x : X) (i : ℕ) (y : X) → slice_get (xs ++ x ∷ []) i ≡ Some y → (slice_get xs i ≡ Some y) ⊎ ((i ≡ length xs) × (x ≡ y))
pushed-get [] x zero y e = inr (refl, cc)
pushed-get [] x (suc i) y e = cc
pushed-get (z ∷ xs) x zero y e = inl e
pushed-get (z ∷ xs) x (suc i) y e = ⊎_elim inl (λ p. inr (ap suc p.0, p.1)) (pushed-get xs x i y e)

-- one file more
pub pushed_file : (a b : List (Bor (List ℕ))) → IsGrown a b → (units : List CUnit) (files : List FileNames) (u : CUnit) (f : FileNames)
    → EachFile (texts_of a) units files → slice_get units (length files) ≡ Some u
    → AreNumbersOf (texts_of b) u.names (linkage_names (suc (length files)) u.names u.declared) f
    → EachFile (texts_of b) units (files ++ f ∷ [])
pushed_file a b grows units files u f each here is i v g unit_is file_is = ⊎_elim
    (λ before. numbers_grown a b grows _ _ g (each i v g unit_is before))
    (λ last.
    let same : v ≡ u = unit-same last.0 in
    subst (λ w. AreNumbersOf (texts_of b) w.names (linkage_names (suc i) w.names w.declared) g) (sym same)
    (subst (λ n. AreNumbersOf (texts_of b) u.names (linkage_names (suc n) u.names u.declared) g) (sym last.0)
    (subst (λ h. AreNumbersOf (texts_of b) u.names (linkage_names (suc (length files)) u.names u.declared) h) last.1 is)))
    (pushed-get files f i g file_is)
  where
    unit-same : i ≡ length files → v ≡ u
    unit-same e = let there : slice_get units (length files) ≡ Some v = rw (← e) unit_is in cc

-- names of a table without equal ones are told apart
pub distinct_apart : (ks : List (Bor (List ℕ))) → IsDistinct (λ x y. bytes_eq x.now y.now) ks → AreApart (length (texts_of ks)) (name_in (texts_of ks))
distinct_apart [] h i j li lj e = let no : ⊥ = omega (arith, li) in absurd no
distinct_apart (k ∷ ks) h i j li lj e = ⊎_elim (λ l. absurd (differ i j l lj e)) (λ r. ⊎_elim (λ l. absurd (differ j i l li (sym e))) (λ s. s) r) (order i j)
  where
    all : List (Bor (List ℕ))
    all = k ∷ ks

    order : (m n : ℕ) → (m < n) ⊎ ((n < m) ⊎ (m ≡ n))
    order m n = ⊎_elim inl (λ ge. ⊎_elim (λ l. inr (inl l)) (λ le. inr (inr (omega (arith, ge, le)))) (cases_lt n m)) (cases_lt m n)

    name-is : (m : ℕ) → m < length all → name_in (texts_of all) m ≡ (get_or all m k).now
    name-is m l = stored_name all m (get_or all m k) (slice_get-get_or all m k l)

    differ : (m n : ℕ) → m < n → n < length (texts_of all) → name_in (texts_of all) m ≡ name_in (texts_of all) n → ⊥
    differ m n l ln same =
        let count = length-map all (λ x. x.now) in
        let n_in : n < length all = omega (arith, count, ln) in
        let m_in : m < length all = omega (arith, n_in, l) in
        let apart = apart_from_distinct (λ x y. bytes_eq x.now y.now) all m n k h l n_in in
        let equal = (bytes_eq-Decides (get_or all m k).now (get_or all n k).now).1 (sym (name-is m m_in) ∙ same ∙ name-is n n_in) in
        true≢false (sym equal ∙ apart)

-- a copy more
pub copied_name : (ks : List (Bor (List ℕ))) (i : ℕ) (k : Bor (List ℕ)) (made : List (List ℕ)) → slice_get ks i ≡ Some k → made ++ texts_of (drop i ks) ≡ texts_of ks
    → (made ++ k.now ∷ []) ++ texts_of (drop (i + 1) ks) ≡ texts_of ks
copied_name ks i k made here same =
    let within = slice_get_within ks i k here in
    let is : get_or ks i k ≡ k = get_or_from_slice_get ks i k k here in
    let cut : drop i ks ≡ k ∷ drop (i + 1) ks = drop-cons ks i k within ∙ rw (is, add-one) refl in
    append_assoc made (k.now ∷ []) (texts_of (drop (i + 1) ks)) ∙ ap (λ l. made ++ texts_of l) (sym cut) ∙ same

pub element : {X : Type 0} (xs : List X) (i : ℕ) (x : X) → x ≡ get_or xs i x → i < length xs → slice_get xs i ≡ Some x
element xs i x is within = slice_get-get_or xs i x within ∙ ap Some (sym is)

pub linkage-is : (units : List CUnit) (linkages : List (List (List ℕ))) (i : ℕ) (u : CUnit) (l : List (List ℕ)) → linkages ≡ linkages_from 1 units
    → slice_get units i ≡ Some u → slice_get linkages i ≡ Some l → l ≡ linkage_names (suc i) u.names u.declared
linkage-is units linkages i u l e here there =
    let from = linkages-at 1 units i u here in
    let n : 1 + i ≡ suc i = omega arith in
    let both : Some l ≡ Some (linkage_names (suc i) u.names u.declared) = sym there ∙ ap (λ ls. slice_get ls i) e ∙ from ∙ ap (λ k. Some (linkage_names k u.names u.declared)) n in
    cc

pub linkages-many : (names : List (List ℕ)) (file : ℕ) (own : List (List ℕ)) (declared : List Declared) → names ≡ linkage_names file own declared → 0 < length names
linkages-many names file own declared e =
    let n = ap length e ∙ length-append (map (linkage_name file own declared) own) (linkage_name file own declared [] ∷ []) in
    omega (arith, n)
