-- The marked names are those that the program or the runtime defines.
use Rattle.std.proofs.Common.{◌≡◌, ℕ, suc, ◌<◌, ◌≤◌, nat_eq, nat_lt, Bool, true, false, ◌||◌, List, [], ◌∷◌, ◌++◌, length, map, fold, replicate, refl, sym, ap, subst, ◌∙◌, arith, ⊎_elim}
use Rattle.std.specs.Prelude.{slice_get, slice_set, unwrap_or, get_or, flat_map, if◌then◌else◌}
use Rattle.std.specs.List.{list_any}
use Rattle.std.specs.Str.{bytes_eq}
use Rattle.std.proofs.lemmas.Bool.{cases_eq, cases_lt, lt-ltb, le-ltb}
use Rattle.std.proofs.lemmas.List.{get_or-set_same, get_or-set_other, get_or-replicate, length-replicate, length-append, length-set}
use Rattle.std.proofs.lemmas.Option.{slice_get-get_or, slice_get_past, unwrap_or-slice_get}
use Rattle.std.proofs.lemmas.Slice.Eq.{bytes_eq-Decides}
use Rattle.pa_ctype.specs.Types.{TypeTree}
use Rattle.pa_ctype.specs.Nodes.{AllBelow}
use Rattle.pa_typed.specs.declared.unit.CGlobal.{CGlobal}
use Rattle.pa_typed.specs.declared.unit.Function.{Function}
use Rattle.pa_typed.specs.Units.{FunctionTree, GlobalTree, ProgramTree, function_tree, global_tree, name_in}
use Rattle.pa_cmean.specs.Calls.{putchar, getchar, main}
use Rattle.pa_link.specs.declared.parts.Part.{Part as CPart}
use Rattle.pa_link.specs.Definitions.{marked, marked_function, marked_global, marked_part, marked_all, definitions}
use Rattle.pa_link.specs.Linked.{part_trees, AreKnownParts}
use Rattle.pa_link.specs.Missing.{has}
use Rattle.pa_link.specs.NameNumbers.{AreNamesOfProgram}
use Rattle.pa_link.specs.Program.{is_defined}
use Rattle.pa_link.proofs.NamesLaws.{bytes_eq-flip}

nat_eq-same : (a : ℕ) → nat_eq a a ≡ true
nat_eq-same a = grind arith

nat_eq-other : (a b : ℕ) → (a ≡ b → ⊥) → nat_eq a b ≡ false
nat_eq-other a b ne = by (nat_eq a b) refl
  where
    by : (r : Bool) → nat_eq a b ≡ r → nat_eq a b ≡ false
    by true e = absurd (ne (grind (arith, e)))
    by false e = e

abbrev says : List Bool → ℕ → Bool
says ds i = get_or ds i false

marked-length : (ds : List Bool) (k : ℕ) → length (marked ds k) ≡ length ds
marked-length ds k = by (nat_lt k (length ds))
  where
    by : (b : Bool) → length (if b then slice_set ds k true else ds) ≡ length ds
    by true = length-set ds k true
    by false = refl

marked-says : (ds : List Bool) (k i : ℕ) → i < length ds → says (marked ds k) i ≡ (nat_eq k i || says ds i)
marked-says ds k i h = ⊎_elim within past (cases_lt k (length ds))
  where
    within : k < length ds → says (marked ds k) i ≡ (nat_eq k i || says ds i)
    within l = ap (λ b. says (if b then slice_set ds k true else ds) i) (lt-ltb k (length ds) l) ∙ ⊎_elim
        (λ same. subst (λ j. says (slice_set ds k true) j ≡ (nat_eq k j || says ds j)) same (get_or-set_same ds k true false l ∙ sym (ap (λ b. b || says ds k) (nat_eq-same k))))
        (λ other. get_or-set_other ds k i true false (λ e. other (sym e)) ∙ sym (ap (λ b. b || says ds i) (nat_eq-other k i other)))
        (cases_eq k i)

    past : length ds ≤ k → says (marked ds k) i ≡ (nat_eq k i || says ds i)
    past l = ap (λ b. says (if b then slice_set ds k true else ds) i) (le-ltb k (length ds) l) ∙ sym (ap (λ b. b || says ds i) (nat_eq-other k i (λ e. omega (arith, h, l, e))))

or-swap : (a b c : Bool) → (a || (b || c)) ≡ ((b || a) || c)
or-swap true true c = refl
or-swap true false c = refl
or-swap false true c = refl
or-swap false false c = refl

functions-length : (fs : List Function) (ds : List Bool) → length (fold marked_function ds fs) ≡ length ds
functions-length [] ds = refl
functions-length (f ∷ fs) ds = functions-length fs (marked_function ds f) ∙ marked-length ds f.name

globals-length : (gs : List CGlobal) (ds : List Bool) → length (fold marked_global ds gs) ≡ length ds
globals-length [] ds = refl
globals-length (g ∷ gs) ds = globals-length gs (marked_global ds g) ∙ marked-length ds g.name

any-append : {X : Type 0} (p : X → Bool) (xs ys : List X) → list_any p (xs ++ ys) ≡ (list_any p xs || list_any p ys)
any-append p [] ys = refl
any-append p (x ∷ xs) ys = ap (λ r. p x || r) (any-append p xs ys) ∙ or-assoc (p x) (list_any p xs) (list_any p ys)
  where
    or-assoc : (a b c : Bool) → (a || (b || c)) ≡ ((a || b) || c)
    or-assoc true b c = refl
    or-assoc false b c = refl

-- (f or g) of the rest, behind what a part adds
or-parts : (f g fp gp d : Bool) → ((f || g) || (gp || (fp || d))) ≡ (((fp || f) || (gp || g)) || d)
or-parts true true true gp d = refl
or-parts true true false gp d = refl
or-parts true false true gp d = refl
or-parts true false false gp d = refl
or-parts false true true true d = refl
or-parts false true true false d = refl
or-parts false true false true d = refl
or-parts false true false false d = refl
or-parts false false true true d = refl
or-parts false false true false d = refl
or-parts false false false true d = refl
or-parts false false false false d = refl

module _ (names : List (List ℕ)) (are : AreNamesOfProgram names) (m : ℕ → TypeTree) where
  abbrev pub name : ℕ → List ℕ
  name = name_in names

  -- numbers of names are equal where the names are
  pub number-is : (k i : ℕ) → k < length names → i < length names → nat_eq k i ≡ bytes_eq (name k) (name i)
  number-is k i lk li = ⊎_elim
      (λ same. subst (λ j. nat_eq k j ≡ bytes_eq (name k) (name j)) same (nat_eq-same k ∙ sym ((bytes_eq-Decides (name k) (name k)).1 refl)))
      (λ other. nat_eq-other k i other ∙ sym (differ (bytes_eq (name k) (name i)) refl other))
      (cases_eq k i)
    where
      differ : (r : Bool) → bytes_eq (name k) (name i) ≡ r → (k ≡ i → ⊥) → bytes_eq (name k) (name i) ≡ false
      differ true e ne = absurd (ne (are.apart k i lk li ((bytes_eq-Decides (name k) (name i)).0 e)))
      differ false e ne = e

  abbrev is_function : ℕ → FunctionTree → Bool
  is_function i f = bytes_eq f.name (name i)

  abbrev is_global : ℕ → GlobalTree → Bool
  is_global i g = bytes_eq g.name (name i)

  functions-say : (i : ℕ) → i < length names → (fs : List Function) → AllBelow (length names) (map (λ (f : Function). f.name) fs) → (ds : List Bool) → i < length ds
      → says (fold marked_function ds fs) i ≡ (list_any (is_function i) (map (function_tree name m) fs) || says ds i)
  functions-say i li [] known ds h = refl
  functions-say i li (f ∷ fs) known ds h =
      let more = marked-length ds f.name in
      functions-say i li fs known.1 (marked_function ds f) (omega (arith, h, more))
      ∙ ap (λ r. list_any (is_function i) (map (function_tree name m) fs) || r) (marked-says ds f.name i h ∙ ap (λ b. b || says ds i) (number-is f.name i known.0 li))
      ∙ or-swap (list_any (is_function i) (map (function_tree name m) fs)) (bytes_eq (name f.name) (name i)) (says ds i)

  globals-say : (i : ℕ) → i < length names → (gs : List CGlobal) → AllBelow (length names) (map (λ (g : CGlobal). g.name) gs) → (ds : List Bool) → i < length ds
      → says (fold marked_global ds gs) i ≡ (list_any (is_global i) (map (global_tree name m) gs) || says ds i)
  globals-say i li [] known ds h = refl
  globals-say i li (g ∷ gs) known ds h =
      let more = marked-length ds g.name in
      globals-say i li gs known.1 (marked_global ds g) (omega (arith, h, more))
      ∙ ap (λ r. list_any (is_global i) (map (global_tree name m) gs) || r) (marked-says ds g.name i h ∙ ap (λ b. b || says ds i) (number-is g.name i known.0 li))
      ∙ or-swap (list_any (is_global i) (map (global_tree name m) gs)) (bytes_eq (name g.name) (name i)) (says ds i)

  part-length : (p : CPart) (ds : List Bool) → length (marked_part ds p) ≡ length ds
  part-length p ds = globals-length p.globals (fold marked_function ds p.functions) ∙ functions-length p.functions ds

  parts-length : (ps : List CPart) (ds : List Bool) → length (fold marked_part ds ps) ≡ length ds
  parts-length [] ds = refl
  parts-length (p ∷ ps) ds = parts-length ps (marked_part ds p) ∙ part-length p ds

  parts-say : (i : ℕ) → i < length names → (types file : ℕ) (ps : List CPart) → AreKnownParts (length names) types ps → (ds : List Bool) → i < length ds
      → says (fold marked_part ds ps) i
      ≡ ((list_any (is_function i) (flat_map (λ part. part.functions) (part_trees names m file ps)) || list_any (is_global i) (flat_map (λ part. part.globals) (part_trees names m file ps))) || says ds i)
  parts-say i li types file [] known ds h = refl
  parts-say i li types file (p ∷ ps) known ds h =
      let more = part-length p ds in
      let between = functions-length p.functions ds in
      let fs = map (function_tree name m) p.functions in
      let gs = map (global_tree name m) p.globals in
      let rest_fs = flat_map (λ part. part.functions) (part_trees names m (suc file) ps) in
      let rest_gs = flat_map (λ part. part.globals) (part_trees names m (suc file) ps) in
      parts-say i li types (suc file) ps known.1 (marked_part ds p) (omega (arith, h, more))
      ∙ ap (λ r. (list_any (is_function i) rest_fs || list_any (is_global i) rest_gs) || r)
      (globals-say i li p.globals known.0.global_names (fold marked_function ds p.functions) (omega (arith, h, between))
      ∙ ap (λ r. list_any (is_global i) gs || r) (functions-say i li p.functions known.0.function_names ds h))
      ∙ or-parts (list_any (is_function i) rest_fs) (list_any (is_global i) rest_gs) (list_any (is_function i) fs) (list_any (is_global i) gs) (says ds i)
      ∙ sym (ap (λ a. (a || list_any (is_global i) (gs ++ rest_gs)) || says ds i) (any-append (is_function i) fs rest_fs)
      ∙ ap (λ a. ((list_any (is_function i) fs || list_any (is_function i) rest_fs) || a) || says ds i) (any-append (is_global i) gs rest_gs))

  pub many : 3 < length names
  many = let n = ap length are.first in let k = length-append ([] ∷ putchar ∷ getchar ∷ main ∷ []) are.more in omega (arith, n, k)

  name-1 : name 1 ≡ putchar
  name-1 = ap (λ ns. name_in ns 1) are.first

  name-2 : name 2 ≡ getchar
  name-2 = ap (λ ns. name_in ns 2) are.first

  or-last : (a b : Bool) → (a || (b || false)) ≡ (b || a)
  or-last true true = refl
  or-last true false = refl
  or-last false true = refl
  or-last false false = refl

  runtime-say : (i : ℕ) → i < length names → says (marked (marked (replicate (length names) false) 1) 2) i ≡ (bytes_eq (name i) putchar || bytes_eq (name i) getchar)
  runtime-say i li =
      let none = length-replicate (length names) false in
      let one = marked-length (replicate (length names) false) 1 in
      marked-says (marked (replicate (length names) false) 1) 2 i (omega (arith, li, none, one))
      ∙ ap (λ r. nat_eq 2 i || r) (marked-says (replicate (length names) false) 1 i (omega (arith, li, none)) ∙ ap (λ r. nat_eq 1 i || r) (get_or-replicate (length names) i false false li))
      ∙ ap (λ a. a || (nat_eq 1 i || false)) (number-is 2 i (omega (arith, many)) li ∙ ap (λ n. bytes_eq n (name i)) name-2 ∙ bytes_eq-flip getchar (name i))
      ∙ ap (λ b. bytes_eq (name i) getchar || (b || false)) (number-is 1 i (omega (arith, many)) li ∙ ap (λ n. bytes_eq n (name i)) name-1 ∙ bytes_eq-flip putchar (name i))
      ∙ or-last (bytes_eq (name i) getchar) (bytes_eq (name i) putchar)

  all-say : (i : ℕ) → i < length names → (types : ℕ) (ps : List CPart) → AreKnownParts (length names) types ps → (program : ProgramTree)
      → program.functions ≡ flat_map (λ part. part.functions) (part_trees names m 1 ps) → program.globals ≡ flat_map (λ part. part.globals) (part_trees names m 1 ps)
      → says (marked_all (length names) ps) i ≡ is_defined program (name i)
  all-say i li types ps known program fs gs =
      let start = marked (marked (replicate (length names) false) 1) 2 in
      let n = marked-length (marked (replicate (length names) false) 1) 2 ∙ marked-length (replicate (length names) false) 1 ∙ length-replicate (length names) false in
      parts-say i li types 1 ps known start (omega (arith, li, n))
      ∙ rw (fs, gs, runtime-say i li) refl

  pub defined_is : (types : ℕ) (ps : List CPart) → AreKnownParts (length names) types ps → (program : ProgramTree)
      → program.functions ≡ flat_map (λ part. part.functions) (part_trees names m 1 ps) → program.globals ≡ flat_map (λ part. part.globals) (part_trees names m 1 ps)
      → (i : ℕ) → has (definitions (length names) ps) i ≡ is_defined program (name i)
  defined_is types ps known program fs gs i = ⊎_elim within past (cases_lt i (length names))
    where
      count : length (marked_all (length names) ps) ≡ length names
      count = parts-length ps (marked (marked (replicate (length names) false) 1) 2) ∙ marked-length (marked (replicate (length names) false) 1) 2 ∙ marked-length (replicate (length names) false) 1 ∙ length-replicate (length names) false

      within : i < length names → has (definitions (length names) ps) i ≡ is_defined program (name i)
      within l =
          let here : i < length (marked_all (length names) ps) = omega (arith, l, count) in
          ap (λ o. unwrap_or o (unwrap_or (slice_get (marked_all (length names) ps) 0) false)) (slice_get-get_or (marked_all (length names) ps) i false here) ∙ all-say i l types ps known program fs gs

      past : length names ≤ i → has (definitions (length names) ps) i ≡ is_defined program (name i)
      past l =
          let behind : length (marked_all (length names) ps) ≤ i = omega (arith, l, count) in
          let first : 0 < length names = omega (arith, many) in
          ap (λ o. unwrap_or o (unwrap_or (slice_get (marked_all (length names) ps) 0) false)) (slice_get_past (marked_all (length names) ps) i behind) ∙ unwrap_or-slice_get (marked_all (length names) ps) 0 false ∙ all-say 0 first types ps known program fs gs
          ∙ ap (is_defined program) (ap (λ ns. name_in ns 0) are.first ∙ sym (ap (λ o. unwrap_or o []) (slice_get_past names i l)))
