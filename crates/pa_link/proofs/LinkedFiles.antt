-- A file's numbers stand for its names and types, so its parts in the program are those of the definition.
use Rattle.std.proofs.Common.{◌≡◌, ℕ, zero, suc, ◌<◌, ◌≤◌, ◌+◌, false, Bool, true, List, [], ◌∷◌, ◌++◌, length, map, Option, Some, None, refl, sym, ap, subst, ◌∙◌, arith, ⊎_elim}
use Rattle.std.specs.Prelude.{slice_get, unwrap_or, get_or, filter_map, codes, decimal, if◌then◌else◌}
use Rattle.std.specs.List.{list_any, cons_option}
use Rattle.std.specs.Str.{bytes_eq}
use Rattle.std.proofs.lemmas.Bool.{cases_lt}
use Rattle.std.proofs.lemmas.List.{length-append, get_or_past}
use Rattle.std.proofs.lemmas.Option.{slice_get-get_or, slice_get_past}
use Rattle.pa_ctype.specs.declared.ctype.Held.{Held}
use Rattle.pa_ctype.specs.declared.node.Node.{Node}
use Rattle.pa_ctype.specs.Types.{TypeTree, Of, Void}
use Rattle.pa_ctype.specs.Nodes.{at, tree, grown, trees, AllBelow}
use Rattle.pa_ctype.specs.Layouts.{fields_of, table_of}
use Rattle.pa_ctype.specs.Raised.{raised, raised_form}
use Rattle.pa_ctype.specs.Joined.{AreRaised, names_by}
use Rattle.pa_typed.specs.declared.unit.CGlobal.{CGlobal}
use Rattle.pa_typed.specs.declared.unit.Declared.{Declared}
use Rattle.pa_typed.specs.declared.unit.Function.{Function}
use Rattle.pa_typed.specs.declared.unit.Unit.{Unit as CUnit}
use Rattle.pa_typed.specs.Units.{declared_tree, name_in}
use Rattle.pa_link.specs.declared.names.FileNames.{FileNames}
use Rattle.pa_link.specs.declared.numbering.Numbering.{Numbering}
use Rattle.pa_link.specs.declared.parts.Part.{Part as CPart}
use Rattle.pa_link.specs.Agreeing.{Agrees}
use Rattle.pa_link.specs.Linked.{unit_of, part_tree, IsKnownPart}
use Rattle.pa_link.specs.Moved.{Move, moved_name, moved_type}
use Rattle.pa_link.specs.NameNumbers.{AreNumbersOf}
use Rattle.pa_link.specs.Names.{internal_text, linkage_name, linkage_names}
use Rattle.pa_link.specs.Numbering.{name_number, type_number, numbered_function, numbered_global, numbered_declared}
use Rattle.pa_link.specs.Program.{internal_name, move_of, part_of}
use Rattle.pa_link.proofs.MovedTrees.{functions_moved, globals_moved, declareds_moved}

-- the names that a file's declarations make internal
internal-names : (names : List (List ℕ)) (m : ℕ → TypeTree) (ds : List Declared) → filter_map internal_name (map (declared_tree (name_in names) m) ds) ≡ filter_map (internal_text names) ds
internal-names names m [] = refl
internal-names names m (d ∷ ds) = by d.public (internal-names names m ds)
  where
    by : (b : Bool) → filter_map internal_name (map (declared_tree (name_in names) m) ds) ≡ filter_map (internal_text names) ds
        → cons_option (if b then None else Some (name_in names d.name)) (filter_map internal_name (map (declared_tree (name_in names) m) ds)) ≡ cons_option (if b then None else Some (name_in names d.name)) (filter_map (internal_text names) ds)
    by true rest = rest
    by false rest = ap (λ l. name_in names d.name ∷ l) rest

moved-name-is : (file structs texts : ℕ) (u : CUnit) (name : List ℕ) → moved_name (move_of file structs texts (unit_of u)) name ≡ linkage_name file u.names u.declared name
moved-name-is file structs texts u name = ap (λ (internal : List (List ℕ)). if list_any (bytes_eq name) internal then name ++ (codes "." ++ decimal file) else name) (internal-names u.names (at u.types.nodes) u.declared)

-- the number of a name, or the one behind all
numbered-at : (f : ℕ → List ℕ) (g : List ℕ → List ℕ) (ns : List ℕ) (last : ℕ) (names : List (List ℕ)) → map f ns ++ f last ∷ [] ≡ map g names ++ g [] ∷ []
    → (i : ℕ) → f (unwrap_or (slice_get ns i) last) ≡ g (name_in names i)
numbered-at f g [] last [] e i = cc
numbered-at f g [] last (name ∷ names) e i =
    let n = ap length e in let k = length-append (map g names) (g [] ∷ []) in let no : ⊥ = omega (arith, n, k) in absurd no
numbered-at f g (n ∷ ns) last [] e i =
    let l = ap length e in let k = length-append (map f ns) (f last ∷ []) in let no : ⊥ = omega (arith, l, k) in absurd no
numbered-at f g (n ∷ ns) last (name ∷ names) e zero = cc
numbered-at f g (n ∷ ns) last (name ∷ names) e (suc i) = let rest : map f ns ++ f last ∷ [] ≡ map g names ++ g [] ∷ [] = cc in numbered-at f g ns last names rest i

-- a number behind the table's is that of no type
grown-length : (ts : List TypeTree) (ns : List Node) → length (grown ts ns) ≡ length ts + length ns
unfolding grown
grown-length ts [] = omega arith
grown-length ts (n ∷ ns) = let t = tree (λ i. get_or ts i (Of false Void)) n in let e = grown-length (ts ++ t ∷ []) ns in let f = length-append ts (t ∷ []) in omega (arith, e, f)

at-past : (ns : List Node) (i : ℕ) → length ns ≤ i → at ns i ≡ Of false Void
unfolding at
at-past ns i h = let e = grown-length [] ns in let past : length (trees ns) ≤ i = omega (arith, e, h) in get_or_past (trees ns) i (Of false Void) past

raised-void : (by : ℕ) → raised by (Of false Void) ≡ Of false Void
unfolding raised raised_form
raised-void by = refl

module _ (u : CUnit) (f : FileNames) (n : Numbering) (all : List (List ℕ)) (m : ℕ → TypeTree) (file structs : ℕ)
    (names_are : n.names ≡ f.linkage) (unnamed_is : n.unnamed ≡ f.unnamed) (are : AreNumbersOf all u.names (linkage_names file u.names u.declared) f)
    (void_is : m n.void ≡ Of false Void) (count : length n.types ≡ length u.types.nodes) (types_are : AreRaised structs n.types (at u.types.nodes) m) where
  abbrev pub move : Move
  move = move_of file structs n.texts (unit_of u)

  name-agrees : (i : ℕ) → name_in all (name_number n i) ≡ moved_name move (name_in u.names i)
  name-agrees i =
      ap (λ ns. name_in all (unwrap_or (slice_get ns i) n.unnamed)) names_are ∙ ap (λ k. name_in all (unwrap_or (slice_get f.linkage i) k)) unnamed_is
      ∙ numbered-at (name_in all) (linkage_name file u.names u.declared) f.linkage f.unnamed u.names are.linkage i
      ∙ sym (moved-name-is file structs n.texts u (name_in u.names i))

  type-agrees : (i : ℕ) → m (type_number n i) ≡ moved_type move (at u.types.nodes i)
  type-agrees i = ⊎_elim within past (cases_lt i (length n.types))
    where
      within : i < length n.types → m (type_number n i) ≡ moved_type move (at u.types.nodes i)
      within h = ap (λ o. m (unwrap_or o n.void)) (slice_get-get_or n.types i 0 h) ∙ types_are i h

      past : length n.types ≤ i → m (type_number n i) ≡ moved_type move (at u.types.nodes i)
      past h =
          let behind : length u.types.nodes ≤ i = omega (arith, h, count) in
          ap (λ o. m (unwrap_or o n.void)) (slice_get_past n.types i h) ∙ void_is ∙ sym (raised-void structs) ∙ ap (raised structs) (sym (at-past u.types.nodes i behind))

  agrees : Agrees n move (name_in u.names) (name_in all) (at u.types.nodes) m
  agrees = record { names = name-agrees; types = type-agrees; texts = refl }

  pub part_is : (p : CPart) → p.functions ≡ map (numbered_function n) u.functions → p.globals ≡ map (numbered_global n) u.globals → p.declared ≡ map (numbered_declared n) u.declared
      → part_tree all m file p ≡ part_of move (unit_of u)
  part_is p fs gs ds =
      let functions = functions_moved n move (name_in u.names) (name_in all) (at u.types.nodes) m agrees u.functions in
      let globals = globals_moved n move (name_in u.names) (name_in all) (at u.types.nodes) m agrees u.globals in
      let declared = declareds_moved n move (name_in u.names) (name_in all) (at u.types.nodes) m agrees u.declared in
      rw (fs, gs, ds, functions, globals, declared) refl

-- members have the same names by their new numbers
names-by : (all own : List (List ℕ)) (plain : List ℕ) → name_in all 0 ≡ [] → map (name_in all) plain ≡ own → (i : ℕ) → names_by (name_in all) plain i ≡ name_in own i
names-by all own [] none e i = none ∙ ap (λ ns. name_in ns i) e
names-by all [] (p ∷ ps) none e i = cc
names-by all (name ∷ own) (p ∷ ps) none e zero = cc
names-by all (name ∷ own) (p ∷ ps) none e (suc i) = let rest : map (name_in all) ps ≡ own = cc in names-by all own ps none rest i

module _ (a b : ℕ → List ℕ) (m : ℕ → TypeTree) (same : (i : ℕ) → a i ≡ b i) where
  fields-same : (hs : List Held) → fields_of a m hs ≡ fields_of b m hs
  fields-same [] = refl
  fields-same (h ∷ hs) = rw (same h.name, fields-same hs) refl

  table-same : (bodies : List (Option (List Held))) → table_of a m bodies ≡ table_of b m bodies
  table-same [] = refl
  table-same (None ∷ bodies) = ap (λ t. None ∷ t) (table-same bodies)
  table-same (Some hs ∷ bodies) = rw (fields-same hs, table-same bodies) refl

pub structs_by : (all own : List (List ℕ)) (plain : List ℕ) (m : ℕ → TypeTree) (bodies : List (Option (List Held))) → name_in all 0 ≡ [] → map (name_in all) plain ≡ own
    → table_of (names_by (name_in all) plain) m bodies ≡ table_of (name_in own) m bodies
structs_by all own plain m bodies none e = table-same (names_by (name_in all) plain) (name_in own) m (names-by all own plain none e) bodies

-- ---- numbers of a file's parts

below-at : (k : ℕ) (is : List ℕ) (i : ℕ) → AllBelow k is → i < length is → get_or is i 0 < k
below-at k [] i h l = let no : ⊥ = omega (arith, l) in absurd no
below-at k (j ∷ is) zero h l = h.0
below-at k (j ∷ is) (suc i) h l = below-at k is i h.1 (omega (arith, l))

-- the number at a place, or another, is below where all are
number-below : (k : ℕ) (is : List ℕ) (last i : ℕ) → AllBelow k is → last < k → unwrap_or (slice_get is i) last < k
number-below k is last i h l = ⊎_elim
    (λ within. subst (λ o. unwrap_or o last < k) (sym (slice_get-get_or is i 0 within)) (below-at k is i h within))
    (λ past. subst (λ o. unwrap_or o last < k) (sym (slice_get_past is i past)) l)
    (cases_lt i (length is))

below-map : {X Y : Type 0} (k : ℕ) (of : Y → ℕ) (f : X → Y) → ((x : X) → of (f x) < k) → (xs : List X) → AllBelow k (map of (map f xs))
below-map k of f each [] = tt
below-map k of f each (x ∷ xs) = (each x, below-map k of f each xs)

pub part_known : (u : CUnit) (n : Numbering) (names types : ℕ) (p : CPart) → AllBelow names n.names → n.unnamed < names → AllBelow types n.types → n.void < types
    → p.functions ≡ map (numbered_function n) u.functions → p.globals ≡ map (numbered_global n) u.globals → p.declared ≡ map (numbered_declared n) u.declared
    → IsKnownPart names types p
part_known u n names types p names_known unnamed_known types_known void_known fs gs ds =
    let name = λ (i : ℕ). number-below names n.names n.unnamed i names_known unnamed_known in
    let of = λ (i : ℕ). number-below types n.types n.void i types_known void_known in
    record {
      function_names = rw fs (below-map names (λ (f : Function). f.name) (numbered_function n) (λ f. name f.name) u.functions);
      function_types = rw fs (below-map types (λ (f : Function). f.of) (numbered_function n) (λ f. of f.of) u.functions);
      global_names = rw gs (below-map names (λ (g : CGlobal). g.name) (numbered_global n) (λ g. name g.name) u.globals);
      declared_names = rw ds (below-map names (λ (d : Declared). d.name) (numbered_declared n) (λ d. name d.name) u.declared);
      declared_types = rw ds (below-map types (λ (d : Declared). d.of) (numbered_declared n) (λ d. of d.of) u.declared);
    }
