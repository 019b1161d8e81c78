-- One file more behind those that stand in the program.
use Rattle.std.proofs.Common.{◌≡◌, ℕ, suc, ◌<◌, ◌≤◌, ◌+◌, nat_lt, Bool, true, false, true≢false, ⊎_elim, List, [], ◌∷◌, ◌++◌, length, map, drop, drop-cons, add-one, Some, refl, sym, ap, ◌∙◌, append_assoc, arith}
use Rattle.std.specs.Prelude.{slice_get, get_or, if◌then◌else◌}
use Rattle.std.specs.Option.{option_map}
use Rattle.std.proofs.lemmas.Bool.{cases_lt, lt-ltb, le-ltb}
use Rattle.std.proofs.lemmas.List.{append-nil, drop_all, length-append, length-map}
use Rattle.std.proofs.lemmas.Option.{slice_get_within, get_or_from_slice_get}
use Rattle.pa_ctype.specs.declared.node.Node.{Node}
use Rattle.pa_ctype.specs.Types.{TypeTree, Of, Void}
use Rattle.pa_ctype.specs.Nodes.{at, Fits}
use Rattle.pa_ctype.specs.Layouts.{Table, fields_of, table_of}
use Rattle.pa_ctype.specs.Raised.{followed, raised_body}
use Rattle.pa_ctype.specs.Tables.{TypeTable, ForTypes}
use Rattle.pa_typed.specs.declared.unit.Declared.{Declared}
use Rattle.pa_typed.specs.declared.unit.Function.{Function}
use Rattle.pa_typed.specs.declared.unit.Unit.{Unit as CUnit}
use Rattle.pa_typed.specs.Units.{UnitTree, name_in}
use Rattle.pa_link.specs.declared.linked.LinkedFile.{LinkedFile}
use Rattle.pa_link.specs.declared.names.FileNames.{FileNames}
use Rattle.pa_link.specs.declared.parts.Part.{Part as CPart}
use Rattle.pa_link.specs.declared.linked.FirstTypes.{FirstTypes}
use Rattle.pa_link.specs.declared.linked.Linked.{Linked}
use Rattle.pa_link.specs.Linked.{unit_of, part_tree, part_trees, AreFirstOf, IsVoid, IsLinked, AreLinked, IsKnownPart, AreKnownParts}
use Rattle.pa_link.specs.Names.{linkage_names}
use Rattle.pa_link.specs.NameNumbers.{AreNumbersOf, AreNamesOfProgram}
use Rattle.pa_link.specs.Program.{part_of, move_of, parts_from, structs_from}
use Rattle.pa_link.proofs.NameNumbers.{below_more}

-- another type for each number behind the table's
abbrev other : Bool → List Node → ℕ → TypeTree
other c ns k = if nat_lt k (length ns) then at ns k else Of c Void

other-fits : (c : Bool) (ns : List Node) → Fits (other c ns) ns
other-fits c ns = record { by = λ i h. let within : nat_lt i (length ns) ≡ true = lt-ltb i (length ns) h in rw within refl }

-- a table that only grows is longer
pub lt-le : {a b c : ℕ} → a < b → b ≤ c → a < c
lt-le h k = omega (arith, h, k)

-- a table that only grows is longer
pub longer : (old new : List Node) → ((m : ℕ → TypeTree) → Fits m new → Fits m old) → length old ≤ length new
longer old new grows = ⊎_elim (λ l. absurd (no l)) (λ le. le) (cases_lt (length new) (length old))
  where
    behind : (c : Bool) → other c new (length new) ≡ Of c Void
    behind c = let past : nat_lt (length new) (length new) ≡ false = le-ltb (length new) (length new) (omega arith) in rw past refl

    is : (c : Bool) → length new < length old → Of c Void ≡ at old (length new)
    is c l = sym (behind c) ∙ (grows (other c new) (other-fits c new)).by (length new) l

    no : length new < length old → ⊥
    no l = let same : Of false Void ≡ Of true Void = is false l ∙ sym (is true l) in let apart : false ≡ true = cc in true≢false (sym apart)

-- the parts and structs of the files before an index, with those of the rest, are those of the definition
pub record AreSoFar (names : List (List ℕ)) (units : List CUnit) (index : ℕ) (types : TypeTable) (texts : ℕ) (ps : List CPart) : Type 0 where
  pub parts : ForTypes types (λ m. part_trees names m 1 ps ++ parts_from (suc index) (length types.structs) texts (map unit_of (drop index units)) ≡ parts_from 1 0 0 (map unit_of units))
  pub structs : ForTypes types (λ m. structs_from (table_of (name_in names) m types.structs) (map unit_of (drop index units)) ≡ structs_from [] (map unit_of units))

pub parts-pushed : (names : List (List ℕ)) (m : ℕ → TypeTree) (file : ℕ) (ps : List CPart) (p : CPart) → part_trees names m file (ps ++ p ∷ []) ≡ part_trees names m file ps ++ part_tree names m (file + length ps) p ∷ []
parts-pushed names m file [] p = let n : file + 0 ≡ file = omega arith in rw n refl
parts-pushed names m file (q ∷ ps) p = let n : file + suc (length ps) ≡ suc file + length ps = omega arith in rw n (ap (λ l. part_tree names m file q ∷ l) (parts-pushed names m (suc file) ps p))

parts-cons : (file structs texts : ℕ) (u : UnitTree) (us : List UnitTree)
    → parts_from file structs texts (u ∷ us) ≡ part_of (move_of file structs texts u) u ∷ parts_from (suc file) (structs + length u.structs) (texts + length u.texts) us
unfolding parts_from
parts-cons file structs texts u us = refl

structs-cons : (table : Table) (u : UnitTree) (us : List UnitTree) → structs_from table (u ∷ us) ≡ structs_from (followed table u.structs) us
unfolding structs_from
structs-cons table u us = refl

followed-length : (table other : Table) → length (followed table other) ≡ length table + length other
followed-length table other = length-append table (map (option_map (raised_body (length table))) other) ∙ ap (λ k. length table + k) (length-map other (option_map (raised_body (length table))))

module _ (names : List (List ℕ)) (units : List CUnit) (index : ℕ) (old : TypeTable) (texts : ℕ) (ps : List CPart) (u : CUnit) (f : FileNames) (made : LinkedFile)
    (here : slice_get units index ≡ Some u) (count : length ps ≡ index) (empty : name_in names 0 ≡ []) (are : AreNumbersOf names u.names (linkage_names (suc index) u.names u.declared) f)
    (linked : IsLinked old texts u f made) (before : AreSoFar names units index old texts ps) where
  cut : drop index units ≡ u ∷ drop (index + 1) units
  cut =
      let within = slice_get_within units index u here in
      let is : get_or units index u ≡ u = get_or_from_slice_get units index u u here in
      drop-cons units index u within ∙ rw (is, add-one) refl

  abbrev pub rest : List UnitTree
  rest = map unit_of (drop (index + 1) units)

  structs-many : (m : ℕ → TypeTree) → Fits m made.types.nodes → length made.types.structs ≡ length old.structs + length (unit_of u).structs
  structs-many m fits =
      sym (length-map made.types.structs (option_map (fields_of (name_in names) m))) ∙ ap length (linked.structs m fits names empty are.plain)
      ∙ followed-length (table_of (name_in names) m old.structs) (unit_of u).structs ∙ ap (λ k. k + length (unit_of u).structs) (length-map old.structs (option_map (fields_of (name_in names) m)))

  pub parts_more : ForTypes made.types (λ m. part_trees names m 1 (ps ++ made.part ∷ []) ++ parts_from (suc (index + 1)) (length made.types.structs) (texts + length u.texts) rest ≡ parts_from 1 0 0 (map unit_of units))
  parts_more m fits =
      let place : 1 + length ps ≡ suc index = omega (arith, count) in
      let pushed = parts-pushed names m 1 ps made.part ∙ rw (place, linked.part m fits names (suc index) are) refl in
      let next : parts_from (suc index) (length old.structs) texts (map unit_of (drop index units))
      ≡ part_of (move_of (suc index) (length old.structs) texts (unit_of u)) (unit_of u) ∷ parts_from (suc (index + 1)) (length made.types.structs) (texts + length u.texts) rest =
      ap (λ l. parts_from (suc index) (length old.structs) texts (map unit_of l)) cut ∙ parts-cons (suc index) (length old.structs) texts (unit_of u) rest
      ∙ rw (structs-many m fits, add-one) refl in
      ap (λ l. l ++ parts_from (suc (index + 1)) (length made.types.structs) (texts + length u.texts) rest) pushed
      ∙ append_assoc (part_trees names m 1 ps) (part_of (move_of (suc index) (length old.structs) texts (unit_of u)) (unit_of u) ∷ []) (parts_from (suc (index + 1)) (length made.types.structs) (texts + length u.texts) rest)
      ∙ ap (λ l. part_trees names m 1 ps ++ l) (sym next) ∙ before.parts m (linked.grows m fits)

  pub structs_more : ForTypes made.types (λ m. structs_from (table_of (name_in names) m made.types.structs) rest ≡ structs_from [] (map unit_of units))
  structs_more m fits =
      ap (λ table. structs_from table rest) (linked.structs m fits names empty are.plain)
      ∙ sym (structs-cons (table_of (name_in names) m old.structs) (unit_of u) rest)
      ∙ sym (ap (λ l. structs_from (table_of (name_in names) m old.structs) (map unit_of l)) cut) ∙ before.structs m (linked.grows m fits)

  pub so_far_more : AreSoFar names units (index + 1) made.types (texts + length u.texts) (ps ++ made.part ∷ [])
  so_far_more = record { parts = parts_more; structs = structs_more }

pub first_grown : (old : TypeTable) (t : ℕ) (u : CUnit) (f : FileNames) (made : LinkedFile) (first : FirstTypes) → IsLinked old t u f made → AreFirstOf old first → AreFirstOf made.types first
first_grown old t u f made first linked are =
    let more = longer old.nodes made.types.nodes linked.grows in
    record { void = omega (arith, more, are.void); unary = omega (arith, more, are.unary); nullary = omega (arith, more, are.nullary); are = λ m fits. are.are m (linked.grows m fits) }

part_more : (names old new : ℕ) (p : CPart) → old ≤ new → IsKnownPart names old p → IsKnownPart names new p
part_more names old new p le h = record {
  function_names = h.function_names;
  function_types = below_more old new le (map (λ (f : Function). f.of) p.functions) h.function_types;
  global_names = h.global_names;
  declared_names = h.declared_names;
  declared_types = below_more old new le (map (λ (d : Declared). d.of) p.declared) h.declared_types;
}

-- one part more, over more types
pub known_more : (names old new : ℕ) (ps : List CPart) (p : CPart) → old ≤ new → AreKnownParts names old ps → IsKnownPart names new p → AreKnownParts names new (ps ++ p ∷ [])
known_more names old new [] p le h k = (k, tt)
known_more names old new (q ∷ ps) p le h k = (part_more names old new q le h.0, known_more names old new ps p le h.1 k)

pub void_known : (types : TypeTable) (first : FirstTypes) → AreFirstOf types first → IsVoid types first.void
void_known types first are = record { known = are.void; is = λ m fits. (are.are m fits).void }

pub no_name : (names : List (List ℕ)) → AreNamesOfProgram names → name_in names 0 ≡ []
no_name names are = ap (λ ns. name_in ns 0) are.first

-- before the first file, and behind the last one
pub none_so_far : (names : List (List ℕ)) (units : List CUnit) (types : TypeTable) → types.structs ≡ [] → AreSoFar names units 0 types 0 []
none_so_far names units types e = record { parts = λ m fits. rw e refl; structs = λ m fits. rw e refl }

no-parts : (file structs texts : ℕ) → parts_from file structs texts [] ≡ []
unfolding parts_from
no-parts file structs texts = refl

no-structs : (table : Table) → structs_from table [] ≡ table
unfolding structs_from
no-structs table = refl

pub all_linked : (names : List (List ℕ)) (units : List CUnit) (index : ℕ) (texts : ℕ) (made : Linked) → length units ≤ index → AreSoFar names units index made.types texts made.parts
    → AreKnownParts (length names) (length made.types.nodes) made.parts → AreFirstOf made.types made.first_types → AreLinked names units made
all_linked names units index texts made behind so_far known first = record {
  files = λ m fits.
      sym (append-nil (part_trees names m 1 made.parts)) ∙ ap (λ l. part_trees names m 1 made.parts ++ l) (sym (no-parts (suc index) (length made.types.structs) texts))
      ∙ ap (λ us. part_trees names m 1 made.parts ++ parts_from (suc index) (length made.types.structs) texts (map unit_of us)) (sym none) ∙ so_far.parts m fits;
  structs = λ m fits.
      sym (no-structs (table_of (name_in names) m made.types.structs)) ∙ ap (λ us. structs_from (table_of (name_in names) m made.types.structs) (map unit_of us)) (sym none) ∙ so_far.structs m fits;
  known = known;
  first = first;
}
  where
    none : drop index units ≡ []
    none = drop_all index units behind
