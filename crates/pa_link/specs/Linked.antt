-- Files as they stand in the program.
use Rattle.std.specs.Prelude.{◌≡◌, ◌<◌, ℕ, suc, false, List, [], ◌∷◌, length, map, slice_get, Some}
use Rattle.pa_ctype.specs.Types.{TypeTree, Of, Void, Function, Nil, Cons}
use Rattle.pa_ctype.specs.Nodes.{at, Fits, AllBelow}
use Rattle.pa_ctype.specs.Layouts.{table_of}
use Rattle.pa_ctype.specs.Raised.{followed}
use Rattle.pa_ctype.specs.Tables.{TypeTable, ForTypes}
use Rattle.pa_typed.specs.declared.unit.CGlobal.{CGlobal}
use Rattle.pa_typed.specs.declared.unit.Declared.{Declared}
use Rattle.pa_typed.specs.declared.unit.Function.{Function as CFunction}
use Rattle.pa_typed.specs.declared.unit.Unit.{Unit as CUnit}
use Rattle.pa_typed.specs.Units.{UnitTree, function_tree, global_tree, declared_tree, name_in, unit_tree}
use Rattle.pa_cmean.specs.Calls.{int}
use Rattle.pa_link.specs.declared.linked.FirstTypes.{FirstTypes}
use Rattle.pa_link.specs.declared.linked.LinkedFile.{LinkedFile}
use Rattle.pa_link.specs.declared.names.FileNames.{FileNames}
use Rattle.pa_link.specs.declared.parts.Part.{Part as CPart}
use Rattle.pa_link.specs.declared.linked.Linked.{Linked}
use Rattle.pa_link.specs.Program.{Part, part_of, move_of, parts, structs_from}
use Rattle.pa_link.specs.Names.{linkage_names}
use Rattle.pa_link.specs.NameNumbers.{AreNumbersOf}

-- a file as plain data
abbrev pub unit_of : CUnit → UnitTree
unit_of u = unit_tree (at u.types.nodes) u

-- what the file of this number declares and defines, as plain data, where numbers stand for these names and types
module _ (names : List (List ℕ)) (m : ℕ → TypeTree) where
  abbrev pub part_tree : ℕ → CPart → Part
  part_tree file p = record {
    file = file;
    functions = map (function_tree (name_in names) m) p.functions;
    globals = map (global_tree (name_in names) m) p.globals;
    declared = map (declared_tree (name_in names) m) p.declared;
  }

  -- from the file of a number on
  abbrev pub part_trees : ℕ → List CPart → List Part
  part_trees file [] = []
  part_trees file (p ∷ ps) = part_tree file p ∷ part_trees (suc file) ps

-- numbers of names and types are below these
pub record IsKnownPart (names types : ℕ) (p : CPart) : Type 0 where
  pub function_names : AllBelow names (map (λ (f : CFunction). f.name) p.functions)
  pub function_types : AllBelow types (map (λ (f : CFunction). f.of) p.functions)
  pub global_names : AllBelow names (map (λ (g : CGlobal). g.name) p.globals)
  pub declared_names : AllBelow names (map (λ (d : Declared). d.name) p.declared)
  pub declared_types : AllBelow types (map (λ (d : Declared). d.of) p.declared)

abbrev pub AreKnownParts : ℕ → ℕ → List CPart → Type 0
AreKnownParts names types [] = Unit {0}
AreKnownParts names types (p ∷ ps) = IsKnownPart names types p × AreKnownParts names types ps

-- the types that each program has
pub record AreFirst (m : ℕ → TypeTree) (first : FirstTypes) : Type 0 where
  pub void : m first.void ≡ Of false Void
  pub unary : m first.unary ≡ Of false (Function (Cons int Nil) int)
  pub nullary : m first.nullary ≡ Of false (Function Nil int)

pub record AreFirstOf (types : TypeTable) (first : FirstTypes) : Type 0 where
  pub void : first.void < length types.nodes
  pub unary : first.unary < length types.nodes
  pub nullary : first.nullary < length types.nodes
  pub are : ForTypes types (λ m. AreFirst m first)

-- the number of `void`
pub record IsVoid (types : TypeTable) (void : ℕ) : Type 0 where
  pub known : void < length types.nodes
  pub is : ForTypes types (λ m. m void ≡ Of false Void)

-- A file stands behind those of a table, whose names have these numbers. The numbers of string literals go on behind so many.
pub record IsLinked (old : TypeTable) (texts : ℕ) (u : CUnit) (f : FileNames) (made : LinkedFile) : Type 0 where
  pub part : ForTypes made.types (λ m. (names : List (List ℕ)) (file : ℕ) → AreNumbersOf names u.names (linkage_names file u.names u.declared) f
      → part_tree names m file made.part ≡ part_of (move_of file (length old.structs) texts (unit_of u)) (unit_of u))
  pub structs : ForTypes made.types (λ m. (names : List (List ℕ)) → name_in names 0 ≡ [] → map (name_in names) f.plain ≡ u.names
      → table_of (name_in names) m made.types.structs ≡ followed (table_of (name_in names) m old.structs) (unit_of u).structs)
  pub known : (names : List (List ℕ)) (file : ℕ) → AreNumbersOf names u.names (linkage_names file u.names u.declared) f
      → IsKnownPart (length names) (length made.types.nodes) made.part
  pub grows : ForTypes made.types (λ m. Fits m old.nodes)
  pub names : made.types.names ≡ old.names

-- each file's table of types is for as many names as it has
abbrev pub AreNamed : List CUnit → Type 0
AreNamed units = (i : ℕ) (u : CUnit) → slice_get units i ≡ Some u → u.types.names ≡ length u.names

-- the files stand one behind the other, where numbers stand for these names
pub record AreLinked (names : List (List ℕ)) (units : List CUnit) (made : Linked) : Type 0 where
  pub files : ForTypes made.types (λ m. part_trees names m 1 made.parts ≡ parts (map unit_of units))
  pub structs : ForTypes made.types (λ m. table_of (name_in names) m made.types.structs ≡ structs_from [] (map unit_of units))
  pub known : AreKnownParts (length names) (length made.types.nodes) made.parts
  pub first : AreFirstOf made.types made.first_types
