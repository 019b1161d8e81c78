-- What a program as a whole has to have, on the parts of its files, is that of the definition.
use Rattle.std.proofs.Common.{◌≡◌, ℕ, suc, ◌+◌, ◌<◌, nat_eq, Bool, true, false, List, [], ◌∷◌, ◌++◌, length, map, Option, Some, None, refl, sym, ap, ◌∙◌}
use Rattle.std.specs.Prelude.{flat_map, filter_map, sum_by, if◌then◌else◌, option_map}
use Rattle.std.specs.Int.{next_multiple_of}
use Rattle.std.specs.Option.{option_or}
use Rattle.std.specs.Str.{bytes_eq}
use Rattle.std.proofs.lemmas.List.{length-append, length-map}
use Rattle.std.proofs.lemmas.List.Sums.{sum_by-append, sum_by-cons}
use Rattle.pa_ctype.specs.Types.{TypeTree}
use Rattle.pa_ctype.specs.Nodes.{AllBelow}
use Rattle.pa_typed.specs.declared.unit.Function.{Function}
use Rattle.pa_typed.specs.declared.unit.Unit.{Unit as CUnit}
use Rattle.pa_typed.specs.Units.{FunctionTree, GlobalTree, UnitTree, function_named, function_tree, global_tree, name_in}
use Rattle.pa_cmean.specs.Calls.{main}
use Rattle.pa_link.specs.declared.parts.Part.{Part as CPart}
use Rattle.pa_link.specs.declared.rule.LinkFault.{LinkFault}
use Rattle.pa_link.specs.Limits.{texts_bytes}
use Rattle.pa_link.specs.Linked.{unit_of, part_trees, AreKnownParts}
use Rattle.pa_link.specs.NameNumbers.{AreNamesOfProgram}
use Rattle.pa_link.specs.Program.{first, local_fault, unit_local_faults}
use Rattle.pa_link.specs.Whole.{type_named, main_type, wide_from, all_globals_bytes, all_texts_bytes, all_nodes, function_count}
use Rattle.pa_link.proofs.DefinitionsLaws.{many, number-is}
use Rattle.pa_link.proofs.LimitsLaws.{globals_are, wide_is}

first-append : (xs ys : List LinkFault) → first (xs ++ ys) ≡ option_or (first xs) (first ys)
first-append [] ys = refl
first-append (x ∷ xs) ys = refl

abbrev of_function : FunctionTree → TypeTree
of_function f = f.of

named-append : (fs gs : List FunctionTree) (name : List ℕ) → function_named (fs ++ gs) name ≡ option_or (function_named fs name) (function_named gs name)
unfolding function_named
named-append [] gs name = refl
named-append (f ∷ fs) gs name = by (bytes_eq f.name name) (named-append fs gs name)
  where
    by : (b : Bool) → function_named (fs ++ gs) name ≡ option_or (function_named fs name) (function_named gs name)
        → (if b then Some f else function_named (fs ++ gs) name) ≡ option_or (if b then Some f else function_named fs name) (function_named gs name)
    by true rest = refl
    by false rest = rest

map-or : {X Y : Type 0} (f : X → Y) (a b : Option X) → option_map f (option_or a b) ≡ option_or (option_map f a) (option_map f b)
map-or f None b = refl
map-or f (Some a) b = refl

module _ (names : List (List ℕ)) (are : AreNamesOfProgram names) (m : ℕ → TypeTree) where
  abbrev name : ℕ → List ℕ
  name = name_in names

  is-main : (k : ℕ) → k < length names → bytes_eq (name k) main ≡ nat_eq k 3
  is-main k l = ap (bytes_eq (name k)) (sym (ap (λ ns. name_in ns 3) are.first)) ∙ sym (number-is names are m k 3 l (many names are m))

  named-is : (fs : List Function) → AllBelow (length names) (map (λ (f : Function). f.name) fs)
      → option_map of_function (function_named (map (function_tree name m) fs) main) ≡ option_map m (type_named 3 fs)
  unfolding function_named
  named-is [] known = refl
  named-is (f ∷ fs) known =
      ap (λ (b : Bool). option_map of_function (if b then Some (function_tree name m f) else function_named (map (function_tree name m) fs) main)) (is-main f.name known.0) ∙ by (nat_eq f.name 3) (named-is fs known.1)
    where
      by : (b : Bool) → option_map of_function (function_named (map (function_tree name m) fs) main) ≡ option_map m (type_named 3 fs)
          → option_map of_function (if b then Some (function_tree name m f) else function_named (map (function_tree name m) fs) main) ≡ option_map m (if b then Some f.of else type_named 3 fs)
      by true rest = refl
      by false rest = rest

  -- the type of `main`
  pub main_is : (types file : ℕ) (ps : List CPart) → AreKnownParts (length names) types ps
      → option_map of_function (function_named (flat_map (λ part. part.functions) (part_trees names m file ps)) main) ≡ option_map m (main_type ps)
  unfolding function_named
  main_is types file [] known = refl
  main_is types file (p ∷ ps) known =
      let fs = map (function_tree name m) p.functions in
      let rest = flat_map (λ part. part.functions) (part_trees names m (suc file) ps) in
      ap (option_map of_function) (named-append fs rest main) ∙ map-or of_function (function_named fs main) (function_named rest main)
      ∙ rw (named-is p.functions known.0.function_names, main_is types (suc file) ps known.1) (sym (map-or m (type_named 3 p.functions) (main_type ps)))

  pub first_wide_is : (file : ℕ) (ps : List CPart) → first (flat_map unit_local_faults (part_trees names m file ps)) ≡ wide_from file ps
  first_wide_is file [] = refl
  first_wide_is file (p ∷ ps) =
      first-append (filter_map (local_fault file) (map (function_tree name m) p.functions)) (flat_map unit_local_faults (part_trees names m (suc file) ps))
      ∙ rw (wide_is name m file p.functions, first_wide_is (suc file) ps) refl

  pub globals_bytes_are : (file : ℕ) (ps : List CPart) → sum_by (λ (g : GlobalTree). next_multiple_of g.size 8) (flat_map (λ part. part.globals) (part_trees names m file ps)) ≡ all_globals_bytes ps
  globals_bytes_are file [] = refl
  globals_bytes_are file (p ∷ ps) =
      sum_by-append (λ (g : GlobalTree). next_multiple_of g.size 8) (map (global_tree name m) p.globals) (flat_map (λ part. part.globals) (part_trees names m (suc file) ps))
      ∙ rw (globals_are name m p.globals, globals_bytes_are (suc file) ps) refl

  pub function_count_is : (file : ℕ) (ps : List CPart) → length (flat_map (λ part. part.functions) (part_trees names m file ps)) ≡ function_count ps
  function_count_is file [] = refl
  function_count_is file (p ∷ ps) =
      length-append (map (function_tree name m) p.functions) (flat_map (λ part. part.functions) (part_trees names m (suc file) ps))
      ∙ rw (length-map p.functions (function_tree name m), function_count_is (suc file) ps) refl

texts-are : (texts : List (List ℕ)) → sum_by (λ bytes. suc (length bytes)) texts ≡ texts_bytes texts
texts-are [] = refl
texts-are (t ∷ ts) = sum_by-cons (λ bytes. suc (length bytes)) t ts ∙ ap (λ n. suc (length t) + n) (texts-are ts)

pub texts_bytes_are : (us : List CUnit) → sum_by (λ bytes. suc (length bytes)) (flat_map (λ (u : UnitTree). u.texts) (map unit_of us)) ≡ all_texts_bytes us
texts_bytes_are [] = refl
texts_bytes_are (u ∷ us) =
    sum_by-append (λ bytes. suc (length bytes)) u.texts (flat_map (λ (u : UnitTree). u.texts) (map unit_of us)) ∙ rw (texts-are u.texts, texts_bytes_are us) refl

pub nodes_are : (us : List CUnit) → sum_by (λ (u : UnitTree). u.nodes) (map unit_of us) ≡ all_nodes us
nodes_are [] = refl
nodes_are (u ∷ us) = sum_by-cons (λ (u : UnitTree). u.nodes) (unit_of u) (map unit_of us) ∙ ap (λ n. u.nodes + n) (nodes_are us)
