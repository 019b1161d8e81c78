-- What a file defines by name and place is that of the definition.
use Rattle.std.proofs.Common.{◌≡◌, ℕ, ◌<◌, nat_eq, ◌&&◌, ◌||◌, List, [], ◌∷◌, length, map, refl, sym, ap, ◌∙◌}
use Rattle.std.specs.List.{list_any}
use Rattle.pa_ctype.specs.Types.{TypeTree}
use Rattle.pa_ctype.specs.Nodes.{AllBelow}
use Rattle.pa_typed.specs.declared.unit.CGlobal.{CGlobal}
use Rattle.pa_typed.specs.declared.unit.Declared.{Declared}
use Rattle.pa_typed.specs.declared.unit.Function.{Function}
use Rattle.pa_typed.specs.Units.{declared_tree, function_tree, global_tree, name_in}
use Rattle.pa_link.specs.declared.parts.Part.{Part as CPart}
use Rattle.pa_link.specs.FileDefinitions.{is_at, has_function, has_global, defines}
use Rattle.pa_link.specs.Linked.{part_tree, IsKnownPart}
use Rattle.pa_link.specs.NameNumbers.{AreNamesOfProgram}
use Rattle.pa_link.specs.Program as program
use Rattle.pa_link.specs.Program.{is_function_at, is_global_at}
use Rattle.pa_link.proofs.DefinitionsLaws.{number-is}

module _ (names : List (List ℕ)) (are : AreNamesOfProgram names) (m : ℕ → TypeTree) (d : Declared) (known : d.name < length names) where
  abbrev name : ℕ → List ℕ
  name = name_in names

  functions-are : (fs : List Function) → AllBelow (length names) (map (λ (f : Function). f.name) fs)
      → list_any (is_function_at (declared_tree name m d)) (map (function_tree name m) fs) ≡ has_function d.name d.place fs
  functions-are [] below = refl
  functions-are (f ∷ fs) below =
      ap (λ b. (b && nat_eq f.place d.place) || list_any (is_function_at (declared_tree name m d)) (map (function_tree name m) fs)) (sym (number-is names are m f.name d.name below.0 known))
      ∙ ap (λ r. is_at d.name d.place f.name f.place || r) (functions-are fs below.1)

  globals-are : (gs : List CGlobal) → AllBelow (length names) (map (λ (g : CGlobal). g.name) gs)
      → list_any (is_global_at (declared_tree name m d)) (map (global_tree name m) gs) ≡ has_global d.name d.place gs
  globals-are [] below = refl
  globals-are (g ∷ gs) below =
      ap (λ b. (b && nat_eq g.place d.place) || list_any (is_global_at (declared_tree name m d)) (map (global_tree name m) gs)) (sym (number-is names are m g.name d.name below.0 known))
      ∙ ap (λ r. is_at d.name d.place g.name g.place || r) (globals-are gs below.1)

  -- whether a declaration of a file defines its name
  pub defines_is : (types file : ℕ) (p : CPart) → IsKnownPart (length names) types p → program.defines (part_tree names m file p) (declared_tree name m d) ≡ defines d.name d.place p
  defines_is types file p h = rw (functions-are p.functions h.function_names, globals-are p.globals h.global_names) refl
