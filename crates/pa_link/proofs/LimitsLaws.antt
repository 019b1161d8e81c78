-- Counts on the code are those of the definition.
use Rattle.std.proofs.Common.{◌≡◌, ℕ, ◌+◌, Bool, true, false, List, [], ◌∷◌, map, Some, None, refl, ap, ◌∙◌}
use Rattle.std.specs.Prelude.{if◌then◌else◌, filter_map, sum_by}
use Rattle.std.specs.List.{cons_option}
use Rattle.std.proofs.lemmas.List.Sums.{sum_by-cons}
use Rattle.std.specs.Int.{next_multiple_of}
use Rattle.pa_ctype.specs.Types.{TypeTree}
use Rattle.pa_typed.specs.declared.unit.CLocal.{CLocal}
use Rattle.pa_typed.specs.declared.unit.CGlobal.{CGlobal}
use Rattle.pa_typed.specs.declared.unit.Function.{Function}
use Rattle.pa_typed.specs.Counts.{locals_bytes}
use Rattle.pa_typed.specs.Units.{GlobalTree, sizes_of, local_tree, function_tree, global_tree}
use Rattle.pa_link.specs.declared.rule.LinkRule.TheVariants.{M4}
use Rattle.pa_link.specs.Program.{fault, local_fault, first}
use Rattle.pa_link.specs.Limits.{globals_bytes, is_too_wide, wide_fault}

module _ (names : ℕ → List ℕ) (m : ℕ → TypeTree) where
  sizes_are : (ls : List CLocal) → sizes_of (map (local_tree names m) ls) ≡ locals_bytes ls
  unfolding sizes_of
  sizes_are [] = refl
  sizes_are (l ∷ ls) = ap (λ n. next_multiple_of l.size 8 + n) (sizes_are ls)

  pub wide_is : (file : ℕ) (fs : List Function) → first (filter_map (local_fault file) (map (function_tree names m) fs)) ≡ wide_fault file fs
  wide_is file [] = refl
  wide_is file (f ∷ fs) = rw (sizes_are f.locals) (by (is_too_wide f.locals) (wide_is file fs))
    where
      by : (b : Bool) → first (filter_map (local_fault file) (map (function_tree names m) fs)) ≡ wide_fault file fs
          → first (cons_option (if b then Some (fault M4 file f.place) else None) (filter_map (local_fault file) (map (function_tree names m) fs))) ≡ (if b then Some (fault M4 file f.place) else wide_fault file fs)
      by true rest = refl
      by false rest = rest

  pub globals_are : (gs : List CGlobal) → sum_by (λ (g : GlobalTree). next_multiple_of g.size 8) (map (global_tree names m) gs) ≡ globals_bytes gs
  globals_are [] = refl
  globals_are (g ∷ gs) =
      sum_by-cons (λ (g : GlobalTree). next_multiple_of g.size 8) (global_tree names m g) (map (global_tree names m) gs) ∙ ap (λ n. next_multiple_of g.size 8 + n) (globals_are gs)
