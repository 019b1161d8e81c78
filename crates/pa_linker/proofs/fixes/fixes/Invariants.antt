use Rattle.std.proofs.Common.{◌≡◌, ◌++◌, drop}
use Rattle.std.specs.List.{AllByRecursion, flat_map}
use Rattle.pa_linker.specs.Linked.{global_fixes, fixes_with}
use Rattle.pa_linker.specs.Tables.{layout_in, all_shown, CanFill}
use Rattle.pa_linker.proofs.fixes.fixes.Given as goal

abbrev pub invariant-loop-laid : goal.invariant-loop-laid
invariant-loop-laid l =
    let rest = all_shown (drop l.laid-index l.globals) in
    record {
      fill : AllByRecursion CanFill rest;
      fixes : l.fixes ++ flat_map (global_fixes (layout_in l.layout)) rest ≡ fixes_with (layout_in l.layout) (all_shown l.globals);
    }
