use Rattle.std.proofs.Common.{◌≡◌, ◌≤◌, ℕ, List, drop}
use Rattle.std.specs.List.{AllByRecursion}
use Rattle.std.specs.Option.{option_or}
use Rattle.pa_linker.specs.Layout.{find, globals_from}
use Rattle.pa_linker.specs.Tables.{all_shown, kept_place, most_data}
use Rattle.pa_linker.proofs.symbols.Symbols.note_globals.Given as goal

abbrev pub invariant-loop-laid : goal.invariant-loop-laid
invariant-loop-laid l =
    let rest = all_shown (drop l.laid-index l.globals) in
    record {
      small : AllByRecursion (λ laid. laid.at ≤ most_data) rest;
      found : (name : List ℕ) → option_or (kept_place l.self name) (find (globals_from l.section rest) name) ≡ option_or (kept_place l.fn.self name) (find (globals_from l.section (all_shown l.globals)) name);
    }
