use Rattle.std.proofs.Common.{◌≡◌, ◌++◌, drop, length}
use Rattle.std.specs.List.{AllByRecursion}
use Rattle.pa_linker.specs.Linked.{bytes_from}
use Rattle.pa_linker.specs.Tables.{all_shown, Follow, CanFill}
use Rattle.pa_linker.proofs.section.Section.bytes.Given as goal

abbrev pub invariant-loop-laid : goal.invariant-loop-laid
invariant-loop-laid l =
    let rest = all_shown (drop l.laid-index l.self.globals) in
    record {
      follow : Follow (length l.out.items) rest;
      fill : AllByRecursion CanFill rest;
      bytes : l.out.items ++ bytes_from (length l.out.items) rest ≡ bytes_from 0 (all_shown l.self.globals);
    }
