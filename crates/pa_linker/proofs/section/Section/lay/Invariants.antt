use Rattle.std.proofs.Common.{◌≡◌, ◌≤◌, ◌+◌, ◌++◌, filter, length}
use Rattle.pa_linker.specs.Layout.{is_of, laid_from, laid_end}
use Rattle.pa_linker.specs.Tables.{all_shown, room_of, HaveRoom}
use Rattle.pa_linker.proofs.section.Section.lay.Given as goal

abbrev pub invariant-loop-global : goal.invariant-loop-global
invariant-loop-global l = record {
  room : HaveRoom l.self.end l.rest;
  globals : all_shown l.self.globals ++ laid_from l.self.end (filter (is_of l.constant) l.rest) ≡ all_shown l.fn.self.globals ++ laid_from l.fn.self.end (filter (is_of l.constant) l.globals);
  end : laid_end l.self.end (filter (is_of l.constant) l.rest) ≡ laid_end l.fn.self.end (filter (is_of l.constant) l.globals);
  small : l.self.end + room_of l.rest ≤ l.fn.self.end + room_of l.globals;
}

abbrev pub decreases-loop-global : goal.decreases-loop-global
decreases-loop-global l = length l.rest
