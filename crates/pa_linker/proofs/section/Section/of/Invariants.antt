use Rattle.std.proofs.Common.{◌≡◌, ◌++◌, length}
use Rattle.pa_object.specs.Linkable.{globals_of}
use Rattle.pa_linker.specs.Layout.{laid_from, laid_end, globals_that}
use Rattle.pa_linker.specs.Tables.{all_shown, HaveRoom}
use Rattle.pa_linker.proofs.section.Section.of.Given as goal

abbrev pub invariant-loop-object : goal.invariant-loop-object
invariant-loop-object l = record {
  room : HaveRoom l.section.end (globals_of l.rest);
  globals : all_shown l.section.globals ++ laid_from l.section.end (globals_that l.constant l.rest) ≡ laid_from 0 (globals_that l.constant l.objects);
  end : laid_end l.section.end (globals_that l.constant l.rest) ≡ laid_end 0 (globals_that l.constant l.objects);
}

abbrev pub decreases-loop-object : goal.decreases-loop-object
decreases-loop-object l = length l.rest
