use Rattle.std.proofs.Common.{◌≡◌, length}
use Rattle.pa_slots.specs.Pages.{AreRising}
use Rattle.pa_slots.specs.Writing.{EachFits}
use Rattle.pa_slots.proofs.writing.slots_fit.Given as goal

abbrev pub invariant-loop-rest : goal.invariant-loop-rest
invariant-loop-rest l = record {
  all : AreRising l.rest × EachFits l.at l.cells l.rest → AreRising l.fixes × EachFits l.at l.cells l.fixes;
  some : AreRising l.fixes × EachFits l.at l.cells l.fixes → AreRising l.rest × EachFits l.at l.cells l.rest;
}

abbrev pub decreases-loop-rest : goal.decreases-loop-rest
decreases-loop-rest l = length l.rest
