use Rattle.std.proofs.Common.{◌≡◌, length}
use Rattle.pa_grammar.specs.Parser.{iterate}
use Rattle.pa_grammar.specs.Reading.{text_step}
use Rattle.pa_pexpr.proofs.piece.texts.Given as goal

abbrev pub invariant-texts : goal.invariant-texts
invariant-texts l = iterate text_step l.all l.r ≡ iterate text_step l.first l.initial.r

abbrev pub decreases-texts : goal.decreases-texts
decreases-texts l = length (l.r).ahead
