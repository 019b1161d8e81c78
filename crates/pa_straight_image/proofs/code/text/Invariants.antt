-- What was written and what is to come are the code up to the calls' end.
use Rattle.std.proofs.Common.{◌≡◌, ◌++◌, map, drop}
use Rattle.pa_a64.specs.Decoding.{encoded}
use Rattle.pa_straight_image.specs.Code.{start, prologue, calls}
use Rattle.pa_straight_image.proofs.code.text.Given as goal

abbrev pub invariant-loop-index : goal.invariant-loop-index
invariant-loop-index l =
    l.words ++ map encoded (calls l.gap (drop l.index l.prints)) ≡ map encoded (start ++ (prologue ++ calls l.gap l.prints))
