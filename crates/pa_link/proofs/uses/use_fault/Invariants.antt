use Rattle.std.proofs.Common.{◌≡◌, ◌+◌, length}
use Rattle.pa_link.specs.UseFault.{use_fault}
use Rattle.pa_link.proofs.uses.use_fault.Given as goal

abbrev pub invariant-parts : goal.invariant-parts
invariant-parts l = record {
  same : use_fault l.defined l.file l.rest ≡ use_fault l.defined 1 l.parts;
  count : l.file + length l.rest ≡ 1 + length l.parts;
}

abbrev pub decreases-parts : goal.decreases-parts
decreases-parts l = length l.rest
