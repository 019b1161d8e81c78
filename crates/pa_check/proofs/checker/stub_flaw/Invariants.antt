use Rattle.std.proofs.Common.{◌≡◌, ◌/◌, drop}
use Rattle.pa_check.specs.Text.{text_of}
use Rattle.pa_check.specs.Windowed.{first_stub}
use Rattle.pa_check.proofs.checker.stub_flaw.Given as goal

abbrev pub invariant-loop-n : goal.invariant-loop-n
invariant-loop-n l = first_stub (text_of l.image) l.from (l.image.got / 8) 0 l.image.stubs ≡ first_stub (text_of l.image) l.from (l.image.got / 8) l.n (drop l.n l.image.stubs)
