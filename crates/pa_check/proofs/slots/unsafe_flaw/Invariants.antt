use Rattle.std.proofs.Common.{◌≡◌, drop}
use Rattle.pa_check.specs.Text.{text_of}
use Rattle.pa_check.specs.Slots.{first_unsafe}
use Rattle.pa_check.proofs.slots.unsafe_flaw.Given as goal

abbrev pub invariant-loop-i : goal.invariant-loop-i
invariant-loop-i l = first_unsafe (text_of l.image) l.base l.image.got l.image.fixes ≡ first_unsafe (text_of l.image) l.base l.image.got (drop l.i l.image.fixes)
