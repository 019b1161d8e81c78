use Rattle.std.proofs.Common.{◌≡◌, length}
use Rattle.pa_lex.specs.Bytes as bytes
use Rattle.pa_lex.proofs.form.is_blank_line.Given as goal

abbrev pub invariant-bytes : goal.invariant-bytes
invariant-bytes l = bytes.is_blank_line l.rest ≡ bytes.is_blank_line l.text

abbrev pub decreases-bytes : goal.decreases-bytes
decreases-bytes l = length l.rest
