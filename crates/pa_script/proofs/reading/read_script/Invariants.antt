-- The items so far are what the lines before say, and none of these breaks a rule.
use Rattle.std.proofs.Common.{◌≡◌, ◌++◌, Some, length, map}
use Rattle.pa_script.specs.Pieces.{lines_of}
use Rattle.pa_script.specs.Items.{item_of}
use Rattle.pa_script.specs.Rules.{said, NoneBefore}
use Rattle.pa_script.proofs.reading.read_script.Given as goal

abbrev pub invariant-lines : goal.invariant-lines
invariant-lines l = record {
  before : said l.text ≡ map Some l.script ++ map item_of (lines_of l.rest);
  none : NoneBefore (said l.text) (length l.script);
}

abbrev pub decreases-lines : goal.decreases-lines
decreases-lines l = length l.rest
