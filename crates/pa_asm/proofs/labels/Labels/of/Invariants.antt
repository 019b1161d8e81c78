-- What is kept so far is found before what the lines ahead have.
use Rattle.std.proofs.Common.{◌≡◌, ◌+◌, ◌≤◌, ℕ, List, map}
use Rattle.pa_asmline.specs.Reading.{line}
use Rattle.pa_asm.specs.Labels.{find_from, find}
use Rattle.std.specs.Option.{option_or}
use Rattle.pa_asm.specs.Reading.{kept, pieces_behind, len_behind, own_len}
use Rattle.pa_asm.specs.Written.{read}
use Rattle.pa_asm.proofs.labels.Labels.of.Given as goal

abbrev pub invariant-lines : goal.invariant-lines
invariant-lines l = record {
  found : (name : List ℕ) → option_or (kept l.labels name) (find_from name l.number l.at (map line (pieces_behind l.rest))) ≡ find (read l.text) name;
  words_fit : l.at + len_behind l.rest ≤ own_len l.text;
  lines_fit : l.number + len_behind l.rest ≤ own_len l.text + 1;
}

abbrev pub decreases-lines : goal.decreases-lines
decreases-lines l = len_behind l.rest
