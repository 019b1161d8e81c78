-- What the lines ahead give goes after what is there, and the first rule that they break is the text's.
use Rattle.std.proofs.Common.{◌+◌, ◌≤◌, ℕ, length, map}
use Rattle.pa_asmline.specs.Reading.{line}
use Rattle.pa_asm.specs.declared.rule.AsmRule.{AsmRule}
use Rattle.pa_asm.specs.Parts.{Parts, joined, AllGive, FirstBreaks}
use Rattle.pa_asm.specs.Reading.{kept, parts_so_far, pieces_behind, len_behind, own_len}
use Rattle.pa_asm.specs.Written.{read}
use Rattle.pa_asm.proofs.assembler.assemble.Given as goal

abbrev pub invariant-lines : goal.invariant-lines
invariant-lines l = record {
  gives : (more : Parts) → AllGive (kept l.labels) l.assembly.number (length l.assembly.code) (map line (pieces_behind l.rest)) more → AllGive (kept l.labels) 1 0 (read l.text) (joined (parts_so_far l.assembly) more);
  breaks : (rule : AsmRule) (place : ℕ) → FirstBreaks (kept l.labels) l.assembly.number (length l.assembly.code) (map line (pieces_behind l.rest)) rule place → FirstBreaks (kept l.labels) 1 0 (read l.text) rule place;
  words_fit : length l.assembly.code + len_behind l.rest ≤ own_len l.text;
  lines_fit : l.assembly.number + len_behind l.rest ≤ own_len l.text + 1;
}

abbrev pub decreases-lines : goal.decreases-lines
decreases-lines l = len_behind l.rest
