use Rattle.std.proofs.Common.{◌≡◌, ◌≤◌, ◌-◌, ℕ, List, length}
use Rattle.pa_ctype.specs.Kept.{EndsWithin}
use Rattle.pa_ctype.specs.Layouts.{laid, fields_of}
use Rattle.pa_ctype.specs.Nodes.{at}
use Rattle.pa_ctype.specs.Tables.{types_bound}
use Rattle.pa_cmean.specs.Finding.{find_to, find_member}
use Rattle.pa_store.specs.Found.{structs_in, find_part}
use Rattle.pa_store.proofs.finding.member.Given as goal

abbrev pub invariant-members : goal.invariant-members
invariant-members l = record {
  known : types_bound l.rest ≤ length l.types.nodes;
  same : (names : ℕ → List ℕ) → find_member (laid (l.part.depth - 1) (structs_in names l.types)) (find_to (l.part.depth - 1) (structs_in names l.types) l.part.constant) l.so_far (fields_of names (at l.types.nodes) l.rest) l.part.offset
      ≡ find_part names l.types l.part;
  ends : (names : ℕ → List ℕ) → EndsWithin (laid (l.part.depth - 1) (structs_in names l.types)) l.so_far (fields_of names (at l.types.nodes) l.rest);
}

abbrev pub decreases-members : goal.decreases-members
decreases-members l = length l.rest
