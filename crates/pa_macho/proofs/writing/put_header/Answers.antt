use Rattle.std.proofs.Common.{append_assoc}
use Rattle.pa_macho.specs.Writing.{front_with}
use Rattle.pa_macho.proofs.writing.put_header.Goals as goal

pub returns : goal.returns
unfolding front_with
returns c =
    rw (c.in_ok-put_library.ensures, c.in_ok-put_entry.ensures, c.in_ok-put_segments.ensures, c.in_ok-put_page_zero.ensures, c.in_ok-put_start.ensures)
    (simp append_assoc)
