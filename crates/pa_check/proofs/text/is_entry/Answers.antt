use Rattle.std.proofs.Common.{sym, ◌∙◌, arith}
use Rattle.pa_check.proofs.Legal.{marks_ascend}
use Rattle.pa_check.proofs.Words.{entry_of}
use Rattle.pa_check.proofs.text.is_entry.Goals as goal

pub is_marked-requires : goal.is_marked-requires
is_marked-requires c = rw c.as_slice.ensures (marks_ascend c.args.image.now c.requires)

pub returns-then-k-len : goal.returns-then-k-len
returns-then-k-len c =
    let b = c.if-k-len.true in
    let n = c.len.ensures in
    rw (entry_of c.args.image.now c.args.at c.in-Some.k (sym c.number_at.ensures ∙ c.in-Some.is), c.is_marked.ensures, c.as_slice.ensures) (grind (arith, b, n))

pub returns-else-k-len : goal.returns-else-k-len
returns-else-k-len c =
    let b = c.if-k-len.false in
    let n = c.len.ensures in
    rw (entry_of c.args.image.now c.args.at c.in-Some.k (sym c.number_at.ensures ∙ c.in-Some.is)) (grind (arith, b, n))
