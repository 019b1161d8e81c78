use Rattle.std.proofs.Common.{arith, refl, sym, ◌∙◌}
use Rattle.pa_check.proofs.Words.{text_start}
use Rattle.pa_check.proofs.Flaws.{cut_text, missing_text, whole_text}
use Rattle.pa_check.proofs.pass.text_flaw.Goals as goal

pub returns-then-len-start : goal.returns-then-len-start
returns-then-len-start c =
    let v = rw c.in_default.is at c.start_flaw.ensures.value in
    let u = text_start c.args.image.now in let s = c.start_size-start.ensures in let n = c.len.ensures in let t = c.if-len-start.true in
    sym (cut_text c.args.image.now c.requires.legal (omega arith) v ∙ rw (c.place.ensures, c.len-then-len-start.ensures) refl)

pub returns-then-start-first : goal.returns-then-start-first
returns-then-start-first c =
    let v = rw c.in_default.is at c.start_flaw.ensures.value in
    let u = text_start c.args.image.now in let s = c.start_size-start.ensures in let n = c.len.ensures in let t = c.if-len-start.false in
    let f = c.function_start-first.ensures in let g = c.if-start-first.true in
    sym (missing_text c.args.image.now c.requires.legal (omega arith) (omega arith) v ∙ rw (c.place-then-start-first.ensures, s, u) refl)

pub returns : goal.returns
returns c =
    let v = rw c.in_default.is at c.start_flaw.ensures.value in
    let b = rw c.in_default.is at c.start_flaw.ensures.behind in
    let u = text_start c.args.image.now in let s = c.start_size-start.ensures in let n = c.len.ensures in let t = c.if-len-start.false in
    let f = c.function_start-first.ensures in let g = c.if-start-first.false in
    sym (whole_text c.args.image.now (omega arith) (omega arith) (rw f at b) v ∙ c.functions_flaw.ensures)
