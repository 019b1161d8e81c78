use Rattle.std.proofs.Common.{arith, ◌∙◌}
use Rattle.pa_check.specs.Text.{text_of}
use Rattle.pa_check.specs.Passing.{start_in}
use Rattle.pa_check.proofs.Words.{length-text}
use Rattle.pa_check.proofs.Flaws.{is_function, start_past, flaw_past}
use Rattle.pa_check.proofs.pass.functions_flaw.Goals as goal

pub function_flaw-flaw-requires-clause-function : goal.function_flaw-flaw-requires-clause-function
function_flaw-flaw-requires-clause-function c =
    let t = c.loop-i-test.true in let e = c.len-i-end.ensures in
    rw (c.function_start.ensures, c.function_start-in-loop-i.ensures) (is_function c.args.image.now c.requires.legal c.requires.behind c.loop-i.i (omega arith))

pub keep_places-requires-clause-function : goal.keep_places-requires-clause-function
keep_places-requires-clause-function c =
    let t = c.loop-i-test.true in let e = c.len-i-end.ensures in
    rw (c.function_start.ensures, c.function_start-in-loop-i.ensures) (is_function c.args.image.now c.requires.legal c.requires.behind c.loop-i.i (omega arith))

pub returns : goal.returns
returns c =
    let t = c.loop-i-test.false in let e = c.len-i-end.ensures in
    let n = length-text c.args.image.now in
    let s = start_past c.args.image.now c.loop-i.i (omega arith) in
    c.loop-i.invariant ∙ flaw_past (text_of c.args.image.now) (start_in c.args.image.now c.loop-i.i) (omega arith)
