use Rattle.std.proofs.Common.{sym, ◌∙◌, arith, length-drop}
use Rattle.pa_lex.proofs.Gaps.{behind_none, behind_more, behind_all, separator_within}
use Rattle.pa_lex.proofs.reader.Reader.skip.Goals as goal

pub separators-init : goal.separators-init
separators-init c = behind_none _

pub advance-requires : goal.advance-requires
advance-requires c = (separator_within c.separators.self c.in-Some.count (sym c.separator.ensures ∙ c.in-Some.is)).within

pub separators-smaller : goal.separators-smaller
separators-smaller c =
    let w = separator_within c.separators.self c.in-Some.count (sym c.separator.ensures ∙ c.in-Some.is) in
    rw c.advance.ensures (omega (arith, length-drop c.in-Some.count c.separators.self.ahead, w.long, w.within))

pub separators-preserved : goal.separators-preserved
separators-preserved c = rw c.advance.ensures (behind_more _ c.separators.self c.in-Some.count c.separators.invariant (sym c.separator.ensures ∙ c.in-Some.is))

pub returns : goal.returns
returns c = behind_all _ c.separators.self c.separators.invariant (sym c.separator.ensures ∙ c.in_default.is)
