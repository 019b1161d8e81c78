use Rattle.std.proofs.Common.{arith, sym, ◌∙◌, ◌-◌, inl, inr, ap}
use Rattle.pa_check.specs.Rows.{ends_any}
use Rattle.pa_check.proofs.Words.{length-text}
use Rattle.pa_check.proofs.Settled.{settled_behind, settled_here}
use Rattle.pa_check.proofs.inside.walked_back.Goals as goal

pub instr_at-instr-requires : goal.instr_at-instr-requires
instr_at-instr-requires c =
    let v = c.loop-before.invariant in let o = v.order in let w = v.to in
    let a = c.requires.function.inside in let b = c.requires.to in let d = length-text c.args.image.now in omega arith

pub returns-then-ends_any-clause-settled : goal.returns-then-ends_any-clause-settled
returns-then-ends_any-clause-settled c =
    let v = c.loop-before.invariant in let o = v.order in let w = v.to in
    let t = c.loop-before-test.true in let f = v.from in
    let b = c.requires.to in
    record { from = omega arith; passed = settled_behind _ c.args.function.first c.args.function.end c.requires.function (c.loop-before.before - 1) (omega arith) (omega arith) (ap ends_any (sym c.instr_at-instr.ensures) ∙ sym c.ends_any.ensures ∙ c.if-ends_any.true) }

pub returns-else-settled-before-lt-MOST-clause-settled : goal.returns-else-settled-before-lt-MOST-clause-settled
returns-else-settled-before-lt-MOST-clause-settled c =
    let v = c.loop-before.invariant in let o = v.order in let w = v.to in
    let b = c.requires.to in
    let f = v.from in
    record { from = omega arith; passed = settled_here _ c.args.function.first c.args.function.end c.requires.function c.loop-before.settled c.loop-before.before v.from o (omega arith) (inr (omega arith)) v.quiet }

pub returns-after-loop-before-clause-settled : goal.returns-after-loop-before-clause-settled
returns-after-loop-before-clause-settled c =
    let v = c.loop-before.invariant in let o = v.order in let w = v.to in let f = v.from in
    let b = c.requires.to in
    record { from = omega arith; passed = settled_here _ c.args.function.first c.args.function.end c.requires.function c.loop-before.settled c.loop-before.before f o (omega arith) (inl (omega arith)) v.quiet }
