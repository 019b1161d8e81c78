use Rattle.std.proofs.Common.{◌+◌, ◌≤◌, sym, ◌∙◌, arith}
use Rattle.pa_machine.proofs.Runs.{went-Goes, went-Ended, alone-none, alone-count, alone-next, alone-ended}
use Rattle.pa_machine.proofs.machine.Machine.advance_by.Goals as goal

pub loop-init : goal.loop-init
loop-init g c = alone-none g.P.Pac.code c.args.self.now c.requires.goes

pub step-requires-clause-spare : goal.step-requires-clause-spare
step-requires-clause-spare g c = let spare = c.loop.invariant.spare in omega arith

pub step-requires-clause-goes : goal.step-requires-clause-goes
step-requires-clause-goes g c = c.loop.invariant.goes

pub step-requires-clause-count : goal.step-requires-clause-count
step-requires-clause-count g c =
    let counted = alone-count g.P.Pac.code c.args.self.now c.loop.self c.loop.counter c.loop.invariant in
    omega arith

pub returns-in-Ended-clause-machine : goal.returns-in-Ended-clause-machine
returns-in-Ended-clause-machine g c =
    let spare = c.loop.invariant.spare in
    let ended = went-Ended c.step.new.self.machine.ended c.in-Ended.end (sym c.in-Ended.is ∙ c.step.ensures.went) in
    alone-ended g.P.Pac.code c.args.self.now c.loop.self c.loop.counter c.loop.invariant c.step.new.self (omega arith) c.step.ensures.new c.args.steps c.in-Ended.end (omega arith) ended

pub loop-preserved : goal.loop-preserved
loop-preserved g c =
    let spare = c.loop.invariant.spare in
    let goes = went-Goes c.step.new.self.machine.ended (sym c.in_default.is ∙ c.step.ensures.went) in
    alone-next g.P.Pac.code c.args.self.now c.loop.self c.loop.counter c.loop.invariant c.step.new.self (omega arith) c.step.ensures.new goes
