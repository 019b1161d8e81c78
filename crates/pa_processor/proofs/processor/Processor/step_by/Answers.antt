use Rattle.std.proofs.Common.{Some, None, sym, ap, ◌∙◌}
use Rattle.pa_object.specs.declared.end.End.TheVariants as end
use Rattle.pa_object.specs.Machine.{Machine}
use Rattle.pa_object.specs.Run.{ends}
use Rattle.pa_processor.specs.Processor.{Processor}
use Rattle.pa_processor.proofs.Known.{known_range, known_step}
use Rattle.pa_processor.proofs.processor.Processor.step_by.Goals as goal

pub execute-requires-clause-range : goal.execute-requires-clause-range
execute-requires-clause-range g c = known_range c.args.self.now.machine.memory c.args.self.now.machine.pc c.args.instr c.requires.instr

pub returns-in-Err : goal.returns-in-Err
returns-in-Err g c =
    c.ends.ensures
    ∙ ap (λ (q : Processor). record q { machine = ends (end.Trap c.in-Err.trap) q.machine }) c.in-Err.ensures.1
    ∙ ap (λ (m : Machine). record c.args.self.now { machine = m }) (sym (known_step (g.P.Pac.code c.args.p.now) c.args.self.now.machine c.args.instr (Some c.in-Err.trap) c.requires.instr c.in-Err.ensures.0))

pub returns-in_default : goal.returns-in_default
returns-in_default g c =
    c.in_default.ensures.1
    ∙ ap (λ (m : Machine). record c.args.self.now { machine = m }) (sym (known_step (g.P.Pac.code c.args.p.now) c.args.self.now.machine c.args.instr None c.requires.instr c.in_default.ensures.0))
