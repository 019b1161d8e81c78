use Rattle.std.proofs.Common.{◌+◌, ◌≤◌, sym, ap, ◌∙◌, arith}
use Rattle.pa_object.specs.Machine.{Machine}
use Rattle.pa_machine.proofs.Runs.{run_reached, run_ended, run_later, went-Goes, went-Ended, reached-none, written-goes, written-count, advanced-here, advanced-reached}
use Rattle.pa_machine.proofs.Walks.{script-lines, script-ordered, next-most, next-least, next-ordered}
use Rattle.pa_machine.proofs.machine.Machine.run.Goals as goal

pub returns-in-Some-clause-machine : goal.returns-in-Some-clause-machine
returns-in-Some-clause-machine g c =
    sym (run_ended (g.P.Pac.code c.args.self.now.pac) c.args.script.now c.args.bound c.args.self.now.machine c.in-Some.end (sym c.ended.ensures ∙ c.in-Some.is))

pub items_from-items-requires : goal.items_from-items-requires
items_from-items-requires g c = script-ordered c.args.script.now c.requires.script

pub loop-count-init : goal.loop-count-init
loop-count-init g c = record {
  reached = reached-none g.P.Pac.code c.args.script.now c.items_from-items.result.now c.args.self.now c.count-count.result c.count-count.ensures (sym c.ended.ensures ∙ c.in_default.is) c.requires.fits (script-lines c.args.script.now c.requires.script) c.items_from-items.ensures.ordered c.items_from-items.ensures.rest;
  most = omega arith;
}

pub advance_by-requires-clause-goes : goal.advance_by-requires-clause-goes
advance_by-requires-clause-goes g c =
    written-goes g.P.Pac.code c.args.script.now c.loop-count.items.now c.args.self.now c.loop-count.self c.make_room.new.self c.apply_all-items.new.self c.loop-count.count c.loop-count.invariant.reached c.in_ok-make_room.ensures.rest c.apply_all-items.ensures.machine

pub advance_by-requires-clause-count : goal.advance_by-requires-clause-count
advance_by-requires-clause-count g c =
    let counted = written-count g.P.Pac.code c.args.script.now c.loop-count.items.now c.args.self.now c.loop-count.self c.make_room.new.self c.apply_all-items.new.self c.loop-count.count c.loop-count.invariant.reached c.in_ok-make_room.ensures.rest c.apply_all-items.ensures.machine in
    let next = next-most c.apply_all-items.result.now c.args.bound in
    omega arith

pub returns-in-Ended-clause-machine : goal.returns-in-Ended-clause-machine
returns-in-Ended-clause-machine g c =
    let n = c.loop-count.count in
    let k = c.min-steps.result in
    let behind = c.apply_all-items.result.now in
    let most = next-most behind c.args.bound in
    let least = next-least (n + 1) c.args.bound behind (omega arith) c.apply_all-items.ensures.ordered in
    let room = c.in_ok-make_room.ensures.ok in
    let spare = ap (λ x. x.spare) c.apply_all-items.ensures.machine in
    let some : 1 ≤ k = omega arith in
    let ordered = next-ordered (n + 1) c.args.bound (n + k) behind c.apply_all-items.ensures.ordered (omega arith) in
    let here = advanced-here g.P.Pac.code c.args.script.now c.loop-count.items.now c.args.self.now c.loop-count.self c.make_room.new.self c.apply_all-items.new.self n c.loop-count.invariant.reached c.in_ok-make_room.ensures.rest c.apply_all-items.ensures.machine k behind c.apply_all-items.ensures.rest ordered some c.advance_by.new.self c.advance_by.ensures.machine in
    let ended = went-Ended c.advance_by.new.self.machine.ended c.in-Ended.end (sym c.in-Ended.is ∙ c.advance_by.ensures.went) in
    here ∙ sym (run_later (g.P.Pac.code c.args.self.now.pac) c.args.script.now (n + k) c.args.bound c.args.self.now.machine c.in-Ended.end (omega arith) (ap (λ (x : Machine). x.ended) (sym here) ∙ ended))

pub loop-count-preserved : goal.loop-count-preserved
loop-count-preserved g c =
    let n = c.loop-count.count in
    let k = c.min-steps.result in
    let behind = c.apply_all-items.result.now in
    let most = next-most behind c.args.bound in
    let least = next-least (n + 1) c.args.bound behind (omega arith) c.apply_all-items.ensures.ordered in
    let room = c.in_ok-make_room.ensures.ok in
    let spare = ap (λ x. x.spare) c.apply_all-items.ensures.machine in
    let some : 1 ≤ k = omega arith in
    let ordered = next-ordered (n + 1) c.args.bound (n + k) behind c.apply_all-items.ensures.ordered (omega arith) in
    let goes = went-Goes c.advance_by.new.self.machine.ended (sym c.in_default-advance_by.is ∙ c.advance_by.ensures.went) in
    record {
      reached = advanced-reached g.P.Pac.code c.args.script.now c.loop-count.items.now c.args.self.now c.loop-count.self c.make_room.new.self c.apply_all-items.new.self n c.loop-count.invariant.reached c.in_ok-make_room.ensures.rest c.apply_all-items.ensures.machine k behind c.apply_all-items.ensures.rest ordered some c.advance_by.new.self c.advance_by.ensures.machine goes c.advance_by.ensures.pac;
      most = omega arith;
    }

pub returns-clause-machine : goal.returns-clause-machine
returns-clause-machine g c =
    let reached = c.loop-count.invariant.reached in
    reached.here ∙ run_reached (g.P.Pac.code c.args.self.now.pac) c.args.script.now c.loop-count.count c.args.bound c.args.self.now.machine (omega arith) c.loop-count.invariant.most
