use Rattle.pa_load.proofs.Going.{going_first, going_on, going_done}
use Rattle.pa_load.proofs.filling.fill.Goals as goal

pub loop-fix-init : goal.loop-fix-init
loop-fix-init g c =
    going_first (g.P.Pac.code c.args.p.now) c.args.placed.now c.args.fixes.now c.args.contents.now c.args.log.now.entries c.args.log.now.spare c.requires.ready c.requires.room c.requires.empty

pub loop-fix-preserved : goal.loop-fix-preserved
loop-fix-preserved g c =
    going_on (g.P.Pac.code c.args.p.now) c.args.placed.now c.args.fixes.now c.args.contents.now c.loop-fix.rest.now c.in-Some.fix.now c.in-Some.behind.now c.loop-fix.contents c.put_word.new.contents c.slot_word-word.result c.loop-fix.log.entries c.slot_word-word.new.log.entries c.loop-fix.log.spare c.slot_word-word.new.log.spare
    c.loop-fix.invariant c.in-Some.ensures.cases.0 c.slot_word-word.ensures.value c.put_word.ensures c.slot_word-word.ensures.log c.slot_word-word.ensures.room

pub returns : goal.returns
returns g c =
    let done = going_done (g.P.Pac.code c.args.p.now) c.args.placed.now c.args.fixes.now c.args.contents.now c.loop-fix.rest.now c.loop-fix.contents c.loop-fix.log.entries c.loop-fix.log.spare c.loop-fix.invariant c.in_default.ensures.cases in
    record { contents = done.0; log = done.1 }
