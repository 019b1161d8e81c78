use Rattle.std.proofs.Common.{◌∙◌, ◌-◌, ap, arith, get_or}
use Rattle.indexmap.specs.IndexMap.{keys}
use Rattle.pa_ctype.specs.Nodes.{at, taking, is_function}
use Rattle.pa_ctype.proofs.KindLaws.{taking_function}
use Rattle.pa_ctype.proofs.NodeTable.{grown_trans}
use Rattle.pa_ctype.proofs.Functions.{below_at, onto_all, onto_more}
use Rattle.pa_ctype.proofs.nodes.put_function.Goals as goal

pub params-init : goal.params-init
params-init c =
    record {
      table = c.put-number.ensures.table;
      grown = c.put-number.ensures.grown;
      each = λ p i h. c.put-number.ensures.each p i h (i.returns _ (h c.args.result_type c.requires.result));
      known = c.put-number.ensures.known;
      within = omega arith;
      function = ap is_function c.put-number.ensures.is;
      is = onto_all (at (keys c.args.nodes.now)) c.args.params.now _ _ c.put-number.ensures.is;
      few = let f = c.requires.few in omega (arith, c.put-number.ensures.two);
      room = let r = c.requires.room in omega (arith, c.put-number.ensures.room);
    }

pub put-number-requires-in-params-clause-below : goal.put-number-requires-in-params-clause-below
put-number-requires-in-params-clause-below c =
    let below = below_at _ c.args.params.now (c.params.left - 1) c.requires.params (let w = c.params.invariant.within in let p = c.params-test.true in omega arith) in
    (omega (arith, below, c.params.invariant.grown.longer), (c.params.invariant.known, tt))

pub params-preserved : goal.params-preserved
params-preserved c =
    let old = at (keys c.args.nodes.now) in
    let param = get_or c.args.params.now (c.params.left - 1) 0 in
    let w = c.params.invariant.within in
    let p = c.params-test.true in
    let below = below_at _ c.args.params.now (c.params.left - 1) c.requires.params (omega arith) in
    let is = c.put-number-in-params.ensures.is ∙ ap (λ q. taking q (at (keys c.params.nodes) c.params.number)) (c.params.invariant.grown.same param below) in
    record {
      table = c.put-number-in-params.ensures.table;
      grown = grown_trans _ _ _ c.params.invariant.grown c.put-number-in-params.ensures.grown;
      each = λ p i h.
          let here = c.params.invariant.each p i h in
          c.put-number-in-params.ensures.each p i here (i.takes _ _ (here param (let l = c.params.invariant.grown.longer in omega (arith, below))) (here c.params.number c.params.invariant.known));
      known = c.put-number-in-params.ensures.known;
      within = omega arith;
      function = ap is_function is ∙ taking_function (old param) (at (keys c.params.nodes) c.params.number) c.params.invariant.function;
      is = onto_more old c.args.params.now c.params.left _ _ p w is ∙ c.params.invariant.is;
      few = let f = c.params.invariant.few in omega (arith, c.put-number-in-params.ensures.two);
      room = let r = c.params.invariant.room in omega (arith, c.put-number-in-params.ensures.room);
    }
