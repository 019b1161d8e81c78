use Rattle.std.proofs.Common.{◌≡◌, ◌∙◌, ap, sym, subst, arith, true, false}
use Rattle.indexmap.specs.IndexMap.{keys, values}
use Rattle.pa_ctype.specs.Types.{Of, Array}
use Rattle.pa_ctype.specs.Nodes.{at}
use Rattle.pa_ctype.proofs.KindLaws.{const_is}
use Rattle.pa_ctype.proofs.Constants.{has_it, takes_it}
use Rattle.pa_ctype.proofs.NodeTable.{layer_is, below_is, array_depth, array_const}
use Rattle.pa_ctype.proofs.nodes.+put_constant.Goals as goal

pub put_constant-of-requires : goal.put_constant-of-requires
put_constant-of-requires t c =
    let ns = keys c.args.nodes.now in
    let fs = values c.args.nodes.now in
    let under = below_is ns fs c.requires.table c.args.number _ _ c.requires.known c.node_at.ensures c.in-Array.is in
    let depth = array_depth _ _ c.in-Array.count (layer_is ns fs c.requires.table c.args.number _ _ c.requires.known c.node_at.ensures c.in-Array.is) in
    let few = c.requires.few in let room = c.requires.room in let known = c.requires.known in let fuel = c.decreases in
    (omega (arith, under.0), (c.requires.table, (omega (arith, under.0, known), (omega (arith, few, depth), omega (arith, room, depth)))))

pub put-requires-clause-few : goal.put-requires-clause-few
put-requires-clause-few t c =
    let depth = array_depth _ _ c.in-Array.count (layer_is (keys c.args.nodes.now) (values c.args.nodes.now) c.requires.table c.args.number _ _ c.requires.known c.node_at.ensures c.in-Array.is) in
    omega (arith, depth, c.requires.few, c.put_constant-of.ensures.some)

pub put-requires-clause-room : goal.put-requires-clause-room
put-requires-clause-room t c =
    let depth = array_depth _ _ c.in-Array.count (layer_is (keys c.args.nodes.now) (values c.args.nodes.now) c.requires.table c.args.number _ _ c.requires.known c.node_at.ensures c.in-Array.is) in
    omega (arith, depth, c.requires.room, c.put_constant-of.ensures.room)

pub returns-in-Constant-clause-is : goal.returns-in-Constant-clause-is
returns-in-Constant-clause-is t c = has_it (keys c.args.nodes.now) (values c.args.nodes.now) c.requires.table c.args.number _ c.requires.known c.node_at.ensures c.in-Constant.is

pub returns-in-Array-clause-is : goal.returns-in-Array-clause-is
returns-in-Array-clause-is t c =
    c.put.ensures.is ∙ ap (λ u. Of false (Array u c.in-Array.count)) c.put_constant-of.ensures.is
    ∙ sym (array_const _ _ c.in-Array.count (layer_is (keys c.args.nodes.now) (values c.args.nodes.now) c.requires.table c.args.number _ _ c.requires.known c.node_at.ensures c.in-Array.is))

pub returns-in-Array-clause-some : goal.returns-in-Array-clause-some
returns-in-Array-clause-some t c =
    let depth = array_depth _ _ c.in-Array.count (layer_is (keys c.args.nodes.now) (values c.args.nodes.now) c.requires.table c.args.number _ _ c.requires.known c.node_at.ensures c.in-Array.is) in
    omega (arith, depth, c.put.ensures.two, c.put_constant-of.ensures.some)

pub returns-in-Array-clause-room : goal.returns-in-Array-clause-room
returns-in-Array-clause-room t c =
    let depth = array_depth _ _ c.in-Array.count (layer_is (keys c.args.nodes.now) (values c.args.nodes.now) c.requires.table c.args.number _ _ c.requires.known c.node_at.ensures c.in-Array.is) in
    omega (arith, depth, c.put.ensures.room, c.put_constant-of.ensures.room)

pub returns-in-Void : goal.returns-in-Void
returns-in-Void t c =
    let takes = takes_it (keys c.args.nodes.now) (values c.args.nodes.now) c.requires.table c.args.number _ c.requires.known c.node_at.ensures c.in-Void.is in
    record {
      table = c.put-in-Void.ensures.table;
      known = c.put-in-Void.ensures.known;
      is = c.put-in-Void.ensures.is ∙ sym (const_is (at (keys c.args.nodes.now) c.args.number) takes);
      grown = c.put-in-Void.ensures.grown;
      each = λ p i h. c.put-in-Void.ensures.each p i h (subst (λ u. p u ≡ true) (const_is (at (keys c.args.nodes.now) c.args.number) takes) (i.constant _ (h c.args.number c.requires.known)));
      some = omega (arith, c.put-in-Void.ensures.two);
      room = omega (arith, c.put-in-Void.ensures.room);
    }

pub returns-in-Array-clause-each : goal.returns-in-Array-clause-each
returns-in-Array-clause-each t c p i h =
    let is =
    ap (λ u. Of false (Array u c.in-Array.count)) c.put_constant-of.ensures.is
    ∙ sym (array_const _ _ c.in-Array.count (layer_is (keys c.args.nodes.now) (values c.args.nodes.now) c.requires.table c.args.number _ _ c.requires.known c.node_at.ensures c.in-Array.is)) in
    c.put.ensures.each p i (c.put_constant-of.ensures.each p i h) (subst (λ u. p u ≡ true) (sym is) (i.constant _ (h c.args.number c.requires.known)))
