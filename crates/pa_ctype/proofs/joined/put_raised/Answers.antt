use Rattle.std.proofs.Common.{◌≡◌, ◌<◌, ◌∙◌, true, sym, ap, subst, arith, length}
use Rattle.std.proofs.lemmas.Map.Entries.{length-keys_of}
use Rattle.std.proofs.lemmas.List.{length-append}
use Rattle.indexmap.specs.IndexMap.{keys, values}
use Rattle.pa_ctype.specs.Nodes.{at, AllBelow}
use Rattle.pa_ctype.specs.Raised.{raised}
use Rattle.pa_ctype.specs.Joined.{AreRaised, raised_node}
use Rattle.pa_ctype.proofs.NodeTable.{grown_trans}
use Rattle.pa_ctype.proofs.Functions.{below_push}
use Rattle.pa_ctype.proofs.Joining.{step_below, step_proper, step_tree, are_more}
use Rattle.pa_ctype.proofs.joined.put_raised.Goals as goal

pub put-requires-clause-below : goal.put-requires-clause-below
put-requires-clause-below c =
    let within : c.others.index < length (keys c.args.others.now) = let t = c.others-test.true in let e = c.len-in-others.ensures.len ∙ sym (length-keys_of c.args.others.now.entries) in omega arith in
    let is = c.raised_node-node.ensures ∙ ap (λ numbers. raised_node c.args.structs numbers c.node_at.result) c.as_slice.ensures in
    step_below c.args.structs c.others.numbers (keys c.args.others.now) (values c.args.others.now) c.requires.other c.others.index within c.others.invariant.count _ _ c.node_at.ensures is _ c.others.invariant.known

pub put-requires-clause-proper : goal.put-requires-clause-proper
put-requires-clause-proper c =
    let within : c.others.index < length (keys c.args.others.now) = let t = c.others-test.true in let e = c.len-in-others.ensures.len ∙ sym (length-keys_of c.args.others.now.entries) in omega arith in
    let is = c.raised_node-node.ensures ∙ ap (λ numbers. raised_node c.args.structs numbers c.node_at.result) c.as_slice.ensures in
    step_proper c.args.structs c.others.numbers (keys c.args.others.now) (values c.args.others.now) c.requires.other c.others.index within c.others.invariant.count _ _ c.node_at.ensures is _ c.others.invariant.is

pub others-preserved : goal.others-preserved
others-preserved c =
    let file = keys c.args.others.now in
    let old = keys c.others.nodes in
    let new = keys c.put.new.nodes in
    let within : c.others.index < length file = let t = c.others-test.true in let e = c.len-in-others.ensures.len ∙ sym (length-keys_of c.args.others.now.entries) in omega arith in
    let is = c.raised_node-node.ensures ∙ ap (λ numbers. raised_node c.args.structs numbers c.node_at.result) c.as_slice.ensures in
    let tree_is = step_tree c.args.structs c.others.numbers file (values c.args.others.now) c.requires.other c.others.index within c.others.invariant.count _ _ c.node_at.ensures is _ c.others.invariant.is in
    let pushed = c.in_ok-push.ensures.ok in
    let long = ap length pushed ∙ length-append c.others.numbers _ in
    record {
      table = c.put.ensures.table;
      grown = grown_trans _ _ _ c.others.invariant.grown c.put.ensures.grown;
      each = λ p i h f. c.put.ensures.each p i (c.others.invariant.each p i h f) (subst (λ t. p t ≡ true) (sym tree_is) (f c.others.index within));
      count = omega (arith, long, c.others.invariant.count);
      within = omega (arith, within);
      known = subst (AllBelow (length new)) (sym pushed) (below_push (length old) (length new) c.put.ensures.grown.longer c.others.numbers _ c.others.invariant.known c.put.ensures.known);
      is = subst (λ numbers. AreRaised c.args.structs numbers (at file) (at new)) (sym pushed)
          (are_more c.args.structs c.others.numbers file old new _ c.others.invariant.is c.others.invariant.known c.put.ensures.grown
          (c.put.ensures.is ∙ tree_is ∙ ap (λ i. raised c.args.structs (at file i)) (sym c.others.invariant.count)));
      few = let f = c.others.invariant.few in let t = c.put.ensures.two in omega (arith, within);
      room = let r = c.others.invariant.room in let t = c.put.ensures.room in omega (arith, within);
    }
