use Rattle.std.proofs.Common.{◌≡◌, ◌∙◌, ap, sym, subst, length, true}
use Rattle.indexmap.specs.IndexMap.{keys}
use Rattle.pa_ctype.specs.Qualifiers.{bare}
use Rattle.pa_ctype.specs.Nodes.{at, tree}
use Rattle.pa_ctype.proofs.KindLaws.{bare_bare}
use Rattle.pa_ctype.proofs.NodeTable.{tree_same, proper_same}
use Rattle.pa_ctype.proofs.nodes.put.Goals as goal

pub put_with-bare-requires-clause-bare : goal.put_with-bare-requires-clause-bare
put_with-bare-requires-clause-bare c = let is = c.bare_node-plain.ensures.is in ap bare is ∙ bare_bare (tree (at (keys c.args.nodes.now)) c.args.node) ∙ sym is

pub put_with-requires-2-clause-proper : goal.put_with-requires-2-clause-proper
put_with-requires-2-clause-proper c =
    proper_same _ _ (length (keys c.args.nodes.now)) c.args.node c.requires.below (λ i h. sym (c.put_with-bare.ensures.grown.same i h)) c.requires.proper

pub returns-clause-is : goal.returns-clause-is
returns-clause-is c =
    c.put_with-2.ensures.is ∙ tree_same _ _ (length (keys c.args.nodes.now)) c.args.node c.requires.below c.put_with-bare.ensures.grown.same

pub returns-clause-each : goal.returns-clause-each
returns-clause-each c p i h e =
    let same = tree_same _ _ (length (keys c.args.nodes.now)) c.args.node c.requires.below (λ j g. sym (c.put_with-bare.ensures.grown.same j g)) in
    c.put_with-2.ensures.each p i (c.put_with-bare.ensures.each p i h (subst (λ t. p t ≡ true) (sym c.bare_node-plain.ensures.is) (i.bare _ e))) (subst (λ t. p t ≡ true) same e)
