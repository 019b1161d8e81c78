use Rattle.std.proofs.Common.{refl, sym, ap, ◌∙◌}
use Rattle.pa_ctype.specs.Nodes.{at}
use Rattle.pa_cmean.specs.Calls.{gives_nothing}
use Rattle.pa_lower.proofs.Forms.{outside, behind_gives, here_gives, nowhere_gives, behind_below}
use Rattle.pa_lower.proofs.source.Source.gives_nothing.Goals as goal

pub parameters-preserved : goal.parameters-preserved
parameters-preserved c =
    let m = at c.args.self.now.types.now.nodes in
    let is = c.node.ensures.is m (record { by = λ i k. refl }) in
    sym (ap gives_nothing is ∙ behind_gives m c.node.result c.in-Behind.others (sym c.end_of.ensures ∙ c.in-Behind.is)) ∙ c.parameters.invariant

pub parameters-smaller : goal.parameters-smaller
parameters-smaller c = behind_below c.node.result c.parameters.rest c.in-Behind.others c.node.ensures.below (sym c.end_of.ensures ∙ c.in-Behind.is)

pub returns-in-Gives : goal.returns-in-Gives
returns-in-Gives c =
    let m = at c.args.self.now.types.now.nodes in
    let is = c.node.ensures.is m (record { by = λ i k. refl }) in
    c.is_void.ensures ∙ sym (ap gives_nothing is ∙ here_gives m c.node.result c.in-Gives.of (sym c.end_of.ensures ∙ c.in-Gives.is)) ∙ c.parameters.invariant

pub returns-in-Nowhere : goal.returns-in-Nowhere
returns-in-Nowhere c =
    let m = at c.args.self.now.types.now.nodes in
    let is = c.node.ensures.is m (record { by = λ i k. refl }) in
    sym (ap gives_nothing is ∙ nowhere_gives m c.node.result (sym c.end_of.ensures ∙ c.in-Nowhere.is)) ∙ c.parameters.invariant

pub returns : goal.returns
returns c =
    let nodes = c.args.self.now.types.now.nodes in
    sym (ap gives_nothing (outside nodes c.parameters.rest (rw (sym c.len.ensures) c.parameters-test.false))) ∙ c.parameters.invariant
