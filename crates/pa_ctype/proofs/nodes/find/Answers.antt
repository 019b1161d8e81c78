use Rattle.std.proofs.Common.{rules, tests}
use Rattle.pa_ctype.specs.contracts.node.NodePartialEq.TheImpl as eq
use Rattle.pa_ctype.proofs.Finding.{found}
use Rattle.pa_ctype.proofs.nodes.find.Goals as goal

pub returns-clause-place : goal.returns-clause-place
returns-clause-place c = found (eq.eq-value).it c.args.node _ c.get_index_of.result c.get_index_of.ensures.index (λ a b h. search (rules, tests)) (λ a. search (rules, tests))
