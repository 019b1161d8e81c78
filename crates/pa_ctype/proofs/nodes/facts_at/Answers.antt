use Rattle.std.proofs.Common.{sym}
use Rattle.pa_ctype.proofs.NodeTable.{facts_of}
use Rattle.pa_ctype.proofs.nodes.facts_at.Goals as goal

pub returns : goal.returns
returns c = facts_of _ c.args.number _ _ (sym c.in-Some.ensures.entry) c.requires.table
