use Rattle.pa_mem.proofs.Found.{first-None, first-Some}
use Rattle.pa_mem.proofs.space.Space.index.Goals as goal

pub returns-in_default-clause-none : goal.returns-in_default-clause-none
returns-in_default-clause-none c = first-None c.args.rights c.args.at c.args.count c.args.self.now c.first.result c.first.ensures

pub returns-in_default-clause-some : goal.returns-in_default-clause-some
returns-in_default-clause-some c = first-Some c.args.rights c.args.at c.args.count c.args.self.now c.first.result c.first.ensures
