use Rattle.std.proofs.Common.{ap}
use Rattle.pa_ctype.proofs.TypeLaws.{same_number}
use Rattle.pa_ctype.proofs.types.Types.is_same.Goals as goal

pub returns-clause-value : goal.returns-clause-value
returns-clause-value c = same_number _ _ _ c.self.invariant.table (ap (λ t. t.nodes) c.self.view_is) c.args.a c.args.b c.requires.left c.requires.right
