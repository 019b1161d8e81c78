use Rattle.pa_shapes.proofs.Shapes.{exact_type}
use Rattle.pa_shapes.proofs.expr_type.Goals as goal

pub returns-clause-is : goal.returns-clause-is
returns-clause-is c = exact_type c.args.types.now (record { number = c.args.number; shape = c.shape.result }) c.requires c.shape.ensures
