use Rattle.std.proofs.Common.{sym, subst}
use Rattle.pa_object.specs.Linkable.{Linkable}
use Rattle.pa_select.proofs.Linking.{objects_link}
use Rattle.pa_select.proofs.objects.select.Goals as goal

pub returns-clause-linkable : goal.returns-clause-linkable
returns-clause-linkable c = λ ready. subst Linkable (sym c.in_ok-objects.ensures) (objects_link c.args.lir.now ready c.requires)
