use Rattle.std.proofs.Common.{sym, subst}
use Rattle.indexmap.specs.IndexMap.{keys, values}
use Rattle.pa_ctype.specs.Kept.{AreTypes}
use Rattle.pa_ctype.proofs.KeptGrowth.{types_push}
use Rattle.pa_ctype.proofs.types.Types.declare.Goals as goal

pub invariant_of-self-2 : goal.invariant_of-self-2
invariant_of-self-2 c =
    subst (λ bodies. AreTypes (keys c.self.inside.nodes) (values c.self.inside.nodes) bodies c.self.inside.names) (sym c.in_ok-push.ensures.ok)
    (types_push _ _ c.self.inside.bodies c.self.inside.names c.self.invariant)
