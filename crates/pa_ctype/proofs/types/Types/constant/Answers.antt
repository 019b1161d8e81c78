use Rattle.std.proofs.Common.{subst, length}
use Rattle.std.specs.Map.{keys_of}
use Rattle.indexmap.specs.IndexMap.{keys}
use Rattle.pa_ctype.specs.Nodes.{Grown, Inherits}
use Rattle.pa_ctype.specs.Bounds.{is_formed_by}
use Rattle.pa_ctype.specs.Layouts.{layout_by}
use Rattle.pa_ctype.specs.Kept.{kept_layout}
use Rattle.pa_ctype.proofs.Forms.{inherited}
use Rattle.pa_ctype.proofs.KeptGrowth.{types_grown}
use Rattle.pa_ctype.proofs.types.Types.constant.Goals as goal

pub invariant_of-self-2 : goal.invariant_of-self-2
invariant_of-self-2 c =
    types_grown _ _ _ _ c.self.inside.bodies c.self.inside.names c.self.invariant c.put_constant.ensures.table
    (subst (λ es. Grown (keys_of es) (keys c.put_constant.new.nodes)) c.in_ok-reserve.ensures.entries c.put_constant.ensures.grown)
    (subst (λ es. Inherits (keys_of es) (keys c.put_constant.new.nodes)) c.in_ok-reserve.ensures.entries c.put_constant.ensures.each
    (is_formed_by (length c.self.inside.bodies) (layout_by (kept_layout c.self.inside.bodies))) (inherited (length c.self.inside.bodies) (kept_layout c.self.inside.bodies)) c.self.invariant.formed)
