use Rattle.std.proofs.Common.{subst, length}
use Rattle.std.specs.Map.{keys_of}
use Rattle.indexmap.specs.IndexMap.{keys}
use Rattle.pa_ctype.specs.Nodes.{at, tree, Grown, InheritsWith}
use Rattle.pa_ctype.specs.Bounds.{is_formed_by}
use Rattle.pa_ctype.specs.Layouts.{layout_by}
use Rattle.pa_ctype.specs.Kept.{kept_layout}
use Rattle.pa_ctype.proofs.Answering.{put_formed}
use Rattle.pa_ctype.proofs.Forms.{inherited}
use Rattle.pa_ctype.proofs.KeptGrowth.{types_grown}
use Rattle.pa_ctype.proofs.types.Types.put.Goals as goal

pub invariant_of-self-2 : goal.invariant_of-self-2
invariant_of-self-2 c =
    types_grown _ _ _ _ c.self.inside.bodies c.self.inside.names c.self.invariant c.put.ensures.table
    (subst (λ es. Grown (keys_of es) (keys c.put.new.nodes)) c.in_ok-reserve.ensures.entries c.put.ensures.grown)
    (subst (λ es. InheritsWith (tree (at (keys_of es)) c.args.node) (keys_of es) (keys c.put.new.nodes)) c.in_ok-reserve.ensures.entries c.put.ensures.each
    (is_formed_by (length c.self.inside.bodies) (layout_by (kept_layout c.self.inside.bodies))) (inherited (length c.self.inside.bodies) (kept_layout c.self.inside.bodies)) c.self.invariant.formed
    (put_formed _ _ c.self.inside.bodies _ c.self.invariant _ c.self.view_is c.args.node (c.requires.below, c.requires.id, c.requires.complete)))
