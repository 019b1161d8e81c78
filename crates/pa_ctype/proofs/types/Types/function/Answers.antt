use Rattle.std.proofs.Common.{◌≡◌, ◌<◌, ap, sym, ◌∙◌, subst, length}
use Rattle.std.specs.Map.{keys_of}
use Rattle.indexmap.specs.IndexMap.{keys}
use Rattle.pa_ctype.specs.Nodes.{AllBelow, Grown, Inherits}
use Rattle.pa_ctype.proofs.Functions.{function_fits}
use Rattle.pa_ctype.specs.Bounds.{is_formed_by}
use Rattle.pa_ctype.specs.Layouts.{layout_by}
use Rattle.pa_ctype.specs.Kept.{kept_layout}
use Rattle.pa_ctype.proofs.Forms.{inherited}
use Rattle.pa_ctype.proofs.KeptGrowth.{types_grown}
use Rattle.pa_ctype.proofs.types.Types.function.Goals as goal

pub invariant_of-self-2 : goal.invariant_of-self-2
invariant_of-self-2 c =
    types_grown _ _ _ _ c.self.inside.bodies c.self.inside.names c.self.invariant c.put_function.ensures.table
    (subst (λ es. Grown (keys_of es) (keys c.put_function.new.nodes)) c.in_ok-reserve.ensures.entries c.put_function.ensures.grown)
    (subst (λ es. Inherits (keys_of es) (keys c.put_function.new.nodes)) c.in_ok-reserve.ensures.entries c.put_function.ensures.each
    (is_formed_by (length c.self.inside.bodies) (layout_by (kept_layout c.self.inside.bodies))) (inherited (length c.self.inside.bodies) (kept_layout c.self.inside.bodies)) c.self.invariant.formed)

pub returns-clause-is : goal.returns-clause-is
returns-clause-is c m fits =
    let same : keys c.reserve.new.nodes ≡ c.args.self.now.nodes = ap keys_of c.in_ok-reserve.ensures.entries ∙ ap (λ t. t.nodes) c.self.view_is in
    function_fits m (keys c.reserve.new.nodes) (keys c.put_function.new.nodes) c.put_function.ensures.grown fits c.args.params.now
    (subst (λ ns. AllBelow (length ns) c.args.params.now) (sym same) c.requires.params) c.args.result_type (subst (λ ns. c.args.result_type < length ns) (sym same) c.requires.result)
    c.put_function.result c.put_function.ensures.known c.put_function.ensures.is
