use Rattle.std.proofs.Common.{◌≡◌, Bool, ◌++◌, codes, ap, ◌∙◌, arith}
use Rattle.std.specs.Prelude.{decimal, if◌then◌else◌}
use Rattle.std.proofs.lemmas.Grind.{common_steps}
use Rattle.pa_link.specs.Names.{linkage_name}
use Rattle.pa_link.proofs.names.linkage_names.Goals as goal

pub names-preserved : goal.names-preserved
names-preserved c =
    let text = c.as_slice-text.result.now in
    let named = λ (b : Bool). if b then text ++ (codes "." ++ decimal c.args.file) else text in
    let step : c.in_ok-linkage_name.field-0 ≡ linkage_name c.args.file c.args.unit.now.names c.args.unit.now.declared text =
    c.in_ok-linkage_name.ensures ∙ ap named c.contains.ensures ∙ ap named (c.requires text) in
    grind (arith, common_steps, step, c.names.invariant)
