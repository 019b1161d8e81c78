use Rattle.std.proofs.Common.{sym, ◌∙◌, ap, subst}
use Rattle.pa_cmean.specs.Operations as spec
use Rattle.pa_convert.specs.Forms.{HasForm}
use Rattle.pa_store.specs.Views.{value_tree}
use Rattle.pa_store.proofs.operations.converted.Goals as goal

pub returns-in-Integer : goal.returns-in-Integer
returns-in-Integer c m of h names =
    let is = subst (λ form. HasForm m form of) c.in-Integer.is h in
    c.converted_integer.ensures names ∙ sym (ap (λ t. spec.converted t (value_tree names c.args.value)) is)

pub returns-in-Pointer : goal.returns-in-Pointer
returns-in-Pointer c m of h names =
    let is = subst (λ form. HasForm m form of) c.in-Pointer.is h in
    c.converted_pointer.ensures names (m c.in-Pointer.to) c.in-Pointer.schema ∙ sym (ap (λ t. spec.converted t (value_tree names c.args.value)) is)
