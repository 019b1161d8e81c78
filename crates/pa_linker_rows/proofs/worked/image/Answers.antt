use Rattle.std.proofs.Common.{◌∙◌, List, sym, subst}
use Rattle.pa_object.specs.declared.object.Object.{Object}
use Rattle.pa_object.specs.Linkable.{Linkable}
use Rattle.pa_linker_rows.proofs.Linkability.{linkable}
use Rattle.pa_linker_rows.proofs.worked.image.Goals as goal

pub link-requires : goal.link-requires
link-requires c = subst (λ (os : List Object). Linkable os) (sym (c.as_slice.ensures ∙ c.in_ok-objects.ensures)) linkable
