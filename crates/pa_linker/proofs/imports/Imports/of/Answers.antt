use Rattle.std.proofs.Common.{◌≡◌, ◌∙◌, List, [], ◌∷◌, length, filter, refl, sym, arith}
use Rattle.pa_object.specs.declared.object.Object.{Object}
use Rattle.pa_object.specs.Linkable.{Text}
use Rattle.pa_linker.specs.Imports.{first_uses, is_runtime, used_by_refs, used_by_slots}
use Rattle.pa_linker.proofs.Uses.{runtime_uses}
use Rattle.pa_linker.proofs.imports.Imports.of.Goals as goal

none_left : (objects : List Object) (seen : List Text) → length objects ≡ 0 → first_uses seen (filter is_runtime (used_by_slots objects)) ≡ seen
none_left [] seen e = refl
none_left (o ∷ objects) seen e = absurd (omega arith)

pub returns-clause-names : goal.returns-clause-names
returns-clause-names c =
    sym (none_left c.slots.rest.now c.slots.imports.names c.in_default-split_first.ensures.cases) ∙ c.slots.invariant.names
    ∙ sym (runtime_uses [] (used_by_refs c.args.objects.now) (used_by_slots c.args.objects.now))
