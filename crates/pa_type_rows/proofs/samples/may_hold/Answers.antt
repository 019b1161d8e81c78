use Rattle.std.proofs.Common.{sym, ◌∙◌, subst}
use Rattle.pa_ctype.specs.declared.node.Node.TheVariants as variant
use Rattle.pa_ctype.specs.Types.{array_of}
use Rattle.pa_ctype.specs.Layouts.{table_of}
use Rattle.pa_ctype.specs.Bounds.{HoldsComplete}
use Rattle.pa_ctype.proofs.Results.{complete_is}
use Rattle.pa_type_rows.proofs.samples.may_hold.Goals as goal

pub returns-in-Some : goal.returns-in-Some
returns-in-Some c e =
    subst (λ count. HoldsComplete c.args.types.now (variant.Array c.args.of count)) (sym c.in-Some.is)
    (λ names m fits.
    complete_is (table_of names m c.args.types.now.structs) (array_of (m c.args.of) c.in-Some.count) c.array_layout.result (c.array_layout.ensures.answer names m fits) (sym c.is_some.ensures ∙ e))

pub returns-in-None : goal.returns-in-None
returns-in-None c e =
    subst (λ count. HoldsComplete c.args.types.now (variant.Array c.args.of count)) (sym c.in-None.is)
    (λ names m fits. complete_is (table_of names m c.args.types.now.structs) (m c.args.of) c.layout_of.result (c.layout_of.ensures.answer names m fits) (sym c.is_some-in-None.ensures ∙ e))
