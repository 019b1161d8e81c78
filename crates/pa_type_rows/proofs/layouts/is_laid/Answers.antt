use Rattle.std.proofs.Common.{◌≡◌, false, IfSome, sym, ◌∙◌, subst}
use Rattle.pa_ctype.specs.Types.{Of, Struct}
use Rattle.pa_ctype.specs.Layouts.{table_of}
use Rattle.pa_ctype.specs.Tables.{ForTypes}
use Rattle.pa_ctype.proofs.Results.{struct_is_laid}
use Rattle.pa_type_rows.proofs.layouts.is_laid.Goals as goal

pub returns-clause-laid : goal.returns-clause-laid
returns-clause-laid c e names m fits =
    let is = subst (λ o. IfSome o (λ n. ForTypes c.structure.new.types (λ m. m n ≡ Of false (Struct c.args.id)))) c.in-Some.is c.in_ok-number.ensures.is in
    struct_is_laid (table_of names m c.structure.new.types.structs) (m c.in-Some.number) c.args.id c.layout_of.result (is m fits) (c.layout_of.ensures.answer names m fits) (sym c.is_some.ensures ∙ e)
