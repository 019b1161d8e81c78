use Rattle.std.proofs.Common.{Some, refl}
use Rattle.pa_ctype.specs.Layouts.{table_of}
use Rattle.pa_ctype.proofs.Results.{complete_is}
use Rattle.pa_type_rows.proofs.layouts.measures.Goals as goal

pub size-requires-clause-complete : goal.size-requires-clause-complete
size-requires-clause-complete c names m fits =
    complete_is (table_of names m c.args.types.now.structs) (m c.args.number) (Some c.in_ok-layout_of.field-0) (c.in_ok-layout_of.ensures.answer names m fits) refl

pub align-requires-clause-complete : goal.align-requires-clause-complete
align-requires-clause-complete c names m fits =
    complete_is (table_of names m c.args.types.now.structs) (m c.args.number) (Some c.in_ok-layout_of.field-0) (c.in_ok-layout_of.ensures.answer names m fits) refl
