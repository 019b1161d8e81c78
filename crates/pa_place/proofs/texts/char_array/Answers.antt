use Rattle.std.proofs.Common.{◌∙◌, ap, not}
use Rattle.pa_ctype.specs.Layouts.{table_of}
use Rattle.pa_ctype.specs.Types.{array_of}
use Rattle.pa_ctype.proofs.Results.{complete_is}
use Rattle.pa_place.proofs.texts.char_array.Goals as goal

pub put-requires-clause-complete : goal.put-requires-clause-complete
put-requires-clause-complete c names m fits =
    complete_is (table_of names m c.integer.new.types.structs) (array_of (m c.in_ok-of.of) c.args.count) c.array_layout.result
    (c.array_layout.ensures.answer names m fits) (c.is_none.ensures ∙ ap not c.if-is_none.false)
