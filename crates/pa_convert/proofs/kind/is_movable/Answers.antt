use Rattle.std.proofs.Common.{ap, ◌∙◌}
use Rattle.pa_ctype.specs.Layouts.{table_of}
use Rattle.pa_convert.specs.Conversions.{and_is, is_complete}
use Rattle.pa_convert.proofs.kind.is_movable.Goals as goal

pub returns-in-Some : goal.returns-in-Some
returns-in-Some c names m fits =
    let table = table_of names m c.args.types.now.structs in
    c.is_complete.ensures names m fits ∙ ap (and_is (is_complete table)) (c.in-Some.ensures.is m fits)
