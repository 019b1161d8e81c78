use Rattle.std.proofs.Common.{sym, ◌∙◌, ap}
use Rattle.pa_grammar.specs.Answers.{most_levels}
use Rattle.pa_file_grammar.specs.Reading.{file}
use Rattle.pa_file_grammar.proofs.Answers.{read_file}
use Rattle.pa_pdecl.proofs.parser.parse.Goals as goal

pub returns-in-Ok : goal.returns-in-Ok
returns-in-Ok c = read_file c.args.tokens.now _ c.file_items.new.r (ap (file most_levels) (sym c.new-r.ensures) ∙ c.in-Ok.ensures)
