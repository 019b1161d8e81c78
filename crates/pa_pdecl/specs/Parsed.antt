-- What `parse` answers, in the types of the program.
use Rattle.std.specs.Prelude.{List, Result, Ok, Err}
use Rattle.pa_num.specs.declared.fault.Fault.{Fault}
use Rattle.pa_lex.specs.declared.token.Token.{Token}
use Rattle.pa_tree.specs.declared.file.File.{File}
use Rattle.pa_tree.specs.Views.{file_tree}
use Rattle.pa_grammar.specs.declared.rule.SynRule.{SynRule}
use Rattle.pa_file_grammar.specs.Answers.{IsAnswer}

abbrev pub IsParsed : List Token → Result File (Fault SynRule) → Type 0
IsParsed tokens (Ok f) = IsAnswer tokens (Ok (file_tree f))
IsParsed tokens (Err e) = IsAnswer tokens (Err e)
