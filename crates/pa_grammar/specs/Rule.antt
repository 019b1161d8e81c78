-- A rule of the grammar as a function follows it: how it is read, and which tree the function's answer stands for.
use Rattle.std.specs.Prelude.{Result}
use Rattle.pa_tree.specs.Cursors.{Cursor}
use Rattle.pa_grammar.specs.declared.rule.ParseError.{ParseError}
use Rattle.pa_grammar.specs.Parser.{Parser}
use Rattle.pa_grammar.specs.Reads.{Reads}

pub record Rule (B A : Type 0) : Type 0 where
  pub view : B → A
  pub read : Parser A

-- From `old` the function gives what the rule reads and stands at `new` behind it, or it breaks the rule there.
abbrev pub Follows : {A B : Type 0} → Rule B A → Cursor → Result B ParseError → Cursor → Type 0
Follows rule old r new = Reads rule.view (rule.read old) r new
