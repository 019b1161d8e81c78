-- What a function that reads ensures: the reading's outcome, unless memory fails.
use Rattle.std.specs.Prelude.{◌≡◌, ◌≢◌, Result, Ok, Err}
use Rattle.pa_grammar.specs.declared.rule.ParseError.{ParseError}
use Rattle.pa_grammar.specs.declared.rule.ParseError.TheVariants.{Memory}
use Rattle.pa_tree.specs.Cursors.{Cursor}
use Rattle.pa_grammar.specs.Parser.{Outcome}

abbrev pub Reads : {A B : Type 0} → (B → A) → Outcome A → Result B ParseError → Cursor → Type 0
Reads view outcome (Ok b) new = outcome ≡ Ok (view b, new)
Reads view outcome (Err e) new = e ≢ Memory → outcome ≡ Err (record { rule = e; at = new })
