-- What a parser of files answers.
use Rattle.std.specs.Prelude.{◌≡◌, ◌≤◌, ℕ, List, ◌++◌, Result, Ok, Err}
use Rattle.pa_num.specs.declared.fault.Fault.{Fault}
use Rattle.pa_num.specs.declared.fault.Fault.TheVariants.{Refused, Memory}
use Rattle.pa_lex.specs.declared.token.Token.{Token}
use Rattle.pa_grammar.specs.Answers.{most_levels, Asked}
use Rattle.pa_grammar.specs.declared.rule.ParseError.TheVariants.{Broken}
use Rattle.pa_grammar.specs.declared.rule.SynRule.{SynRule}
use Rattle.pa_tree.specs.Cursors.{Cursor, start, head, place}
use Rattle.pa_tree.specs.Stmts.{FileTree}
use Rattle.pa_tree.specs.Files.{Spells}
use Rattle.pa_tree.specs.Heights.{file_height}
use Rattle.pa_file_grammar.specs.Reading.{file}

-- Reading stops at this place by this rule, and no file that the rule speaks of begins with the tokens up to and with the one there.
pub record IsRefused (tokens : List Token) (rule : SynRule) (at : ℕ) : Type 0 where
  pub front : List Token
  pub stop : Cursor
  pub split : tokens ≡ front ++ stop.ahead
  pub at_is : at ≡ place stop
  pub stops : file most_levels (start tokens) ≡ Err (record { rule = Broken rule; at = stop })
  pub none : (x : List Token) (f : FileTree) → head stop.ahead ≡ head x → Spells f (front ++ x) → Asked file_height most_levels rule f → ⊥

-- the tokens are the leaves of this file and of no other, and it is within the depth
pub record IsFile (tokens : List Token) (f : FileTree) : Type 0 where
  pub spells : Spells f tokens
  pub fits : file_height f ≤ most_levels
  pub only : (g : FileTree) → Spells g tokens → g ≡ f

abbrev pub IsAnswer : List Token → Result FileTree (Fault SynRule) → Type 0
IsAnswer tokens (Ok f) = IsFile tokens f
IsAnswer tokens (Err (Refused rule place)) = IsRefused tokens rule place
IsAnswer tokens (Err Memory) = Unit {0}
