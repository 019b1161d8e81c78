-- Operators of the program as those of the definitions.
use Rattle.std.specs.Prelude.{Option, Some, None}
use Rattle.std.specs.Borrow.{Bor}
use Rattle.pa_lex.specs.declared.token.Token.{Token}
use Rattle.pa_pexpr.specs.declared.infix.Infix.{Infix}
use Rattle.pa_pexpr.specs.declared.infix.Infix.TheVariants as shown
use Rattle.pa_grammar.specs.Infixes as spec

abbrev pub infix_shown : Infix → spec.Infix
infix_shown (shown.Between op) = spec.Between op
infix_shown shown.Choice = spec.Choice
infix_shown shown.Indexed = spec.Indexed
infix_shown shown.Called = spec.Called
infix_shown shown.Dotted = spec.Dotted
infix_shown shown.Arrowed = spec.Arrowed
infix_shown (shown.Stepped step) = spec.Stepped step

-- the same of what goes on behind an operand, with its token
abbrev pub next_shown : Option (Infix × Bor Token) → Option (spec.Infix × Token)
next_shown None = None
next_shown (Some q) = Some (infix_shown q.0, (q.1).now)
