-- Forms of the program as plain data.
use Rattle.std.specs.Prelude.{Option, Some, None, Result, Ok, Err, IfOk}
use Rattle.pa_num.specs.declared.fault.Fault.{Fault}
use Rattle.pa_lex.specs.declared.form.Form.{Form}
use Rattle.pa_lex.specs.declared.form.Form.TheVariants as f
use Rattle.pa_lex.specs.declared.meaning.Meaning.{Meaning}
use Rattle.pa_lex.specs.declared.meaning.Meaning.TheVariants as m
use Rattle.pa_lex.specs.declared.meaning.Spelled.{Spelled}
use Rattle.pa_lex.specs.declared.form.Quote.TheVariants.{Double}
use Rattle.pa_lex.specs.declared.token.Kind.{Kind}
use Rattle.pa_lex.specs.declared.token.LexRule.{LexRule}
use Rattle.pa_lex.specs.Lexes as lexes
use Rattle.pa_lex.specs.Forms as spec
use Rattle.pa_lex.specs.Reading.{IsMeaning}
use Rattle.pa_lex.specs.Texts.{Text}

abbrev pub shown : Form → spec.Form
shown (f.Word text) = spec.Word text.now
shown (f.Number base digits suffix) = spec.Number base digits.now suffix.now
shown (f.Quoted quote body) = spec.Quoted quote body.now
shown (f.Mark punct) = spec.Mark punct
shown (f.Line include) = spec.Line include

abbrev pub shown_option : Option Form → Option spec.Form
shown_option None = None
shown_option (Some form) = Some (shown form)

abbrev pub meaning_of : Meaning → spec.Meaning
meaning_of (m.Name text) = spec.Name text.now
meaning_of (m.Other kind) = spec.Other kind

abbrev pub meant : Option Meaning → Option spec.Meaning
meant None = None
meant (Some meaning) = Some (meaning_of meaning)

abbrev pub other : Option Kind → Option spec.Meaning
other None = None
other (Some kind) = Some (spec.Other kind)

-- what the body of a string literal means, if it means something
abbrev pub MeansText : {E : Type 0} → Text → Result (Option Kind) E → Type 0
MeansText body r = IfOk r (λ kind. IsMeaning (spec.Quoted Double body) (other kind))

abbrev pub spelled_of : Spelled → lexes.Spelled
spelled_of token = record { meaning = meaning_of token.meaning; from = token.from; to = token.to }

abbrev pub taken : Result Spelled (Fault LexRule) → Result lexes.Spelled (Fault LexRule)
taken (Ok token) = Ok (spelled_of token)
taken (Err fault) = Err fault
