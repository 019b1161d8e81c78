use Rattle.std.proofs.Common.{sym, ◌∙◌, refl}
use Rattle.pa_lex.proofs.Bodies.{character_answer, character_missing}
use Rattle.pa_lex.proofs.literal.character_of.Goals as goal

pub returns-in_err-byte : goal.returns-in_err-byte
returns-in_err-byte c = character_missing c.args.body.now c.from_residual.result (sym c.character.ensures ∙ c.in_err-byte.was) c.from_residual.ensures

pub returns : goal.returns
returns c = character_answer c.args.body.now c.in_ok-byte.byte c.in_ok-byte.count _ c.then_some.result (sym c.character.ensures ∙ c.in_ok-byte.was) refl c.then_some.ensures
