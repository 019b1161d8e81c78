use Rattle.std.proofs.Common.{sym, ◌∙◌, refl, arith}
use Rattle.pa_lex.proofs.Meanings.{keyword_none}
use Rattle.pa_lex.proofs.meaning.word_meaning.Goals as goal

pub returns : goal.returns
returns c = (refl, keyword_none c.args.word.now (sym c.keyword_of.ensures ∙ c.in_default.is), omega arith)
