-- An item of a list behind its comma.
use Rattle.pa_lex.specs.declared.token.Punct.TheVariants as p
use Rattle.pa_grammar.specs.Parser.{Parser, ◌>>◌, mark}

abbrev pub behind_comma : {A : Type 0} → Parser A → Parser A
behind_comma item = mark p.Comma >> item
