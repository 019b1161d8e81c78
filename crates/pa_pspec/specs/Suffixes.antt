-- The array and function parts behind a declarator, and the declarator of no token.
use Rattle.std.specs.Prelude.{ℕ, List, Bool, Option, Some, None, if◌then◌else◌}
use Rattle.std.specs.Borrow.{Bor}
use Rattle.pa_lex.specs.declared.token.Kind.{Kind}
use Rattle.pa_lex.specs.declared.token.Punct.TheVariants as p
use Rattle.pa_lex.specs.declared.token.Token.{Token}
use Rattle.pa_tree.specs.Exprs.{DeclaratorTree, Absent}
use Rattle.pa_tree.specs.Heights.{declarator_height}
use Rattle.pa_pspec.specs.declared.declarators.Suffix.{Suffix}
use Rattle.pa_pspec.specs.declared.declarators.Suffix.TheVariants as part
use Rattle.pa_grammar.specs.declared.rule.Naming.{Naming}
use Rattle.pa_grammar.specs.declared.rule.SynRule.TheVariants.{S1}
use Rattle.pa_grammar.specs.Parser.{Parser, ◌>>◌, pure, refuse, after, needs}
use Rattle.pa_grammar.specs.Reading.{Parsers, array, function, takes_none}
use Rattle.pa_grammar.specs.Tokens.{is_mark}

-- a declarator without a name, where one may stand
abbrev pub absent_at : Naming → ℕ → Parser DeclaratorTree
absent_at name end = if takes_none name then pure (Absent end end) else refuse S1

-- the part that a token begins
abbrev pub suffix_in : Kind → Option Suffix
suffix_in k = if is_mark p.LeftBracket k then Some part.Array else (if is_mark p.LeftParenthesis k then Some part.Function else None)

abbrev pub with_token : Token → Option Suffix → Option (Suffix × Token)
with_token t None = None
with_token t (Some s) = Some (s, t)

abbrev pub suffix_ahead : Option Token → Option (Suffix × Token)
suffix_ahead None = None
suffix_ahead (Some t) = with_token t (suffix_in t.kind)

abbrev pub suffix_shown : Option (Suffix × Bor Token) → Option (Suffix × Token)
suffix_shown None = None
suffix_shown (Some q) = Some (q.0, (q.1).now)

abbrev pub part_of : List ℕ → ℕ → Parsers → Suffix → ℕ → DeclaratorTree → Parser DeclaratorTree
part_of names d below part.Array = array names d below
part_of names d below part.Function = function names d below

-- at the token of a part
abbrev pub suffix_of : List ℕ → ℕ → Parsers → Suffix → ℕ → DeclaratorTree → Token → Parser DeclaratorTree
suffix_of names d below s from of t = needs (declarator_height of) d >> after t >> part_of names d below s from of
