-- What stands behind `struct` or `enum`.
use Rattle.std.specs.Prelude.{ℕ, List, [], ◌∷◌, Option}
use Rattle.pa_lex.specs.declared.token.Punct.TheVariants as p
use Rattle.pa_tree.specs.declared.expr.Tag.{Tag}
use Rattle.pa_tree.specs.Exprs.{BaseTree, MemberTree, EnumeratorTree, StructTag, StructBody, EnumTag, EnumBody}
use Rattle.pa_tree.specs.Views.{members_of, enumerators_of}
use Rattle.pa_pspec.specs.declared.specifier.Tagged.{Tagged}
use Rattle.pa_pspec.specs.declared.specifier.Tagged.TheVariants as tagged
use Rattle.pa_grammar.specs.Parser.{Parser, Next, ◌>>=◌, ◌>>◌, pure, mark, ended, many, iterate}
use Rattle.pa_grammar.specs.Reading.{Parsers, parsers, struct_body, enum_body, member, not_brace, enumerator, enumerator_step}

-- the body of a struct or of an enumeration
abbrev pub body_of : List ℕ → ℕ → Parsers → Parsers → Tagged → ℕ → Option Tag → Parser BaseTree
body_of names d here below tagged.Struct = struct_body names d here below
body_of names d here below tagged.Enum = enum_body names d here below

-- a tag alone
abbrev pub alone_of : Tagged → ℕ → Tag → ℕ → BaseTree
alone_of tagged.Struct from tag to = StructTag tag from to
alone_of tagged.Enum from tag to = EnumTag tag from to

-- Behind the tag, where a body has room: a body in a depth of d, over parts in one of k.
module _ (names : List ℕ) (d k : ℕ) where
  abbrev pub member_inside : Parser MemberTree
  member_inside = member names d (parsers names d) (parsers names k)

  abbrev pub struct_inside : ℕ → Option Tag → Parser BaseTree
  struct_inside from tag = mark p.LeftBrace >> member_inside >>= (λ m. many not_brace member_inside (m ∷ []) >>= (λ ms. mark p.RightBrace >> ended >>= (λ z. pure (StructBody tag (members_of ms) from z))))

  abbrev pub enumerator_inside : Parser EnumeratorTree
  enumerator_inside = enumerator names d (parsers names d) (parsers names k)

  abbrev pub step_inside : List EnumeratorTree → Parser (Next (List EnumeratorTree) (List EnumeratorTree))
  step_inside = enumerator_step names d (parsers names d) (parsers names k)

  abbrev pub enum_inside : ℕ → Option Tag → Parser BaseTree
  enum_inside from tag = mark p.LeftBrace >> enumerator_inside >>= (λ x. iterate step_inside (x ∷ []) >>= (λ xs. mark p.RightBrace >> ended >>= (λ z. pure (EnumBody tag (enumerators_of xs) from z))))
