-- The first token of a tree.
use Rattle.std.proofs.Common.{◌≡◌, ℕ, List, [], ◌∷◌, Option, Some, None, Bool, true, false, not, ◌||◌, refl}
use Rattle.pa_lex.specs.declared.token.Kind.{Kind}
use Rattle.pa_lex.specs.declared.token.Kind.TheVariants as kind
use Rattle.pa_lex.specs.declared.token.Keyword.TheVariants as w
use Rattle.pa_lex.specs.declared.token.Punct.{Punct}
use Rattle.pa_lex.specs.declared.token.Punct.TheVariants as p
use Rattle.pa_lex.specs.declared.token.Token.{Token}
use Rattle.pa_tree.specs.declared.operator.PrefixOperator.{PrefixOperator}
use Rattle.pa_tree.specs.declared.operator.PrefixOperator.TheVariants as prefix
use Rattle.pa_tree.specs.declared.operator.IntegerWord.{IntegerWord}
use Rattle.pa_tree.specs.declared.operator.IntegerWord.TheVariants as word
use Rattle.pa_tree.specs.Cursors.{Cursor, head}
use Rattle.pa_tree.specs.Operators.{left_level, prefix_sign, prefix_of, word_of}
use Rattle.pa_tree.specs.Exprs.{ExprTree, Identifier, Integer, Character, Text, Paren, Index, Call, Dot, Arrow, Postfix, Prefix, SizeofExpr, SizeofType, Cast, Binary, Conditional, TypeNameTree, OfTypeName, SpecsTree, OfSpecs, QualifierTree, Const, Ptrauth, BaseTree, Void, Boolean, Words, TypedefName, StructTag, StructBody, EnumTag, EnumBody, QualifierTrees, NoQualifiers, ConsQualifier}
use Rattle.pa_tree.specs.Spells.{is_type, ExprSpells, TypeNameSpells, SpecsSpell, QualifierSpells, QualifiersSpell, BaseSpells}
use Rattle.pa_grammar.specs.Tokens.{same_mark, is_mark}
use Rattle.pa_grammar.specs.Parser.{sees}
use Rattle.pa_grammar.specs.Reading.{begins_type_word, begins_type_by, begins_type, begins_expr_by, begins_qualifier, is_some}
use Rattle.pa_grammar.proofs.Tokens.{same_word-true, is_mark-true}

pub prefix_no_parenthesis : (op : PrefixOperator) → same_mark (prefix_sign op) p.LeftParenthesis ≡ false
prefix_no_parenthesis prefix.Increment = refl
prefix_no_parenthesis prefix.Decrement = refl
prefix_no_parenthesis prefix.Address = refl
prefix_no_parenthesis prefix.Indirection = refl
prefix_no_parenthesis prefix.Plus = refl
prefix_no_parenthesis prefix.Minus = refl
prefix_no_parenthesis prefix.Complement = refl
prefix_no_parenthesis prefix.Not = refl

prefix_begins : (op : PrefixOperator) → (same_mark (prefix_sign op) p.LeftParenthesis || is_some (prefix_of (prefix_sign op))) ≡ true
prefix_begins prefix.Increment = refl
prefix_begins prefix.Decrement = refl
prefix_begins prefix.Address = refl
prefix_begins prefix.Indirection = refl
prefix_begins prefix.Plus = refl
prefix_begins prefix.Minus = refl
prefix_begins prefix.Complement = refl
prefix_begins prefix.Not = refl

word_begins : (x : IntegerWord) → begins_type_word (word_of x) ≡ true
word_begins word.Char = refl
word_begins word.Short = refl
word_begins word.Int = refl
word_begins word.Long = refl
word_begins word.Signed = refl
word_begins word.Unsigned = refl

not_false : (b : Bool) → b ≡ false → not b ≡ true
not_false true e = cc
not_false false e = refl

not_twice : (b : Bool) → not b ≡ true → b ≡ false
not_twice true e = cc
not_twice false e = refl

module _ (names : List ℕ) where
  abbrev pub begins_expr : Option Token → Bool
  begins_expr None = false
  begins_expr (Some t) = begins_expr_by names t.kind

  pub expr_head : (t : ExprTree) (l : ℕ) (c e : Cursor) → ExprSpells names l t c e → begins_expr (head c.ahead) ≡ true
  expr_head (Identifier name a z) l c e h = rw (h.1).ahead (not_false (is_type names name) h.0)
  expr_head (Integer value decimal unsigned long a z) l c e h = rw h.ahead refl
  expr_head (Character value a z) l c e h = rw h.ahead refl
  expr_head (Text bytes a z) l c e (x, xs, b, (m, k, r), lies) = rw (k.takes).ahead refl
  expr_head (Paren inner a z) l c e h = rw ((h.2).takes).ahead refl
  expr_head (Index of at a z) l c e h = expr_head of 15 c h.0 h.3
  expr_head (Call of arguments a z) l c e h = expr_head of 15 c h.0 h.3
  expr_head (Dot of member a z) l c e h = expr_head of 15 c h.0 h.2
  expr_head (Arrow of member a z) l c e h = expr_head of 15 c h.0 h.2
  expr_head (Postfix op of a z) l c e h = expr_head of 15 c h.0 h.1
  expr_head (Prefix op of a z) l c e h = rw ((h.2).takes).ahead (prefix_begins op)
  expr_head (SizeofExpr of a z) l c e h = rw ((h.2).takes).ahead refl
  expr_head (SizeofType of a z) l c e h = rw ((h.4).takes).ahead refl
  expr_head (Cast wanted of a z) l c e h = rw ((h.4).takes).ahead refl
  expr_head (Binary op left right a z) l c e h = expr_head left (left_level op) c h.0 h.3
  expr_head (Conditional test when_true when_false a z) l c e h = expr_head test 3 c h.0 h.5

  expr_no_type : (k : Kind) → begins_expr_by names k ≡ true → begins_type_by names k ≡ false
  expr_no_type (kind.Name n) e = not_twice (is_type names n) e
  expr_no_type (kind.Integer value decimal unsigned long) e = refl
  expr_no_type (kind.Character value) e = refl
  expr_no_type (kind.Text bytes) e = refl
  expr_no_type (kind.Punct x) e = refl
  expr_no_type (kind.Keyword x) e = rw (same_word-true x w.Sizeof e) refl
  expr_no_type (kind.Include x) e = refl

  head_no_type : (h : Option Token) → begins_expr h ≡ true → begins_type names h ≡ false
  head_no_type None e = cc
  head_no_type (Some t) e = expr_no_type t.kind e

  -- no expression begins as a type does
  pub no_type : (t : ExprTree) (l : ℕ) (c e : Cursor) → ExprSpells names l t c e → begins_type names (head c.ahead) ≡ false
  no_type t l c e h = head_no_type (head c.ahead) (expr_head t l c e h)

  expr_no_mark : (x : Punct) (h : Option Token) → (same_mark x p.LeftParenthesis || is_some (prefix_of x)) ≡ false → begins_expr h ≡ true → sees x h ≡ false
  expr_no_mark x None n e = cc
  expr_no_mark x (Some t) n e = by_case (is_mark x t.kind) refl
    where
      by_case : (b : Bool) → is_mark x t.kind ≡ b → is_mark x t.kind ≡ false
      by_case false q = q
      by_case true q = let bad : begins_expr_by names t.kind ≡ false = rw (is_mark-true x t.kind q) n in cc

  -- no expression begins with this mark
  pub not_begun : (x : Punct) → (same_mark x p.LeftParenthesis || is_some (prefix_of x)) ≡ false → (t : ExprTree) (l : ℕ) (c e : Cursor) → ExprSpells names l t c e → sees x (head c.ahead) ≡ false
  not_begun x n t l c e h = expr_no_mark x (head c.ahead) n (expr_head t l c e h)

  pub qualifier_head : (q : QualifierTree) (c e : Cursor) → QualifierSpells names q c e → begins_qualifier (head c.ahead) ≡ true
  qualifier_head (Const a z) c e h = rw h.ahead refl
  qualifier_head (Ptrauth arguments a z) c e h = rw ((h.3).takes).ahead refl

  qualifier_type : (q : QualifierTree) (c e : Cursor) → QualifierSpells names q c e → begins_type names (head c.ahead) ≡ true
  qualifier_type (Const a z) c e h = rw h.ahead refl
  qualifier_type (Ptrauth arguments a z) c e h = rw ((h.3).takes).ahead refl

  base_type : (bodies : Bool) (x : BaseTree) (c e : Cursor) → BaseSpells names bodies x c e → begins_type names (head c.ahead) ≡ true
  base_type bodies (Void a z) c e h = rw h.ahead refl
  base_type bodies (Boolean a z) c e h = rw h.ahead refl
  base_type bodies (Words [] a z) c e h = cc
  base_type bodies (Words (x ∷ xs) a z) c e (l, (m, k, r), lies) = rw (k.takes).ahead (word_begins x)
  base_type bodies (TypedefName name a z) c e h = rw (h.1).ahead h.0
  base_type bodies (StructTag tag a z) c e h = rw ((h.1).takes).ahead refl
  base_type bodies (StructBody tag members a z) c e h = rw ((h.5).takes).ahead refl
  base_type bodies (EnumTag tag a z) c e h = rw ((h.1).takes).ahead refl
  base_type bodies (EnumBody tag enumerators a z) c e h = rw ((h.6).takes).ahead refl

  qualified_type : (qs : QualifierTrees) (bodies : Bool) (x : BaseTree) (c m e : Cursor) → QualifiersSpell names qs c m → BaseSpells names bodies x m e → begins_type names (head c.ahead) ≡ true
  qualified_type NoQualifiers bodies x c m e h b = rw h (base_type bodies x m e b)
  qualified_type (ConsQualifier q qs) bodies x c m e (n, a, h) b = qualifier_type q c n a

  pub specs_type : (bodies : Bool) (s : SpecsTree) (c e : Cursor) → SpecsSpell names bodies s c e → begins_type names (head c.ahead) ≡ true
  specs_type bodies (OfSpecs before base after a z) c e (m, n, q, b, r, lies) = qualified_type before bodies base c m n q b

  pub type_name_type : (t : TypeNameTree) (c e : Cursor) → TypeNameSpells names t c e → begins_type names (head c.ahead) ≡ true
  type_name_type (OfTypeName specs declarator a z) c e h = specs_type false specs c h.0 h.1
