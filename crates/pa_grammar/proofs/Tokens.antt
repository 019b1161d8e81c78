-- Equal numbers are of equal punctuators and keywords.
use Rattle.std.proofs.Common.{◌≡◌, true, List, [], ◌∷◌, Some, refl, sym, ◌∙◌, ap, slice_get}
use Rattle.std.proofs.lemmas.Bool.{eqb-true, eq-eqb}
use Rattle.pa_lex.specs.declared.token.Kind.{Kind}
use Rattle.pa_lex.specs.declared.token.Kind.TheVariants as kind
use Rattle.pa_lex.specs.declared.token.Keyword.{Keyword}
use Rattle.pa_lex.specs.declared.token.Keyword.TheVariants as w
use Rattle.pa_lex.specs.declared.token.Punct.{Punct}
use Rattle.pa_lex.specs.declared.token.Punct.TheVariants as p
use Rattle.pa_grammar.specs.Tokens.{mark_number, word_number, same_mark, same_word, is_mark, is_word}

abbrev marks : List Punct
marks = p.LeftBracket ∷ p.RightBracket ∷ p.LeftParenthesis ∷ p.RightParenthesis ∷ p.LeftBrace ∷ p.RightBrace ∷ p.Dot ∷ p.Arrow ∷ p.Increment ∷ p.Decrement ∷ p.Ampersand ∷ p.Star ∷ p.Plus ∷ p.Minus ∷ p.Tilde ∷ p.Exclamation ∷ p.Slash ∷ p.Percent ∷ p.ShiftLeft ∷ p.ShiftRight ∷ p.Less ∷ p.Greater ∷ p.LessEqual ∷ p.GreaterEqual ∷ p.Equal ∷ p.NotEqual ∷ p.Caret ∷ p.Bar ∷ p.LogicalAnd ∷ p.LogicalOr ∷ p.Question ∷ p.Colon ∷ p.Semicolon ∷ p.Ellipsis ∷ p.Assign ∷ p.MultiplyAssign ∷ p.DivideAssign ∷ p.RemainderAssign ∷ p.AddAssign ∷ p.SubtractAssign ∷ p.ShiftLeftAssign ∷ p.ShiftRightAssign ∷ p.AndAssign ∷ p.XorAssign ∷ p.OrAssign ∷ p.Comma ∷ []

abbrev words : List Keyword
words = w.Auto ∷ w.Break ∷ w.Case ∷ w.Char ∷ w.Const ∷ w.Continue ∷ w.Default ∷ w.Do ∷ w.Double ∷ w.Else ∷ w.Enum ∷ w.Extern ∷ w.Float ∷ w.For ∷ w.Goto ∷ w.If ∷ w.Inline ∷ w.Int ∷ w.Long ∷ w.Register ∷ w.Restrict ∷ w.Return ∷ w.Short ∷ w.Signed ∷ w.Sizeof ∷ w.Static ∷ w.Struct ∷ w.Switch ∷ w.Typedef ∷ w.Union ∷ w.Unsigned ∷ w.Void ∷ w.Volatile ∷ w.While ∷ w.Alignas ∷ w.Alignof ∷ w.Atomic ∷ w.Bool ∷ w.Complex ∷ w.Generic ∷ w.Imaginary ∷ w.Noreturn ∷ w.StaticAssert ∷ w.ThreadLocal ∷ w.Ptrauth ∷ []

mark_back : (x : Punct) → slice_get marks (mark_number x) ≡ Some x
mark_back p.LeftBracket = refl
mark_back p.RightBracket = refl
mark_back p.LeftParenthesis = refl
mark_back p.RightParenthesis = refl
mark_back p.LeftBrace = refl
mark_back p.RightBrace = refl
mark_back p.Dot = refl
mark_back p.Arrow = refl
mark_back p.Increment = refl
mark_back p.Decrement = refl
mark_back p.Ampersand = refl
mark_back p.Star = refl
mark_back p.Plus = refl
mark_back p.Minus = refl
mark_back p.Tilde = refl
mark_back p.Exclamation = refl
mark_back p.Slash = refl
mark_back p.Percent = refl
mark_back p.ShiftLeft = refl
mark_back p.ShiftRight = refl
mark_back p.Less = refl
mark_back p.Greater = refl
mark_back p.LessEqual = refl
mark_back p.GreaterEqual = refl
mark_back p.Equal = refl
mark_back p.NotEqual = refl
mark_back p.Caret = refl
mark_back p.Bar = refl
mark_back p.LogicalAnd = refl
mark_back p.LogicalOr = refl
mark_back p.Question = refl
mark_back p.Colon = refl
mark_back p.Semicolon = refl
mark_back p.Ellipsis = refl
mark_back p.Assign = refl
mark_back p.MultiplyAssign = refl
mark_back p.DivideAssign = refl
mark_back p.RemainderAssign = refl
mark_back p.AddAssign = refl
mark_back p.SubtractAssign = refl
mark_back p.ShiftLeftAssign = refl
mark_back p.ShiftRightAssign = refl
mark_back p.AndAssign = refl
mark_back p.XorAssign = refl
mark_back p.OrAssign = refl
mark_back p.Comma = refl

word_back : (x : Keyword) → slice_get words (word_number x) ≡ Some x
word_back w.Auto = refl
word_back w.Break = refl
word_back w.Case = refl
word_back w.Char = refl
word_back w.Const = refl
word_back w.Continue = refl
word_back w.Default = refl
word_back w.Do = refl
word_back w.Double = refl
word_back w.Else = refl
word_back w.Enum = refl
word_back w.Extern = refl
word_back w.Float = refl
word_back w.For = refl
word_back w.Goto = refl
word_back w.If = refl
word_back w.Inline = refl
word_back w.Int = refl
word_back w.Long = refl
word_back w.Register = refl
word_back w.Restrict = refl
word_back w.Return = refl
word_back w.Short = refl
word_back w.Signed = refl
word_back w.Sizeof = refl
word_back w.Static = refl
word_back w.Struct = refl
word_back w.Switch = refl
word_back w.Typedef = refl
word_back w.Union = refl
word_back w.Unsigned = refl
word_back w.Void = refl
word_back w.Volatile = refl
word_back w.While = refl
word_back w.Alignas = refl
word_back w.Alignof = refl
word_back w.Atomic = refl
word_back w.Bool = refl
word_back w.Complex = refl
word_back w.Generic = refl
word_back w.Imaginary = refl
word_back w.Noreturn = refl
word_back w.StaticAssert = refl
word_back w.ThreadLocal = refl
word_back w.Ptrauth = refl

pub same_mark-true : (x y : Punct) → same_mark x y ≡ true → x ≡ y
same_mark-true x y e = let h : Some x ≡ Some y = sym (mark_back x) ∙ ap (slice_get marks) (eqb-true (mark_number x) (mark_number y) e) ∙ mark_back y in cc

pub same_word-true : (x y : Keyword) → same_word x y ≡ true → x ≡ y
same_word-true x y e = let h : Some x ≡ Some y = sym (word_back x) ∙ ap (slice_get words) (eqb-true (word_number x) (word_number y) e) ∙ word_back y in cc

pub same_mark-self : (x : Punct) → same_mark x x ≡ true
same_mark-self x = eq-eqb (mark_number x) (mark_number x) refl

pub same_word-self : (x : Keyword) → same_word x x ≡ true
same_word-self x = eq-eqb (word_number x) (word_number x) refl

pub is_mark-true : (x : Punct) (k : Kind) → is_mark x k ≡ true → k ≡ kind.Punct x
is_mark-true x (kind.Punct y) e = ap kind.Punct (same_mark-true y x e)
is_mark-true x _ e = cc

pub is_word-true : (x : Keyword) (k : Kind) → is_word x k ≡ true → k ≡ kind.Keyword x
is_word-true x (kind.Keyword y) e = ap kind.Keyword (same_word-true y x e)
is_word-true x _ e = cc
