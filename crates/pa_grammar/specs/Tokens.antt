-- Kinds of tokens, as a reader tells them apart.
use Rattle.std.specs.Prelude.{ℕ, Bool, false, ◌==◌}
use Rattle.pa_lex.specs.declared.token.Kind.{Kind}
use Rattle.pa_lex.specs.declared.token.Kind.TheVariants as kind
use Rattle.pa_lex.specs.declared.token.Keyword.{Keyword}
use Rattle.pa_lex.specs.declared.token.Keyword.TheVariants as w
use Rattle.pa_lex.specs.declared.token.Punct.{Punct}
use Rattle.pa_lex.specs.declared.token.Punct.TheVariants as p

-- the punctuators and the keywords by numbers, to tell them apart
abbrev pub mark_number : Punct → ℕ
mark_number p.LeftBracket = 0
mark_number p.RightBracket = 1
mark_number p.LeftParenthesis = 2
mark_number p.RightParenthesis = 3
mark_number p.LeftBrace = 4
mark_number p.RightBrace = 5
mark_number p.Dot = 6
mark_number p.Arrow = 7
mark_number p.Increment = 8
mark_number p.Decrement = 9
mark_number p.Ampersand = 10
mark_number p.Star = 11
mark_number p.Plus = 12
mark_number p.Minus = 13
mark_number p.Tilde = 14
mark_number p.Exclamation = 15
mark_number p.Slash = 16
mark_number p.Percent = 17
mark_number p.ShiftLeft = 18
mark_number p.ShiftRight = 19
mark_number p.Less = 20
mark_number p.Greater = 21
mark_number p.LessEqual = 22
mark_number p.GreaterEqual = 23
mark_number p.Equal = 24
mark_number p.NotEqual = 25
mark_number p.Caret = 26
mark_number p.Bar = 27
mark_number p.LogicalAnd = 28
mark_number p.LogicalOr = 29
mark_number p.Question = 30
mark_number p.Colon = 31
mark_number p.Semicolon = 32
mark_number p.Ellipsis = 33
mark_number p.Assign = 34
mark_number p.MultiplyAssign = 35
mark_number p.DivideAssign = 36
mark_number p.RemainderAssign = 37
mark_number p.AddAssign = 38
mark_number p.SubtractAssign = 39
mark_number p.ShiftLeftAssign = 40
mark_number p.ShiftRightAssign = 41
mark_number p.AndAssign = 42
mark_number p.XorAssign = 43
mark_number p.OrAssign = 44
mark_number p.Comma = 45

abbrev pub word_number : Keyword → ℕ
word_number w.Auto = 0
word_number w.Break = 1
word_number w.Case = 2
word_number w.Char = 3
word_number w.Const = 4
word_number w.Continue = 5
word_number w.Default = 6
word_number w.Do = 7
word_number w.Double = 8
word_number w.Else = 9
word_number w.Enum = 10
word_number w.Extern = 11
word_number w.Float = 12
word_number w.For = 13
word_number w.Goto = 14
word_number w.If = 15
word_number w.Inline = 16
word_number w.Int = 17
word_number w.Long = 18
word_number w.Register = 19
word_number w.Restrict = 20
word_number w.Return = 21
word_number w.Short = 22
word_number w.Signed = 23
word_number w.Sizeof = 24
word_number w.Static = 25
word_number w.Struct = 26
word_number w.Switch = 27
word_number w.Typedef = 28
word_number w.Union = 29
word_number w.Unsigned = 30
word_number w.Void = 31
word_number w.Volatile = 32
word_number w.While = 33
word_number w.Alignas = 34
word_number w.Alignof = 35
word_number w.Atomic = 36
word_number w.Bool = 37
word_number w.Complex = 38
word_number w.Generic = 39
word_number w.Imaginary = 40
word_number w.Noreturn = 41
word_number w.StaticAssert = 42
word_number w.ThreadLocal = 43
word_number w.Ptrauth = 44

abbrev pub same_mark : Punct → Punct → Bool
same_mark x y = mark_number x == mark_number y

abbrev pub same_word : Keyword → Keyword → Bool
same_word x y = word_number x == word_number y

abbrev pub is_mark : Punct → Kind → Bool
is_mark x (kind.Punct y) = same_mark y x
is_mark x _ = false

abbrev pub is_word : Keyword → Kind → Bool
is_word x (kind.Keyword y) = same_word y x
is_word x _ = false
