-- How keywords, punctuators and include lines are spelled.
use Rattle.std.specs.Prelude.{ℕ, ◌==◌, if◌then◌else◌, List, [], ◌∷◌, codes}
use Rattle.pa_lex.specs.declared.token.Keyword.{Keyword}
use Rattle.pa_lex.specs.declared.token.Keyword.TheVariants as k
use Rattle.pa_lex.specs.declared.token.Punct.{Punct}
use Rattle.pa_lex.specs.declared.token.Punct.TheVariants as p
use Rattle.pa_lex.specs.declared.token.Include.{Include}
use Rattle.pa_lex.specs.declared.token.Include.TheVariants as i

abbrev pub Text : Type 0
Text = List ℕ

-- the keywords of C11 6.4.1, and `__ptrauth`
abbrev pub keyword_text : Keyword → Text
keyword_text k.Auto = codes "auto"
keyword_text k.Break = codes "break"
keyword_text k.Case = codes "case"
keyword_text k.Char = codes "char"
keyword_text k.Const = codes "const"
keyword_text k.Continue = codes "continue"
keyword_text k.Default = codes "default"
keyword_text k.Do = codes "do"
keyword_text k.Double = codes "double"
keyword_text k.Else = codes "else"
keyword_text k.Enum = codes "enum"
keyword_text k.Extern = codes "extern"
keyword_text k.Float = codes "float"
keyword_text k.For = codes "for"
keyword_text k.Goto = codes "goto"
keyword_text k.If = codes "if"
keyword_text k.Inline = codes "inline"
keyword_text k.Int = codes "int"
keyword_text k.Long = codes "long"
keyword_text k.Register = codes "register"
keyword_text k.Restrict = codes "restrict"
keyword_text k.Return = codes "return"
keyword_text k.Short = codes "short"
keyword_text k.Signed = codes "signed"
keyword_text k.Sizeof = codes "sizeof"
keyword_text k.Static = codes "static"
keyword_text k.Struct = codes "struct"
keyword_text k.Switch = codes "switch"
keyword_text k.Typedef = codes "typedef"
keyword_text k.Union = codes "union"
keyword_text k.Unsigned = codes "unsigned"
keyword_text k.Void = codes "void"
keyword_text k.Volatile = codes "volatile"
keyword_text k.While = codes "while"
keyword_text k.Alignas = codes "_Alignas"
keyword_text k.Alignof = codes "_Alignof"
keyword_text k.Atomic = codes "_Atomic"
keyword_text k.Bool = codes "_Bool"
keyword_text k.Complex = codes "_Complex"
keyword_text k.Generic = codes "_Generic"
keyword_text k.Imaginary = codes "_Imaginary"
keyword_text k.Noreturn = codes "_Noreturn"
keyword_text k.StaticAssert = codes "_Static_assert"
keyword_text k.ThreadLocal = codes "_Thread_local"
keyword_text k.Ptrauth = codes "__ptrauth"

-- the punctuators of C11 6.4.6, without digraphs, `#` and `##`
abbrev pub punct_text : Punct → Text
punct_text p.LeftBracket = codes "["
punct_text p.RightBracket = codes "]"
punct_text p.LeftParenthesis = codes "("
punct_text p.RightParenthesis = codes ")"
punct_text p.LeftBrace = codes "{"
punct_text p.RightBrace = codes "}"
punct_text p.Dot = codes "."
punct_text p.Arrow = codes "->"
punct_text p.Increment = codes "++"
punct_text p.Decrement = codes "--"
punct_text p.Ampersand = codes "&"
punct_text p.Star = codes "*"
punct_text p.Plus = codes "+"
punct_text p.Minus = codes "-"
punct_text p.Tilde = codes "~"
punct_text p.Exclamation = codes "!"
punct_text p.Slash = codes "/"
punct_text p.Percent = codes "%"
punct_text p.ShiftLeft = codes "<<"
punct_text p.ShiftRight = codes ">>"
punct_text p.Less = codes "<"
punct_text p.Greater = codes ">"
punct_text p.LessEqual = codes "<="
punct_text p.GreaterEqual = codes ">="
punct_text p.Equal = codes "=="
punct_text p.NotEqual = codes "!="
punct_text p.Caret = codes "^"
punct_text p.Bar = codes "|"
punct_text p.LogicalAnd = codes "&&"
punct_text p.LogicalOr = codes "||"
punct_text p.Question = codes "?"
punct_text p.Colon = codes ":"
punct_text p.Semicolon = codes ";"
punct_text p.Ellipsis = codes "..."
punct_text p.Assign = codes "="
punct_text p.MultiplyAssign = codes "*="
punct_text p.DivideAssign = codes "/="
punct_text p.RemainderAssign = codes "%="
punct_text p.AddAssign = codes "+="
punct_text p.SubtractAssign = codes "-="
punct_text p.ShiftLeftAssign = codes "<<="
punct_text p.ShiftRightAssign = codes ">>="
punct_text p.AndAssign = codes "&="
punct_text p.XorAssign = codes "^="
punct_text p.OrAssign = codes "|="
punct_text p.Comma = codes ","

-- the include lines
abbrev pub include_text : Include → Text
include_text i.Stdio = codes "#include <stdio.h>"
include_text i.Stdint = codes "#include <stdint.h>"
include_text i.Ptrauth = codes "#include <ptrauth.h>"

-- the keywords that begin with a byte
abbrev pub keywords_at : ℕ → List Keyword
keywords_at c =
    if c == 97 then k.Auto ∷ [] else
    (if c == 98 then k.Break ∷ [] else
    (if c == 99 then k.Continue ∷ k.Const ∷ k.Case ∷ k.Char ∷ [] else
    (if c == 100 then k.Default ∷ k.Double ∷ k.Do ∷ [] else
    (if c == 101 then k.Extern ∷ k.Else ∷ k.Enum ∷ [] else
    (if c == 102 then k.Float ∷ k.For ∷ [] else
    (if c == 103 then k.Goto ∷ [] else
    (if c == 105 then k.Inline ∷ k.Int ∷ k.If ∷ [] else
    (if c == 108 then k.Long ∷ [] else
    (if c == 114 then k.Register ∷ k.Restrict ∷ k.Return ∷ [] else
    (if c == 115 then k.Signed ∷ k.Sizeof ∷ k.Static ∷ k.Struct ∷ k.Switch ∷ k.Short ∷ [] else
    (if c == 116 then k.Typedef ∷ [] else
    (if c == 117 then k.Unsigned ∷ k.Union ∷ [] else
    (if c == 118 then k.Volatile ∷ k.Void ∷ [] else
    (if c == 119 then k.While ∷ [] else
    (if c == 95 then k.StaticAssert ∷ k.ThreadLocal ∷ k.Imaginary ∷ k.Noreturn ∷ k.Ptrauth ∷ k.Alignas ∷ k.Alignof ∷ k.Complex ∷ k.Generic ∷ k.Atomic ∷ k.Bool ∷ [] else
    [])))))))))))))))

-- the punctuators that begin with a byte, the longer ones first
abbrev pub puncts_at : ℕ → List Punct
puncts_at c =
    if c == 91 then p.LeftBracket ∷ [] else
    (if c == 93 then p.RightBracket ∷ [] else
    (if c == 40 then p.LeftParenthesis ∷ [] else
    (if c == 41 then p.RightParenthesis ∷ [] else
    (if c == 123 then p.LeftBrace ∷ [] else
    (if c == 125 then p.RightBrace ∷ [] else
    (if c == 46 then p.Ellipsis ∷ p.Dot ∷ [] else
    (if c == 45 then p.Arrow ∷ p.Decrement ∷ p.SubtractAssign ∷ p.Minus ∷ [] else
    (if c == 43 then p.Increment ∷ p.AddAssign ∷ p.Plus ∷ [] else
    (if c == 38 then p.LogicalAnd ∷ p.AndAssign ∷ p.Ampersand ∷ [] else
    (if c == 42 then p.MultiplyAssign ∷ p.Star ∷ [] else
    (if c == 126 then p.Tilde ∷ [] else
    (if c == 33 then p.NotEqual ∷ p.Exclamation ∷ [] else
    (if c == 47 then p.DivideAssign ∷ p.Slash ∷ [] else
    (if c == 37 then p.RemainderAssign ∷ p.Percent ∷ [] else
    (if c == 60 then p.ShiftLeftAssign ∷ p.ShiftLeft ∷ p.LessEqual ∷ p.Less ∷ [] else
    (if c == 62 then p.ShiftRightAssign ∷ p.ShiftRight ∷ p.GreaterEqual ∷ p.Greater ∷ [] else
    (if c == 61 then p.Equal ∷ p.Assign ∷ [] else
    (if c == 94 then p.XorAssign ∷ p.Caret ∷ [] else
    (if c == 124 then p.LogicalOr ∷ p.OrAssign ∷ p.Bar ∷ [] else
    (if c == 63 then p.Question ∷ [] else
    (if c == 58 then p.Colon ∷ [] else
    (if c == 59 then p.Semicolon ∷ [] else
    (if c == 44 then p.Comma ∷ [] else
    [])))))))))))))))))))))))
