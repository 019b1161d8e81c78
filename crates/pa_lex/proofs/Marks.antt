-- The table of punctuators.
use Rattle.std.proofs.Common.{◌≡◌, ℕ, ◌≤◌, Bool, true, false, cond, ◌==◌, List, [], ◌∷◌, length, refl, sym, ◌∙◌, ap, arith, Option, Some, inl, inr}
use Rattle.std.specs.List.{find}
use Rattle.std.specs.Str.{bytes_eq}
use Rattle.pa_lex.specs.declared.token.Punct.{Punct}
use Rattle.pa_lex.specs.declared.token.Punct.TheVariants as p
use Rattle.pa_lex.specs.declared.byte.Class.TheVariants.{Other}
use Rattle.pa_lex.specs.Texts.{Text, punct_text, puncts_at}
use Rattle.pa_lex.specs.Bytes.{is_white}
use Rattle.pa_lex.specs.Reading.{class_of}
use Rattle.pa_lex.proofs.Entries.{Listed, is_ordered}

-- the first byte of a text
abbrev pub head_of : Text → ℕ
head_of [] = 0
head_of (c ∷ t) = c

-- each punctuator has a byte, which begins punctuators alone
pub record IsMark (punct : Punct) : Type 0 where
  pub long : 1 ≤ length (punct_text punct)
  pub class_is : class_of (head_of (punct_text punct)) ≡ Other
  pub not_white : is_white (head_of (punct_text punct)) ≡ false
  pub listed : Listed punct (puncts_at (head_of (punct_text punct)))

pub is_mark : (punct : Punct) → IsMark punct
is_mark p.LeftBracket = record { long = omega arith; class_is = refl; not_white = refl; listed = inl refl }
is_mark p.RightBracket = record { long = omega arith; class_is = refl; not_white = refl; listed = inl refl }
is_mark p.LeftParenthesis = record { long = omega arith; class_is = refl; not_white = refl; listed = inl refl }
is_mark p.RightParenthesis = record { long = omega arith; class_is = refl; not_white = refl; listed = inl refl }
is_mark p.LeftBrace = record { long = omega arith; class_is = refl; not_white = refl; listed = inl refl }
is_mark p.RightBrace = record { long = omega arith; class_is = refl; not_white = refl; listed = inl refl }
is_mark p.Dot = record { long = omega arith; class_is = refl; not_white = refl; listed = inr (inl refl) }
is_mark p.Arrow = record { long = omega arith; class_is = refl; not_white = refl; listed = inl refl }
is_mark p.Increment = record { long = omega arith; class_is = refl; not_white = refl; listed = inl refl }
is_mark p.Decrement = record { long = omega arith; class_is = refl; not_white = refl; listed = inr (inl refl) }
is_mark p.Ampersand = record { long = omega arith; class_is = refl; not_white = refl; listed = inr (inr (inl refl)) }
is_mark p.Star = record { long = omega arith; class_is = refl; not_white = refl; listed = inr (inl refl) }
is_mark p.Plus = record { long = omega arith; class_is = refl; not_white = refl; listed = inr (inr (inl refl)) }
is_mark p.Minus = record { long = omega arith; class_is = refl; not_white = refl; listed = inr (inr (inr (inl refl))) }
is_mark p.Tilde = record { long = omega arith; class_is = refl; not_white = refl; listed = inl refl }
is_mark p.Exclamation = record { long = omega arith; class_is = refl; not_white = refl; listed = inr (inl refl) }
is_mark p.Slash = record { long = omega arith; class_is = refl; not_white = refl; listed = inr (inl refl) }
is_mark p.Percent = record { long = omega arith; class_is = refl; not_white = refl; listed = inr (inl refl) }
is_mark p.ShiftLeft = record { long = omega arith; class_is = refl; not_white = refl; listed = inr (inl refl) }
is_mark p.ShiftRight = record { long = omega arith; class_is = refl; not_white = refl; listed = inr (inl refl) }
is_mark p.Less = record { long = omega arith; class_is = refl; not_white = refl; listed = inr (inr (inr (inl refl))) }
is_mark p.Greater = record { long = omega arith; class_is = refl; not_white = refl; listed = inr (inr (inr (inl refl))) }
is_mark p.LessEqual = record { long = omega arith; class_is = refl; not_white = refl; listed = inr (inr (inl refl)) }
is_mark p.GreaterEqual = record { long = omega arith; class_is = refl; not_white = refl; listed = inr (inr (inl refl)) }
is_mark p.Equal = record { long = omega arith; class_is = refl; not_white = refl; listed = inl refl }
is_mark p.NotEqual = record { long = omega arith; class_is = refl; not_white = refl; listed = inl refl }
is_mark p.Caret = record { long = omega arith; class_is = refl; not_white = refl; listed = inr (inl refl) }
is_mark p.Bar = record { long = omega arith; class_is = refl; not_white = refl; listed = inr (inr (inl refl)) }
is_mark p.LogicalAnd = record { long = omega arith; class_is = refl; not_white = refl; listed = inl refl }
is_mark p.LogicalOr = record { long = omega arith; class_is = refl; not_white = refl; listed = inl refl }
is_mark p.Question = record { long = omega arith; class_is = refl; not_white = refl; listed = inl refl }
is_mark p.Colon = record { long = omega arith; class_is = refl; not_white = refl; listed = inl refl }
is_mark p.Semicolon = record { long = omega arith; class_is = refl; not_white = refl; listed = inl refl }
is_mark p.Ellipsis = record { long = omega arith; class_is = refl; not_white = refl; listed = inl refl }
is_mark p.Assign = record { long = omega arith; class_is = refl; not_white = refl; listed = inr (inl refl) }
is_mark p.MultiplyAssign = record { long = omega arith; class_is = refl; not_white = refl; listed = inl refl }
is_mark p.DivideAssign = record { long = omega arith; class_is = refl; not_white = refl; listed = inl refl }
is_mark p.RemainderAssign = record { long = omega arith; class_is = refl; not_white = refl; listed = inl refl }
is_mark p.AddAssign = record { long = omega arith; class_is = refl; not_white = refl; listed = inr (inl refl) }
is_mark p.SubtractAssign = record { long = omega arith; class_is = refl; not_white = refl; listed = inr (inr (inl refl)) }
is_mark p.ShiftLeftAssign = record { long = omega arith; class_is = refl; not_white = refl; listed = inl refl }
is_mark p.ShiftRightAssign = record { long = omega arith; class_is = refl; not_white = refl; listed = inl refl }
is_mark p.AndAssign = record { long = omega arith; class_is = refl; not_white = refl; listed = inr (inl refl) }
is_mark p.XorAssign = record { long = omega arith; class_is = refl; not_white = refl; listed = inl refl }
is_mark p.OrAssign = record { long = omega arith; class_is = refl; not_white = refl; listed = inr (inl refl) }
is_mark p.Comma = record { long = omega arith; class_is = refl; not_white = refl; listed = inl refl }

abbrev IsOrdered : List Punct → Type 0
IsOrdered ps = is_ordered punct_text ps ≡ true

choose : (b : Bool) (ps others : List Punct) → IsOrdered ps → IsOrdered others → IsOrdered (cond b ps others)
choose true ps others h k = h
choose false ps others h k = k

-- behind a punctuator of the table stand none that begin with it
pub ordered : (c : ℕ) → is_ordered punct_text (puncts_at c) ≡ true
ordered c =
    choose (c == 91) _ _ refl
    (choose (c == 93) _ _ refl
    (choose (c == 40) _ _ refl
    (choose (c == 41) _ _ refl
    (choose (c == 123) _ _ refl
    (choose (c == 125) _ _ refl
    (choose (c == 46) _ _ refl
    (choose (c == 45) _ _ refl
    (choose (c == 43) _ _ refl
    (choose (c == 38) _ _ refl
    (choose (c == 42) _ _ refl
    (choose (c == 126) _ _ refl
    (choose (c == 33) _ _ refl
    (choose (c == 47) _ _ refl
    (choose (c == 37) _ _ refl
    (choose (c == 60) _ _ refl
    (choose (c == 62) _ _ refl
    (choose (c == 61) _ _ refl
    (choose (c == 94) _ _ refl
    (choose (c == 124) _ _ refl
    (choose (c == 63) _ _ refl
    (choose (c == 58) _ _ refl
    (choose (c == 59) _ _ refl
    (choose (c == 44) _ _ refl refl)))))))))))))))))))))))

-- the punctuator of a text
sign_of : Text → Option Punct
sign_of t = find (λ q. bytes_eq (punct_text q) t) (puncts_at (head_of t))

of_text : (punct : Punct) → sign_of (punct_text punct) ≡ Some punct
unfolding sign_of
of_text p.LeftBracket = refl
of_text p.RightBracket = refl
of_text p.LeftParenthesis = refl
of_text p.RightParenthesis = refl
of_text p.LeftBrace = refl
of_text p.RightBrace = refl
of_text p.Dot = refl
of_text p.Arrow = refl
of_text p.Increment = refl
of_text p.Decrement = refl
of_text p.Ampersand = refl
of_text p.Star = refl
of_text p.Plus = refl
of_text p.Minus = refl
of_text p.Tilde = refl
of_text p.Exclamation = refl
of_text p.Slash = refl
of_text p.Percent = refl
of_text p.ShiftLeft = refl
of_text p.ShiftRight = refl
of_text p.Less = refl
of_text p.Greater = refl
of_text p.LessEqual = refl
of_text p.GreaterEqual = refl
of_text p.Equal = refl
of_text p.NotEqual = refl
of_text p.Caret = refl
of_text p.Bar = refl
of_text p.LogicalAnd = refl
of_text p.LogicalOr = refl
of_text p.Question = refl
of_text p.Colon = refl
of_text p.Semicolon = refl
of_text p.Ellipsis = refl
of_text p.Assign = refl
of_text p.MultiplyAssign = refl
of_text p.DivideAssign = refl
of_text p.RemainderAssign = refl
of_text p.AddAssign = refl
of_text p.SubtractAssign = refl
of_text p.ShiftLeftAssign = refl
of_text p.ShiftRightAssign = refl
of_text p.AndAssign = refl
of_text p.XorAssign = refl
of_text p.OrAssign = refl
of_text p.Comma = refl

-- one text, one punctuator
pub mark_same : (a b : Punct) → punct_text a ≡ punct_text b → a ≡ b
mark_same a b e = let h : Some a ≡ Some b = sym (of_text a) ∙ ap sign_of e ∙ of_text b in cc
