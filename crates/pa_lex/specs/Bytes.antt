-- Classes of bytes.
use Rattle.std.specs.Prelude.{ℕ, Bool, true, ◌&&◌, ◌||◌, ◌==◌, [], ◌∷◌, nat_eq}
use Rattle.std.specs.List.{starts_with}
use Rattle.std.specs.Char.{is_ascii_alphabetic, is_digit}
use Rattle.pa_lex.specs.Texts.{Text}

-- letters and `_`
abbrev pub is_letter : ℕ → Bool
is_letter c = is_ascii_alphabetic c || c == 95

abbrev pub is_word : ℕ → Bool
is_word c = is_letter c || is_digit c 10

-- spaces, tabs and carriage returns
abbrev pub is_blank : ℕ → Bool
is_blank c = c == 32 || (c == 9 || c == 13)

abbrev pub is_line_feed : ℕ → Bool
is_line_feed c = c == 10

abbrev pub is_white : ℕ → Bool
is_white c = is_blank c || is_line_feed c

-- a text begins another
abbrev pub begins : Text → Text → Bool
begins text needle = starts_with nat_eq text needle

-- only blanks stand up to the line's end
unfoldable pub is_blank_line : Text → Bool
is_blank_line [] = true
is_blank_line (c ∷ t) = is_line_feed c || (is_blank c && is_blank_line t)
