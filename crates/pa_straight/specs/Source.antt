-- Programs of the first form, and their texts.
use Rattle.std.specs.Prelude.{◌≡◌, ◌≢◌, ℕ, false, ◌<◌, ◌≤◌, ◌^◌, List, [], ◌∷◌, ◌++◌, length, codes, All}
use Rattle.std.specs.List.{flat_map}
use Rattle.std.specs.Char.{is_ascii_digit}
use Rattle.std.specs.Fmt.{decimal}
use Rattle.pa_straight.specs.declared.source.Straight.{Straight}

-- a text and a line feed
abbrev pub line : List ℕ → List ℕ
line text = text ++ 10 ∷ []

-- a number in decimal, between two texts
unfoldable pub framed : List ℕ → ℕ → List ℕ → List ℕ
framed before n behind = before ++ (decimal n ++ behind)

-- the line that prints a byte
abbrev pub print_line : ℕ → List ℕ
print_line n = framed (codes "putchar(") n (line (codes ");"))

abbrev pub opening : List ℕ
opening = line (codes "#include <stdio.h>") ++ line (codes "int main(void){")

-- the last two lines
abbrev pub closing : ℕ → List ℕ
closing n = framed (codes "return ") n (line (codes ";") ++ line (codes "}"))

abbrev pub text_of : Straight → List ℕ
text_of s = opening ++ (flat_map print_line s.prints ++ closing s.returns)

-- at most a thousand lines that print, and all numbers below 2^31
pub record IsSource (s : Straight) : Type 0 where
  pub few : length s.prints ≤ 1000
  pub small : All (λ n. n < 2 ^ 31) s.prints
  pub status : s.returns < 2 ^ 31

-- the text is this program's, and no other's
pub record IsTextOf (text : List ℕ) (s : Straight) : Type 0 where
  pub source : IsSource s
  pub spelled : text_of s ≡ text
  pub only : (other : Straight) → IsSource other → text_of other ≡ text → other ≡ s

-- the text is no program's
abbrev pub IsNoText : List ℕ → Type 0
IsNoText text = (s : Straight) → IsSource s → text_of s ≢ text

-- the text doesn't begin with a number between these two texts
abbrev pub BeginsOtherwise : List ℕ → List ℕ → List ℕ → Type 0
BeginsOtherwise before behind text = (n : ℕ) (rest : List ℕ) → n < 2 ^ 31 → text ≢ framed before n behind ++ rest

-- no digit stands at the front
abbrev pub StopsNumber : List ℕ → Type 0
StopsNumber [] = Unit {0}
StopsNumber (byte ∷ bytes) = is_ascii_digit byte ≡ false

-- the text doesn't begin with a whole number
abbrev pub IsNoNumber : List ℕ → Type 0
IsNoNumber text = (n : ℕ) (rest : List ℕ) → n < 2 ^ 31 → StopsNumber rest → text ≢ decimal n ++ rest
