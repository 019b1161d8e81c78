-- Names one after the other, each with a zero byte after it.
use Rattle.std.specs.Prelude.{ℕ, zero, suc, Bool, true, not, ◌&&◌, ◌==◌, nat_lt, List, [], ◌∷◌, ◌++◌, length}
use Rattle.std.specs.List.{position_or_len, before_first, after_first}

abbrev pub is_zero : ℕ → Bool
is_zero byte = byte == 0

-- the bytes of names with their zero bytes
abbrev pub ended : List (List ℕ) → List ℕ
ended [] = []
ended (name ∷ names) = name ++ (0 ∷ ended names)

-- no byte of a name is zero
abbrev pub is_name : List ℕ → Bool
is_name [] = true
is_name (byte ∷ bytes) = not (is_zero byte) && is_name bytes

abbrev pub are_names : List (List ℕ) → Bool
are_names [] = true
are_names (name ∷ names) = is_name name && are_names names

-- ---- names in a text

-- how long the name is that a text begins with; all of the text where no zero byte is there
abbrev pub name_length : List ℕ → ℕ
name_length text = position_or_len is_zero text

-- the name that a text begins with has its end
abbrev pub has_end : List ℕ → Bool
has_end text = nat_lt (name_length text) (length text)

-- the first n names of a text
abbrev pub cut : ℕ → List ℕ → List (List ℕ)
cut zero text = []
cut (suc n) text = before_first is_zero text ∷ cut n (after_first is_zero text)

-- what stands after them
abbrev pub behind : ℕ → List ℕ → List ℕ
behind zero text = text
behind (suc n) text = behind n (after_first is_zero text)
