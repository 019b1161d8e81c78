-- Where lines begin.
use Rattle.std.proofs.Common.{◌≡◌, ℕ, ◌-◌, ◌<◌, Bool, List, [], ◌∷◌, length, get_or, refl, sym, ◌∙◌, ap, arith, sub-one}
use Rattle.pa_lex.specs.Bytes.{is_line_feed}
use Rattle.pa_lex.specs.Lexes.{starts_line}

last_of : (c : ℕ) (t : List ℕ) (d : ℕ) → get_or (c ∷ (d ∷ t)) (length (c ∷ (d ∷ t)) - 1) 0 ≡ get_or (d ∷ t) (length (d ∷ t) - 1) 0
last_of c t d = rw (sub-one, sub-one) refl

-- by its last byte
pub starts_line_last : (first : Bool) (text : List ℕ) → 0 < length text → starts_line first text ≡ is_line_feed (get_or text (length text - 1) 0)
unfolding starts_line
starts_line_last first [] h = absurd (omega arith)
starts_line_last first (c ∷ []) h = refl
starts_line_last first (c ∷ (d ∷ t)) h = starts_line_last (is_line_feed c) (d ∷ t) (omega arith) ∙ ap is_line_feed (sym (last_of c t d))
