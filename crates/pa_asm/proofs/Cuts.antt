-- How a text is cut into lines.
use Rattle.std.proofs.Common.{◌≡◌, ℕ, ◌+◌, ◌<◌, false, [], ◌∷◌, length, take, drop, get_or, ◌∙◌, ap, arith}
use Rattle.std.proofs.lemmas.Bool.{false_from_ne_true}
use Rattle.std.proofs.lemmas.List.{get_or_default}
use Rattle.std.proofs.lemmas.List.Splits.{slice_split_none, slice_split_first}
use Rattle.std.proofs.lemmas.List.Sums.{position_or_len_is}
use Rattle.memchr.specs.Find.{Nowhere, NoneBefore, Passes, is_byte}
use Rattle.pa_asmline.specs.Rows.{Text}
use Rattle.pa_asm.specs.Written.{pieces, is_line_feed}

no_feed : (text : Text) (k : ℕ) → (Passes (is_byte 10) text k → ⊥) → is_line_feed (get_or text k 0) ≡ false
no_feed text k h = false_from_ne_true (is_line_feed (get_or text k 0)) h

-- no line feed: the text is one line
pub one_line : (text : Text) → Nowhere (Passes (is_byte 10) text) 0 (length text) → pieces text ≡ text ∷ []
one_line text none = slice_split_none is_line_feed text (λ k d h. ap is_line_feed (get_or_default text k d 0 h) ∙ no_feed text k (none k (omega arith) h))

-- the first line feed stands after the first line
pub first_line : (text : Text) (k : ℕ) → NoneBefore (Passes (is_byte 10) text) 0 (length text) k → Passes (is_byte 10) text k → pieces text ≡ take k text ∷ pieces (drop (k + 1) text)
first_line text k before here =
    let high : k < length text = before.high in
    let at = position_or_len_is is_line_feed text k 0 (omega arith) (λ i h. no_feed text i (before.before i (omega arith) h)) (λ h. here) in
    slice_split_first is_line_feed text 0 (omega (arith, at)) ∙ ap (λ n. take n text ∷ pieces (drop (n + 1) text)) at
