-- Zeros that are pushed one by one.
use Rattle.std.proofs.Common.{◌≡◌, ℕ, suc, ◌+◌, ◌-◌, ◌<◌, List, [], ◌∷◌, ◌++◌, replicate, append_assoc, ◌∙◌, arith}

pub zeros_push : (count k : ℕ) (old whole : List ℕ) → k < count → old ++ replicate (count - k) 0 ≡ whole → (old ++ 0 ∷ []) ++ replicate (count - (k + 1)) 0 ≡ whole
zeros_push count k old whole lt e =
    let one : count - k ≡ suc (count - (k + 1)) = omega arith in
    append_assoc old (0 ∷ []) (replicate (count - (k + 1)) 0) ∙ (rw one at e)
