-- The places of labels, as they are kept on the way.
use Rattle.std.proofs.Common.{◌≡◌, ℕ, suc, ◌+◌, Bool, true, false, cond, List, [], ◌∷◌, Option, Some, None, refl, ap, ◌∙◌, arith, option_map}
use Rattle.pa_lir.specs.declared.op.Op.{Op}
use Rattle.pa_lir.specs.Flow.{is_label, place_of_label}
use Rattle.pa_lir.specs.Placing.{or_else, place_from, noted}

later : (at : ℕ) (p : Option ℕ) → option_map (λ n. at + 1 + n) p ≡ option_map (λ n. at + n) (option_map (λ n. suc n) p)
later at None = refl
later at (Some n) = ap Some (omega arith)

by_label : (b : Bool) (at : ℕ) (p : Option ℕ) → or_else (cond b (Some at) None) (option_map (λ n. at + 1 + n) p) ≡ option_map (λ n. at + n) (cond b (Some 0) (option_map (λ n. suc n) p))
by_label true at p = ap Some (omega arith)
by_label false at p = later at p

in_turn : (g m r : Option ℕ) → or_else (or_else g m) r ≡ or_else g (or_else m r)
in_turn None m r = refl
in_turn (Some n) m r = refl

-- one operation more
pub place_more : (g : Option ℕ) (o : Op) (ops : List Op) (at l : ℕ) → or_else (or_else g (noted o at l)) (place_from (at + 1) ops l) ≡ or_else g (place_from at (o ∷ ops) l)
unfolding place_of_label
place_more g o ops at l = in_turn g (noted o at l) (place_from (at + 1) ops l) ∙ ap (or_else g) (by_label (is_label l o) at (place_of_label ops l))

pub place_none : (g : Option ℕ) (at l : ℕ) → or_else g (place_from at [] l) ≡ g
unfolding place_of_label
place_none None at l = refl
place_none (Some n) at l = refl

from_zero : (p : Option ℕ) → option_map (λ n. 0 + n) p ≡ p
from_zero None = refl
from_zero (Some n) = ap Some (omega arith)

pub place_all : (ops : List Op) (l : ℕ) → place_from 0 ops l ≡ place_of_label ops l
place_all ops l = from_zero (place_of_label ops l)
