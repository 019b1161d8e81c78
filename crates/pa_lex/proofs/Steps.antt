-- Steps of loops that count.
use Rattle.std.proofs.Common.{◌≡◌, ℕ, ◌+◌, Option, Some, None, refl, ap, arith}
use Rattle.pa_lex.specs.Reading.{plus_one}

-- the count so far, added to what is left
abbrev pub plus : ℕ → Option ℕ → Option ℕ
plus n None = None
plus n (Some m) = Some (n + m)

pub plus_plus_one : (n : ℕ) (o : Option ℕ) → plus n (plus_one o) ≡ plus (n + 1) o
plus_plus_one n None = refl
plus_plus_one n (Some m) = ap Some (more n m)
  where
    more : (n m : ℕ) → n + (1 + m) ≡ (n + 1) + m
    more n m = omega arith
