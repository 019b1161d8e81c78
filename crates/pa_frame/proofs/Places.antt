-- Where locals lie that stand one behind the other.
use Rattle.std.proofs.Common.{⊎_elim, ◌≡◌, ◌≤◌, ◌<◌, ℕ, zero, suc, ◌+◌, ◌%◌, List, [], ◌∷◌, ◌++◌, length, take, drop, get_or, refl, ap, sym, ◌∙◌, arith}
use Rattle.std.specs.Prelude.{min, map}
use Rattle.std.specs.List.{sum_by}
use Rattle.std.specs.Int.{next_multiple_of}
use Rattle.std.proofs.lemmas.Bool.{cases_lt}
use Rattle.std.proofs.lemmas.List.{take_all}
use Rattle.std.proofs.lemmas.List.Sums.{sum_by-cons}
use Rattle.std.proofs.Math.Seq.{take-length}
use Rattle.pa_lir.specs.declared.function.LirLocal.{LirLocal}
use Rattle.pa_lir.specs.Parts.{rounded}
use Rattle.pa_frame.specs.Frames.{places_from}

pub length-places : (at : ℕ) (ls : List LirLocal) → length (places_from at ls) ≡ length ls
unfolding places_from
length-places at [] = refl
length-places at (l ∷ ls) = ap (λ n. suc n) (length-places (at + rounded l) ls)

pub place_at : (at : ℕ) (ls : List LirLocal) (i : ℕ) → i < length ls → get_or (places_from at ls) i 0 ≡ at + sum_by rounded (take i ls)
unfolding places_from
place_at at [] i h = omega (arith, h)
place_at at (l ∷ ls) zero h = omega arith
place_at at (l ∷ ls) (suc i) h =
    let within : i < length ls = omega arith in
    place_at (at + rounded l) ls i within ∙ omega (arith, sum_by-cons rounded l (take i ls))

-- the bytes before a local and its own are those before the next one
pub bytes_step : (ls : List LirLocal) (i : ℕ) → i < length ls → sum_by rounded (take i ls) + get_or (map rounded ls) i 0 ≡ sum_by rounded (take (suc i) ls)
bytes_step [] i h = omega (arith, h)
bytes_step (l ∷ ls) zero h = omega (arith, sum_by-cons rounded l [])
bytes_step (l ∷ ls) (suc i) h =
    let within : i < length ls = omega arith in
    omega (arith, sum_by-cons rounded l (take i ls), sum_by-cons rounded l (take (suc i) ls), bytes_step ls i within)

-- more locals have no fewer bytes
pub bytes_rise : (ls : List LirLocal) (i j : ℕ) → i ≤ j → sum_by rounded (take i ls) ≤ sum_by rounded (take j ls)
bytes_rise [] zero j h = omega arith
bytes_rise [] (suc i) zero h = omega arith
bytes_rise [] (suc i) (suc j) h = omega arith
bytes_rise (l ∷ ls) zero j h = omega arith
bytes_rise (l ∷ ls) (suc i) zero h = omega arith
bytes_rise (l ∷ ls) (suc i) (suc j) h =
    let less : i ≤ j = omega arith in
    omega (arith, sum_by-cons rounded l (take i ls), sum_by-cons rounded l (take j ls), bytes_rise ls i j less)

-- and no more than all have
pub bytes_within : (ls : List LirLocal) (i : ℕ) → sum_by rounded (take i ls) ≤ sum_by rounded ls
bytes_within [] zero = omega arith
bytes_within [] (suc i) = omega arith
bytes_within (l ∷ ls) zero = omega arith
bytes_within (l ∷ ls) (suc i) = omega (arith, sum_by-cons rounded l (take i ls), sum_by-cons rounded l ls, bytes_within ls i)

rounded_aligned : (n : ℕ) → next_multiple_of n 8 % 8 ≡ 0
rounded_aligned n = omega arith

pub bytes_aligned : (ls : List LirLocal) (i : ℕ) → sum_by rounded (take i ls) % 8 ≡ 0
bytes_aligned [] zero = omega arith
bytes_aligned [] (suc i) = omega arith
bytes_aligned (l ∷ ls) zero = omega arith
bytes_aligned (l ∷ ls) (suc i) = omega (arith, sum_by-cons rounded l (take i ls), rounded_aligned l.size, bytes_aligned ls i)

-- where the locals of a list lie whose first n stand from one place on and the others from another
pub place_in_front : (at others n : ℕ) (ls : List LirLocal) (i : ℕ) → i < n → i < length ls → get_or (places_from at (take n ls) ++ places_from others (drop n ls)) i 0 ≡ at + sum_by rounded (take i ls)
unfolding places_from
place_in_front at others n [] i h within = omega (arith, within)
place_in_front at others zero (l ∷ ls) i h within = omega (arith, h)
place_in_front at others (suc n) (l ∷ ls) zero h within = omega arith
place_in_front at others (suc n) (l ∷ ls) (suc i) h within =
    let less : i < n = omega arith in
    let rest : i < length ls = omega arith in
    place_in_front (at + rounded l) others n ls i less rest ∙ omega (arith, sum_by-cons rounded l (take i ls))

pub place_behind : (at others n : ℕ) (ls : List LirLocal) (i : ℕ) → n ≤ i → i < length ls → get_or (places_from at (take n ls) ++ places_from others (drop n ls)) i 0 + sum_by rounded (take n ls) ≡ others + sum_by rounded (take i ls)
unfolding places_from
place_behind at others n [] i h within = omega (arith, within)
place_behind at others zero (l ∷ ls) i h within = omega (arith, place_at others (l ∷ ls) i within)
place_behind at others (suc n) (l ∷ ls) zero h within = omega (arith, h)
place_behind at others (suc n) (l ∷ ls) (suc i) h within =
    let less : n ≤ i = omega arith in
    let rest : i < length ls = omega arith in
    omega (arith, sum_by-cons rounded l (take n ls), sum_by-cons rounded l (take i ls), place_behind (at + rounded l) others n ls i less rest)

-- the bytes of the first n locals, where n may be more than there are
pub bytes_first : (ls : List LirLocal) (n : ℕ) → sum_by rounded (take (min n (length ls)) ls) ≡ sum_by rounded (take n ls)
bytes_first ls n =
    ⊎_elim
    (λ less. let same : min n (length ls) ≡ n = omega arith in ap (λ k. sum_by rounded (take k ls)) same)
    (λ more. let same : min n (length ls) ≡ length ls = omega arith in
    ap (λ k. sum_by rounded (take k ls)) same ∙ ap (sum_by rounded) (take-length ls ∙ sym (take_all n ls more)))
    (cases_lt n (length ls))
