-- How what is told of a sink grows over several writes.
use Rattle.std.proofs.Common.{◌≡◌, ℕ, ◌<◌, ◌≤◌, ◌+◌, ◌-◌, List, [], ◌++◌, length, take, drop, Option, Some, None, arith, append_assoc, append-nil, length-append, sym, ◌∙◌, ap}
use Rattle.std.proofs.Math.Seq.{take-append_seam, take-append-add}
use Rattle.std.proofs.lemmas.List.{take-append-drop, take-append-le, take_rest}
use Rattle.pa_io.specs.Outside.{Grew, Stayed, GrewByProperPrefix}

pub Grew-none : (a : Option (List ℕ)) → Grew a a []
Grew-none None = tt
Grew-none (Some a) = search append-nil

-- one growth and then another
pub Grew-append : (a b c : Option (List ℕ)) (xs ys : List ℕ) → Grew a b xs → Grew b c ys → Grew a c (xs ++ ys)
Grew-append a b None xs ys p q = tt
Grew-append a None (Some c) xs ys p q = absurd q
Grew-append None (Some b) (Some c) xs ys p q = absurd p
Grew-append (Some a) (Some b) (Some c) xs ys p q = rw (q, p) (append_assoc a xs ys)

-- a growth and then none
pub Grew-Stayed : (a b c : Option (List ℕ)) (xs : List ℕ) → Grew a b xs → Stayed b c → Grew a c xs
Grew-Stayed a b None xs p q = tt
Grew-Stayed a None (Some c) xs p q = absurd q
Grew-Stayed None (Some b) (Some c) xs p q = absurd p
Grew-Stayed (Some a) (Some b) (Some c) xs p q = q ∙ p

-- these bytes are partly written: some are, and the others are left
pub record Written (before now : Option (List ℕ)) (bytes rest : List ℕ) : Type 0 where
  pub done : List ℕ
  pub parts : bytes ≡ done ++ rest
  pub grew : Grew before now done

pub Written-none : (a : Option (List ℕ)) (bytes : List ℕ) → Written a a bytes bytes
Written-none a bytes = record { done = []; parts = search arith; grew = Grew-none a }

-- n more bytes are written; `&rest[n..]` is what is left then
pub Written-more : (a b c : Option (List ℕ)) (bytes rest : List ℕ) (n : ℕ) → Written a b bytes rest → Grew b c (take n rest) → Written a c bytes (take (length rest - n) (drop n rest))
Written-more a b c bytes rest n w g =
    rw take_rest (record {
      done = w.done ++ take n rest;
      parts = w.parts ∙ (ap (λ r. w.done ++ r) (sym (take-append-drop n rest)) ∙ sym (append_assoc w.done (take n rest) (drop n rest)));
      grew = Grew-append a b c w.done (take n rest) w.grew g;
    })

-- nothing more is written
pub Written-stayed : (a b c : Option (List ℕ)) (bytes rest : List ℕ) → Written a b bytes rest → Stayed b c → Written a c bytes rest
Written-stayed a b c bytes rest w s = record { done = w.done; parts = w.parts; grew = Grew-Stayed a b c w.done w.grew s }

-- some bytes are left
pub Written-part : (a b : Option (List ℕ)) (bytes rest : List ℕ) → 0 < length rest → Written a b bytes rest → GrewByProperPrefix a b bytes
Written-part a b bytes rest some w =
    (length w.done, rw (w.parts, length-append) (omega arith), rw (w.parts, take-append_seam) w.grew)

-- for a text that is written in several parts: part of the first part
pub GrewByProperPrefix-front : (a b : Option (List ℕ)) (xs ys : List ℕ) → GrewByProperPrefix a b xs → GrewByProperPrefix a b (xs ++ ys)
GrewByProperPrefix-front a b xs ys p =
    let part : p.0 < length xs = p.1 in
    let within : p.0 ≤ length xs = omega arith in
    (p.0, rw length-append (omega arith), rw take-append-le p.2)

-- a part, and then part of the next one
pub GrewByProperPrefix-after : (a b c : Option (List ℕ)) (xs ys : List ℕ) → Grew a b xs → GrewByProperPrefix b c ys → GrewByProperPrefix a c (xs ++ ys)
GrewByProperPrefix-after a b c xs ys g p =
    (length xs + p.0, rw length-append (omega (arith, p.1)), rw take-append-add (Grew-append a b c xs (take p.0 ys) g p.2))
