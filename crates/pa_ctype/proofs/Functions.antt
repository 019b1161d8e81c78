-- A function's type, one parameter after the other.
use Rattle.std.proofs.Common.{◌≡◌, ℕ, zero, suc, ◌+◌, ◌-◌, ◌<◌, ◌≤◌, false, List, [], ◌∷◌, ◌++◌, length, map, take, get_or, refl, sym, ap, ◌∙◌, arith}
use Rattle.std.proofs.lemmas.List.{map-append, take_more, take_all}
use Rattle.pa_ctype.specs.declared.node.Node.{Node}
use Rattle.pa_ctype.specs.Types.{TypeTree, Of, Function, Nil, trees_of}
use Rattle.pa_ctype.specs.Nodes.{taking, AllBelow, at, Fits, Grown}
use Rattle.pa_ctype.proofs.KindLaws.{onto, onto_last, onto_function}

pub below_push : (k l : ℕ) → k ≤ l → (is : List ℕ) (i : ℕ) → AllBelow k is → i < l → AllBelow l (is ++ i ∷ [])
below_push k l h [] i below g = (g, tt)
below_push k l h (x ∷ is) i below g = (omega (arith, below.0), below_push k l h is i below.1 g)

pub below_at : (k : ℕ) (is : List ℕ) (i : ℕ) → AllBelow k is → i < length is → get_or is i 0 < k
below_at k [] i h w = absurd (omega arith)
below_at k (x ∷ is) zero h w = h.0
below_at k (x ∷ is) (suc i) h w = below_at k is i h.1 (omega arith)

-- no parameter is taken yet
pub onto_all : (m : ℕ → TypeTree) (is : List ℕ) (t r : TypeTree) → t ≡ Of false (Function Nil r) → onto (map m (take (length is) is)) t ≡ Of false (Function (trees_of (map m is)) r)
onto_all m is t r e = ap (λ js. onto (map m js) t) (take_all (length is) is (omega arith)) ∙ ap (onto (map m is)) e ∙ onto_function (map m is) r

-- one more is taken
pub onto_more : (m : ℕ → TypeTree) (is : List ℕ) (left : ℕ) (t u : TypeTree) → 0 < left → left ≤ length is → u ≡ taking (m (get_or is (left - 1) 0)) t → onto (map m (take (left - 1) is)) u ≡ onto (map m (take left is)) t
onto_more m is left t u positive within e =
    let k = left - 1 in
    let last : k + 1 ≡ left = omega arith in
    ap (onto (map m (take k is))) e ∙ sym (onto_last (map m (take k is)) (m (get_or is k 0)) t)
    ∙ ap (λ ts. onto ts t) (sym (map-append m (take k is) (get_or is k 0 ∷ []))) ∙ ap (λ js. onto (map m js) t) (sym (take_more is k 0 (omega arith))) ∙ ap (λ j. onto (map m (take j is)) t) last

map_same : (f g : ℕ → TypeTree) (k : ℕ) (is : List ℕ) → AllBelow k is → ((i : ℕ) → i < k → f i ≡ g i) → map f is ≡ map g is
map_same f g k [] h same = refl
map_same f g k (i ∷ is) h same = rw (same i h.0, map_same f g k is h.1 same) refl

-- the function's type, whatever its numbers stand for
pub function_fits : (m : ℕ → TypeTree) (old new : List Node) → Grown old new → Fits m new → (params : List ℕ) → AllBelow (length old) params → (r : ℕ) → r < length old → (t : ℕ) → t < length new
    → at new t ≡ Of false (Function (trees_of (map (at old) params)) (at old r)) → m t ≡ Of false (Function (trees_of (map m params)) (m r))
function_fits m old new g fits params below r known t here is =
    let same : (i : ℕ) → i < length old → at old i ≡ m i = λ i h. let l = g.longer in sym (fits.by i (omega arith) ∙ g.same i h) in
    fits.by t here ∙ is ∙ ap (λ ts. Of false (Function (trees_of ts) (at old r))) (map_same (at old) m (length old) params below same) ∙ ap (λ u. Of false (Function (trees_of (map m params)) u)) (same r known)
