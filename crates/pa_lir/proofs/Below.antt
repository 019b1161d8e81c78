-- A temporary that is read lies below the largest number and one more.
use Rattle.std.proofs.Common.{⊎_elim, ◌≡◌, ◌<◌, true, ℕ, zero, suc, List, [], ◌∷◌, ap, ◌∙◌, arith}
use Rattle.std.specs.Prelude.{nat_eq}
use Rattle.std.proofs.lemmas.Bool.{or_cases, eqb-true, false≢true}
use Rattle.std.proofs.lemmas.Option.{slice_get_within}
use Rattle.pa_lir.specs.declared.op.Op.{Op}
use Rattle.pa_lir.specs.Flow.{is_among, Reads}
use Rattle.pa_lir.specs.Parts.{read_by, above, above_op, above_all}
use Rattle.pa_lir.proofs.Walking.{holds_in}

among_below : (ns : List ℕ) (t : ℕ) → is_among ns t ≡ true → t < above ns
unfolding above
among_below [] t h = absurd (false≢true h)
among_below (n ∷ ns) t h =
    ⊎_elim
    (λ here. let same = eqb-true t n here in omega arith)
    (λ behind. let less = among_below ns t behind in omega arith)
    (or_cases (nat_eq t n) (is_among ns t) h)

read_in_op : (o : Op) (t : ℕ) → is_among (read_by o) t ≡ true → t < above_op o
read_in_op o t h = let less = among_below (read_by o) t h in omega arith

pub read_below : (ops : List Op) (t at : ℕ) → Reads ops t at → t < above_all ops
unfolding above_all
read_below [] t at reads = let none = slice_get_within [] at reads.0 reads.1 in omega arith
read_below (o ∷ ops) t zero reads =
    let here : is_among (read_by o) t ≡ true = ap (holds_in (λ p. is_among (read_by p) t)) reads.1 ∙ reads.2 in
    let less = read_in_op o t here in
    omega arith
read_below (o ∷ ops) t (suc at) reads = let less = read_below ops t at reads in omega arith
