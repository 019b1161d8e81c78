-- Where a node stands in a list of nodes.
use Rattle.std.proofs.Common.{◌≡◌, ℕ, zero, suc, ◌<◌, Bool, true, false, List, [], ◌∷◌, length, get_or, Option, Some, None, position, refl, sym, ap, ◌∙◌, arith, MatchOption}
use Rattle.std.proofs.lemmas.Grind.{common_steps}
use Rattle.std.proofs.lemmas.List.Quantifiers.{position-Some}
use Rattle.std.specs.List.{position_or_len}
use Rattle.pa_ctype.specs.declared.node.Node.{Node}
use Rattle.pa_ctype.specs.declared.node.Node.TheVariants.{Void}
use Rattle.pa_ctype.specs.Nodes.{Stands, Lacks}

stands : (eq : Node → Node → Bool) → ((a b : Node) → eq a b ≡ true → a ≡ b) → (n : Node) (ns : List Node) (i : ℕ) → position (eq n) ns ≡ Some i → Stands ns n i
stands eq sound n ns i h = let p = position-Some (eq n) ns i Void h in (p.0, sym (sound _ _ p.1))

passes : (p : Node → Bool) (xs : List Node) (i : ℕ) → i < length xs → p (get_or xs i Void) ≡ true → position_or_len p xs < length xs
passes p [] i h e = absurd (omega arith)
passes p (x ∷ xs) zero h e = rw e (omega arith)
passes p (x ∷ xs) (suc i) h e = by (p x) refl (passes p xs i (omega arith) e)
  where
    by : (b : Bool) → p x ≡ b → position_or_len p xs < length xs → position_or_len p (x ∷ xs) < length (x ∷ xs)
    by true f rest = rw f (omega arith)
    by false f rest = rw f (omega (arith, rest))

lacks_it : (eq : Node → Node → Bool) → ((a : Node) → eq a a ≡ true) → (n : Node) (ns : List Node) → position (eq n) ns ≡ None → Lacks ns n
lacks_it eq whole n ns h i within e =
    let there = passes (eq n) ns i within (ap (eq n) e ∙ whole n) in
    grind (arith, common_steps)

-- what a look-up tells, by a test that tells nodes apart
pub found : (eq : Node → Node → Bool) (n : Node) (ns : List Node) (o : Option ℕ) → o ≡ position (eq n) ns → ((a b : Node) → eq a b ≡ true → a ≡ b) → ((a : Node) → eq a a ≡ true) → MatchOption o (Lacks ns n) (Stands ns n)
found eq n ns None h sound whole = lacks_it eq whole n ns (sym h)
found eq n ns (Some i) h sound whole = stands eq sound n ns i (sym h)
