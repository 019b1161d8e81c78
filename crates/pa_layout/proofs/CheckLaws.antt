-- A check that finds nothing is what it says of the bytes.
use Rattle.std.proofs.Common.{◌≡◌, ℕ, ◌-◌, ◌≤◌, Bool, true, false, cond, List, [], ◌∷◌, length, Some, None, refl, ap, arith}
use Rattle.pa_layout.specs.declared.field.FileField.{FileField}
use Rattle.pa_layout.specs.Fields.{stands, wrong_from}
use Rattle.pa_layout.specs.Flaws.{Check, Fields, Told, Zeros, Holds, at_place, unless, flaw_of, first, Meets, AllMet}
use Rattle.pa_layout.proofs.Laws.{IsBytes, stand-spelled, spelled-stand, zeros-stand, zeros-read}
use Rattle.pa_layout.proofs.Facts.{then_none, unless_none, at_none}

-- a check inside the bytes, as all are once the checks before it have passed
abbrev pub Inside : Check → List ℕ → Type 0
Inside (Fields rule at fields) bytes = at ≤ length bytes
Inside (Told rule place at field) bytes = at ≤ length bytes
Inside (Zeros rule low high) bytes = (low ≤ high) × (high ≤ length bytes)
Inside (Holds rule place holds) bytes = Unit {0}

cond_true : (b : Bool) (x : ℕ) → cond b None (Some x) ≡ None → b ≡ true
cond_true true x e = refl
cond_true false x e = absurd cc

stands_none : (field : FileField) (at : ℕ) (bytes : List ℕ) → stands field at bytes ≡ true → wrong_from at (field ∷ []) bytes ≡ None
stands_none field at bytes e = rw e refl

none_stands : (field : FileField) (at : ℕ) (bytes : List ℕ) → wrong_from at (field ∷ []) bytes ≡ None → stands field at bytes ≡ true
none_stands field at bytes e = cond_true (stands field at bytes) at e

pub meets_of_none : (check : Check) (bytes : List ℕ) → IsBytes bytes → Inside check bytes → flaw_of check bytes ≡ None → Meets bytes check
unfolding flaw_of
meets_of_none (Fields rule at fields) bytes fits i e = stand-spelled at fields bytes fits i (at_none rule _ e)
meets_of_none (Told rule place at field) bytes fits i e = stand-spelled at (field ∷ []) bytes fits i (stands_none field at bytes (unless_none _ rule place e))
meets_of_none (Zeros rule low high) bytes fits i e = zeros-stand low (high - low) bytes (omega arith) (at_none rule _ e)
meets_of_none (Holds rule place holds) bytes fits i e = unless_none holds rule place e

pub none_of_meets : (check : Check) (bytes : List ℕ) → Meets bytes check → flaw_of check bytes ≡ None
unfolding flaw_of
none_of_meets (Fields rule at fields) bytes m = ap (at_place rule) (spelled-stand at fields bytes m.1 m.0)
none_of_meets (Told rule place at field) bytes m = ap (λ b. unless b rule place) (none_stands field at bytes (spelled-stand at (field ∷ []) bytes m.1 m.0))
none_of_meets (Zeros rule low high) bytes m = ap (at_place rule) (zeros-read low (high - low) bytes m)
none_of_meets (Holds rule place holds) bytes m = ap (λ b. unless b rule place) m

abbrev pub AllInside : List Check → List ℕ → Type 0
AllInside [] bytes = Unit {0}
AllInside (check ∷ checks) bytes = Inside check bytes × AllInside checks bytes

-- no flaw is that all checks are met
pub all_met : (checks : List Check) (bytes : List ℕ) → IsBytes bytes → AllInside checks bytes → first checks bytes ≡ None → AllMet bytes checks
all_met [] bytes fits i e = tt
all_met (check ∷ checks) bytes fits i e =
    let a = then_none (flaw_of check bytes) (first checks bytes) e in
    (meets_of_none check bytes fits i.0 a.0, all_met checks bytes fits i.1 a.1)

pub none_first : (checks : List Check) (bytes : List ℕ) → AllMet bytes checks → first checks bytes ≡ None
none_first [] bytes m = refl
none_first (check ∷ checks) bytes m = rw (none_of_meets check bytes m.0) (none_first checks bytes m.1)
