-- Starts, entries and names, one after the other.
use Rattle.std.proofs.Common.{◌≡◌, ℕ, suc, ◌+◌, ◌-◌, ◌*◌, ◌/◌, ◌%◌, ◌≤◌, ◌<◌, ◌^◌, eqb, ◌&&◌, List, [], ◌∷◌, ◌++◌, length, take, drop, Option, None, refl, sym, ap, subst, ◌∙◌, arith, append_assoc}
use Rattle.std.specs.List.{before_first, after_first}
use Rattle.std.proofs.lemmas.Bool.{ltb-true, and_parts}
use Rattle.std.proofs.lemmas.List.{append-nil, length-drop, take_all}
use Rattle.pa_num.specs.declared.fault.ImageRule.TheVariants.{F2, F7}
use Rattle.pa_layout.specs.declared.checks.Flaw.{Flaw}
use Rattle.pa_layout.specs.Fields.{number, numbers}
use Rattle.pa_layout.specs.Flaws.{Holds, flaw_of, first}
use Rattle.pa_layout.specs.Names.{is_zero, name_length, has_end, cut, behind}
use Rattle.pa_layout.proofs.Facts.{holds_true}
use Rattle.pa_fixups.specs.Fixups.{entry_checks, name_checks}

pub numbers_push : (count k at : ℕ) (part row : List ℕ) → k < count → row ++ numbers (count - k) 2 (at + 2 * k) part ≡ numbers count 2 at part
    → (row ++ number 2 (at + 2 * k) part ∷ []) ++ numbers (count - (k + 1)) 2 (at + 2 * (k + 1)) part ≡ numbers count 2 at part
numbers_push count k at part row lt e =
    let one : count - k ≡ suc (count - (k + 1)) = omega arith in
    let next : at + 2 * (k + 1) ≡ at + 2 * k + 2 = omega arith in
    rw next (append_assoc row (number 2 (at + 2 * k) part ∷ []) (numbers (count - (k + 1)) 2 (at + 2 * k + 2) part) ∙ (rw one at e))

-- a text whose entry says where it begins has its name's end
pub name_ends : (place at : ℕ) (part text : List ℕ) → flaw_of (Holds F7 place (eqb (number 4 place part / 2 ^ 9) at && has_end text)) part ≡ None → name_length text < length text
name_ends place at part text e = ltb-true _ _ (and_parts (eqb (number 4 place part / 2 ^ 9) at) (has_end text) (holds_true F7 place _ part e)).1

-- what the loop over the names keeps
pub record Read (count entries k at : ℕ) (part text rest : List ℕ) (names : List (List ℕ)) : Type 0 where
  pub names_are : names ++ cut (count - k) rest ≡ cut count text
  pub rest_is : behind (count - k) rest ≡ behind count text
  pub flaw : first (name_checks (count - k) (entries + 4 * k) at part rest) part ≡ first (name_checks count entries 1 part text) part
  pub place : at + length rest ≡ 1 + length text

pub entries_on : (count k at : ℕ) (part : List ℕ) (told : Option Flaw) → k < count → flaw_of (Holds F2 (at + 4 * k) (eqb (number 4 (at + 4 * k) part % 2 ^ 9) 1)) part ≡ None → first (entry_checks (count - k) (at + 4 * k) part) part ≡ told
    → first (entry_checks (count - (k + 1)) (at + 4 * (k + 1)) part) part ≡ told
entries_on count k at part told lt e h =
    let one : count - k ≡ suc (count - (k + 1)) = omega arith in
    let next : at + 4 * (k + 1) ≡ at + 4 * k + 4 = omega arith in
    rw next (sym (rw e refl) ∙ (rw one at h))

first_step : (n place at : ℕ) (part rest : List ℕ) → flaw_of (Holds F7 place (eqb (number 4 place part / 2 ^ 9) at && has_end rest)) part ≡ None
    → first (name_checks (suc n) place at part rest) part ≡ first (name_checks n (place + 4) (at + (name_length rest + 1)) part (after_first is_zero rest)) part
first_step n place at part rest e = rw e refl

-- one more name
pub read_on : (count entries k at len : ℕ) (part text rest : List ℕ) (names : List (List ℕ)) → k < count → Read count entries k at part text rest names → (len ≡ name_length rest) × (len < length rest)
    → flaw_of (Holds F7 (entries + 4 * k) (eqb (number 4 (entries + 4 * k) part / 2 ^ 9) at && has_end rest)) part ≡ None
    → Read count entries (k + 1) (at + (len + 1)) part text (drop (len + 1) rest) (names ++ take len rest ∷ [])
read_on count entries k at len part text rest names lt r e ok =
    let one : count - k ≡ suc (count - (k + 1)) = omega arith in
    let place : entries + 4 * (k + 1) ≡ entries + 4 * k + 4 = omega arith in
    record {
      names_are = rw e.0 (append_assoc names (before_first is_zero rest ∷ []) (cut (count - (k + 1)) (after_first is_zero rest)) ∙ (rw one at r.names_are));
      rest_is = rw e.0 (rw one at r.rest_is);
      flaw = rw (e.0, place) (sym (first_step (count - (k + 1)) (entries + 4 * k) at part rest ok) ∙ (rw one at r.flaw));
      place = omega (arith, r.place, length-drop (len + 1) rest);
    }

-- or none is left
pub read_done : (count entries k at : ℕ) (part text rest : List ℕ) (names : List (List ℕ)) → count ≤ k → Read count entries k at part text rest names
    → (names ≡ cut count text) × (length rest ≡ length (behind count text)) × (first (name_checks count entries 1 part text) part ≡ None)
read_done count entries k at part text rest names le r =
    let none : count - k ≡ 0 = omega arith in
    (sym (append-nil names) ∙ (rw none at r.names_are), ap length (rw none at r.rest_is), sym (rw none at r.flaw))

-- the same, as the loop sees it
pub read_on_at : (count entries k at len : ℕ) (part text rest name : List ℕ) (old new : List (List ℕ)) → k < count → Read count entries k at part text rest old → (len ≡ name_length rest) × (len < length rest)
    → flaw_of (Holds F7 (entries + 4 * k) (eqb (number 4 (entries + 4 * k) part / 2 ^ 9) at && has_end rest)) part ≡ None → name ≡ take len rest → new ≡ old ++ name ∷ []
    → Read count entries (k + 1) (at + (len + 1)) part text (take (length rest - (len + 1)) (drop (len + 1) rest)) new
read_on_at count entries k at len part text rest name old new lt r e ok i n =
    let all : drop (len + 1) rest ≡ take (length rest - (len + 1)) (drop (len + 1) rest) = sym (take_all _ _ (omega (arith, length-drop (len + 1) rest))) in
    let names : old ++ take len rest ∷ [] ≡ new = ap (λ (x : List ℕ). old ++ x ∷ []) (sym i) ∙ sym n in
    subst (λ (l : List ℕ). Read count entries (k + 1) (at + (len + 1)) part text l new) all
    (subst (Read count entries (k + 1) (at + (len + 1)) part text (drop (len + 1) rest)) names (read_on count entries k at len part text rest old lt r e ok))
