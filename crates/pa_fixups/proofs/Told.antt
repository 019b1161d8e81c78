-- The places that flaws of the fixups are told at.
use Rattle.std.proofs.Common.{inl, inr, ◌⊎◌, ◌≡◌, ℕ, zero, suc, ◌+◌, ◌-◌, ◌*◌, ◌≤◌, ◌<◌, ◌^◌, Bool, true, false, cond, eqb, List, [], ◌∷◌, length, get_or, min, Option, Some, None, Result, Ok, Err, refl, ap, sym, arith}
use Rattle.std.specs.List.{after_first}
use Rattle.pa_num.specs.declared.fault.ImageRule.{ImageRule}
use Rattle.pa_num.specs.declared.fault.ImageRule.TheVariants.{H3, F1, F2, F7}
use Rattle.pa_num.specs.declared.fault.Fault.{Fault}
use Rattle.pa_num.specs.declared.fault.Fault.TheVariants.{Refused, Memory}
use Rattle.pa_layout.specs.declared.checks.Flaw.{Flaw}
use Rattle.pa_layout.specs.declared.field.FileField.{FileField}
use Rattle.pa_layout.specs.Fields.{bytes_in, stands, wrong_from, size_of, nonzero_in, number}
use Rattle.pa_layout.specs.Flaws.{Check, Fields, Told, Zeros, Holds, at_place, unless, flaw_at, flaw_of, first, AnswersOrMemory, IfRefused, ◌then◌}
use Rattle.pa_layout.specs.Names.{is_zero, name_length, behind}
use Rattle.pa_layout.proofs.Laws.{IsBytes, number-lt}
use Rattle.pa_fixups.specs.declared.tables.DataAt.{DataAt}
use Rattle.pa_fixups.specs.declared.tables.Fixups.{Fixups}
use Rattle.pa_fixups.specs.Fixups.{starts_end, imports_at, names_at, header_of, segments_of, pages_of, count_in, text_in, starts_checks, table_checks, entry_checks, name_checks, end_check, fixups_flaw}

-- a check tells a place below a bound
abbrev pub TellsBelow : ℕ → Check → Type 0
TellsBelow bound (Fields rule at fields) = at + size_of fields < bound
TellsBelow bound (Told rule place at field) = place < bound
TellsBelow bound (Zeros rule low high) = (low < bound) × (high < bound)
TellsBelow bound (Holds rule place holds) = place < bound

abbrev pub AllBelow : ℕ → List Check → Type 0
AllBelow bound [] = Unit {0}
AllBelow bound (check ∷ checks) = TellsBelow bound check × AllBelow bound checks

then_some : (a b : Option Flaw) (f : Flaw) → a then b ≡ Some f → (a ≡ Some f) ⊎ (b ≡ Some f)
then_some None b f e = inr e
then_some (Some g) b f e = inl e

place_some : (rule : ImageRule) (o : Option ℕ) (f : Flaw) → at_place rule o ≡ Some f → o ≡ Some f.place
place_some rule None f e = absurd cc
place_some rule (Some place) f e = let same : flaw_at rule place ≡ f = cc in ap (λ (x : Flaw). Some x.place) same

unless_place : (b : Bool) (rule : ImageRule) (place : ℕ) (f : Flaw) → unless b rule place ≡ Some f → place ≡ f.place
unless_place true rule place f e = absurd cc
unless_place false rule place f e = let same : flaw_at rule place ≡ f = cc in ap (λ (x : Flaw). x.place) same

wrong_case : (t : Bool) (x : Option ℕ) (at place : ℕ) → cond t x (Some at) ≡ Some place → (x ≡ Some place) ⊎ (at ≡ place)
wrong_case true x at place e = inl e
wrong_case false x at place e = inr cc

wrong_below : (at : ℕ) (fields : List FileField) (bytes : List ℕ) (place : ℕ) → wrong_from at fields bytes ≡ Some place → place ≤ at + size_of fields
wrong_below at [] bytes place e = absurd cc
wrong_below at (f ∷ fs) bytes place e =
    elim (wrong_case (stands f at bytes) (wrong_from (at + bytes_in f.width) fs bytes) at place e) [
      | inl h ↦ let b = wrong_below (at + bytes_in f.width) fs bytes place h in omega arith
      | inr same ↦ omega arith
    ]

nonzero_below : (at n : ℕ) (bytes : List ℕ) (place : ℕ) → nonzero_in at n bytes ≡ Some place → place < at + n
nonzero_below at zero bytes place e = absurd cc
nonzero_below at (suc n) bytes place e =
    elim (wrong_case (eqb (get_or bytes at 0) 0) (nonzero_in (at + 1) n bytes) at place e) [
      | inl h ↦ let b = nonzero_below (at + 1) n bytes place h in omega arith
      | inr same ↦ omega arith
    ]

check_below : (bound : ℕ) (check : Check) (bytes : List ℕ) (f : Flaw) → TellsBelow bound check → flaw_of check bytes ≡ Some f → f.place < bound
unfolding flaw_of
check_below bound (Fields rule at fields) bytes f b e = let p = wrong_below at fields bytes f.place (place_some rule _ f e) in omega arith
check_below bound (Told rule place at field) bytes f b e = let p = unless_place _ rule place f e in omega arith
check_below bound (Zeros rule low high) bytes f b e = let l = b.0 in let h = b.1 in let p = nonzero_below low (high - low) bytes f.place (place_some rule _ f e) in omega arith
check_below bound (Holds rule place holds) bytes f b e = let p = unless_place holds rule place f e in omega arith

pub first_below : (bound : ℕ) (checks : List Check) (bytes : List ℕ) (f : Flaw) → AllBelow bound checks → first checks bytes ≡ Some f → f.place < bound
first_below bound [] bytes f b e = absurd cc
first_below bound (check ∷ checks) bytes f b e =
    elim (then_some (flaw_of check bytes) (first checks bytes) f e) [
      | inl h ↦ check_below bound check bytes f b.0 h
      | inr h ↦ first_below bound checks bytes f b.1 h
    ]

entries_below : (bound n place : ℕ) (part : List ℕ) → place + 4 * n < bound → AllBelow bound (entry_checks n place part)
entries_below bound zero place part le = tt
entries_below bound (suc n) place part le = (omega arith, entries_below bound n (place + 4) part (omega arith))

names_below : (bound n place at : ℕ) (part text : List ℕ) → place + 4 * n < bound → AllBelow bound (name_checks n place at part text)
names_below bound zero place at part text le = tt
names_below bound (suc n) place at part text le = (omega arith, names_below bound n (place + 4) (at + (name_length text + 1)) part (after_first is_zero text) (omega arith))

starts_below : (at : DataAt) (len bound : ℕ) → 2 ^ 40 + 4 * at.pages ≤ bound → AllBelow bound (starts_checks at len)
unfolding starts_checks
starts_below at len bound le = ((omega arith, omega arith), (omega arith, (omega arith, tt)))

tables_below : (at : DataAt) (count len bound : ℕ) → 2 ^ 40 + 4 * at.pages ≤ bound → count < 2 ^ 32 → AllBelow bound (table_checks at count len)
unfolding table_checks header_of segments_of pages_of
tables_below at count len bound le lc = (omega arith, (omega arith, (omega arith, (omega arith, (omega arith, tt)))))

pub fixups_place : (at : DataAt) (part : List ℕ) (f : Flaw) → IsBytes part → fixups_flaw at part ≡ Some f → f.place < 2 ^ 40 + 4 * at.pages + length part
unfolding fixups_flaw
fixups_place at part f bytes e =
    let bound = 2 ^ 40 + 4 * at.pages + length part in
    let count = count_in part in
    let names = names_at at count in
    let text = text_in at part in
    let lc : count < 2 ^ 32 = number-lt 4 16 part bytes in
    let a = first (starts_checks at (length part)) part in
    let b = first (table_checks at count (length part)) part in
    let c = first (entry_checks count (imports_at at) part) part in
    let d = flaw_of (Zeros F2 names (names + 1)) part in
    let g = first (name_checks count (imports_at at) 1 part text) part in
    let k = flaw_of (end_check count part text) part in
    elim (then_some a (b then c then d then g then k) f e) [
      | inl h ↦ first_below bound (starts_checks at (length part)) part f (starts_below at (length part) bound (omega arith)) h
      | inr e1 ↦ elim (then_some b (c then d then g then k) f e1) [
        | inl h ↦ first_below bound (table_checks at count (length part)) part f (tables_below at count (length part) bound (omega arith) lc) h
        | inr e2 ↦ elim (then_some c (d then g then k) f e2) [
          | inl h ↦ first_below bound (entry_checks count (imports_at at) part) part f (entries_below bound count (imports_at at) part (omega arith)) h
          | inr e3 ↦ elim (then_some d (g then k) f e3) [
            | inl h ↦ check_below bound (Zeros F2 names (names + 1)) part f (omega arith, omega arith) h
            | inr e4 ↦ elim (then_some g k f e4) [
              | inl h ↦ first_below bound (name_checks count (imports_at at) 1 part text) part f (names_below bound count (imports_at at) 1 part text (omega arith)) h
              | inr h ↦ check_below bound (end_check count part text) part f (omega arith) h
            ]
          ]
        ]
      ]
    ]

pub refused_place : (at : DataAt) (part : List ℕ) (result : Result Fixups (Fault ImageRule)) → IsBytes part → AnswersOrMemory result (fixups_flaw at part) → IfRefused result (λ rule place. place < 2 ^ 40 + 4 * at.pages + length part)
refused_place at part (Ok fixups) bytes e = tt
refused_place at part (Err (Refused rule place)) bytes e = fixups_place at part (flaw_at rule place) bytes e
refused_place at part (Err Memory) bytes e = tt
