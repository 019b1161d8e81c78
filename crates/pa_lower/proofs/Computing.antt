-- Both meanings of a program, that of its trees and that of its flat code, side by side.
use Rattle.std.proofs.Common.{◌≡◌, ℕ, suc, ◌+◌, ◌*◌, true, List}
use Rattle.std.specs.Prelude.{ℤ, nat_le}
use Rattle.pa_typed.specs.Units.{ProgramTree}
use Rattle.pa_cmean.specs.Results as mean
use Rattle.pa_cmean.specs.Results.{Meaning, End}
use Rattle.pa_cmean.proofs.Runs.{result}
use Rattle.pa_num.specs.Arithmetic.{wrap, add64, sub64, mul64, not64, udiv64, sdiv64, lsl64, lsr64, asr64}
use Rattle.pa_lir.specs.Flow.{place_of_label}
use Rattle.pa_lir.specs.Parts.{above, above_all}
use Rattle.pa_lir.specs.Values.{octets, number_in, are_parts}
use Rattle.pa_lir.specs.Meaning as flat
use Rattle.pa_lir.specs.Meaning.{FlatMeaning, FlatEnd, lmean, run, unit, act_of, applied, arrives, born, depth, temp_in, temps_of, function_named, global_named, without}
use Rattle.pa_lower.specs.Expressions.{expr_ops, exprs_ops}
use Rattle.pa_lower.specs.Statements.{initials_labels, initials_ops, locals_labels, locals_ops, case_labels, stmt_tests, item_tests, stmt_default, item_default, stmt_ops, stmts_ops, switched_ops, items_ops}
use Rattle.pa_lower.specs.Programs.{lowered}

-- `unfolding flat_result` opens all that a run of flat code goes through, and what its code is made of
unfoldable pub flat_result : ProgramTree → List ℕ → ℕ → FlatMeaning
unfolding run unit act_of applied arrives born depth temp_in temps_of function_named global_named without place_of_label above above_all octets number_in are_parts wrap add64 sub64 mul64 not64 udiv64 sdiv64 lsl64 lsr64 asr64 expr_ops exprs_ops initials_labels initials_ops locals_labels locals_ops case_labels stmt_tests item_tests stmt_default item_default stmt_ops stmts_ops switched_ops items_ops
flat_result p input fuel = lmean (lowered p) input fuel

-- how both end and what they print, within so much work and so many operations
abbrev pub both : ProgramTree → List ℕ → (End × List ℕ) × (FlatEnd × List ℕ)
both p input = let m : Meaning = result p input 600 in let q : FlatMeaning = flat_result p input 1500 in ((m.end, m.output), (q.end, q.output))

-- one and the same
abbrev pub agree : ℤ → List ℕ → (End × List ℕ) × (FlatEnd × List ℕ)
agree status output = ((mean.Done status, output), (flat.Done status, output))

-- The calls and loads in order are the same, and the flat code stays within its bounds: costs, the turns that may begin before
-- operations ran, and the stack of open calls.
pub record IsWithin (p : ProgramTree) (input : List ℕ) : Type 0 where
  pub trace : (let m : Meaning = result p input 600 in let q : FlatMeaning = flat_result p input 1500 in q.trace ≡ m.trace)
  pub cost : (let m : Meaning = result p input 600 in let q : FlatMeaning = flat_result p input 1500 in nat_le q.cost (900 + 64 * m.work) ≡ true)
  pub turns : (let m : Meaning = result p input 600 in let q : FlatMeaning = flat_result p input 1500 in nat_le m.turns (suc q.operations) ≡ true)
  pub deep : (let m : Meaning = result p input 600 in let q : FlatMeaning = flat_result p input 1500 in nat_le q.deep m.deep ≡ true)
