-- The rules K1 to K4 and K6 to K8, each a condition on a word, its function and the window round it.
use Rattle.std.specs.Prelude.{ℕ, zero, suc, ◌+◌, ◌-◌, ◌*◌, ◌/◌, ◌%◌, Bool, false, not, ◌&&◌, ◌||◌, ◌==◌, nat_lt, if◌then◌else◌, ℤ, List, Option, Some, None, is_some}
use Rattle.std.specs.Option.{option_map_or}
use Rattle.pa_a64.specs.declared.instr.Instr.{Instr}
use Rattle.pa_a64.specs.declared.instr.Instr.TheVariants as i
use Rattle.pa_a64.specs.declared.instr.SumImmediateOp.TheVariants as immediate
use Rattle.pa_a64.specs.declared.instr.LoadStoreOp.TheVariants.{Ldr}
use Rattle.pa_a64.specs.declared.instr.BranchOp.TheVariants.{Bl}
use Rattle.pa_a64.specs.declared.instr.BranchAuthenticatedOp.TheVariants.{Braa}
use Rattle.pa_a64.specs.declared.instr.ExceptionOp.TheVariants.{Svc, Brk}
use Rattle.pa_check.specs.declared.rule.CheckRule.{CheckRule}
use Rattle.pa_check.specs.declared.rule.CheckRule.TheVariants.{K1, K2, K3, K4, K6, K7, K8}
use Rattle.pa_check.specs.declared.window.Window.{Window}
use Rattle.pa_check.specs.Rows.{is_misplaced, signs_code, branch_words, call_words, is_pacibsp, may_be_last, is_forbidden, is_stray_return, is_stray_branch}
use Rattle.pa_check.specs.Text.{Text, place, number_at, nth, is_entry, is_stub, target, page}
use Rattle.pa_check.specs.Windows.{is_zero, opening_words, breaks_window, Spot}

-- ---- windows

-- behind its window's first word
abbrev pub is_inside : Option Window → Bool
is_inside None = false
is_inside (Some window) = not (is_zero window.behind)

-- where a call by x16 may end it: an authentication opened the window
abbrev pub window_calls : Option Window → Bool
window_calls None = false
window_calls (Some window) = opening_words window.opening == 1 && is_inside (Some window)

abbrev pub window_broken : Option Window → Option Instr → Bool
window_broken None instr = signs_code instr
window_broken (Some window) instr = breaks_window window.opening window.behind instr

-- ---- branches

-- the word of this number, behind the function's first word
abbrev pub within : (first end : ℕ) → Option ℕ → Bool
within first end None = false
within first end (Some k) = nat_lt first k && nat_lt k end

-- a call leads to a function or a stub
abbrev pub calls_code : Text → (at : ℕ) → ℤ → Bool
calls_code text at words = is_entry text (target at words) || is_stub text (target at words)

abbrev pub calls_elsewhere : Text → (at : ℕ) → Option Instr → Bool
calls_elsewhere text at instr = option_map_or (λ words. not (calls_code text at words)) (call_words instr) false

abbrev pub leaves_function : (first end at : ℕ) → Option Instr → Bool
leaves_function first end at instr =
    option_map_or (λ words. not (within first end (number_at (target at words)))) (branch_words instr) false

abbrev pub inside_in : Option Spot → Bool
inside_in None = false
inside_in (Some spot) = is_inside spot.window

-- behind its first word; a branch out of the function breaks another rule already
abbrev pub lands_inside : List Spot → (first end : ℕ) → Option ℕ → Bool
lands_inside all first end k = within first end k && inside_in (nth all k)

abbrev pub enters_window : List Spot → (first end at : ℕ) → Option Instr → Bool
enters_window all first end at instr =
    option_map_or (λ words. lands_inside all first end (number_at (target at words))) (branch_words instr) false

-- ---- words of functions

abbrev pub breaks_k1 : Text → (k : ℕ) → Spot → Bool
breaks_k1 text k s = if s.marked then not (is_pacibsp s.instr) else k == text.start

abbrev pub breaks_k2 : Text → (at : ℕ) → Spot → Bool
breaks_k2 text at s = leaves_function s.first s.end at s.instr || calls_elsewhere text at s.instr

abbrev pub breaks_k3 : List Spot → (at : ℕ) → Spot → Bool
breaks_k3 all at s =
    is_misplaced s.instr || (window_broken s.window s.instr || enters_window all s.first s.end at s.instr)

abbrev pub breaks_k4 : Spot → Bool
breaks_k4 s = s.is_last && not (may_be_last s.instr)

-- the lowest of the rules that are broken
abbrev pub lowest : (k1 k2 k3 k4 k6 k7 k8 : Bool) → Option CheckRule
lowest k1 k2 k3 k4 k6 k7 k8 =
    if k1 then Some K1
    else (if k2 then Some K2
    else (if k3 then Some K3
    else (if k4 then Some K4
    else (if k6 then Some K6
    else (if k7 then Some K7
    else (if k8 then Some K8
    else None))))))

abbrev pub function_rule : Text → List Spot → (k : ℕ) → Spot → Option CheckRule
function_rule text all k s =
    lowest (breaks_k1 text k s) (breaks_k2 text (place k) s) (breaks_k3 all (place k) s) (breaks_k4 s) (is_forbidden s.instr)
    (is_stray_branch (window_calls s.window) s.instr) (is_stray_return s.marked s.instr)

-- ---- words that are to be given ones: those of `start` and of stubs

-- the lowest rule that such a word breaks, where it differs; it has no function, and no window is open there
abbrev pub given_rule : Text → (at : ℕ) → Option Instr → CheckRule → CheckRule
given_rule text at instr differs =
    if is_some (branch_words instr) || calls_elsewhere text at instr then K2
    else (if is_misplaced instr || signs_code instr then K3
    else (if is_forbidden instr then K6
    else differs))

-- `bl _main`, `svc #3`, `brk #0`
abbrev pub is_start : Text → (k : ℕ) → Option Instr → Bool
is_start text zero (Some (i.Branch Bl words)) = option_map_or (λ main. target (place 0) words == main) text.main false
is_start text (suc zero) (Some (i.Exception Svc imm)) = imm == 3
is_start text (suc (suc zero)) (Some (i.Exception Brk imm)) = imm == 0
is_start text k other = false

abbrev pub start_rule : Text → (k : ℕ) → Spot → Option CheckRule
start_rule text k s =
    if s.marked then Some K1
    else (if is_start text k s.instr then None
    else Some (given_rule text (place k) s.instr K6))

abbrev pub word_rule : Text → List Spot → (k : ℕ) → Spot → Option CheckRule
word_rule text all k s = if nat_lt k text.start then start_rule text k s else function_rule text all k s

-- `adrp x17, page`, `add x17, x17, #low`, `ldr x16, [x17, #0]`, `braa x16, x17` of the slot at this place
abbrev pub is_stub_word : (at slot : ℕ) → (part : ℕ) → Option Instr → Bool
is_stub_word at slot zero (Some (i.Adrp rd pages)) = rd == 17 && page at pages == slot - slot % 4096
is_stub_word at slot (suc zero) (Some (i.SumImmediate immediate.Add rd rn imm shifted)) =
    rd == 17 && (rn == 17 && (imm == slot % 4096 && not shifted))
is_stub_word at slot (suc (suc zero)) (Some (i.LoadStore Ldr rt rn imm)) = rt == 16 && (rn == 17 && imm == 0)
is_stub_word at slot (suc (suc (suc zero))) (Some (i.BranchAuthenticated Braa rn rm)) = rn == 16 && rm == 17
is_stub_word at slot part other = false

-- word n of the stubs; stub i is that of slot i, of which `slots` stand from a place on
abbrev pub stub_rule : Text → (from slots : ℕ) → (n : ℕ) → Option Instr → Option CheckRule
stub_rule text from slots n instr =
    let at = text.stubs + 4 * n in
    if nat_lt (n / 4) slots && is_stub_word at (from + 8 * (n / 4)) (n % 4) instr then None
    else Some (given_rule text at instr K7)
