-- The rule K5: what the slots of __DATA may hold (mach-o/fixup-chains.h).
use Rattle.std.specs.Prelude.{ℕ, zero, suc, ◌+◌, ◌-◌, Bool, false, not, ◌&&◌, ◌||◌, ◌==◌, nat_lt, if◌then◌else◌, List, [], ◌∷◌, Option, Some, None}
use Rattle.pa_pac.specs.declared.key.Key.TheVariants.{IA}
use Rattle.pa_pac.specs.Key.{same_key}
use Rattle.pa_fixups.specs.declared.kind.Fix.{Fix}
use Rattle.pa_fixups.specs.declared.kind.FixKind.{FixKind}
use Rattle.pa_fixups.specs.declared.kind.FixKind.TheVariants.{Rebase, Bind, AuthRebase, AuthBind}
use Rattle.pa_check.specs.Text.{Text, is_entry}

-- an import's slot: signed under IA with its own address
abbrev pub is_import : FixKind → Bool
is_import (AuthBind ordinal sig) = same_key sig.key IA && (sig.addr && (sig.disc == 0))
is_import other = false

-- a slot of an image with this base that holds no code pointer, or a signed one to a function or an import under IA
abbrev pub is_safe : Text → (base : ℕ) → FixKind → Bool
is_safe text base (Rebase address high8) = not (is_entry text (address - base))
is_safe text base (Bind ordinal addend) = false
is_safe text base (AuthRebase offset sig) = same_key sig.key IA && is_entry text offset
is_safe text base (AuthBind ordinal sig) = same_key sig.key IA

-- what stands past the slots
abbrev pub no_fix : Fix
no_fix = record { at = 0; kind = Rebase 0 0 }

-- the slot at this place is an import's
abbrev pub has_import : List Fix → (at : ℕ) → Bool
has_import [] at = false
has_import (fix ∷ fixes) at = (fix.at == at && is_import fix.kind) || has_import fixes at

-- of n slots of __auth_got from a place on, the first that isn't an import's
unfoldable pub first_no_import : List Fix → (at n : ℕ) → Option ℕ
first_no_import fixes at zero = None
first_no_import fixes at (suc n) = if has_import fixes at then first_no_import fixes (at + 8) n else Some at

-- a slot of __auth_got is an import's, another one is safe
abbrev pub may_hold : Text → (base got : ℕ) → Fix → Bool
may_hold text base got fix = if nat_lt fix.at got then is_import fix.kind else is_safe text base fix.kind

-- the first slot that may not hold what it holds
unfoldable pub first_unsafe : Text → (base got : ℕ) → List Fix → Option ℕ
first_unsafe text base got [] = None
first_unsafe text base got (fix ∷ fixes) =
    if may_hold text base got fix then first_unsafe text base got fixes else Some fix.at
