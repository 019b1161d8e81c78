-- Counts that are limited, on the code.
use Rattle.std.specs.Prelude.{ℕ, suc, ◌+◌, nat_lt, Bool, List, [], ◌∷◌, length, if◌then◌else◌, Option, Some, None}
use Rattle.std.specs.Int.{next_multiple_of}
use Rattle.pa_typed.specs.Counts.{locals_bytes}
use Rattle.pa_typed.specs.declared.unit.CLocal.{CLocal}
use Rattle.pa_typed.specs.declared.unit.CGlobal.{CGlobal}
use Rattle.pa_typed.specs.declared.unit.Function.{Function}
use Rattle.pa_link.specs.declared.rule.LinkFault.{LinkFault}
use Rattle.pa_link.specs.declared.rule.LinkRule.TheVariants.{M4}
use Rattle.pa_link.specs.Program.{fault, most_local_bytes}

-- the bytes of globals, each rounded up to 8
abbrev pub globals_bytes : List CGlobal → ℕ
globals_bytes [] = 0
globals_bytes (g ∷ gs) = next_multiple_of g.size 8 + globals_bytes gs

-- the bytes of string literals with their zeros
abbrev pub texts_bytes : List (List ℕ) → ℕ
texts_bytes [] = 0
texts_bytes (text ∷ texts) = suc (length text) + texts_bytes texts

abbrev pub is_too_wide : List CLocal → Bool
is_too_wide locals = nat_lt most_local_bytes (locals_bytes locals)

-- the first function whose objects have too many bytes
abbrev pub wide_fault : ℕ → List Function → Option LinkFault
wide_fault file [] = None
wide_fault file (f ∷ fs) = if is_too_wide f.locals then Some (fault M4 file f.place) else wide_fault file fs
