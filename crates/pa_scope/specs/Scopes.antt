-- The scope of the program, as contracts see it.
use Rattle.std.specs.Prelude.{◌≡◌, ℕ, List, Option, Some, None, Result, Ok, Err}
use Rattle.pa_num.specs.declared.fault.Fault.{Fault}
use Rattle.pa_num.specs.declared.fault.Fault.TheVariants.{Refused, Memory}
use Rattle.pa_ctype.specs.Types.{TypeTree, Of, Array, array_of}
use Rattle.pa_ctype.specs.Layouts.{Table, IsComplete}
use Rattle.pa_scope.specs.declared.rule.TypeRule.{TypeRule}
use Rattle.pa_scope.specs.declared.scope.Scope.{Scope}
use Rattle.pa_scope.specs.Answers.{Answer, breaks_at}
use Rattle.pa_scope.specs.Numbered.{scope_by, IsSoundBy}
use Rattle.pa_scope.specs.Scope as plain

-- where numbers stand for these names and types
abbrev pub scope_of : (ℕ → List ℕ) → (ℕ → TypeTree) → Scope → plain.Scope
scope_of names m s = scope_by names m s.names s.tags s.types

abbrev pub IsSound : Scope → Type 0
IsSound s = IsSoundBy s.names s.tags s.types

-- an array without a length, which is a complete type with this one (6.7.6.2p4, 6.7.9p22)
abbrev pub CompletesType : Table → ℕ → TypeTree → Type 0
CompletesType table count (Of c (Array of None)) = IsComplete table (array_of of count)
CompletesType table count t = ⊥

-- an object of such a type, by the type's number
abbrev pub Completes : Table → (ℕ → TypeTree) → ℕ → Option ℕ → Type 0
Completes table m count None = ⊥
Completes table m count (Some of) = CompletesType table count (m of)

-- what a call may answer that gives a struct and leaves this scope, where the definition has this answer: want of memory says nothing
abbrev pub MeetsFound : Result ℕ (Fault TypeRule) → Answer plain.Found → plain.Scope → Type 0
MeetsFound (Ok id) answer after = answer ≡ Ok (record { id = id; scope = after })
MeetsFound (Err (Refused rule place)) answer after = answer ≡ breaks_at rule place
MeetsFound (Err Memory) answer after = Unit {0}
