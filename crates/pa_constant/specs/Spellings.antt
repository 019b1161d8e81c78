-- Names whose texts stand in a table, and what is answered of them.
use Rattle.std.specs.Prelude.{◌≡◌, ℕ, List, length, Option, option_map, Result}
use Rattle.pa_num.specs.declared.fault.Fault.{Fault}
use Rattle.pa_ctype.specs.Types.{TypeTree}
use Rattle.pa_ctype.specs.Tables.{TypeTable, AreApart, ForTypes}
use Rattle.pa_typed.specs.Units.{name_in}
use Rattle.pa_blocks.specs.declared.meant.Meant.{Meant}
use Rattle.pa_convert.specs.Grows.{Grows}
use Rattle.pa_scope.specs.declared.rule.TypeRule.{TypeRule}
use Rattle.pa_scope.specs.declared.scope.Scope.{Scope}
use Rattle.pa_scope.specs.Answers.{Answer}
use Rattle.pa_scope.specs.Numbered.{meaning_of}
use Rattle.pa_scope.specs.Scopes.{scope_of}
use Rattle.pa_scope.specs.Scope as plain
use Rattle.pa_rexpr.specs.Values.{Typed}
use Rattle.pa_value.specs.declared.form.TypedForm.{TypedForm}
use Rattle.pa_value.specs.Forms.{typed_of, ForForms, Meets}

-- they are the names of the table of types, and told apart
pub record Spells (texts : List (List ℕ)) (t : TypeTable) : Type 0 where
  pub count : length texts ≡ t.names
  pub apart : AreApart t.names (name_in texts)

-- a scope whose table of types has grown, and nothing else
pub record IsGrown (old new : Scope) : Type 0 where
  pub names : new.names ≡ old.names
  pub tags : new.tags ≡ old.tags
  pub types : Grows old.types new.types

-- the form that this number of a type and these names stand for
abbrev pub StandsFor : TypeTable → TypedForm → ((ℕ → List ℕ) → (ℕ → TypeTree) → Typed) → Type 0
StandsFor t form typed = ForForms t (λ names m. typed_of names m form ≡ typed names m)

-- of what a name means
abbrev pub GivesMeant : TypeTable → Result TypedForm (Fault TypeRule) → Option Meant → (Option plain.Meaning → Answer Typed) → Type 0
GivesMeant t result meant answer = ForForms t (λ names m. Meets (typed_of names m) result (answer (option_map (meaning_of m) meant)))

-- of what the name of this number means, whose text this is
abbrev pub GivesNamed : TypeTable → Result TypedForm (Fault TypeRule) → ℕ → List ℕ → Option Meant → (Option plain.Meaning → Answer Typed) → Type 0
GivesNamed t result name text meant answer =
    ForForms t (λ names m. names name ≡ text → Meets (typed_of names m) result (answer (option_map (meaning_of m) meant)))

-- in a scope, by the name of this number among these texts
abbrev pub GivesIn : List (List ℕ) → Scope → Result TypedForm (Fault TypeRule) → ℕ → (plain.Scope → List ℕ → Answer Typed) → Type 0
GivesIn texts scope result name answer =
    ForTypes scope.types (λ m. Meets (typed_of (name_in texts) m) result (answer (scope_of (name_in texts) m scope) (name_in texts name)))
