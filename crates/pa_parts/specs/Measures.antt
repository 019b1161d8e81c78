-- What a rule of the grammar answers: the tree that the reading gives, and its height, which is within a depth.
use Rattle.std.specs.Prelude.{◌≡◌, ◌≤◌, ℕ, Result, IfOk}
use Rattle.pa_parts.specs.declared.measured.Measured.{Measured}
use Rattle.pa_parts.specs.Trees.{Tree}
use Rattle.pa_grammar.specs.declared.rule.ParseError.{ParseError}
use Rattle.pa_grammar.specs.Parser.{Parser}
use Rattle.pa_grammar.specs.Rule.{Rule}

abbrev pub MeasuredRule : Type 0 → Type 0 → Type 0
MeasuredRule A T = Rule (Measured A) T

-- a rule that is read so, as a function that gives the height too follows it
abbrev pub measured : {A T : Type 0} → Tree A T → Parser T → MeasuredRule A T
measured tree read = record { view = λ m. tree.view m.tree; read = read }

abbrev pub HasHeight : {A T : Type 0} → Tree A T → ℕ → Measured A → Type 0
HasHeight tree d m = (m.height ≡ tree.height (tree.view m.tree)) × (m.height ≤ d)

abbrev pub Measures : {A T : Type 0} → Tree A T → ℕ → Result (Measured A) ParseError → Type 0
Measures tree d r = IfOk r (HasHeight tree d)
