-- Kinds of two types at once.
use Rattle.std.specs.Prelude.{◌≡◌, ℕ, Bool, ◌&&◌, ◌||◌}
use Rattle.pa_ctype.specs.Types.{TypeTree}
use Rattle.pa_ctype.specs.Tables.{TypeTable, ForTypes}

-- the answer to whether both types are of a kind
abbrev pub IsOfBoth : TypeTable → ℕ → ℕ → Bool → (TypeTree → Bool) → Type 0
IsOfBoth t a b answer kind = ForTypes t (λ m. answer ≡ (kind (m a) && kind (m b)))

-- the answer to whether one of them is
abbrev pub IsOfEither : TypeTable → ℕ → ℕ → Bool → (TypeTree → Bool) → Type 0
IsOfEither t a b answer kind = ForTypes t (λ m. answer ≡ (kind (m a) || kind (m b)))
