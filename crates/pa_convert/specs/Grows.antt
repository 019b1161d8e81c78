-- A table of types that grows.
use Rattle.std.specs.Prelude.{◌≡◌, ◌≤◌, length}
use Rattle.pa_ctype.specs.Nodes.{Fits}
use Rattle.pa_ctype.specs.Tables.{TypeTable, ForTypes}

-- what a number stood for it stands for still, and the structs are the same
pub record Grows (old new : TypeTable) : Type 0 where
  pub longer : length old.nodes ≤ length new.nodes
  pub fits : ForTypes new (λ m. Fits m old.nodes)
  pub structs : new.structs ≡ old.structs
  pub names : new.names ≡ old.names
