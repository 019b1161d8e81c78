-- A store changes no right.
use Rattle.pa_mem.proofs.Ranges.{allowed-store}

pub ruleset storing = allowed-store
