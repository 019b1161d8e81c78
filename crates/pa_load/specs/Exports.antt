-- What a table of exported functions keeps.
use Rattle.std.specs.Prelude.{ℕ, List, Option}
use Rattle.std.specs.Str.{bytes_eq}
use Rattle.indexmap.specs.IndexMap.{get_by}
use Rattle.pa_load.specs.declared.exports.Exports.{Exports}

-- the address that is kept for a name
abbrev pub kept : Exports → (name : List ℕ) → Option ℕ
kept exports name = get_by (λ key. bytes_eq name key.now) exports.addresses
