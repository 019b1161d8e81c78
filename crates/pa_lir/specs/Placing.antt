-- The places of labels, as the code keeps them.
use Rattle.std.specs.Prelude.{ℕ, ◌+◌, ◌==◌, if◌then◌else◌, List, Option, Some, None, option_map}
use Rattle.std.specs.Ordering.{nat_cmp}
use Rattle.std.specs.BTreeMap as tree
use Rattle.std.specs.BTreeMap.{BTreeMap}
use Rattle.pa_lir.specs.declared.op.Op.{Op}
use Rattle.pa_lir.specs.Flow.{is_label, place_of_label}

abbrev pub Places : Type 0
Places = BTreeMap ℕ ℕ

-- the place that is kept for a label
abbrev pub kept : Places → ℕ → Option ℕ
kept places l = tree.get nat_cmp places l

abbrev pub or_else : Option ℕ → Option ℕ → Option ℕ
or_else None other = other
or_else (Some at) other = Some at

-- the place of a label where the code begins at a place
abbrev pub place_from : ℕ → List Op → ℕ → Option ℕ
place_from at ops l = option_map (λ n. at + n) (place_of_label ops l)

-- what an operation at a place adds
abbrev pub noted : Op → ℕ → ℕ → Option ℕ
noted o at l = if is_label l o then Some at else None

abbrev pub noted_label : (label at l : ℕ) → Option ℕ
noted_label label at l = if label == l then Some at else None
