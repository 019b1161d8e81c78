-- What a parameter of `void` alone is made of.
use Rattle.std.specs.Prelude.{Bool, true, false, [], ◌∷◌}
use Rattle.pa_tree.specs.Exprs.{BaseTree, Void, DeclaratorTree, Absent, ParameterTree}
use Rattle.pa_tree.specs.Spells.{is_only_void}
use Rattle.pa_tree.specs.Views.{parameters_of}

abbrev pub is_void_tree : BaseTree → Bool
is_void_tree (Void a z) = true
is_void_tree _ = false

abbrev pub is_absent_tree : DeclaratorTree → Bool
is_absent_tree (Absent a z) = true
is_absent_tree _ = false

abbrev pub is_lone_void : ParameterTree → Bool
is_lone_void t = is_only_void (parameters_of (t ∷ []))
