use Rattle.std.proofs.Common.{◌≡◌, ℕ, List, [], ◌∷◌, ◌++◌, subst}
use Rattle.std.specs.Result.{OnOk}
use Rattle.pa_mem.specs.Memory.{region_of}
use Rattle.pa_load.specs.Loaded.{stack_base, data_rights}
use Rattle.pa_load.proofs.segments.add_stack.Goals as goal

pub returns : goal.returns
returns c =
    subst (λ (bytes : List ℕ). OnOk c.add.result (c.add.new.space ≡ c.args.space.now ++ region_of stack_base bytes data_rights ∷ [])) c.in_ok-zeros.ensures c.add.ensures
