use Rattle.std.proofs.Common.{ℕ, List, sym, subst}
use Rattle.pa_load.proofs.Imports.{Resolved, resolved_none}
use Rattle.pa_load.proofs.loading.addresses_of.Goals as goal

pub loop-index-init : goal.loop-index-init
loop-index-init c =
    subst (λ (l : List ℕ). Resolved c.args.main.now c.args.runtime.now c.as_slice-name-items.result.now 0 l) (sym c.new-addresses.ensures)
    (resolved_none c.args.main.now c.args.runtime.now c.as_slice-name-items.result.now c.as_slice-name-items.ensures)
