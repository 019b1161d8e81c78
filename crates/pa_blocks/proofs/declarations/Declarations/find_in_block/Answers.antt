use Rattle.std.proofs.Common.{◌≡◌, ◌≤◌, reverse, refl, sym, ap, ◌∙◌, subst}
use Rattle.pa_blocks.specs.Blocks.{Blocks, in_block}
use Rattle.pa_blocks.specs.Steps.{newest_of, means_at}
use Rattle.pa_blocks.proofs.Bounds.{types_in_block}
use Rattle.pa_blocks.proofs.Steps.{finds_in_block}
use Rattle.pa_blocks.proofs.declarations.Declarations.find_in_block.Goals as goal

pub returns-clause-value : goal.returns-clause-value
returns-clause-value c =
    let e = finds_in_block (newest_of c.self.inside.newest.items) (reverse c.self.inside.steps) c.self.inside.level c.self.invariant c.args.name in
    subst (λ (b : Blocks). c.means_at.result ≡ in_block b.block c.args.name) c.self.view_is (rw c.means_at.ensures (rw c.known_of.ensures (rw c.deref.ensures.value (sym e))))

pub returns-clause-known : goal.returns-clause-known
returns-clause-known c = rw (returns-clause-value c) (types_in_block c.args.self.now.block c.args.name)
