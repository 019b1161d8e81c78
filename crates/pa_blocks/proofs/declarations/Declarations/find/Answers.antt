use Rattle.std.proofs.Common.{◌≡◌, ◌≤◌, reverse, refl, sym, ap, ◌∙◌, subst}
use Rattle.pa_blocks.specs.Blocks.{Blocks, meaning, types_in, types_bound}
use Rattle.pa_blocks.specs.Steps.{newest_of, means_of}
use Rattle.pa_blocks.proofs.Bounds.{types_of_meaning}
use Rattle.pa_blocks.proofs.Steps.{finds}
use Rattle.pa_blocks.proofs.declarations.Declarations.find.Goals as goal

pub returns-clause-value : goal.returns-clause-value
returns-clause-value c =
    let e = finds (newest_of c.self.inside.newest.items) (reverse c.self.inside.steps) c.self.inside.level c.self.invariant c.args.name in
    subst (λ (b : Blocks). c.means_of.result ≡ meaning b c.args.name) c.self.view_is (rw c.means_of.ensures (rw c.known_of.ensures (rw c.deref.ensures.value (sym e))))

pub returns-clause-known : goal.returns-clause-known
returns-clause-known c = rw (returns-clause-value c) (types_of_meaning c.args.self.now c.args.name)
