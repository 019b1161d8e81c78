use Rattle.std.proofs.Common.{length}
use Rattle.pa_link.specs.Declarations.{known_at}
use Rattle.pa_link.specs.Declaring.{with_declaration}
use Rattle.pa_link.proofs.KnownLaws.{known_below, set_below, declared_below}
use Rattle.pa_link.proofs.declarations.declaration_fault.Goals as goal

pub broken-requires-clause-known : goal.broken-requires-clause-known
broken-requires-clause-known c =
    rw c.as_slice.ensures (known_below (length c.args.types.now.nodes) c.args.known.now c.args.declared.now.name c.requires.known c.requires.name)

pub returns-clause-known : goal.returns-clause-known
returns-clause-known c =
    let types = length c.args.types.now.nodes in
    let ks = c.args.known.now in
    let d = c.args.declared.now in
    let before = known_below types ks d.name c.requires.known c.requires.name in
    let after = declared_below types (known_at ks d.name) c.args.defines d.of before c.requires.of in
    rw (c.set.ensures, c.with_declaration.ensures, c.as_slice.ensures) (set_below types ks d.name (with_declaration (known_at ks d.name) c.args.defines d.of) c.requires.known after)
