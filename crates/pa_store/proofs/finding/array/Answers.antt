use Rattle.std.proofs.Common.{◌∙◌, ap, None, false}
use Rattle.pa_ctype.specs.Types.{Of, Array}
use Rattle.pa_ctype.specs.Nodes.{at}
use Rattle.pa_store.proofs.Going.{unsized, bare_finds}
use Rattle.pa_store.proofs.finding.array.Goals as goal

pub returns-in-None-clause-finds : goal.returns-in-None-clause-finds
returns-in-None-clause-finds c names =
    bare_finds names c.args.types.now c.args.part (Array (at c.args.types.now.nodes c.args.of) None) unsized (c.requires.array ∙ ap (λ n. Of false (Array (at c.args.types.now.nodes c.args.of) n)) c.in-None.is)
