use Rattle.std.proofs.Common.{ap, ◌∙◌}
use Rattle.std.specs.Map.{keys_of, values_of}
use Rattle.std.proofs.lemmas.List.{map-append}
use Rattle.indexmap.proofs.CallerLemmas.{insert_entry-new}
use Rattle.pa_ctype.proofs.nodes.add.Goals as goal

pub returns-clause-keys : goal.returns-clause-keys
returns-clause-keys c =
    ap keys_of (c.in-Ok.ensures.entries ∙ insert_entry-new _ c.args.nodes.now c.args.node c.args.facts c.requires.absent) ∙ map-append _ _ _

pub returns-clause-values : goal.returns-clause-values
returns-clause-values c =
    ap values_of (c.in-Ok.ensures.entries ∙ insert_entry-new _ c.args.nodes.now c.args.node c.args.facts c.requires.absent) ∙ map-append _ _ _
