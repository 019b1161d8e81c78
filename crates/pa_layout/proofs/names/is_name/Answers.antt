use Rattle.std.proofs.Common.{◌∙◌, ap, length, eqb}
use Rattle.pa_layout.proofs.NameLaws.{is_name-by_length}
use Rattle.pa_layout.proofs.names.is_name.Goals as goal

pub returns : goal.returns
returns c = ap (λ n. eqb n (length c.args.text.now)) c.name_length.ensures ∙ is_name-by_length c.args.text.now
