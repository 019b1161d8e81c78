use Rattle.pa_ctype.proofs.nodes.+put_constant.Given as goal

abbrev pub decreases-put_constant : goal.decreases-put_constant
decreases-put_constant l = l.number
