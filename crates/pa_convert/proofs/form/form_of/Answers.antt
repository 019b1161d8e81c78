use Rattle.std.proofs.Common.{refl}
use Rattle.pa_ctype.specs.Nodes.{Fits, at}
use Rattle.pa_convert.proofs.Forms.{constant_is_not}
use Rattle.pa_convert.proofs.form.form_of.Goals as goal

pub unreachable-requires : goal.unreachable-requires
unreachable-requires c =
    let ns = c.args.types.now.nodes in
    let fits : Fits (at ns) ns = record { by = λ i h. refl } in
    constant_is_not (at ns c.args.number) (at ns c.without_const.result) (at ns c.in-Constant.of) (c.without_const.ensures.is (at ns) fits) (c.in-Constant.ensures.is (at ns) fits)
