use Rattle.std.proofs.Common.{length, ap, arith}
use Rattle.std.proofs.lemmas.List.{length-append}
use Rattle.pa_select.specs.Selected.{load_arguments}
use Rattle.pa_select.proofs.Costs.{length-arguments}
use Rattle.pa_select.proofs.framed.Framed.push_call.Goals as goal

pub overflow_cast-len : goal.overflow_cast-len
overflow_cast-len c =
    let f = c.args.self.now.function.now in
    omega (
      arith,
      c.len.ensures,
      ap length c.in_ok-push_arguments.ensures,
      length-append c.args.code.now.instrs (load_arguments f 0 c.args.arguments.now),
      length-arguments f 0 c.args.arguments.now,
      c.requires.short,
      c.requires.few,
    )
