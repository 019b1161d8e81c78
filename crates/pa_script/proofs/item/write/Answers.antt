use Rattle.std.proofs.Common.{◌≡◌, ◌∷◌, ◌∙◌, sym, ap}
use Rattle.pa_script.specs.Items as items
use Rattle.pa_script.specs.Pieces.{pieces_behind}
use Rattle.pa_script.proofs.Longer.{some_behind, write-longer}
use Rattle.pa_script.proofs.item.write.Goals as goal

pub returns-then-is_some : goal.returns-then-is_some
returns-then-is_some c =
    let parts : pieces_behind 32 c.args.parts ≡ c.cut.result.0.now ∷ c.cut-2.result.0.now ∷ pieces_behind 32 c.cut-2.result.1 =
    ap (pieces_behind 32) c.in_ok-parts.was ∙ c.cut.ensures ∙ ap (λ l. c.cut.result.0.now ∷ l) (ap (pieces_behind 32) c.in_ok-behind.was ∙ c.cut-2.ensures) in
    let more = some_behind 32 c.cut-2.result.1 (sym c.is_some.ensures ∙ c.if-is_some.true) in
    sym (ap items.write parts ∙ write-longer c.cut.result.0.now c.cut-2.result.0.now (pieces_behind 32 c.cut-2.result.1) more)
