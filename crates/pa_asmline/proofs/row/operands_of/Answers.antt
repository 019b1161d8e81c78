use Rattle.std.proofs.Common.{◌≡◌, [], ◌∷◌, ◌∙◌, ap, sym, subst, take, drop, arith}
use Rattle.pa_asmline.specs.Reading.{operand, operands, onto, front, back}
use Rattle.pa_asmline.specs.Shapes.{shown_operands}
use Rattle.pa_asmline.proofs.Rows.{operands_more}
use Rattle.pa_asmline.proofs.row.operands_of.Goals as goal

pub kinds-preserved : goal.kinds-preserved
kinds-preserved c =
    let own = c.in_ok-own.own.now in
    let front_is : c.split_at.result.0.now ≡ front 44 own = c.split_at.ensures.front ∙ ap (λ n. take n own) c.len_before.ensures.value in
    let back_is : c.split_at.result.1.now ≡ back 44 own = c.split_at.ensures.back ∙ ap (λ n. drop n own) c.len_before.ensures.value in
    let ahead_is : c.kinds.ahead.now ≡ c.in-Some.kind.now ∷ c.in-Some.more.now = c.in-Some.ensures.cases.0 in
    record {
      same = subst (λ rest. onto (shown_operands c.push.new.self.items) (operands (44 ∷ 32 ∷ []) c.in-Some.more.now rest) ≡ operands (32 ∷ []) c.args.kinds.now c.args.text.now) (sym back_is)
          (operands_more c.kinds.separator.now c.in-Some.kind.now c.in-Some.more.now c.kinds.rest.now own c.kinds.read.items c.push.new.self.items c.in_ok-operand_of.field-0 _
          (sym c.in_ok-own.ensures) (ap (operand c.in-Some.kind.now) (sym front_is) ∙ sym c.in_ok-operand_of.ensures) c.push.ensures.items
          (ap (λ kinds. onto (shown_operands c.kinds.read.items) (operands c.kinds.separator.now kinds c.kinds.rest.now)) (sym ahead_is) ∙ c.kinds.invariant.same));
      room = omega (arith, c.in-Some.ensures.cases.1, c.push.ensures.len);
    }
