use Rattle.std.proofs.Common.{◌≡◌, ◌++◌, [], ◌∷◌, ◌∙◌, ap, sym, subst, refl, inl, inr, length, append-nil}
use Rattle.pa_a64.specs.Decoding.{InRange, encoded}
use Rattle.pa_asmline.specs.Instructions.{instruction}
use Rattle.pa_asmline.specs.Shapes.{shown_operands}
use Rattle.pa_asm.specs.Parts.{meant}
use Rattle.pa_asm.specs.Reading.{kept}
use Rattle.pa_asm.specs.Settled.{all_settled, all_refer, rule_of}
use Rattle.pa_asm.proofs.Going.{false_is_true}
use Rattle.pa_asm.proofs.assembly.Assembly.add_row.Goals as goal

pub returns-in-Some-clause-added : goal.returns-in-Some-clause-added
returns-in-Some-clause-added c =
    let values : c.as_slice.result.now ≡ all_settled (kept c.args.labels.now) (length c.args.self.now.code) (shown_operands c.args.row.now.operands.items) =
    c.as_slice.ensures.value ∙ c.all_settled-values.ensures ∙ (λ i. all_settled (kept c.args.labels.now) (c.at-at.ensures i) (shown_operands (c.as_slice-operands.ensures.value i))) in
    rw c.refused.ensures (inl (ap rule_of (sym values) ∙ sym c.rule_of.ensures ∙ c.in-Some.is), refl)

pub returns-then-not-in_range-clause-added : goal.returns-then-not-in_range-clause-added
returns-then-not-in_range-clause-added c =
    let values : c.all_settled-values.result.items ≡ all_settled (kept c.args.labels.now) (length c.args.self.now.code) (shown_operands c.args.row.now.operands.items) =
    c.all_settled-values.ensures ∙ (λ i. all_settled (kept c.args.labels.now) (c.at-at.ensures i) (shown_operands (c.as_slice-operands.ensures.value i))) in
    let none = ap rule_of (sym values ∙ sym c.as_slice.ensures.value) ∙ sym c.rule_of.ensures ∙ c.in_default.is in
    let instr : c.instruction-instr.result ≡ meant (kept c.args.labels.now) (length c.args.self.now.code) c.args.row.now.form (shown_operands c.args.row.now.operands.items) =
    c.instruction-instr.ensures ∙ ap (instruction c.args.row.now.form) (c.as_slice-2.ensures.value ∙ values) in
    rw c.refused-then-not-in_range.ensures (inr (none, (λ fits. false_is_true (c.if-not-in_range.ensures.1 (subst InRange (sym instr) fits))), refl), refl)

pub returns-clause-added : goal.returns-clause-added
returns-clause-added c =
    let values : c.all_settled-values.result.items ≡ all_settled (kept c.args.labels.now) (length c.args.self.now.code) (shown_operands c.args.row.now.operands.items) =
    c.all_settled-values.ensures ∙ (λ i. all_settled (kept c.args.labels.now) (c.at-at.ensures i) (shown_operands (c.as_slice-operands.ensures.value i))) in
    let none = ap rule_of (sym values ∙ sym c.as_slice.ensures.value) ∙ sym c.rule_of.ensures ∙ c.in_default.is in
    let instr : c.instruction-instr.result ≡ meant (kept c.args.labels.now) (length c.args.self.now.code) c.args.row.now.form (shown_operands c.args.row.now.operands.items) =
    c.instruction-instr.ensures ∙ ap (instruction c.args.row.now.form) (c.as_slice-2.ensures.value ∙ values) in
    let refs : c.refer_all.new.refs ≡ c.args.self.now.refs ++ all_refer (kept c.args.labels.now) (length c.args.self.now.code) (shown_operands c.args.row.now.operands.items) =
    c.in_ok-refer_all.ensures ∙ (λ i. c.args.self.now.refs ++ all_refer (kept c.args.labels.now) (c.at-at.ensures i) (shown_operands (c.as_slice-operands.ensures.value i))) in
    let code : c.push.new.self ≡ c.args.self.now.code ++ encoded (meant (kept c.args.labels.now) (length c.args.self.now.code) c.args.row.now.form (shown_operands c.args.row.now.operands.items)) ∷ [] =
    c.in_ok-push.ensures.ok ∙ ap (λ word. c.args.self.now.code ++ word ∷ []) (c.encode.ensures.word ∙ ap encoded instr) in (
      record {
        code = encoded (meant (kept c.args.labels.now) (length c.args.self.now.code) c.args.row.now.form (shown_operands c.args.row.now.operands.items)) ∷ [];
        marks = [];
        refs = all_refer (kept c.args.labels.now) (length c.args.self.now.code) (shown_operands c.args.row.now.operands.items);
      },
      record { no_rule = none; in_range = subst InRange instr (c.if-not-in_range.ensures.0 refl); parts_are = refl },
      (λ i. record { code = code i; marks = sym (append-nil c.args.self.now.marks) i; refs = refs i }),
    )
