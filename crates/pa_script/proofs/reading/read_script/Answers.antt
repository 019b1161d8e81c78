use Rattle.std.proofs.Common.{◌≡◌, ◌∷◌, ◌++◌, ◌∙◌, Some, ap, sym, refl, length, map}
use Rattle.std.proofs.lemmas.Result.{err_from_is_err_and}
use Rattle.pa_script.specs.declared.rule.ScriptRule.TheVariants.{P1}
use Rattle.pa_script.specs.Pieces.{lines_of}
use Rattle.pa_script.specs.Items.{item_of}
use Rattle.pa_script.specs.Rules.{said, rule_behind, last_step}
use Rattle.pa_script.proofs.NextLine.{refused, push_refused, read-more, none-more}
use Rattle.pa_script.proofs.reading.read_script.Goals as goal

pub returns-in_err-push-in-Some-2-clause-answer : goal.returns-in_err-push-in-Some-2-clause-answer
returns-in_err-push-in-Some-2-clause-answer c =
    let p = err_from_is_err_and c.from_residual-in_err-push-in-Some-2.result c.from_residual-in_err-push-in-Some-2.ensures.1 in
    let before : said c.args.text.now ≡ map Some c.lines.script ++ item_of c.in-Some.line.now ∷ map item_of (lines_of c.in-Some.behind.now) =
    c.lines.invariant.before ∙ ap (λ lines. map Some c.lines.script ++ map item_of lines) c.in-Some.ensures.lines in
    rw (p.1, p.2)
    (push_refused c.args.text.now c.lines.script (item_of c.in-Some.line.now) (map item_of (lines_of c.in-Some.behind.now)) before c.lines.invariant.none
    c.in-Some-2.item c.in_err-push-in-Some-2.field-0.0 c.push.new.self (sym c.in_ok-item.ensures.said ∙ c.in-Some-2.is) c.in_err-push-in-Some-2.ensures)

pub returns-in-None-clause-answer : goal.returns-in-None-clause-answer
returns-in-None-clause-answer c =
    let before : said c.args.text.now ≡ map Some c.lines.script ++ item_of c.in-Some.line.now ∷ map item_of (lines_of c.in-Some.behind.now) =
    c.lines.invariant.before ∙ ap (λ lines. map Some c.lines.script ++ map item_of lines) c.in-Some.ensures.lines in
    rw c.refused.ensures
    (refused c.args.text.now c.lines.script (item_of c.in-Some.line.now) (map item_of (lines_of c.in-Some.behind.now)) before c.lines.invariant.none
    P1 _ (ap (rule_behind (length c.lines.script) (last_step 0 c.lines.script)) (sym c.in_ok-item.ensures.said ∙ c.in-None.is)) refl)

pub lines-preserved : goal.lines-preserved
lines-preserved c =
    let before : said c.args.text.now ≡ map Some c.lines.script ++ item_of c.in-Some.line.now ∷ map item_of (lines_of c.in-Some.behind.now) =
    c.lines.invariant.before ∙ ap (λ lines. map Some c.lines.script ++ map item_of lines) c.in-Some.ensures.lines in
    let is = sym c.in_ok-item.ensures.said ∙ c.in-Some-2.is in
    record {
      before = read-more c.args.text.now c.lines.script (item_of c.in-Some.line.now) (map item_of (lines_of c.in-Some.behind.now)) before c.lines.invariant.none
          c.in-Some-2.item c.push.new.self is c.in_ok-push-in-Some-2.ensures.1;
      none = none-more c.args.text.now c.lines.script (item_of c.in-Some.line.now) (map item_of (lines_of c.in-Some.behind.now)) before c.lines.invariant.none
          c.in-Some-2.item c.push.new.self c.in_ok-push-in-Some-2.ensures.1 (ap (rule_behind (length c.lines.script) (last_step 0 c.lines.script)) is ∙ c.in_ok-push-in-Some-2.ensures.0);
    }
