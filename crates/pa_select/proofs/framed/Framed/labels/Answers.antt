use Rattle.std.proofs.Common.{◌≡◌, ◌+◌, ◌-◌, None, [], ◌∷◌, ◌++◌, length, take, drop, ap, sym, subst, ◌∙◌, arith}
use Rattle.std.specs.List.{sum_by, AllByRecursion}
use Rattle.std.proofs.lemmas.Grind.{common_steps}
use Rattle.std.proofs.lemmas.List.Sums.{sum_by-cons}
use Rattle.pa_lir.specs.Placing.{kept, or_else, noted}
use Rattle.pa_select.specs.Selected.{prologue, words_of, label_from}
use Rattle.pa_select.specs.Selectable.{IsSelectableOp}
use Rattle.pa_select.proofs.Costs.{length-prologue}
use Rattle.pa_select.proofs.Selectable.{all_selectable}
use Rattle.pa_select.proofs.Passes.{label_more, label_none, longer, cons_of, none_of}
use Rattle.pa_select.proofs.framed.Framed.labels.Goals as goal

pub ops-init : goal.ops-init
ops-init c =
    let f = c.args.self.now.function.now in
    let rest = c.as_slice-rest.result.now in
    let code : c.push_prologue.new.instrs ≡ prologue f = c.in_ok-push_prologue.ensures ∙ ap (λ is. is ++ prologue f) c.new-code.ensures.instrs in
    record {
      placed = λ label.
          let none : kept c.new-labels.result label ≡ None = grind (arith, common_steps, c.new-labels.ensures.empty) in
          ap (λ g. or_else g (label_from f (length c.push_prologue.new.instrs) rest label)) none
          ∙ (ap (λ is. label_from f (length is) rest label) code ∙ ap (λ os. label_from f (length (prologue f)) os label) c.as_slice-rest.ensures);
      count = ap (λ is. length is + sum_by (words_of f) rest) code ∙ ap (λ os. length (prologue f) + sum_by (words_of f) os) c.as_slice-rest.ensures;
      few = omega (arith, ap length code, length-prologue f c.requires.well_formed.parameters.few);
      selectable = subst (AllByRecursion (IsSelectableOp f)) (sym c.as_slice-rest.ensures) (all_selectable f c.requires);
    }

pub ops-preserved : goal.ops-preserved
ops-preserved c =
    let f = c.args.self.now.function.now in
    let old = c.ops.code.instrs in
    let rest = c.ops.rest.now in
    let o = c.op-item.result in
    let tail = take (length rest - 1) (drop 1 rest) in
    let cons : rest ≡ o ∷ tail = cons_of rest o c.op-item.is (omega (arith, c.in-len1-up.len_at_least)) in
    let len : length c.push_op.new.code.instrs ≡ length old + words_of f o = ap length c.in_ok-push_op.ensures.instrs ∙ longer f old o None in
    record {
      placed = λ label.
          ap (λ g. or_else g (label_from f (length c.push_op.new.code.instrs) tail label)) (c.in_ok-note.ensures label)
          ∙ (ap (λ n. or_else (or_else (kept c.ops.labels label) (noted o c.len.result label)) (label_from f n tail label)) len
          ∙ (ap (λ n. or_else (or_else (kept c.ops.labels label) (noted o n label)) (label_from f (length old + words_of f o) tail label)) c.len.ensures
          ∙ (label_more f (kept c.ops.labels label) o tail (length old) label
          ∙ (ap (λ os. or_else (kept c.ops.labels label) (label_from f (length old) os label)) (sym cons) ∙ c.ops.invariant.placed label))));
      count = omega (arith, len, sum_by-cons (words_of f) o tail, ap (sum_by (words_of f)) cons, c.ops.invariant.count);
      few = omega (arith, c.if-len-gt-MOST_WORDS.false, c.len-in-len1-up.ensures);
      selectable = (subst (AllByRecursion (IsSelectableOp f)) cons c.ops.invariant.selectable).1;
    }

pub returns-clause-places : goal.returns-clause-places
returns-clause-places c = λ l.
    let f = c.args.self.now.function.now in
    let empty : c.ops.rest.now ≡ [] = none_of c.ops.rest.now (omega (arith, c.in_default.len_below)) in
    sym (label_none f (kept c.ops.labels l) (length c.ops.code.instrs) l)
    ∙ (ap (λ os. or_else (kept c.ops.labels l) (label_from f (length c.ops.code.instrs) os l)) (sym empty) ∙ c.ops.invariant.placed l)
