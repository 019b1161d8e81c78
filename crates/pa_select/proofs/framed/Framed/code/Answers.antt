use Rattle.std.proofs.Common.{◌≡◌, ◌+◌, ◌-◌, [], ◌∷◌, ◌++◌, length, take, drop, ap, sym, subst, ◌∙◌, arith}
use Rattle.std.specs.List.{sum_by, AllByRecursion}
use Rattle.std.proofs.lemmas.List.{append-nil}
use Rattle.std.proofs.lemmas.List.Sums.{sum_by-cons}
use Rattle.pa_select.specs.Selected.{prologue, words_of, target_of, body}
use Rattle.pa_select.specs.Objects.{refs_of, refs_from}
use Rattle.pa_select.specs.Selectable.{IsSelectableOp}
use Rattle.pa_select.proofs.Selectable.{all_selectable}
use Rattle.pa_select.proofs.Passes.{longer, same_target, target_small, body_more, refs_more, cons_of, none_of}
use Rattle.pa_select.proofs.framed.Framed.code.Goals as goal

pub ops-init : goal.ops-init
ops-init c =
    let f = c.args.self.now.function.now in
    let rest = c.as_slice-rest.result.now in
    let code : c.push_prologue.new.instrs ≡ prologue f = c.in_ok-push_prologue.ensures ∙ ap (λ is. is ++ prologue f) c.new-code.ensures.instrs in
    record {
      instrs = ap (λ is. is ++ body f (length is) rest) code ∙ ap (λ os. prologue f ++ body f (length (prologue f)) os) c.as_slice-rest.ensures;
      refs = ap (λ rs. rs ++ refs_from f (length c.push_prologue.new.instrs) rest) c.new-code.ensures.refs
          ∙ (ap (λ is. refs_from f (length is) rest) code ∙ ap (refs_from f (length (prologue f))) c.as_slice-rest.ensures);
      count = ap (λ is. length is + sum_by (words_of f) rest) code ∙ ap (λ os. length (prologue f) + sum_by (words_of f) os) c.as_slice-rest.ensures;
      selectable = subst (AllByRecursion (IsSelectableOp f)) (sym c.as_slice-rest.ensures) (all_selectable f c.requires.code);
    }

pub push_op-requires-clause-target : goal.push_op-requires-clause-target
push_op-requires-clause-target c =
    let f = c.args.self.now.function.now in
    let o = c.op-item.result in
    target_small f o c.target_of.result c.requires.code c.requires.few (c.target_of.ensures ∙ same_target f c.args.labels.now o c.requires.places)

pub ops-preserved : goal.ops-preserved
ops-preserved c =
    let f = c.args.self.now.function.now in
    let old = c.ops.code.instrs in
    let rest = c.ops.rest.now in
    let o = c.op-item.result in
    let to = c.target_of.result in
    let tail = take (length rest - 1) (drop 1 rest) in
    let cons : rest ≡ o ∷ tail = cons_of rest o c.op-item.is (omega (arith, c.in-len1-up.len_at_least)) in
    let target : to ≡ target_of f o = c.target_of.ensures ∙ same_target f c.args.labels.now o c.requires.places in
    let made = c.in_ok-push_op.ensures.instrs in
    let len : length c.push_op.new.code.instrs ≡ length old + words_of f o = ap length made ∙ longer f old o to in
    record {
      instrs = ap (λ is. is ++ body f (length is) tail) made ∙ (body_more f old o tail to target ∙ (ap (λ os. old ++ body f (length old) os) (sym cons) ∙ c.ops.invariant.instrs));
      refs = ap (λ rs. rs ++ refs_from f (length c.push_op.new.code.instrs) tail) c.in_ok-push_op.ensures.refs
          ∙ (ap (λ is. (c.ops.code.refs ++ refs_of f (length old) o) ++ refs_from f (length is) tail) made
          ∙ (refs_more f old c.ops.code.refs o tail to ∙ (ap (λ os. c.ops.code.refs ++ refs_from f (length old) os) (sym cons) ∙ c.ops.invariant.refs)));
      count = omega (arith, len, sum_by-cons (words_of f) o tail, ap (sum_by (words_of f)) cons, c.ops.invariant.count);
      selectable = (subst (AllByRecursion (IsSelectableOp f)) cons c.ops.invariant.selectable).1;
    }

pub returns-clause-instrs : goal.returns-clause-instrs
unfolding body
returns-clause-instrs c =
    let f = c.args.self.now.function.now in
    let empty : c.ops.rest.now ≡ [] = none_of c.ops.rest.now (omega (arith, c.in_default.len_below)) in
    sym (append-nil c.ops.code.instrs) ∙ (ap (λ os. c.ops.code.instrs ++ body f (length c.ops.code.instrs) os) (sym empty) ∙ c.ops.invariant.instrs)

pub returns-clause-refs : goal.returns-clause-refs
unfolding refs_from
returns-clause-refs c =
    let f = c.args.self.now.function.now in
    let empty : c.ops.rest.now ≡ [] = none_of c.ops.rest.now (omega (arith, c.in_default.len_below)) in
    sym (append-nil c.ops.code.refs) ∙ (ap (λ os. c.ops.code.refs ++ refs_from f (length c.ops.code.instrs) os) (sym empty) ∙ c.ops.invariant.refs)
