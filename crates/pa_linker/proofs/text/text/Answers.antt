use Rattle.std.proofs.Common.{◌≡◌, ◌∙◌, ◌≤◌, ◌+◌, ◌*◌, ◌++◌, ℕ, List, ◌∷◌, length, sym, ap, subst, append_assoc, arith}
use Rattle.std.specs.List.{AllByRecursion}
use Rattle.pa_object.specs.declared.object.Object.{Object}
use Rattle.pa_linker.specs.Layout.{Layout, words_after}
use Rattle.pa_linker.specs.Linked.{code_from, text_from}
use Rattle.pa_linker.specs.Tables.{layout_in, most_words, RefsStand}
use Rattle.pa_linker.proofs.Words.{words_more}
use Rattle.pa_linker.proofs.text.text.Goals as goal

text_next : (l : Layout) (words after : List ℕ) (place size : ℕ) (o : Object) (behind : List Object) → after ≡ words ++ code_from l o.refs 0 place o.code → size ≡ length o.code
    → after ++ text_from l (place + 4 * size) behind ≡ words ++ text_from l place (o ∷ behind)
text_next l words after place size o behind e f =
    let code = code_from l o.refs 0 place o.code in
    ap (λ (ws : List ℕ). ws ++ text_from l (place + 4 * size) behind) e ∙ append_assoc words code (text_from l (place + 4 * size) behind)
    ∙ ap (λ (n : ℕ). words ++ (code ++ text_from l (place + 4 * n) behind)) f

pub loop-object-preserved : goal.loop-object-preserved
loop-object-preserved c =
    let l = layout_in c.args.layout.now in
    let place = c.loop-object.place in
    let o = c.in-Some.object.now in
    let behind = c.in-Some.behind.now in
    let split = c.in-Some.ensures.cases.0 in
    let ends = subst (λ (os : List Object). place + 4 * words_after 0 os ≤ 0x400 + 4 * most_words) split c.loop-object.invariant.ends in
    let more = words_more (0 + length o.code) behind in
    let size = c.len.ensures in
    record {
      stand = (subst (λ (os : List Object). AllByRecursion RefsStand os) split c.loop-object.invariant.stand).1;
      ends = omega arith;
      words =
          text_next l c.loop-object.words c.put_code.new.out place c.len.result o behind c.in_ok-put_code.ensures c.len.ensures
          ∙ ap (λ (os : List Object). c.loop-object.words ++ text_from l place os) (sym split) ∙ c.loop-object.invariant.words;
    }
