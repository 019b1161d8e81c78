use Rattle.std.proofs.Common.{◌≡◌, ◌≤◌, sym, subst, arith}
use Rattle.std.specs.Prelude.{All}
use Rattle.std.proofs.lemmas.Grind.{common_steps}
use Rattle.std.proofs.lemmas.List.Elements.{All-from_recursion}
use Rattle.pa_a64.specs.Decoding.{InRange}
use Rattle.pa_lir.specs.Ready.{most_words}
use Rattle.pa_select.specs.Selected.{function_code, count_of_words}
use Rattle.pa_select.proofs.Ranges.{fit_function}
use Rattle.pa_select.proofs.objects.object.Goals as goal

pub words-requires : goal.words-requires
words-requires c =
    let f = c.args.function.now in
    let same : c.as_slice-2.result.now ≡ function_code f = grind (arith, common_steps, c.as_slice-2.ensures, c.in_ok-instrs.instrs-is, c.in_ok-instrs.ensures.instrs, c.in_ok-framed.ensures) in
    let few : count_of_words f ≤ most_words = subst (λ g. count_of_words g ≤ most_words) c.in_ok-framed.ensures c.in_ok-labels.ensures.few in
    subst (All InRange) (sym same) (All-from_recursion InRange (function_code f) (fit_function f c.requires few))
