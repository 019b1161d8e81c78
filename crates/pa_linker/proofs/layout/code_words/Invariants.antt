use Rattle.std.proofs.Common.{◌≡◌, length}
use Rattle.pa_linker.specs.Layout.{words_after}
use Rattle.pa_linker.proofs.layout.code_words.Given as goal

abbrev pub invariant-loop-object : goal.invariant-loop-object
invariant-loop-object l = words_after l.words l.rest ≡ words_after 3 l.objects

abbrev pub decreases-loop-object : goal.decreases-loop-object
decreases-loop-object l = length l.rest
