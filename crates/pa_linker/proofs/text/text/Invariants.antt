use Rattle.std.proofs.Common.{◌≡◌, ◌≤◌, ◌+◌, ◌*◌, ◌++◌, length}
use Rattle.std.specs.List.{AllByRecursion}
use Rattle.pa_linker.specs.Layout.{words_after}
use Rattle.pa_linker.specs.Linked.{text_from, text_with}
use Rattle.pa_linker.specs.Tables.{layout_in, most_words, RefsStand}
use Rattle.pa_linker.proofs.text.text.Given as goal

abbrev pub invariant-loop-object : goal.invariant-loop-object
invariant-loop-object l = record {
  stand : AllByRecursion RefsStand l.rest;
  ends : l.place + 4 * words_after 0 l.rest ≤ 0x400 + 4 * most_words;
  words : l.words ++ text_from (layout_in l.layout) l.place l.rest ≡ text_with (layout_in l.layout) l.objects;
}

abbrev pub decreases-loop-object : goal.decreases-loop-object
decreases-loop-object l = length l.rest
