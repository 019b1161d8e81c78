use Rattle.pa_image.proofs.Words.{words_push}
use Rattle.pa_image.proofs.parts.read_words.Goals as goal

pub loop-k-preserved : goal.loop-k-preserved
loop-k-preserved c =
    let e = c.in_ok-push.ensures.ok in let y = c.number_of_four.ensures in
    rw (e, y) (words_push c.args.count c.loop-k.k c.args.at c.args.bytes.now c.loop-k.words c.loop-k-test.true c.loop-k.invariant)
