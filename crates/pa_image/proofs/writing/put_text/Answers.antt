use Rattle.pa_image.specs.Bytes.{words_bytes}
use Rattle.pa_image.specs.Writing.{gap}
use Rattle.pa_image.proofs.Made.{six_put}
use Rattle.pa_image.proofs.writing.put_text.Goals as goal

pub returns : goal.returns
returns c =
    let i = c.args.image.now in
    let p = c.args.places.now in
    six_put c.args.out.now.items c.put_words.new.out.items c.put_gap.new.out.items c.put_words-2.new.out.items c.put_gap-2.new.out.items c.extend_from_slice.new.self.items c.put_gap-3.new.out.items
    (words_bytes i.text) (gap p.text_end p.stubs) (words_bytes i.stubs) (gap p.stubs_end p.consts) i.consts (gap p.consts_end p.got)
    (rw c.as_slice.ensures at c.in_ok-put_words.ensures) c.in_ok-put_gap.ensures (rw c.as_slice-2.ensures at c.in_ok-put_words-2.ensures) c.in_ok-put_gap-2.ensures (rw c.as_slice-3.ensures at c.in_ok-extend_from_slice.ensures.items) c.in_ok-put_gap-3.ensures
