use Rattle.pa_layout.specs.Fields.{two, AllFit}
use Rattle.std.proofs.Common.{map, subst, sym, ap, ◌∙◌, ℕ, List, length, arith}
use Rattle.pa_slots.specs.Slots.{slots_with}
use Rattle.pa_slots.specs.Writing.{pages_of}
use Rattle.pa_slots.proofs.Held.{length-plain_of, all_writable, slots_written, length-starts_of, length-pages_of, starts_fit}
use Rattle.std.proofs.Common.{refl}
use Rattle.pa_slots.proofs.writing.write_slots.Goals as goal

pub write_pages-requires-clause-size : goal.write_pages-requires-clause-size
write_pages-requires-clause-size c =
    ap length (c.deref.ensures.value ∙ c.in_ok-plain.ensures) ∙ length-plain_of c.args.at.now c.args.pages c.args.cells.now c.requires.fits.cells c.requires.inside

pub write_pages-requires-clause-fits : goal.write_pages-requires-clause-fits
write_pages-requires-clause-fits c = all_writable c.args.at.now (slots_with c.args.cells.now c.args.fixes.now) c.args.pages c.requires.fits

pub returns-clause-held : goal.returns-clause-held
returns-clause-held c =
    slots_written c.args.at.now (slots_with c.args.cells.now c.args.fixes.now) c.args.pages c.args.cells.now c.in_ok-written.written.starts c.in_ok-written.written.bytes.items refl (λ i. omega (arith, c.type_inv.cells i)) c.requires.inside c.requires.fits
    (c.in_ok-written.ensures.bytes ∙ ap (pages_of 0 c.args.pages c.args.fixes.now) (c.deref.ensures.value ∙ c.in_ok-plain.ensures))
    c.in_ok-written.ensures.starts

pub returns-clause-pages : goal.returns-clause-pages
returns-clause-pages c = ap length c.in_ok-written.ensures.starts ∙ length-starts_of 0 c.args.pages c.args.fixes.now

pub returns-clause-size : goal.returns-clause-size
returns-clause-size c =
    let w = all_writable c.args.at.now (slots_with c.args.cells.now c.args.fixes.now) c.args.pages c.requires.fits in
    let l = ap length (c.deref.ensures.value ∙ c.in_ok-plain.ensures) ∙ length-plain_of c.args.at.now c.args.pages c.args.cells.now c.requires.fits.cells c.requires.inside in
    ap length c.in_ok-written.ensures.bytes ∙ length-pages_of 0 c.args.pages c.args.fixes.now c.deref.result.now w l

pub returns-clause-starts : goal.returns-clause-starts
returns-clause-starts c =
    subst (λ (l : List ℕ). AllFit (map two l)) (sym c.in_ok-written.ensures.starts) (starts_fit 0 c.args.pages c.args.fixes.now (all_writable c.args.at.now (slots_with c.args.cells.now c.args.fixes.now) c.args.pages c.requires.fits))
