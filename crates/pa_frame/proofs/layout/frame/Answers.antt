use Rattle.std.proofs.Common.{◌++◌, take, ap, ◌∙◌, arith}
use Rattle.std.specs.Int.{next_multiple_of}
use Rattle.pa_frame.specs.Frames.{saved_bytes, places_from}
use Rattle.pa_frame.proofs.Taken.{Cut, end_same, laid_out_as, is_frame}
use Rattle.pa_frame.proofs.layout.frame.Goals as goal

cut : (c : goal.After-push_places-arg-1) → Cut c.args.function.now c.as_slice-all.result.now c.min-first.result c.in_ok-temps.temps c.held.result
cut c = record { all_is = c.as_slice-all.ensures; first_is = c.min-first.ensures; temps_is = c.in_ok-temps.ensures.end; held_is = c.held.ensures }

pub push_places-requires-2 : goal.push_places-requires-2
push_places-requires-2 c =
    omega (arith, end_same c.args.function.now c.as_slice-all.result.now c.min-first.result c.in_ok-temps.temps c.held.result (cut c), c.requires.bytes, c.requires.held)

pub next_multiple_of-requires-clause-fits : goal.next_multiple_of-requires-clause-fits
next_multiple_of-requires-clause-fits c =
    let end = end_same c.args.function.now c.as_slice-all.result.now c.min-first.result c.in_ok-temps.temps c.held.result
    (record { all_is = c.as_slice-all.ensures; first_is = c.min-first.ensures; temps_is = c.in_ok-temps.ensures.end; held_is = c.held.ensures }) in
    omega (arith, end, c.in_ok-end.ensures.end, c.requires.bytes, c.requires.held)

pub returns-clause-places : goal.returns-clause-places
returns-clause-places c =
    laid_out_as c.args.function.now c.as_slice-all.result.now c.min-first.result c.in_ok-temps.temps c.held.result
    (record { all_is = c.as_slice-all.ensures; first_is = c.min-first.ensures; temps_is = c.in_ok-temps.ensures.end; held_is = c.held.ensures })
    c.push_places.new.places c.push_places-2.new.places c.next_multiple_of.result
    (c.in_ok-temps.ensures.places ∙ ap (λ xs. xs ++ places_from saved_bytes (take c.min-first.result c.as_slice-all.result.now)) c.new-locals.ensures)
    c.in_ok-end.ensures.places
    (c.next_multiple_of.ensures.value ∙ ap (λ n. next_multiple_of n 16) c.in_ok-end.ensures.end)

pub returns-clause-apart : goal.returns-clause-apart
returns-clause-apart c = is_frame c.args.function.now _ (returns-clause-places c)
