use Rattle.std.proofs.Common.{arith, sym, ◌∙◌, ap}
use Rattle.pa_macho.specs.declared.places.Places.{Places}
use Rattle.pa_check.proofs.Legal.{small}
use Rattle.pa_check.proofs.Words.{text_stubs}
use Rattle.pa_check.proofs.checker.check.Goals as goal

pub overflow_cast-places : goal.overflow_cast-places
overflow_cast-places c = let s = (small c.args.image.now c.requires).stubs_place in let e = ap (λ (p : Places). p.stubs) c.places-places.ensures.value in omega arith

pub overflow_cast-places-2 : goal.overflow_cast-places-2
overflow_cast-places-2 c = let s = (small c.args.image.now c.requires).got_place in let e = ap (λ (p : Places). p.got) c.places-places.ensures.value in omega arith

pub flaw_at-requires-clause-stubs : goal.flaw_at-requires-clause-stubs
flaw_at-requires-clause-stubs c = ap (λ (p : Places). p.stubs) c.places-places.ensures.value ∙ sym (text_stubs c.args.image.now)

pub flaw_at-requires-clause-place : goal.flaw_at-requires-clause-place
flaw_at-requires-clause-place c = let s = (small c.args.image.now c.requires).stubs_place in let e = ap (λ (p : Places). p.stubs) c.places-places.ensures.value in omega arith

pub flaw_at-requires-clause-slots : goal.flaw_at-requires-clause-slots
flaw_at-requires-clause-slots c = let s = (small c.args.image.now c.requires).got_place in let e = ap (λ (p : Places). p.got) c.places-places.ensures.value in omega arith
