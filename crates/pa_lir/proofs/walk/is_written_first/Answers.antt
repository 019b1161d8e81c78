use Rattle.std.proofs.Common.{◌≡◌, length, refl, sym, ◌∙◌, ap, arith}
use Rattle.std.proofs.lemmas.Bool.{false≢true}
use Rattle.pa_lir.specs.Flow.{is_among}
use Rattle.pa_lir.proofs.Walking.{walk_begins, walk_step, walk_ends, walk_refutes, next_within, read_here, not_read_here, empty_list}
use Rattle.pa_lir.proofs.walk.is_written_first.Goals as goal

pub places-init : goal.places-init
places-init c = walk_begins c.args.code.now.ops.now c.args.temp c.in_ok-walk.walk c.reach.new.self c.in_ok-walk.ensures.reached c.in_ok-walk.ensures.waiting c.in_ok-reach.ensures

pub bounds-code-at : goal.bounds-code-at
bounds-code-at c = next_within c.args.code.now.ops.now c.args.temp c.places.walk c.places.invariant c.pop.new.self.items c.in-Some.at c.in-Some.ensures.items

pub offset_bounds-code-at : goal.offset_bounds-code-at
offset_bounds-code-at c =
    let within = next_within c.args.code.now.ops.now c.args.temp c.places.walk c.places.invariant c.pop.new.self.items c.in-Some.at c.in-Some.ensures.items in
    omega (arith, within)

pub pass-requires-clause-within : goal.pass-requires-clause-within
pass-requires-clause-within c = next_within c.args.code.now.ops.now c.args.temp c.places.walk c.places.invariant c.pop.new.self.items c.in-Some.at c.in-Some.ensures.items

pub returns-then-has : goal.returns-then-has
returns-then-has c =
    let within = next_within c.args.code.now.ops.now c.args.temp c.places.walk c.places.invariant c.pop.new.self.items c.in-Some.at c.in-Some.ensures.items in
    let among = ap (λ ts. is_among ts c.args.temp) (sym c.reads.ensures) ∙ (sym c.has.ensures ∙ c.if-has.true) in (
      λ wrong. absurd (false≢true wrong),
      λ first. absurd (walk_refutes c.args.code.now.ops.now c.args.temp c.places.walk c.places.invariant c.pop.new.self.items c.in-Some.at c.in-Some.ensures.items
          (read_here c.args.code.now.ops.now c.args.temp c.in-Some.at c.index-code-at.result within among) first),
    )

pub places-preserved : goal.places-preserved
places-preserved c =
    let within = next_within c.args.code.now.ops.now c.args.temp c.places.walk c.places.invariant c.pop.new.self.items c.in-Some.at c.in-Some.ensures.items in
    let none = ap (λ ts. is_among ts c.args.temp) (sym c.reads.ensures) ∙ (sym c.has.ensures ∙ c.if-has.false) in
    walk_step c.args.code.now.ops.now c.args.temp c.places.walk (record { reached = c.places.walk.reached; waiting = c.pop.new.self }) c.pass.new.self c.in-Some.at c.places.invariant refl c.in-Some.ensures.items
    (not_read_here c.args.code.now.ops.now c.args.temp c.in-Some.at c.index-code-at.result within none) c.in_ok-pass.ensures

pub returns : goal.returns
returns c =
    let none : length c.places.walk.waiting.items ≡ 0 = omega (arith, c.places.walk.waiting.ok, c.in_default.ensures.cases.0) in
    (λ _. walk_ends c.args.code.now.ops.now c.args.temp c.places.walk c.places.invariant (empty_list c.places.walk.waiting.items none), λ _. refl)
