use Rattle.std.proofs.Common.{sym, ◌∙◌, arith, length-drop}
use Rattle.pa_lex.proofs.Bodies.{read_more, read_fails, read_all, character_within}
use Rattle.pa_lex.proofs.Runs.{is_nil, is_no_nil}
use Rattle.pa_lex.proofs.literal.bytes_of.Goals as goal

pub returns-in_default : goal.returns-in_default
returns-in_default c bytes s =
    read_fails c.args.body.now c.pieces.bytes c.pieces.rest.now bytes c.pieces.invariant (is_no_nil c.pieces.rest.now c.is_empty.result c.is_empty.ensures c.pieces-test.true) (sym c.character.ensures ∙ c.in_default.is) s

pub split_at-requires : goal.split_at-requires
split_at-requires c = (character_within c.pieces.rest.now c.in-Some.byte c.in-Some.count (sym c.character.ensures ∙ c.in-Some.is)).within

pub pieces-smaller : goal.pieces-smaller
pieces-smaller c =
    let w = character_within c.pieces.rest.now c.in-Some.byte c.in-Some.count (sym c.character.ensures ∙ c.in-Some.is) in
    rw c.split_at.ensures.back (omega (arith, length-drop c.in-Some.count c.pieces.rest.now, w.long, w.within))

pub pieces-preserved : goal.pieces-preserved
pieces-preserved c =
    rw (c.in_ok-push.ensures.ok, c.split_at.ensures.back) (read_more c.args.body.now c.pieces.bytes c.pieces.rest.now c.in-Some.byte c.in-Some.count c.pieces.invariant (sym c.character.ensures ∙ c.in-Some.is))

pub returns : goal.returns
returns c = read_all c.args.body.now c.pieces.bytes c.pieces.rest.now c.pieces.invariant (is_nil c.pieces.rest.now c.is_empty.result c.is_empty.ensures c.pieces-test.false)
