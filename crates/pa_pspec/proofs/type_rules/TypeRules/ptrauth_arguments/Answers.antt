use Rattle.std.proofs.Common.{◌≡◌, ◌<◌, ◌≤◌, ◌-◌, ◌+◌, ◌∷◌, [], ◌++◌, map, drop, rules, arith, Ok, Err, sym, ◌∙◌, ap}
use Rattle.std.proofs.lemmas.List.{map-append}
use Rattle.pa_tree.specs.Views.{expr_tree}
use Rattle.pa_grammar.specs.Parser.{Stop}
use Rattle.pa_grammar.specs.Reading.{parsers}
use Rattle.pa_pspec.proofs.ListHeights.{exprs_height}
use Rattle.pa_pspec.proofs.Qualifiers.{conds_behind, conds_more, conds_fail, conds_full, comma_seen, first_kept, rest_kept}
use Rattle.pa_pspec.proofs.type_rules.TypeRules.ptrauth_arguments.Goals as goal

pub returns-in_err-argument-clause-value : goal.returns-in_err-argument-clause-value
returns-in_err-argument-clause-value g c = let b : c.loop-turn._turn < 2 = omega arith in
    let f = λ (s : Stop). λ (e : (parsers c.args.self.now.at.names.now c.args.self.now.at.depth).expr 2 c.expect.new.self ≡ Err s). sym c.loop-turn.invariant.same ∙ conds_fail c.args.self.now.at.names.now c.args.self.now.at.depth (parsers c.args.self.now.at.names.now c.args.self.now.at.depth) (drop 1 (map expr_tree c.loop-turn.all)) c.loop-turn._turn s c.loop-turn.r c.expect.new.self b (comma_seen c.loop-turn.r c.expect.new.self c.in_ok-expect.field-0 c.in_ok-expect.ensures) c.in_ok-expect.ensures e in search (rules, f)

pub loop-turn-preserved : goal.loop-turn-preserved
loop-turn-preserved g c = let b : c.loop-turn._turn < 2 = omega arith in
    let m = c.in_ok-argument.ensures.measured in
    let h = exprs_height c.loop-turn.all c.push-in-loop-turn.new.self c.in_ok-argument.argument.tree c.in_ok-push-2.ensures.ok in
    let k = ap (map expr_tree) c.in_ok-push-2.ensures.ok ∙ map-append expr_tree c.loop-turn.all (c.in_ok-argument.argument.tree ∷ []) in
    record {
      same = ap (λ l. conds_behind c.args.self.now.at.names.now c.args.self.now.at.depth (parsers c.args.self.now.at.names.now c.args.self.now.at.depth) l (2 - (c.loop-turn._turn + 1)) c.expr.new.r) (rest_kept (expr_tree c.args.first.tree) (expr_tree c.in_ok-argument.argument.tree) (map expr_tree c.loop-turn.all) (map expr_tree c.push-in-loop-turn.new.self) c.loop-turn.invariant.first k)
          ∙ sym (conds_more c.args.self.now.at.names.now c.args.self.now.at.depth (parsers c.args.self.now.at.names.now c.args.self.now.at.depth) (drop 1 (map expr_tree c.loop-turn.all)) c.loop-turn._turn (expr_tree c.in_ok-argument.argument.tree) c.loop-turn.r c.expect.new.self c.expr.new.r b (comma_seen c.loop-turn.r c.expect.new.self c.in_ok-expect.field-0 c.in_ok-expect.ensures) c.in_ok-expect.ensures c.in_ok-argument.ensures.value) ∙ c.loop-turn.invariant.same;
      first = first_kept (expr_tree c.args.first.tree) (expr_tree c.in_ok-argument.argument.tree) (map expr_tree c.loop-turn.all) (map expr_tree c.push-in-loop-turn.new.self) c.loop-turn.invariant.first k;
      high = omega (arith, h, m.0, m.1, c.loop-turn.invariant.high);
      fits = omega (arith, m.0, m.1, c.loop-turn.invariant.fits);
    }

pub returns-clause-value : goal.returns-clause-value
returns-clause-value g c = let b : 2 ≤ c.loop-turn._turn = omega arith in sym c.loop-turn.invariant.same ∙ conds_full c.args.self.now.at.names.now c.args.self.now.at.depth (parsers c.args.self.now.at.names.now c.args.self.now.at.depth) (drop 1 (map expr_tree c.loop-turn.all)) c.loop-turn._turn c.loop-turn.r b
