use Rattle.std.proofs.Common.{◌≡◌, ◌≤◌, ◌<◌, ◌-◌, ◌+◌, suc, Ok, Err, rules, arith, sym, ◌∙◌, ap}
use Rattle.pa_tree.specs.Heights.{declarator_height}
use Rattle.pa_tree.specs.Views.{declarator_tree}
use Rattle.pa_grammar.specs.Parser.{Stop}
use Rattle.pa_grammar.specs.Reading.{parsers}
use Rattle.pa_pspec.specs.Suffixes.{suffix_of, suffix_shown}
use Rattle.pa_pspec.proofs.DeclaratorParts.{suffixes_done, suffixes_more, suffixes_fail, suffixes_full}
use Rattle.pa_pspec.proofs.type_rules.TypeRules.suffixes.Goals as goal

pub returns-in_default-clause-value : goal.returns-in_default-clause-value
returns-in_default-clause-value g c = sym c.loop-turn.invariant.same ∙ suffixes_done c.args.self.now.at.names.now c.args.self.now.at.depth (parsers c.args.self.now.at.names.now c.args.self.now.at.depth) c.args.from (declarator_tree c.loop-turn.whole.tree) (suc c.args.self.now.at.depth - c.loop-turn._turn) c.loop-turn.r (cc)

pub returns-in_err-whole-clause-value : goal.returns-in_err-whole-clause-value
returns-in_err-whole-clause-value g c = let f = λ (s : Stop). λ (e : suffix_of c.args.self.now.at.names.now c.args.self.now.at.depth (parsers c.args.self.now.at.names.now c.args.self.now.at.depth) c.in-Some.next.0 c.args.from (declarator_tree c.loop-turn.whole.tree) (c.in-Some.next.1).now c.loop-turn.r ≡ Err s). sym c.loop-turn.invariant.same ∙ suffixes_fail c.args.self.now.at.names.now c.args.self.now.at.depth (parsers c.args.self.now.at.names.now c.args.self.now.at.depth) c.args.from (declarator_tree c.loop-turn.whole.tree) (suc c.args.self.now.at.depth - c.loop-turn._turn) (c.in-Some.next.1).now c.in-Some.next.0 s c.loop-turn.r (sym c.next_suffix.ensures ∙ ap suffix_shown c.in-Some.is) e in search (rules, f)

pub loop-turn-preserved : goal.loop-turn-preserved
loop-turn-preserved g c = let m = c.in_ok-whole.ensures.measured in let b : c.loop-turn._turn < suc c.args.self.now.at.depth = omega arith in record {
  same = sym (suffixes_more c.args.self.now.at.names.now c.args.self.now.at.depth (parsers c.args.self.now.at.names.now c.args.self.now.at.depth) c.args.from (declarator_tree c.loop-turn.whole.tree) (suc c.args.self.now.at.depth) c.loop-turn._turn (declarator_tree c.in_ok-whole.whole.tree) (c.in-Some.next.1).now c.in-Some.next.0 c.loop-turn.r c.suffix.new.r (sym c.next_suffix.ensures ∙ ap suffix_shown c.in-Some.is) c.in_ok-whole.ensures.value b) ∙ c.loop-turn.invariant.same;
  high = m.0;
  fits = m.1;
  rises = omega (arith, c.in_ok-whole.ensures.taller, c.loop-turn.invariant.rises);
}

pub returns-in-None-clause-value : goal.returns-in-None-clause-value
returns-in-None-clause-value g c = sym c.loop-turn.invariant.same ∙ suffixes_done c.args.self.now.at.names.now c.args.self.now.at.depth (parsers c.args.self.now.at.names.now c.args.self.now.at.depth) c.args.from (declarator_tree c.loop-turn.whole.tree) (suc c.args.self.now.at.depth - c.loop-turn._turn) c.loop-turn.r (cc)

pub returns-in-Some-next_suffix-clause-value : goal.returns-in-Some-next_suffix-clause-value
returns-in-Some-next_suffix-clause-value g c = let b : c.args.self.now.at.depth < declarator_height (declarator_tree c.loop-turn.whole.tree) = omega (arith, c.loop-turn.invariant.high, c.loop-turn.invariant.rises) in λ _. sym c.loop-turn.invariant.same ∙ suffixes_full c.args.self.now.at.names.now c.args.self.now.at.depth (parsers c.args.self.now.at.names.now c.args.self.now.at.depth) c.args.from (declarator_tree c.loop-turn.whole.tree) (suc c.args.self.now.at.depth - c.loop-turn._turn) (c.in-Some-next_suffix.field-0.1).now c.in-Some-next_suffix.field-0.0 c.loop-turn.r (cc) b
