use Rattle.std.proofs.Common.{◌≡◌, ◌≤◌, ◌-◌, ◌∷◌, [], rules, arith, Ok, Err, sym, ◌∙◌, ap}
use Rattle.pa_tree.specs.Views.{member_tree}
use Rattle.pa_grammar.specs.Parser.{many}
use Rattle.pa_grammar.specs.Reading.{member, not_brace}
use Rattle.pa_pspec.proofs.Bodies.{takes_member}
use Rattle.pa_pspec.proofs.ListHeights.{members_height}
use Rattle.pa_grammar.proofs.Turned.{eats_is, list_more, list_stops, list_ends}
use Rattle.pa_pspec.specs.Rules as rule
use Rattle.pa_pspec.proofs.type_rules.TypeRules.more_members.Goals as goal

pub returns-in_err-member-clause-value : goal.returns-in_err-member-clause-value
returns-in_err-member-clause-value g c = let f = list_stops member_tree not_brace (rule.member c.args.self.now.at).read (takes_member c.args.self.now.at.names.now c.args.self.now.at.depth) (many not_brace (rule.member c.args.self.now.at).read (member_tree c.args.first.tree ∷ []) c.args.r.now) c.members.all c.members.r c.members.invariant.same (sym c.member_follows.ensures ∙ c.members-test.true) in search (rules, f)

pub members-preserved : goal.members-preserved
members-preserved g c = let m = c.in_ok-member.ensures.measured in let h = members_height c.members.all c.push-in-members.new.self c.in_ok-member.member.tree c.in_ok-push-2.ensures.ok in record {
  same = list_more member_tree not_brace (rule.member c.args.self.now.at).read (takes_member c.args.self.now.at.names.now c.args.self.now.at.depth) (many not_brace (rule.member c.args.self.now.at).read (member_tree c.args.first.tree ∷ []) c.args.r.now) c.members.all c.push-in-members.new.self c.in_ok-member.member.tree c.members.r c.member.new.r c.members.invariant.same c.in_ok-push-2.ensures.ok (sym c.member_follows.ensures ∙ c.members-test.true) c.in_ok-member.ensures.value;
  high = omega (arith, h, m.0, m.1, c.members.invariant.high);
  fits = omega (arith, m.0, m.1, c.members.invariant.fits);
}

pub members-smaller : goal.members-smaller
members-smaller g c = eats_is (takes_member c.args.self.now.at.names.now c.args.self.now.at.depth) (member_tree c.in_ok-member.member.tree) c.members.r c.member.new.r c.in_ok-member.ensures.value

pub returns-clause-value : goal.returns-clause-value
returns-clause-value g c = list_ends member_tree not_brace (rule.member c.args.self.now.at).read (takes_member c.args.self.now.at.names.now c.args.self.now.at.depth) (many not_brace (rule.member c.args.self.now.at).read (member_tree c.args.first.tree ∷ []) c.args.r.now) c.members.all c.members.r c.members.invariant.same (sym c.member_follows.ensures ∙ c.members-test.false)
