use Rattle.std.proofs.Common.{refl, sym}
use Rattle.pa_check.specs.Text.{text_of}
use Rattle.pa_check.proofs.Flaws.{rule_is}
use Rattle.pa_check.proofs.rules.function_rule.Goals as goal

pub returns : goal.returns
returns c =
    rw (rule_is (text_of c.args.image.now) c.args.function.first c.args.function.end c.requires.function c.args.k c.args.window c.requires.from c.requires.to, sym c.requires.instr, c.lowest.ensures, c.begins_badly.ensures, c.either.ensures, c.leaves_function-leaves.ensures, c.calls_elsewhere.ensures, c.breaks_window.ensures, c.enters_window-enters.ensures, c.ends_badly.ensures, c.is_forbidden.ensures, c.is_stray_branch.ensures, c.window_calls.ensures, c.is_stray_return.ensures, c.place-at.ensures) refl
