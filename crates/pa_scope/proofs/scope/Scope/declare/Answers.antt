use Rattle.std.proofs.Common.{Bool, sym, ap, ◌∙◌, subst}
use Rattle.pa_scope.specs.Answers.{Answer}
use Rattle.pa_scope.specs.Numbered.{Meets, repeats, both_global, scope_by}
use Rattle.pa_scope.specs.Scope.{Scope}
use Rattle.pa_scope.proofs.Declaring.{declares, declares_again}
use Rattle.pa_scope.proofs.scope.Scope.declare.Goals as goal

pub returns-in_ok-declare-in-None-clause-answer : goal.returns-in_ok-declare-in-None-clause-answer
returns-in_ok-declare-in-None-clause-answer c names m fits apart =
    let s = c.args.self.now in
    declares names m s.names s.tags s.types c.args.name c.args.place c.args.means apart c.requires.name c.requires.sound.names c.declare.new.self (sym c.find_in_block.ensures.value ∙ c.in-None.is) c.in_ok-declare-in-None.ensures.ok

pub returns-in-Some-clause-answer : goal.returns-in-Some-clause-answer
returns-in-Some-clause-answer c names m fits apart =
    let s = c.args.self.now in
    let plain = scope_by names m s.names s.tags s.types in
    let again = declares_again names m s.names s.tags s.types c.args.name c.args.place c.args.means apart c.requires.name c.requires.sound.names c.in-Some.before (sym c.find_in_block.ensures.value ∙ c.in-Some.is) in
    let level = ap (λ (b : Bool). repeats m c.args.place plain (both_global b c.in-Some.before c.args.means)) (c.is_file_level-is_file_level.ensures) in
    subst (λ (a : Answer Scope). Meets c.declared_again.result a plain) (level ∙ sym again) (c.declared_again.ensures m fits plain)
