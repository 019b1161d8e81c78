use Rattle.std.proofs.Common.{sym, ap, ◌∙◌, option_map}
use Rattle.pa_scope.specs.Numbered.{meaning_of}
use Rattle.pa_scope.proofs.Numbered.{meaning_is}
use Rattle.pa_scope.proofs.scope.Scope.find.Goals as goal

pub returns-clause-value : goal.returns-clause-value
returns-clause-value c names m fits apart =
    ap (option_map (meaning_of m)) c.find.ensures.value ∙ sym (meaning_is c.args.self.now.types.names names m apart c.args.name c.requires.name c.args.self.now.names c.requires.sound.names)
