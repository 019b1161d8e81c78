use Rattle.std.proofs.Common.{sym, ◌∙◌}
use Rattle.pa_scope.proofs.Numbered.{enum_is}
use Rattle.pa_scope.proofs.scope.Scope.has_enum_tag.Goals as goal

pub returns : goal.returns
returns c names m fits apart =
    c.has_enum.ensures ∙ sym (enum_is c.args.self.now.types.names names m apart c.args.tag c.requires.name c.args.self.now.tags.enums c.requires.sound.enum_names_are)
