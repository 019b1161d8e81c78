use Rattle.std.proofs.Common.{sym, ◌∙◌, arith}
use Rattle.pa_scope.proofs.Declaring.{tag_found}
use Rattle.pa_scope.proofs.Numbered.{id_below}
use Rattle.pa_scope.proofs.scope.Scope.tag.Goals as goal

pub returns-in-Some-clause-value : goal.returns-in-Some-clause-value
returns-in-Some-clause-value c names m fits apart =
    let s = c.args.self.now in
    tag_found names m s.names s.tags s.types c.args.tag apart c.requires.name c.requires.sound.struct_names c.in-Some.id (sym c.struct_id.ensures ∙ c.in-Some.is)

pub returns-in-Some-clause-known : goal.returns-in-Some-clause-known
returns-in-Some-clause-known c =
    let below = id_below c.args.self.now.tags.structs c.args.tag c.in-Some.id (sym c.struct_id.ensures ∙ c.in-Some.is) in
    let bound = c.requires.sound.struct_ids in
    omega (arith, below, bound)
