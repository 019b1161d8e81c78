use Rattle.std.proofs.Common.{◌<◌, ℕ, Option, IfSome, sym, ◌∙◌, subst, arith}
use Rattle.pa_ctype.specs.Layouts.{fields_of}
use Rattle.pa_ctype.specs.Tables.{AreApart}
use Rattle.pa_scope.specs.Scope.{Found, with_body_at}
use Rattle.pa_scope.specs.Scopes.{MeetsFound, scope_of}
use Rattle.pa_scope.proofs.Numbered.{id_below}
use Rattle.pa_scope.proofs.Declaring.{tag_found}
use Rattle.pa_scope.proofs.scope.Scope.add_struct.Goals as goal

pub add_body-requires-clause-known : goal.add_body-requires-clause-known
add_body-requires-clause-known c =
    let below = id_below c.args.self.now.tags.structs c.in-Some.tag c.in-Some-struct_id.id (sym c.struct_id.ensures ∙ c.in-Some-struct_id.is) in
    let bound = c.requires.sound.struct_ids in
    omega (arith, below, bound)

pub returns-in_ok-add_tagged-in-None-struct_id-clause-answer : goal.returns-in_ok-add_tagged-in-None-struct_id-clause-answer
returns-in_ok-add_tagged-in-None-struct_id-clause-answer c names m fits apart =
    rw c.in-Some.is (c.in_ok-add_tagged-in-None-struct_id.ensures.answer c.args.place names m fits apart)

pub returns-in-Some-struct_id-clause-answer : goal.returns-in-Some-struct_id-clause-answer
returns-in-Some-struct_id-clause-answer c names m fits apart =
    let s = c.args.self.now in
    let before = subst (λ (n : ℕ). AreApart n names) c.add_body.ensures.names apart in
    let known = subst (λ (o : Option ℕ). IfSome o (λ t. t < s.types.names)) c.in-Some.is c.requires.tag in
    let found = tag_found names m s.names s.tags s.types c.in-Some.tag before known c.requires.sound.struct_names c.in-Some-struct_id.id (sym c.struct_id.ensures ∙ c.in-Some-struct_id.is) in
    rw c.in-Some.is
    (subst (λ (f : Found). MeetsFound c.add_body.result (with_body_at c.args.place (fields_of names m c.args.members) f) (scope_of names m c.add_body.new.self)) found
    (c.add_body.ensures.answer names m fits apart))
