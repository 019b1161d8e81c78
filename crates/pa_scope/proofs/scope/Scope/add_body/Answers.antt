use Rattle.std.proofs.Common.{◌≡◌, Bool, false, List, Option, Some, None, is_some, slice_get, refl, sym, ap, ◌∙◌}
use Rattle.std.specs.Option.{option_copied, option_and_then}
use Rattle.pa_ctype.specs.declared.ctype.Held.{Held}
use Rattle.pa_scope.proofs.Bodies.{body_set}
use Rattle.pa_scope.proofs.scope.Scope.add_body.Goals as goal

copied : {A : Type 0} (o : Option A) (k : Bool) → k ≡ is_some o → k ≡ false → o ≡ None
copied None k e f = refl
copied (Some a) k e f = cc

no_body : (c : goal.In_ok-define) → option_and_then (λ (body : Option (List Held)). body) (slice_get c.args.self.now.types.structs c.args.id) ≡ None
no_body c = sym c.members.ensures.members ∙ ap option_copied (copied c.members.result c.is_some.result c.is_some.ensures c.if-is_some.false)

pub returns-clause-answer : goal.returns-clause-answer
returns-clause-answer c names m fits apart =
    let s = c.args.self.now in
    body_set names m s.names s.tags s.types c.args.members c.args.place c.args.id c.define.new.self (no_body c) c.in_ok-define.ensures.ok
