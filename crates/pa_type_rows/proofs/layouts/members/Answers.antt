use Rattle.std.proofs.Common.{◌≤◌, ◌<◌, [], ◌∷◌, length, IfSome, refl, sym, ◌∙◌, subst, arith}
use Rattle.pa_ctype.specs.declared.ctype.Held.{Held}
use Rattle.pa_ctype.specs.Tables.{types_bound, names_bound, IsSoundIn}
use Rattle.pa_ctype.proofs.Bodies.{none_sound, sound_push, sound_grown, types_push, names_push}
use Rattle.pa_type_rows.proofs.layouts.members.Goals as goal

pub rows-init : goal.rows-init
rows-init c =
    let none = sym c.new-members.ensures in
    record {
      structs = refl;
      names = refl;
      known = subst (λ ms. types_bound ms ≤ length c.args.types.now.nodes) none (omega arith);
      named = subst (λ ms. names_bound ms ≤ 10) none (omega arith);
      sound = subst (IsSoundIn c.args.types.now) none (none_sound c.args.types.now);
    }

pub rows-preserved : goal.rows-preserved
rows-preserved c =
    let pushed = sym c.in_ok-push.ensures.ok in
    let held = c.in-Some.held in
    let new = c.held.new.types in
    let known = subst (λ o. IfSome o (λ (held : Held). held.of < length new.nodes)) c.in-Some.is c.in_ok-held.ensures.known in
    let named = subst (λ o. IfSome o (λ (held : Held). held.name < 10)) c.in-Some.is c.in_ok-held.ensures.named in
    let sound = subst (λ o. IfSome o (λ held. IsSoundIn new (held ∷ []))) c.in-Some.is c.in_ok-held.ensures.sound in
    record {
      structs = c.held.ensures.structs ∙ c.rows.invariant.structs;
      names = c.held.ensures.names ∙ c.rows.invariant.names;
      known = subst (λ ms. types_bound ms ≤ length new.nodes) pushed (types_push (length new.nodes) c.rows.members held (omega (arith, c.rows.invariant.known, c.held.ensures.longer)) known);
      named = subst (λ ms. names_bound ms ≤ 10) pushed (names_push 10 c.rows.members held c.rows.invariant.named named);
      sound = subst (IsSoundIn new) pushed
          (sound_push new c.rows.members held (sound_grown c.rows.types new c.held.ensures.structs c.held.ensures.grows c.rows.members c.rows.invariant.sound) sound);
    }
