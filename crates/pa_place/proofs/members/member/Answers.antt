use Rattle.std.proofs.Common.{ℕ, List, Option, Ok, sym, ap, subst, ◌∙◌}
use Rattle.pa_ctype.specs.declared.ctype.Held.{Held}
use Rattle.pa_ctype.specs.Layouts.{table_of}
use Rattle.pa_ctype.specs.Tables.{AreApart}
use Rattle.pa_rexpr.specs.Places.{member}
use Rattle.pa_value.specs.Forms.{typed_of}
use Rattle.pa_place.proofs.Structs.{lacks_member, lacks_field, member_is}
use Rattle.pa_place.proofs.members.member.Goals as goal

pub member-requires-clause-laid : goal.member-requires-clause-laid
member-requires-clause-laid c names m fits =
    c.requires.laid names m fits c.in-Some.id

pub returns-in_default-member-clause-is : goal.returns-in_default-member-clause-is
returns-in_default-member-clause-is c names m fits apart =
    rw c.refused-in_default-member.ensures
    (lacks_member (table_of names m c.args.types.now.structs) c.args.place (names c.args.name) (typed_of names m c.args.form)
    c.in-Some.id (c.in-Some.ensures m fits) (c.in_default-member.ensures.value names m fits apart))

pub returns-in_default-field_type-clause-is : goal.returns-in_default-field_type-clause-is
returns-in_default-field_type-clause-is c names m fits apart =
    rw c.refused-in_default-field_type.ensures
    (lacks_field (table_of names m c.args.types.now.structs) c.args.place (names c.args.name) (typed_of names m c.args.form)
    c.in-Some.id c.in-Some-member.member (c.in-Some.ensures m fits) (c.in-Some-member.ensures.value names m fits apart)
    (c.in_default-field_type.ensures.is names m fits))

pub returns-clause-is : goal.returns-clause-is
returns-clause-is c names m fits apart =
    let old = c.in_ok-member_in.ensures.grows.fits m fits in
    let told = subst (λ (n : ℕ). AreApart n names) c.in_ok-member_in.ensures.grows.names apart in
    ap (λ (s : List (Option (List Held))). member (table_of names m s) c.args.place (names c.args.name) (typed_of names m c.args.form))
    c.in_ok-member_in.ensures.grows.structs
    ∙ member_is (table_of names m c.args.types.now.structs) c.args.place (names c.args.name) (typed_of names m c.args.form)
    c.in-Some.id c.in-Some-member.member (m c.in-Some-field_type.of) (c.in-Some.ensures m old)
    (c.in-Some-member.ensures.value names m old told) (c.in-Some-field_type.ensures.is names m old)
    ∙ ap Ok (sym (c.in_ok-member_in.ensures.is names m fits))
