use Rattle.std.proofs.Common.{refl, sym, ◌∙◌, subst, arith}
use Rattle.std.proofs.lemmas.List.{map-append}
use Rattle.pa_scope.specs.Numbered.{TagNumbers, IsSoundBy}
use Rattle.pa_scope.proofs.Numbered.{enum_is, enum_names_more}
use Rattle.pa_scope.proofs.scope.Scope.add_enum_tag.Goals as goal

pub returns-then-has_enum-clause-answer : goal.returns-then-has_enum-clause-answer
returns-then-has_enum-clause-answer c names m fits apart =
    let s = c.args.self.now in
    let there = enum_is s.types.names names m apart c.args.tag c.requires.name s.tags.enums c.requires.sound.enum_names_are ∙ sym c.has_enum.ensures ∙ c.if-has_enum.true in
    rw there refl

pub returns-clause-sound : goal.returns-clause-sound
returns-clause-sound c =
    let s = c.args.self.now in
    let more = enum_names_more s.tags.enums c.args.tag in
    let h = c.requires.sound in
    let known = c.requires.name in
    subst (λ (t : TagNumbers). IsSoundBy s.names t s.types) (sym c.in_ok-add_enum.ensures.ok)
    (record { names = h.names; types_are = h.types_are; struct_names = h.struct_names; struct_ids = h.struct_ids; enum_names_are = omega (arith, more, h.enum_names_are, known) })

pub returns-clause-answer : goal.returns-clause-answer
returns-clause-answer c names m fits apart =
    let s = c.args.self.now in
    let there = enum_is s.types.names names m apart c.args.tag c.requires.name s.tags.enums c.requires.sound.enum_names_are ∙ sym c.has_enum.ensures ∙ c.if-has_enum.false in
    rw (there, c.in_ok-add_enum.ensures.ok, map-append) refl
