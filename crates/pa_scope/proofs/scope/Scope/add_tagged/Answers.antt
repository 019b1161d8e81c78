use Rattle.std.proofs.Common.{◌≡◌, ◌∷◌, [], ◌++◌, ℕ, sym, ap, ◌∙◌, subst}
use Rattle.pa_ctype.specs.Tables.{TypeTable, AreApart}
use Rattle.pa_scope.proofs.Bodies.{tagged_body, tagged_sound}
use Rattle.pa_scope.proofs.scope.Scope.add_tagged.Goals as goal

pub returns-in-Ok-clause-sound : goal.returns-in-Ok-clause-sound
returns-in-Ok-clause-sound c =
    let s = c.args.self.now in
    tagged_sound s.names s.tags c.add_struct.new.self s.types c.declare_with.new.self c.args.tag c.struct_count-count.result c.args.members c.requires.name c.struct_count-count.ensures c.in_ok-add_struct.ensures.ok c.in-Ok.ensures.ok c.requires.sound

pub returns-in-Ok-clause-answer : goal.returns-in-Ok-clause-answer
returns-in-Ok-clause-answer c place names m fits apart =
    let s = c.args.self.now in
    let same : c.in-Ok.id ≡ c.struct_count-count.result = c.in-Ok.ensures.id ∙ sym c.struct_count-count.ensures in
    let tags = c.in_ok-add_struct.ensures.ok ∙ ap (λ (n : ℕ). record { structs = s.tags.structs ++ (c.args.tag, n) ∷ []; enums = s.tags.enums }) (sym same) in
    let before = subst (λ (n : ℕ). AreApart n names) (ap (λ (t : TypeTable). t.names) c.in-Ok.ensures.ok) apart in
    tagged_body names m s.names s.tags s.types c.args.members c.args.tag before c.requires.name c.requires.sound.struct_names place c.in-Ok.id c.add_struct.new.self c.declare_with.new.self c.requires.new c.in-Ok.ensures.id tags c.in-Ok.ensures.ok
