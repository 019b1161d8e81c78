use Rattle.std.proofs.Common.{◌≡◌, ◌∷◌, [], ◌++◌, ℕ, List, refl, sym, ap, ◌∙◌, subst}
use Rattle.pa_ctype.specs.Tables.{TypeTable, AreApart}
use Rattle.pa_scope.specs.Numbered.{TagNumbers}
use Rattle.pa_scope.proofs.Declaring.{tag_added, tag_sound}
use Rattle.pa_scope.proofs.scope.Scope.add_tag.Goals as goal

pub returns-in-Ok-clause-sound : goal.returns-in-Ok-clause-sound
returns-in-Ok-clause-sound c =
    let s = c.args.self.now in
    tag_sound s.names s.tags c.add_struct.new.self s.types c.declare.new.self c.args.tag c.struct_count-count.result c.requires.name c.struct_count-count.ensures c.in_ok-add_struct.ensures.ok c.in-Ok.ensures.ok c.requires.sound

pub returns-in-Ok-clause-value : goal.returns-in-Ok-clause-value
returns-in-Ok-clause-value c names m fits apart =
    let s = c.args.self.now in
    let same : c.in-Ok.id ≡ c.struct_count-count.result = c.in-Ok.ensures.id ∙ sym c.struct_count-count.ensures in
    let tags = c.in_ok-add_struct.ensures.ok ∙ ap (λ (n : ℕ). record { structs = s.tags.structs ++ (c.args.tag, n) ∷ []; enums = s.tags.enums }) (sym same) in
    let before = subst (λ (n : ℕ). AreApart n names) (ap (λ (t : TypeTable). t.names) c.in-Ok.ensures.ok) apart in
    tag_added names m s.names s.tags s.types c.args.tag before c.requires.name c.requires.sound.struct_names c.in-Ok.id c.add_struct.new.self c.declare.new.self c.requires.new c.in-Ok.ensures.id tags c.in-Ok.ensures.ok

restored : (old after last : TagNumbers) (tag id : ℕ) → after ≡ record { structs = old.structs ++ (tag, id) ∷ []; enums = old.enums }
    → ((tags : List (ℕ × ℕ)) (t : ℕ × ℕ) → after.structs ≡ tags ++ t ∷ [] → last ≡ record after { structs = tags }) → last ≡ old
restored old after last tag id e h = h old.structs (tag, id) (ap (λ (t : TagNumbers). t.structs) e) ∙ ap (λ (t : TagNumbers). record t { structs = old.structs }) e

pub returns-in-Err-clause-sound : goal.returns-in-Err-clause-sound
returns-in-Err-clause-sound c =
    let s = c.args.self.now in
    let same = restored s.tags c.add_struct.new.self c.remove_last_struct.new.self c.args.tag c.struct_count-count.result c.in_ok-add_struct.ensures.ok c.remove_last_struct.ensures in
    rw (same, c.in-Err.ensures.err) c.requires.sound

pub returns-in-Err-clause-err : goal.returns-in-Err-clause-err
returns-in-Err-clause-err c =
    let s = c.args.self.now in
    let same = restored s.tags c.add_struct.new.self c.remove_last_struct.new.self c.args.tag c.struct_count-count.result c.in_ok-add_struct.ensures.ok c.remove_last_struct.ensures in
    rw (same, c.in-Err.ensures.err) refl
