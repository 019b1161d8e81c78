use Rattle.std.proofs.Common.{◌≡◌, [], ◌∷◌, ◌++◌, ℕ, List, None, nat_eq, sym, ap, ◌∙◌, subst}
use Rattle.indexmap.proofs.CallerLemmas.{insert_entry-new}
use Rattle.pa_scope.specs.Numbered.{TagNumbers, id_of}
use Rattle.pa_scope.proofs.tags.Tags.add_struct.Goals as goal

pub returns-clause-ok : goal.returns-clause-ok
returns-clause-ok c =
    let none = subst (λ (t : TagNumbers). id_of t.structs c.args.tag ≡ None) (sym c.self.view_is) c.requires in
    let e = c.in-Ok.ensures.entries ∙ insert_entry-new nat_eq c.self.inside.structs c.args.tag c.args.id none in
    subst (λ (t : TagNumbers). record { structs = c.insert.new.self.entries; enums = c.self.inside.enums.keys } ≡ record { structs = t.structs ++ (c.args.tag, c.args.id) ∷ []; enums = t.enums }) c.self.view_is
    (ap (λ (entries : List (ℕ × ℕ)). record { structs = entries; enums = c.self.inside.enums.keys }) e)
