use Rattle.std.proofs.Common.{◌≡◌, None, Some, sym, ◌∙◌}
use Rattle.std.proofs.lemmas.Map.Text.{hash_map_updates_str}
use Rattle.pa_names.proofs.Kept.{noted_new, none_of}
use Rattle.pa_linker.specs.Tables.{kept_place}
use Rattle.pa_linker.proofs.symbols.Symbols.note.Goals as goal

pub returns-in-Ok : goal.returns-in-Ok
returns-in-Ok c = λ name.
    let none : kept_place c.args.self.now c.args.own.now ≡ None = sym c.find.ensures ∙ none_of c.find.result (sym c.is_some.ensures ∙ c.if-is_some.false) in
    noted_new (kept_place c.args.self.now) c.args.own.now name c.args.place _ none
    (hash_map_updates_str c.args.own.now c.args.self.now.places c.insert.new.self (Some c.args.place) c.in-Ok.ensures.updates name)
