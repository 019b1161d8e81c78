use Rattle.std.proofs.Common.{sym, ap, subst, ◌∙◌}
use Rattle.std.specs.Str.{bytes_eq}
use Rattle.std.proofs.lemmas.Slice.Eq.{bytes_eq-Decides}
use Rattle.pa_typed.specs.Units.{name_in}
use Rattle.pa_link.specs.Names.{texts_of, IsGrown}
use Rattle.pa_link.proofs.NameNumbers.{grown-insert, stored_name, inserted_texts}
use Rattle.pa_link.proofs.names.number_of.Goals as goal

pub returns-in-Ok-try_from-clause-is : goal.returns-in-Ok-try_from-clause-is
returns-in-Ok-try_from-clause-is c =
    let s = c.in-Ok.ensures.stored in
    ap (name_in (texts_of c.insert_full.new.self.keys)) c.in-Ok-try_from.ensures.1 ∙ stored_name c.insert_full.new.self.keys c.in-Ok.index s.0 s.1
    ∙ sym ((bytes_eq-Decides c.args.name.now s.0.now).0 s.2)

pub returns-in-Ok-try_from-clause-grows : goal.returns-in-Ok-try_from-clause-grows
returns-in-Ok-try_from-clause-grows c = subst (IsGrown c.args.table.now.keys) (sym c.in-Ok.ensures.keys) (grown-insert (λ x y. bytes_eq x.now y.now) c.args.table.now.keys c.args.name)

pub returns-in-Ok-try_from-clause-names : goal.returns-in-Ok-try_from-clause-names
returns-in-Ok-try_from-clause-names c = ap texts_of c.in-Ok.ensures.keys ∙ inserted_texts c.args.table.now.keys c.args.name
