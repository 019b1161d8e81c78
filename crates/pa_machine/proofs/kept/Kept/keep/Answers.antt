use Rattle.std.proofs.Common.{refl, sym, ap, subst, length, ◌∙◌}
use Rattle.std.proofs.lemmas.Option.{slice_get_read}
use Rattle.pa_processor.specs.Processor.{instruction_at}
use Rattle.pa_machine.specs.Kept.{IsRight, IsOf, IsEntry}
use Rattle.pa_machine.proofs.Keeping.{table_changed}
use Rattle.pa_machine.proofs.kept.Kept.keep.Goals as goal

pub returns-in-Some-clause-right : goal.returns-in-Some-clause-right
returns-in-Some-clause-right c memory right here =
    let items = c.args.self.now.tables.items in
    let place = c.in-Some.place in
    let table = c.index_mut.result.now in
    let found = slice_get_read items (length items) place.table table refl c.in-Some.ensures.table c.index_mut.ensures.value in
    let entry = subst (IsEntry c.args.at place.entry) (sym c.index_mut.ensures.value) (c.in-Some.ensures.entry table) in
    let one = c.keep.ensures.right memory (right place.table table found) (ap (instruction_at memory) entry.address ∙ here) in
    table_changed (IsRight memory) items _ place.table c.keep.new.self refl right one

pub returns-in-Some-clause-own : goal.returns-in-Some-clause-own
returns-in-Some-clause-own c memory own =
    let items = c.args.self.now.tables.items in
    let place = c.in-Some.place in
    let table = c.index_mut.result.now in
    let found = slice_get_read items (length items) place.table table refl c.in-Some.ensures.table c.index_mut.ensures.value in
    table_changed (IsOf memory) items _ place.table c.keep.new.self refl own (c.keep.ensures.own memory (own place.table table found))
