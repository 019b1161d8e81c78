use Rattle.std.proofs.Common.{◌≡◌, ◌++◌, [], ◌∷◌}
use Rattle.pa_link.proofs.NameNumbers.{numbers_are}
use Rattle.pa_link.proofs.names.file_names.Goals as goal

pub returns-clause-are : goal.returns-clause-are
returns-clause-are c =
    let is : c.in_ok-linkage.linkage ≡ c.pop.new.self ++ c.unwrap-unnamed.result ∷ [] = rw c.unwrap-unnamed.ensures at c.pop.ensures in
    numbers_are c.numbers_of.new.table.keys c.numbers_of-2.new.table.keys c.args.plain.now c.args.linkage.now
    (record { plain = c.in_ok-plain.plain; linkage = c.pop.new.self; unnamed = c.unwrap-unnamed.result }) c.in_ok-linkage.linkage c.in_ok-linkage.ensures.grows
    c.in_ok-plain.ensures.are c.in_ok-plain.ensures.known c.in_ok-linkage.ensures.are c.in_ok-linkage.ensures.known is
