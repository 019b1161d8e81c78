use Rattle.std.proofs.Common.{ap, sym, ◌∙◌}
use Rattle.pa_symbols.specs.Legal.{has_bits, hash_of}
use Rattle.pa_symbols.proofs.Distinct.{covers_on}
use Rattle.pa_symbols.proofs.legal.is_told_twice.Goals as goal

pub returns-then-not-put_bits-clause-covers : goal.returns-then-not-put_bits-clause-covers
returns-then-not-put_bits-clause-covers c =
    let hash = c.hash.ensures ∙ ap (hash_of c.args.key) c.as_slice-name.ensures in
    covers_on c.args.key c.args.before.now c.args.mark.now c.args.table.now c.put_bits.new.table c.requires.covers c.put_bits.ensures.kept (λ public. ap (has_bits c.put_bits.new.table) (sym hash) ∙ c.put_bits.ensures.put)

pub returns-clause-covers : goal.returns-clause-covers
returns-clause-covers c =
    let hash = c.hash.ensures ∙ ap (hash_of c.args.key) c.as_slice-name.ensures in
    covers_on c.args.key c.args.before.now c.args.mark.now c.args.table.now c.put_bits.new.table c.requires.covers c.put_bits.ensures.kept (λ public. ap (has_bits c.put_bits.new.table) (sym hash) ∙ c.put_bits.ensures.put)
