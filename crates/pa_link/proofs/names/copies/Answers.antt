use Rattle.std.proofs.Common.{◌≡◌, Some, subst, sym, arith}
use Rattle.std.specs.Prelude.{length, slice_get}
use Rattle.std.proofs.lemmas.Grind.{common_steps}
use Rattle.pa_ctype.specs.Tables.{AreApart}
use Rattle.pa_typed.specs.Units.{name_in}
use Rattle.pa_link.specs.Names.{texts_of}
use Rattle.pa_link.proofs.NameNumbers.{copied_name, distinct_apart}
use Rattle.pa_link.proofs.names.copies.Goals as goal

pub names-preserved : goal.names-preserved
names-preserved c =
    let ks = c.args.table.now.keys in
    let here : slice_get ks c.names.index ≡ Some c.in-Some.name.now = sym c.in-Some.ensures.key in
    let step = copied_name ks c.names.index c.in-Some.name.now c.names.names here c.names.invariant.same in
    record { within = grind (arith, common_steps, c.in-Some.ensures.found); same = rw (c.in_ok-push.ensures.ok, c.in_ok-from_slice.ensures) step }

pub returns-clause-apart : goal.returns-clause-apart
returns-clause-apart c =
    let ks = c.args.table.now.keys in
    let same : texts_of ks ≡ c.names.names = grind (arith, common_steps, c.names.invariant.same, c.in_default.ensures.found, c.in_default.not-Some) in
    subst (λ names. AreApart (length names) (name_in names)) same (distinct_apart ks c.len-count.ensures.unique)
