use Rattle.std.proofs.Common.{◌≡◌, ◌<◌, ◌+◌, suc, subst, sym, ap, ◌∙◌, length, arith}
use Rattle.std.proofs.lemmas.Grind.{common_steps}
use Rattle.std.proofs.lemmas.List.{length-map}
use Rattle.pa_ctype.specs.Nodes.{AllBelow}
use Rattle.pa_typed.specs.declared.unit.Unit.{Unit as CUnit}
use Rattle.pa_typed.specs.Units.{name_in}
use Rattle.pa_link.specs.Linked.{AreKnownParts}
use Rattle.pa_link.proofs.NameNumbers.{element}
use Rattle.pa_link.proofs.LinkedSteps.{AreSoFar, all_linked, first_grown, known_more, longer, no_name, so_far_more}
use Rattle.pa_link.proofs.linked.linked_files.Goals as goal

pub linked_file-requires-clause-names : goal.linked_file-requires-clause-names
linked_file-requires-clause-names c =
    let within : c.units.index < length c.args.names.now.files = omega (arith, c.requires.files.count, c.units-test.true) in
    let here = element c.args.units.now c.units.index c.index-units-index.result c.index-units-index.is c.units-test.true in
    let place = rw c.as_slice.ensures at c.index-as_slice-index.is in
    let there = element c.args.names.now.files c.units.index c.index-as_slice-index.result place within in
    subst (λ k. AllBelow k c.index-as_slice-index.result.plain) (sym c.units.invariant.names) (c.requires.files.each c.units.index c.index-units-index.result c.index-as_slice-index.result here there).plain_known

pub linked_file-requires-clause-count : goal.linked_file-requires-clause-count
linked_file-requires-clause-count c =
    let within : c.units.index < length c.args.names.now.files = omega (arith, c.requires.files.count, c.units-test.true) in
    let here = element c.args.units.now c.units.index c.index-units-index.result c.index-units-index.is c.units-test.true in
    let place = rw c.as_slice.ensures at c.index-as_slice-index.is in
    let there = element c.args.names.now.files c.units.index c.index-as_slice-index.result place within in
    let are = c.requires.files.each c.units.index c.index-units-index.result c.index-as_slice-index.result here there in
    sym (length-map c.index-as_slice-index.result.plain (name_in c.args.names.now.names)) ∙ ap length are.plain ∙ sym (c.requires.counts c.units.index c.index-units-index.result here)

pub units-preserved : goal.units-preserved
units-preserved c =
    let names = c.args.names.now.names in
    let units = c.args.units.now in
    let u = c.index-units-index.result in
    let f = c.index-as_slice-index.result in
    let made = c.in_ok-made.made in
    let within : c.units.index < length c.args.names.now.files = omega (arith, c.requires.files.count, c.units-test.true) in
    let here = element units c.units.index u c.index-units-index.is c.units-test.true in
    let again = element units c.units.index c.index-units-index-in-units.result c.index-units-index-in-units.is c.units-test.true in
    let place = rw c.as_slice.ensures at c.index-as_slice-index.is in
    let there = element c.args.names.now.files c.units.index f place within in
    let are = c.requires.files.each c.units.index u f here there in
    let same : c.index-units-index-in-units.result ≡ u = cc in
    let texts : c.in_ok-texts.texts ≡ c.units.texts + length u.texts = c.in_ok-texts.ensures ∙ ap (λ (v : CUnit). c.units.texts + length v.texts) same in
    let more = so_far_more names units c.units.index c.units.types c.units.texts c.units.parts u f made here c.units.invariant.count (no_name names c.requires.names) are c.in_ok-made.ensures c.units.invariant.so_far in
    record {
      within = omega (arith, c.units-test.true);
      count = grind (arith, common_steps, c.in_ok-push.ensures.ok, c.units.invariant.count);
      names = c.in_ok-made.ensures.names ∙ c.units.invariant.names;
      known = subst (AreKnownParts (length names) (length made.types.nodes)) (sym c.in_ok-push.ensures.ok) (known_more (length names) (length c.units.types.nodes) (length made.types.nodes) c.units.parts made.part (longer c.units.types.nodes made.types.nodes c.in_ok-made.ensures.grows) c.units.invariant.known (c.in_ok-made.ensures.known names (suc c.units.index) are));
      first = first_grown c.units.types c.units.texts u f made c.in_ok-first_types.first_types c.in_ok-made.ensures c.units.invariant.first;
      so_far = subst (λ t. AreSoFar names units (c.units.index + 1) made.types t c.push.new.self) (sym texts)
          (subst (AreSoFar names units (c.units.index + 1) made.types (c.units.texts + length u.texts)) (sym c.in_ok-push.ensures.ok) more);
    }

pub returns : goal.returns
returns c =
    all_linked c.args.names.now.names c.args.units.now c.units.index c.units.texts (record { types = c.units.types; first_types = c.in_ok-first_types.first_types; parts = c.units.parts })
    c.units-test.false c.units.invariant.so_far c.units.invariant.known c.units.invariant.first
