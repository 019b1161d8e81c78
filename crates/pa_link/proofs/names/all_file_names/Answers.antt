use Rattle.std.proofs.Common.{◌≡◌, ◌<◌, suc, Some, subst, sym, ap, ◌∙◌, arith}
use Rattle.std.specs.Prelude.{length, slice_get}
use Rattle.std.proofs.lemmas.Grind.{common_steps}
use Rattle.pa_typed.specs.declared.unit.Unit.{Unit as CUnit}
use Rattle.pa_link.specs.Names.{texts_of, linkage_names}
use Rattle.pa_link.specs.NameNumbers.{AreNumbersOf, EachFile}
use Rattle.pa_link.proofs.NameNumbers.{grown-trans, element, linkage-is, linkages-length, linkages-many, pushed_file}
use Rattle.pa_link.proofs.names.all_file_names.Goals as goal

pub bounds-linkages-index : goal.bounds-linkages-index
bounds-linkages-index c = let n = ap length c.requires ∙ linkages-length 1 c.args.units.now in omega (arith, n, c.units-test.true)

pub file_names-requires : goal.file_names-requires
file_names-requires c =
    let units = c.args.units.now in
    let u = c.index-units-index.result in
    let n = ap length c.requires ∙ linkages-length 1 units in
    let here = element units c.units.index u c.index-units-index.is c.units-test.true in
    let within : c.units.index < length c.args.linkages.now = omega (arith, n, c.units-test.true) in
    let there = element c.args.linkages.now c.units.index c.index-linkages-index.result c.index-linkages-index.is within in
    let is = linkage-is units c.args.linkages.now c.units.index u c.index-linkages-index.result c.requires here there in
    linkages-many c.as_slice-in-units.result.now (suc c.units.index) u.names u.declared (c.as_slice-in-units.ensures ∙ is)

pub units-preserved : goal.units-preserved
units-preserved c =
    let units = c.args.units.now in
    let u = c.index-units-index.result in
    let f = c.in_ok-file_names.field-0 in
    let b = c.file_names.new.table.keys in
    let n = ap length c.requires ∙ linkages-length 1 units in
    let here = element units c.units.index u c.index-units-index.is c.units-test.true in
    let within : c.units.index < length c.args.linkages.now = omega (arith, n, c.units-test.true) in
    let there = element c.args.linkages.now c.units.index c.index-linkages-index.result c.index-linkages-index.is within in
    let link = linkage-is units c.args.linkages.now c.units.index u c.index-linkages-index.result c.requires here there in
    let are : AreNumbersOf (texts_of b) u.names (linkage_names (suc c.units.index) u.names u.declared) f =
    subst (λ own. AreNumbersOf (texts_of b) own (linkage_names (suc c.units.index) u.names u.declared) f)
    (c.as_slice.ensures ∙ sym (ap (λ (w : CUnit). w.names) c.index-units-index.is))
    (subst (λ linkages. AreNumbersOf (texts_of b) c.as_slice.result.now linkages f) (c.as_slice-in-units.ensures ∙ link) c.in_ok-file_names.ensures.are) in
    let place = c.units.invariant.count in
    record {
      count = grind (arith, common_steps, place, c.in_ok-push.ensures.ok);
      within = omega (arith, c.units-test.true);
      each = subst (EachFile (texts_of b) units) (sym c.in_ok-push.ensures.ok)
          (pushed_file c.units.table.keys b c.in_ok-file_names.ensures.grows units c.units.files u f c.units.invariant.each
          (subst (λ i. slice_get units i ≡ Some u) (sym place) here)
          (subst (λ i. AreNumbersOf (texts_of b) u.names (linkage_names (suc i) u.names u.declared) f) (sym place) are));
      grows = grown-trans c.args.table.now.keys c.units.table.keys b c.units.invariant.grows c.in_ok-file_names.ensures.grows;
    }
