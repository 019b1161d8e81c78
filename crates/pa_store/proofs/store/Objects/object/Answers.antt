use Rattle.std.proofs.Common.{◌≡◌, sym, ap, ◌∙◌}
use Rattle.std.proofs.lemmas.Bool.{eqb-true, eq-eqb}
use Rattle.std.specs.Option.{option_map}
use Rattle.pa_store.specs.declared.value.Owner.{Owner}
use Rattle.pa_store.specs.declared.value.Owner.TheVariants as owner
use Rattle.pa_store.specs.contracts.value.OwnerPartialEq.TheImpl as eq
use Rattle.pa_store.specs.Objects.{object_tree}
use Rattle.pa_store.proofs.Storing.{IsTestOf, found_object, copied_well}
use Rattle.pa_store.proofs.store.Objects.object.Goals as goal

owner_test : (a : Owner) → IsTestOf a (eq.ghosts.eq a)
owner_test (owner.Global i) (owner.Global j) = (λ h. ap owner.Global (sym (eqb-true i j h)), λ e. let z : i ≡ j = cc in eq-eqb i j z)
owner_test (owner.Global i) (owner.Text j) = (λ h. cc, λ e. cc)
owner_test (owner.Global i) (owner.Local j) = (λ h. cc, λ e. cc)
owner_test (owner.Text i) (owner.Global j) = (λ h. cc, λ e. cc)
owner_test (owner.Text i) (owner.Text j) = (λ h. ap owner.Text (sym (eqb-true i j h)), λ e. let z : i ≡ j = cc in eq-eqb i j z)
owner_test (owner.Text i) (owner.Local j) = (λ h. cc, λ e. cc)
owner_test (owner.Local i) (owner.Global j) = (λ h. cc, λ e. cc)
owner_test (owner.Local i) (owner.Text j) = (λ h. cc, λ e. cc)
owner_test (owner.Local i) (owner.Local j) = (λ h. ap owner.Local (sym (eqb-true i j h)), λ e. let z : i ≡ j = cc in eq-eqb i j z)

pub returns-clause-well : goal.returns-clause-well
returns-clause-well c t h = copied_well t c.args.owner _ c.args.self.now.objects.entries c.get.result h c.get.ensures.value

pub returns-clause-is : goal.returns-clause-is
returns-clause-is c t names h below apart =
    ap (option_map (object_tree names t)) c.get.ensures.value ∙ found_object t c.args.owner _ names c.args.self.now.objects.entries (owner_test c.args.owner) h below apart
