use Rattle.std.proofs.Common.{ℕ, List, [], Option, refl, sym, ap, ◌∙◌, subst, arith}
use Rattle.pa_ctype.specs.Layouts.{table_of}
use Rattle.pa_ctype.specs.Nodes.{Fits, at}
use Rattle.pa_ctype.specs.Tables.{AreApart}
use Rattle.pa_scope.specs.Numbered.{object_type}
use Rattle.pa_scope.specs.Scopes.{Completes}
use Rattle.pa_scope.proofs.Completing.{completes, retyped_names, retyped_types}
use Rattle.pa_scope.proofs.Opening.{object_known, completes_means}
use Rattle.pa_scope.proofs.scope.Scope.complete.Goals as goal

pub with_length-requires-clause-known : goal.with_length-requires-clause-known
with_length-requires-clause-known c =
    let bound = c.requires.sound.types_are in
    let known = c.find.ensures.known in
    object_known c.find.result c.in-Some.of _ (sym c.in-Some.is ∙ c.object_type.ensures) (omega (arith, known, bound))

pub with_length-requires-clause-complete : goal.with_length-requires-clause-complete
with_length-requires-clause-complete c names m fits =
    let table = table_of names m c.args.self.now.types.structs in
    let e = ap object_type (sym c.find.ensures.value) ∙ sym c.object_type.ensures ∙ c.in-Some.is in
    subst (λ (o : Option ℕ). Completes table m c.args.count o) e (c.requires.complete names m fits)

pub unreachable-requires : goal.unreachable-requires
unreachable-requires c =
    let ns = c.args.self.now.types.nodes in
    let m = at ns in
    let names : ℕ → List ℕ = λ (i : ℕ). [] in
    let fits : Fits m ns = record { by = λ i h. refl } in
    let table = table_of names m c.args.self.now.types.structs in
    let e = ap object_type (sym c.find.ensures.value) ∙ sym c.object_type.ensures ∙ c.in-None.is in
    subst (λ (o : Option ℕ). Completes table m c.args.count o) e (c.requires.complete names m fits)

pub returns-clause-sound : goal.returns-clause-sound
returns-clause-sound c =
    let b = c.args.self.now.names in
    let s = c.requires.sound in
    let whole = c.in_ok-whole-in-Some.whole in
    let same = retyped_names c.args.name whole b in
    let types = retyped_types c.args.name whole b in
    let known = c.in_ok-whole-in-Some.ensures.known in
    let longer = c.in_ok-whole-in-Some.ensures.longer in
    let named = c.in_ok-whole-in-Some.ensures.names in
    let sn = s.names in
    let st = s.types_are in
    let sa = s.struct_names in
    let se = s.enum_names_are in
    rw c.set_type.ensures (record {
      names = omega (arith, same, sn, named);
      types_are = omega (arith, types, known, longer, st);
      struct_names = rw named sa;
      struct_ids = rw (c.in_ok-whole-in-Some.ensures.structs) s.struct_ids;
      enum_names_are = rw named se;
    })

pub returns-clause-ok : goal.returns-clause-ok
returns-clause-ok c names m fits apart =
    let s = c.args.self.now in
    let whole = c.in_ok-whole-in-Some.whole in
    let e = sym c.in-Some.is ∙ c.object_type.ensures in
    let means = completes_means m whole c.args.count c.in-Some.of c.find.result e (c.in_ok-whole-in-Some.ensures.is m fits) in
    let before = subst (λ (n : ℕ). AreApart n names) c.in_ok-whole-in-Some.ensures.names apart in
    let done = completes s.types.names names m before c.args.name c.requires.name whole c.args.count s.names s.tags s.types c.requires.sound.names (λ k f. means k (c.find.ensures.value ∙ f)) in
    rw (c.set_type.ensures, c.in_ok-whole-in-Some.ensures.structs) done
