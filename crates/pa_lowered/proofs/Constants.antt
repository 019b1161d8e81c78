-- Constants (C11 6.4.4), names of locals (6.5.1p2), and the place of the store around.
use Rattle.std.proofs.Common.{◌≡◌, ℕ, zero, suc, ◌+◌, ◌<◌, ◌≤◌, List, [], ◌∷◌, length, refl, sym, ap, subst, ◌∙◌, arith, Option, Some, None}
use Rattle.std.proofs.lemmas.Bool.Decides.{nat_tests}
use Rattle.std.specs.Prelude.{ℤ, slice_get, nat_le, nat_lt, true, if◌then◌else◌, get_or}
use Rattle.pa_ctype.specs.Types.{TypeTree}
use Rattle.pa_ctype.specs.Values as value
use Rattle.pa_ctype.specs.Values.{Owner, Local, Place, CValue}
use Rattle.pa_typed.specs.Typed.{Number, LocalPlace, Same}
use Rattle.pa_typed.specs.Units.{ProgramTree}
use Rattle.pa_integer.specs.Integers.{residue}
use Rattle.pa_cmean.specs.Operations.{literal}
use Rattle.pa_cmean.specs.Results.{given}
use Rattle.pa_cmean.specs.State.{State, Cont, Again, owner_of, start}
use Rattle.pa_cmean.specs.Expressions.{eval}
use Rattle.pa_lir.specs.declared.op.Op.TheVariants as op
use Rattle.pa_lir.specs.declared.function.Lir.{Lir}
use Rattle.pa_lir.specs.Values as flat
use Rattle.pa_lir.specs.Meaning.{Flat, act_of, gives, on_two, temp_in}
use Rattle.pa_lower.specs.Expressions.{expr_ops}
use Rattle.pa_lowered.specs.Objects.{Map, IsOf, Stands}
use Rattle.pa_lowered.specs.Calls.{Temps, Entered, At, local_at}
use Rattle.pa_lowered.specs.Results.{Follows}
use Rattle.pa_lowered.specs.Simulates.{address_type, Contains, IsRoom, HasSame, spare_cost}
use Rattle.pa_lower.specs.Temporaries.{Room}
use Rattle.pa_lower.specs.Operations.{same_ops}
use Rattle.pa_lir.specs.declared.op.BinOp.TheVariants.{Add as op_add}
use Rattle.pa_lir.specs.Operators.{binary, place_if}
use Rattle.pa_num.specs.Arithmetic.{add64, wrap}
use Rattle.pa_lowered.proofs.Containing.{temp_given, temp_other}
use Rattle.pa_lowered.proofs.Stepping.{gives_follows}
use Rattle.pa_lowered.proofs.Following.{grows_same, undefined_follows, tick_follows}
use Rattle.pa_lowered.proofs.Standing.{keeps_same, keeps_value}
use Rattle.pa_lowered.proofs.Numbers.{literal_is}
use Rattle.pa_lowered.proofs.Evaluating.{with_left, SimExpr, TakesAt, value_follows, given_follows}

some_is : (v : CValue) (z : ℤ) → Some v ≡ Some (value.Number z) → value.Number z ≡ v
some_is v z e = cc

within : (xs : List (Option Owner)) (i : ℕ) (x : Owner) → get_or xs i None ≡ Some x → i < length xs
within [] i x e = cc
within (y ∷ xs) zero x e = omega arith
within (y ∷ xs) (suc i) x e = let below = within xs i x e in omega arith

is_below : (i n : ℕ) → i < n → nat_lt i n ≡ true
is_below i n h = grind (arith, nat_tests)

none_below : (n : ℕ) → nat_le 0 n ≡ true
none_below n = grind (arith, nat_tests)

module _ (program : ProgramTree) (lir : Lir) (again : Again) (bound : ℕ) (w : Entered) (live : List ℕ) where
  -- the tree has the 64 bits of a number of the type
  pub number_simulates : (bits : ℕ) (of : TypeTree) (z : ℤ) → IsOf of z → bits ≡ residue 64 z → SimExpr program lir again bound w live (Number bits of)
  unfolding eval expr_ops act_of
  number_simulates bits of z is same_bits = record {
    by = λ n r same at c d l go ts m st s room cheap code t le a around.
        tick_follows lir m c l bound st s _ a.ended le (λ j lt.
        given_follows lir m (c + 64) l _ (λ v. go v (record st { left = j })) s (λ v e.
        value_follows program lir again bound w live at (at + 1) (c + 64) d l r of ts ts m m go v (flat.Number bits) (record st { left = j }) s (op.Const r.to bits) lt (grows_same m) (with_left w live at j ts m st s a) (keeps_same r ts) code.0 refl (omega arith)
        (subst (λ x. Stands m of x (flat.Number bits)) (some_is v z (sym e ∙ ap (literal of) same_bits ∙ literal_is of z is)) (is, ap flat.Number same_bits)) (omega arith) t));
  }

  -- a local that lives, by its number in the open call
  pub local_simulates : (local : ℕ) (of : TypeTree) → SimExpr program lir again bound w live (LocalPlace local of)
  unfolding eval expr_ops act_of
  local_simulates local of = record {
    by = λ n r same at c d l go ts m st s room cheap code t le a around.
        tick_follows lir m c l bound st s _ a.ended le (λ j lt.
        given_follows lir m (c + 64) l (owner_of st.world local) (λ owner. go (value.At (start owner)) (record st { left = j })) s (λ owner e.
        let here = a.sees.lives local owner e in
        let below : local < length w.function.locals = (let b = within st.world.here.owners local owner e in let o = a.sees.owners in let q = a.sees.count in omega arith) in
        value_follows program lir again bound w live at (at + 1) (c + 64) d l r (address_type of) ts ts m m go (value.At (start owner)) (flat.At (local_at w local) 0) (record st { left = j }) s (op.Local r.to local) lt (grows_same m) (with_left w live at j ts m st s a) (keeps_same r ts) code.0
        (ap (λ b. gives r.to (if b then Some (flat.At (local_at w local) 0) else None)) (is_below local (length w.function.locals) below)) (omega arith)
        (tt, record { number = here.0; within = local_at w local; owner = here.1; first = refl; lies = here.2; is = refl }) (omega arith) t));
  }

  -- the place of the store around the expression
  pub same_simulates : (of : TypeTree) → SimExpr program lir again bound w live (Same of)
  unfolding eval expr_ops act_of add64 wrap temp_in
  same_simulates of = record {
    by = λ n r same at c d l go ts m st s room cheap code t le a around.
        tick_follows lir m c l bound st s _ a.ended le (λ j lt. at_place_of same n r at c d l go ts m (record st { left = j }) s room cheap code t lt (with_left w live at j ts m st s a) around);
  }
    where
      at_place_of : (same : Option Place) (n : ℕ) (r : Room) (at c d l : ℕ) (go : Cont) (ts : Temps) (m : Map) (st : State) (s : Flat) → IsRoom r → d ≤ c + spare_cost → Contains w.function.ops at (same_ops r.same r.to) → TakesAt program lir again bound w live (at + length (same_ops r.same r.to)) r (address_type of) ts m d l go → st.left < bound → At w live at ts m st s → HasSame m same r ts → Follows lir m (c + 64) l (given same (λ place. go (value.At place) st)) s
      at_place_of None n r at c d l go ts m st s room cheap code t lt a around = undefined_follows lir m (c + 64) l s
      at_place_of (Some place) n r at c d l go ts m st s room cheap code t lt a around =
          let has = around.4 in
          let code2 : Contains w.function.ops at (same_ops (Some around.0) r.to) = subst (λ o. Contains w.function.ops at (same_ops o r.to)) around.2 code in
          let t2 : TakesAt program lir again bound w live (at + 2) r (address_type of) ts m d l go = subst (λ o. TakesAt program lir again bound w live (at + length (same_ops o r.to)) r (address_type of) ts m d l go) around.2 t in
          let apart = room.same around.0 around.2 in
          let object = a.sees.objects.mapped has.number has.within has.lies in
          gives_follows lir w live at r.to (c + 64) (c + 58) l (flat.Number 0) ts m st s (op.Const r.to 0) _ a code2.0 refl (omega arith) (λ q kept_objects b.
          value_follows program lir again bound w live (suc at) (at + 2) (c + 58) d l r (address_type of) ts ((r.to, flat.Number 0) ∷ ts) m m go (value.At place) (flat.At has.within 0) st q (op.Bin r.to op_add around.0 r.to) lt (grows_same m) b (keeps_value r ts ts (flat.Number 0) (keeps_same r ts)) code2.2.0
          (ap (λ x. on_two (λ u v. gives r.to (binary q.objects op_add u v)) x (temp_in ((r.to, flat.Number 0) ∷ ts) r.to)) (temp_other ts r.to around.0 (flat.Number 0) apart.1 ∙ around.3 ∙ ap (λ x. Some x) has.is)
          ∙ ap (λ x. on_two (λ u v. gives r.to (binary q.objects op_add u v)) (Some (flat.At has.within 0)) x) (temp_given ts r.to (flat.Number 0))
          ∙ ap (λ o. gives r.to (place_if has.within 0 o)) (ap (λ os. slice_get os has.within) kept_objects ∙ object.flat_is)
          ∙ ap (λ b. gives r.to (if b then Some (flat.At has.within 0) else None)) (none_below (length object.flat.bytes)))
          (omega arith) (tt, record { number = has.number; within = has.within; owner = has.owner; first = has.first; lies = has.lies; is = refl }) (omega arith) t2)
