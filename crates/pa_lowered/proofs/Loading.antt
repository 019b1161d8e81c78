-- Reads of objects (C11 6.3.2.1p2).
use Rattle.std.proofs.Common.{◌≡◌, ℕ, suc, ◌+◌, ◌<◌, ◌≤◌, List, [], ◌∷◌, ◌++◌, length, refl, sym, ap, subst, ◌∙◌, arith, Option, Some, None, length-append, Bool, true, false, IsTrue}
use Rattle.std.specs.Prelude.{◌&&◌, nat_le, take, drop, slice_get, unwrap_or, if◌then◌else◌, option_and_then}
use Rattle.std.proofs.lemmas.Bool.{eq-eqb}
use Rattle.std.proofs.lemmas.Bool.Decides.{nat_tests}
use Rattle.std.proofs.lemmas.List.{take_all}
use Rattle.pa_ctype.specs.Types.{TypeTree}
use Rattle.pa_ctype.specs.Equality.{same_but_const}
use Rattle.pa_ctype.specs.Values as value
use Rattle.pa_ctype.specs.Values.{Place, CValue, Cell, object_of, cell_at, cell_in, read}
use Rattle.pa_typed.specs.Typed.{TypedExpr, Load}
use Rattle.pa_typed.specs.Units.{ProgramTree}
use Rattle.pa_cmean.specs.State.{State, Cont, Again, value_at}
use Rattle.pa_cmean.specs.ExprTypes.{type_of}
use Rattle.pa_cmean.specs.Expressions.{eval, load}
use Rattle.pa_lir.specs.declared.function.Lir.{Lir}
use Rattle.pa_lir.specs.Values as flat
use Rattle.pa_lir.specs.Values.{FlatValue, Byte, value_in, bytes_at}
use Rattle.pa_lir.specs.Meaning.{Flat, act_of, gives, bytes_from, temp_in}
use Rattle.pa_lower.specs.Temporaries.{Room}
use Rattle.pa_lower.specs.Operations.{bytes_of, is_signed, load_op}
use Rattle.pa_lower.specs.Programs.{is_integer}
use Rattle.pa_lower.specs.Expressions.{expr_ops}
use Rattle.pa_lowered.specs.Objects.{Map, Grows, Stands, IsPlace, HasValue, IsObject, HasObjects}
use Rattle.pa_lowered.specs.Results.{Follows}
use Rattle.pa_lowered.specs.Calls.{Temps, Entered, At}
use Rattle.pa_lowered.specs.Simulates.{address_type, value_type, IsIn, Keeps}
use Rattle.pa_lowered.proofs.Containing.{contains_front, contains_behind}
use Rattle.pa_lowered.proofs.Following.{grows_same, undefined_follows, tick_follows}
use Rattle.pa_lowered.proofs.Standing.{has_value, keeps_same}
use Rattle.pa_lowered.proofs.Types.{same_bytes, same_sign, stands_same}
use Rattle.pa_lowered.proofs.Evaluating.{with_left, SimExpr, TakesAt, takes_grown, value_follows, given_follows}

-- ---- objects of one cell

one_cell : (cell : Cell) → cell.at ≡ 0 → cell_at (cell ∷ []) 0 ≡ Some cell
unfolding cell_at
one_cell cell e = ap (λ b. if b then Some cell else None) (eq-eqb cell.at 0 e)

-- the cell of an object that lives, read or written by its own type but for `const`
pub record IsCell (m : Map) (object : value.Object) (q : flat.Object) (t : TypeTree) (cell : Cell) : Type 0 where
  pub is : IsObject m object q
  pub alive : object.alive ≡ true
  pub only : cell ≡ is.cell
  pub typed : same_but_const is.cell.of t ≡ true

pub cell_is : (m : Map) (object : value.Object) (q : flat.Object) (offset : ℕ) (t : TypeTree) (cell : Cell) → (object.alive ≡ true → IsObject m object q) → offset ≡ 0 → cell_in offset t object ≡ Some cell → IsCell m object q t cell
cell_is m object q offset t cell living first e = by_life object.alive refl
  where
    by_type : (i : IsObject m object q) → object.alive ≡ true → (b : Bool) → same_but_const i.cell.of t ≡ b → (if b then Some i.cell else None) ≡ Some cell → IsCell m object q t cell
    by_type i alive true s h = record { is = i; alive = alive; only = ap (λ o. unwrap_or o cell) (sym h); typed = s }
    by_type i alive false s h = cc

    by_life : (b : Bool) → object.alive ≡ b → IsCell m object q t cell
    by_life true alive =
        let i = living alive in
        by_type i alive (same_but_const i.cell.of t) refl
        (ap (λ o. option_and_then (λ c. if same_but_const c.of t then Some c else None) o) (sym (ap (λ k. cell_at k offset) i.only ∙ ap (λ k. cell_at (i.cell ∷ []) k) first ∙ one_cell i.cell i.first))
        ∙ sym (ap (λ b. if b then option_and_then (λ c. if same_but_const c.of t then Some c else None) (cell_at object.cells offset) else None) alive) ∙ e)
    by_life false alive = absurd (none_is (sym (ap (λ b. if b then option_and_then (λ c. if same_but_const c.of t then Some c else None) (cell_at object.cells offset) else None) alive) ∙ e))
      where
        none_is : None ≡ Some cell → ⊥
        none_is h = cc

-- all bytes of a living object
whole_bytes : (n : ℕ) (q : flat.Object) → q.alive ≡ true → n ≡ length q.bytes → bytes_at n 0 q ≡ Some q.bytes
whole_bytes n q alive e =
    let within : nat_le (0 + n) (length q.bytes) ≡ true = grind (arith, nat_tests) in
    ap (λ b. if b && nat_le (0 + n) (length q.bytes) then Some (take n (drop 0 q.bytes)) else None) alive
    ∙ ap (λ b. if b then Some (take n q.bytes) else None) within
    ∙ ap (λ bs. Some bs) (take_all n q.bytes (omega arith))

value_of : (m : Map) (of : TypeTree) (o : Option CValue) (x : CValue) (bs : List Byte) → o ≡ Some x → HasValue m of o bs → (u : FlatValue) × Stands m of x u × (value_in (is_signed of) bs ≡ Some u)
value_of m of o x bs e h = subst (λ z. HasValue m of z bs) e h

-- what a read of a local gives stands in its object
pub read_stands : (m : Map) (who : ℕ → Option ℕ) (os : value.Objects) (qs : flat.Objects) (place : Place) (at : FlatValue) (t : TypeTree) (x : CValue) → HasObjects m who os qs → IsPlace m place at → IsTrue (is_integer t) → read os place t ≡ Some x
    → (u : FlatValue) × Stands m t x u × (option_and_then (value_in (is_signed t)) (bytes_from qs (bytes_of t) at) ≡ Some u)
read_stands m who os qs place at t x objects is_place is_int e =
    let has = objects.mapped is_place.number is_place.within is_place.lies in
    let found : object_of os place.owner ≡ Some has.object = ap (object_of os) is_place.owner ∙ has.is in
    by_cell has.object has.flat has.living has.size has.flat_is (cell_in place.offset t has.object) refl (ap (λ o. option_and_then (λ cell. cell.value) (option_and_then (cell_in place.offset t) o)) (sym found) ∙ e)
  where
    by_cell : (object : value.Object) (q : flat.Object) → (object.alive ≡ true → IsObject m object q) → length q.bytes ≡ object.size → slice_get qs is_place.within ≡ Some q → (o : Option Cell) → cell_in place.offset t object ≡ o → option_and_then (λ cell. cell.value) o ≡ Some x
        → (u : FlatValue) × Stands m t x u × (option_and_then (value_in (is_signed t)) (bytes_from qs (bytes_of t) at) ≡ Some u)
    by_cell object q living size flat_is None h k = cc
    by_cell object q living size flat_is (Some cell) h k =
        let a = cell_is m object q place.offset t cell living is_place.first h in
        let i = a.is in
        let v = value_of m i.cell.of i.cell.value x q.bytes (ap (λ (c : Cell). c.value) (sym a.only) ∙ k) i.value in
        let bytes : bytes_of t ≡ length q.bytes = sym (size ∙ i.size ∙ same_bytes i.cell.of t i.integer a.typed) in (
          v.0,
          stands_same m i.cell.of t x v.0 i.integer a.typed v.1,
          ap (λ z. option_and_then (value_in (is_signed t)) (bytes_from qs (bytes_of t) z)) is_place.is
              ∙ ap (λ o. option_and_then (value_in (is_signed t)) (option_and_then (bytes_at (bytes_of t) 0) o)) flat_is
              ∙ ap (λ o. option_and_then (value_in (is_signed t)) o) (whole_bytes (bytes_of t) q i.alive bytes)
              ∙ ap (λ s. value_in s q.bytes) (sym (same_sign i.cell.of t i.integer a.typed)) ∙ v.2,
        )

module _ (program : ProgramTree) (lir : Lir) (again : Again) (bound : ℕ) (w : Entered) (live : List ℕ) where
  load_follows : (t of : TypeTree) → IsTrue (is_integer t) → same_but_const t of ≡ true → (v : CValue) (p : FlatValue) (place at next c d l : ℕ) (r : Room) (before ts : Temps) (b m : Map) (go : Cont) (st : State) (s : Flat) → st.left < bound → Grows b m → At w live at ts m st s → Keeps r before ts
      → temp_in ts place ≡ Some p → Stands m (address_type t) v p → slice_get w.function.ops at ≡ Some (load_op t r.to place) → d + 5 ≤ c → next ≡ suc at → TakesAt program lir again bound w live next r of before b d l go → Follows lir m c l (load t v go st) s
  unfolding load value_at act_of
  load_follows t of is same (value.At there) p place at next c d l r before ts b m go st s lt g a kept has stands code pays n k =
      given_follows lir m c l (read st.world.objects there t) (λ x. go x st) s (λ x e.
      let y = read_stands m a.sees.who st.world.objects s.objects there p t x a.sees.objects stands.1 is e in
      value_follows program lir again bound w live at next c d l r of before ts b m go x y.0 st s (load_op t r.to place) lt g a kept code
      (ap (λ o. gives r.to (option_and_then (value_in (is_signed t)) (option_and_then (bytes_from s.objects (bytes_of t)) o))) has ∙ ap (gives r.to) y.2) pays (stands_same m t of x y.0 is same y.1) n k)
  load_follows t of is same (value.Number z) p place at next c d l r before ts b m go st s lt g a kept has stands code pays n k = undefined_follows lir m c l s
  load_follows t of is same (value.Code name) p place at next c d l r before ts b m go st s lt g a kept has stands code pays n k = undefined_follows lir m c l s
  load_follows t of is same value.Null p place at next c d l r before ts b m go st s lt g a kept has stands code pays n k = undefined_follows lir m c l s

  -- of an integer, in its own type but for `const`
  pub load_simulates : (from : TypedExpr) (of : TypeTree) → value_type from ≡ address_type (type_of from) → IsTrue (is_integer (type_of from)) → same_but_const (type_of from) of ≡ true → SimExpr program lir again bound w live from → SimExpr program lir again bound w live (Load from of)
  unfolding eval expr_ops
  load_simulates from of places is same_type is_part = record {
    by = λ n r same at c d l go ts m st s room cheap code t le a around.
        let parts = expr_ops n r from in let loads = load_op (type_of from) r.to r.to ∷ [] in
        tick_follows lir m c l bound st s _ a.ended le (λ j lt.
        is_part.by n r same at (c + 64) (c + 64) l _ ts m (record st { left = j }) s room (omega arith) (contains_front w.function.ops at parts loads code)
        (record {
          by = λ v ts1 m1 st1 s1 lt1 g1 a1 in1 kept1.
              let u = has_value m1 (address_type (type_of from)) v (temp_in ts1 r.to) (λ e. e) (subst (λ z. IsIn m1 z v (temp_in ts1 r.to)) places in1) in
              load_follows (type_of from) of is same_type v u.0 r.to (at + length parts) (at + length (parts ++ loads)) (c + 64) d l r ts1 ts1 m1 m1 go st1 s1 lt1 (grows_same m1) a1 (keeps_same r ts1) u.1 u.2 (contains_behind w.function.ops at parts loads code).0 (omega arith) (omega (arith, length-append parts loads))
              (takes_grown program lir again bound w live _ r of ts ts1 m m1 d l go g1 kept1 t);
        })
        (omega arith) (with_left w live at j ts m st s a) around);
  }
