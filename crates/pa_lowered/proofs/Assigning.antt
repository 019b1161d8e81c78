-- The flat code of assignments and of the postfix operators (C11 6.5.16, 6.5.2.4).
use Rattle.std.proofs.Common.{◌≡◌, ℕ, suc, ◌+◌, ◌<◌, ◌≤◌, true, false, IsTrue, List, [], ◌∷◌, ◌++◌, length, Option, Some, None, refl, sym, ap, subst, ◌∙◌, arith, length-append}
use Rattle.std.specs.Prelude.{slice_get, unwrap_or, option_map, option_and_then}
use Rattle.pa_ctype.specs.Types.{TypeTree}
use Rattle.pa_ctype.specs.Equality.{same_but_const}
use Rattle.pa_ctype.specs.Values as value
use Rattle.pa_ctype.specs.Values.{Place, CValue, written, read}
use Rattle.pa_typed.specs.Typed.{TypedExpr, Store}
use Rattle.pa_typed.specs.Units.{ProgramTree}
use Rattle.pa_cmean.specs.Results.{Meaning, given}
use Rattle.pa_cmean.specs.State.{World, State, Cont, Again, place_of, with_objects, with_world, stored, value_at, onward}
use Rattle.pa_cmean.specs.ExprTypes.{type_of}
use Rattle.pa_cmean.specs.Expressions.{eval, store}
use Rattle.pa_lir.specs.declared.op.Op.{Op}
use Rattle.pa_lir.specs.declared.function.Lir.{Lir}
use Rattle.pa_lir.specs.Values as flat
use Rattle.pa_lir.specs.Values.{FlatValue}
use Rattle.pa_lir.specs.Meaning.{Flat, Changes, act_of, applied, gives, bytes_from, on_two, stores, temp_in}
use Rattle.pa_lower.specs.Temporaries.{Room, place_temp, free_after, free_after_place, place_room, value_room, other_room}
use Rattle.pa_lower.specs.Operations.{bytes_of, is_signed, load_op, store_op}
use Rattle.pa_lower.specs.Programs.{is_integer}
use Rattle.pa_lower.specs.Expressions.{expr_labels, expr_ops}
use Rattle.pa_lowered.specs.Objects.{Map, Grows, Stands}
use Rattle.pa_lowered.specs.Results.{Follows}
use Rattle.pa_lowered.specs.Calls.{Temps, Entered, At}
use Rattle.pa_lowered.specs.Simulates.{address_type, value_type, Contains, IsIn, IsRoom, Keeps, HasSame}
use Rattle.pa_lowered.proofs.Containing.{contains_front, contains_behind, temp_given, temp_other}
use Rattle.pa_lowered.proofs.Following.{grows_twice, undefined_follows, tick_follows, unit_follows, weaker}
use Rattle.pa_lowered.proofs.Stepping.{unit_is, gives_follows}
use Rattle.pa_lowered.proofs.Standing.{stands_in, has_value, stands_grown, keeps_value}
use Rattle.pa_lowered.proofs.Types.{no_address, not_void, stands_same}
use Rattle.pa_lowered.proofs.Loading.{read_stands}
use Rattle.pa_lowered.proofs.Storing.{written_is, sees_stored}
use Rattle.pa_lowered.proofs.Evaluating.{with_left, SimExpr, TakesAt, takes_at, given_follows}

-- ---- the temporaries of a store

place_below : (s : Option ℕ) (free : ℕ) → ((t : ℕ) → s ≡ Some t → t < free) → unwrap_or s free < free_after s free
place_below None free h = omega arith
place_below (Some t) free h = h t refl

free_grows : (s : Option ℕ) (free : ℕ) → free ≤ free_after s free
free_grows None free = omega arith
free_grows (Some t) free = omega arith

place_other : (s : Option ℕ) (free t : ℕ) → t < free → (s ≡ Some t → ⊥) → t ≡ unwrap_or s free → ⊥
place_other None free t below n e = omega arith
place_other (Some q) free t below n e = n (ap (λ i. Some i) (sym e))

some_temp : (a b : ℕ) → Some a ≡ Some b → b ≡ a
some_temp a b e = ap (λ o. unwrap_or o a) (sym e)

module _ (r : Room) (room : IsRoom r) where
  spare_below : (t : ℕ) → r.spare ≡ Some t → t < r.free
  spare_below t e = (room.spare t e).0

  to_other : r.spare ≡ Some r.to → ⊥
  to_other e = (room.spare r.to e).1 refl

  to_place : r.to ≡ place_temp r → ⊥
  to_place e = place_other r.spare r.free r.to room.to to_other e

  place_is_room : IsRoom (place_room r)
  place_is_room =
      let grows = free_grows r.spare r.free in let below = room.to in
      record {
        to = place_below r.spare r.free spare_below;
        spare = λ t e. (let is : t ≡ r.to = some_temp r.to t e in omega arith, λ q. to_place (sym (some_temp r.to t e) ∙ q));
        same = λ t e. let had = room.same t e in (let low = had.0 in omega arith, (λ q. place_other r.spare r.free t had.0 had.2 q), λ q. had.1 (some_temp r.to t q));
      }

  value_is_room : IsRoom (value_room r)
  value_is_room =
      let grows = free_grows r.spare r.free in let below = room.to in let place = place_below r.spare r.free spare_below in
      record {
        to = omega arith;
        spare = λ t e. cc;
        same = λ t e. let is : t ≡ place_temp r = some_temp (place_temp r) t e in (omega arith, (λ q. to_place (sym q ∙ is)), λ q. cc);
      }

  other_is_room : IsRoom (other_room r)
  other_is_room =
      let place = place_below r.spare r.free spare_below in
      record {
        to = omega arith;
        spare = λ t e. cc;
        same = λ t e. let is : t ≡ place_temp r = some_temp (place_temp r) t e in (omega arith, (λ q. omega arith), λ q. cc);
      }

  -- what is kept by the place's code is kept
  place_keeps : (a b : Temps) → Keeps (place_room r) a b → Keeps r a b
  place_keeps a b h t below other spare = let grows = free_grows r.spare r.free in h t (omega arith) (place_other r.spare r.free t below spare) (λ q. other (some_temp r.to t q))

  value_keeps : (a b : Temps) → Keeps (value_room r) a b → Keeps r a b
  value_keeps a b h t below other spare = let grows = free_grows r.spare r.free in h t (omega arith) other (λ q. cc)

  other_keeps : (a b : Temps) → Keeps (other_room r) a b → Keeps r a b
  other_keeps a b h t below other spare = let grows = free_grows r.spare r.free in h t (omega arith) (λ q. omega arith) (λ q. cc)

same_place_room : (m : Map) (same : Option Place) (r : Room) (a : Temps) → HasSame m same r a → HasSame m same (place_room r) a
same_place_room m None r a h = tt
same_place_room m (Some place) r a h = h

same_value_room : (m : Map) (t : TypeTree) (v : CValue) (u : FlatValue) (r : Room) (q : ℕ) (a : Temps) → r.same ≡ Some q → temp_in a q ≡ Some u → Stands m (address_type t) v u → HasSame m (place_of v) r a
same_value_room m t (value.At place) u r q a is has h = (q, u, is, has, h.1)
same_value_room m t (value.Number z) u r q a is has h = tt
same_value_room m t (value.Code name) u r q a is has h = tt
same_value_room m t value.Null u r q a is has h = tt

module _ (lir : Lir) (w : Entered) (live : List ℕ) where
  -- a value is written
  write_follows : (t : TypeTree) (at v : CValue) (u x : FlatValue) (p to from c l : ℕ) (next : State → Meaning) (ts : Temps) (m : Map) (st : State) (s : Flat) → IsTrue (is_integer t) → At w live p ts m st s → temp_in ts to ≡ Some u → Stands m (address_type t) at u → temp_in ts from ≡ Some x → Stands m t v x
      → slice_get w.function.ops p ≡ Some (store_op t to from) → ((world : World) (g : Flat) → At w live (suc p) ts m (record st { world = world }) g → Follows lir m c l (next (record st { world = world })) g) → Follows lir m (c + 5) l (onward (stored st.world t at v) next st) s
  unfolding stored act_of applied
  write_follows t (value.At place) (value.Number z) u x p to from c l next ts m st s is a has_place places has_value stands code k = by_written (written st.world.objects place t (value.Number z)) refl
    where
      by_written : (o : Option value.Objects) → written st.world.objects place t (value.Number z) ≡ o → Follows lir m (c + 5) l (given (option_map (with_objects st.world) o) (with_world next st)) s
      by_written None e = undefined_follows lir m (c + 5) l s
      by_written (Some new) e =
          let q = written_is m a.sees.who st.world.objects new s.objects place u t z a.sees.objects places.1 is stands.0 e in
          unit_follows lir m 5 1 (c + 5) l c l _ s _
          (unit_is lir w live p ts m st s (store_op t to from) (Changes q.number q.now) a code (ap (λ o. on_two (stores s.objects (bytes_of t)) o (temp_in ts from)) has_place ∙ ap (λ o. on_two (stores s.objects (bytes_of t)) (Some u) o) (has_value ∙ ap (λ o. Some o) stands.1) ∙ q.does))
          (record { output = refl; trace = refl; cost = refl; operations = refl; deep = refl }) (omega arith) (omega arith)
          (k (with_objects st.world new) _ (record { opens = refl; coming = a.coming; ended = a.ended; input = a.input; weight = a.weight; sees = sees_stored w live m st.world s.objects new u t z a.sees q }))
  write_follows t (value.At place) (value.At there) u x p to from c l next ts m st s is a has_place places has_value stands code k = absurd (no_address t is stands.0)
  write_follows t (value.At place) (value.Code name) u x p to from c l next ts m st s is a has_place places has_value stands code k = absurd (no_address t is stands.0)
  write_follows t (value.At place) value.Null u x p to from c l next ts m st s is a has_place places has_value stands code k = absurd (no_address t is stands.0)
  write_follows t (value.Number z) v u x p to from c l next ts m st s is a has_place places has_value stands code k = undefined_follows lir m (c + 5) l s
  write_follows t (value.Code name) v u x p to from c l next ts m st s is a has_place places has_value stands code k = undefined_follows lir m (c + 5) l s
  write_follows t value.Null v u x p to from c l next ts m st s is a has_place places has_value stands code k = undefined_follows lir m (c + 5) l s

module _ (program : ProgramTree) (lir : Lir) (again : Again) (bound : ℕ) (w : Entered) (live : List ℕ) where
  -- a place and a value behind it, each in its own temporary, and what is done with them
  stores_follow : (to value : TypedExpr) (n i : ℕ) (r part : Room) (same : Option Place) (at c l : ℕ) (rest : List Op) (k : CValue → CValue → State → Meaning) (ts : Temps) (m : Map) (st : State) (s : Flat) → SimExpr program lir again bound w live to → SimExpr program lir again bound w live value
      → value_type to ≡ address_type (type_of to) → IsRoom r → IsRoom part → part.same ≡ Some (place_temp r) → ((a b : Temps) → Keeps part a b → (temp_in b (place_temp r) ≡ temp_in a (place_temp r)) × Keeps r a b) → Contains w.function.ops at (expr_ops n (place_room r) to ++ (expr_ops i part value ++ rest))
      → ((p v : CValue) (u : FlatValue) (ts2 : Temps) (m2 : Map) (st2 : State) (s2 : Flat) → st2.left < bound → Grows m m2 → At w live (at + length (expr_ops n (place_room r) to) + length (expr_ops i part value)) ts2 m2 st2 s2 → temp_in ts2 (place_temp r) ≡ Some u → Stands m2 (address_type (type_of to)) p u
      → IsIn m2 (value_type value) v (temp_in ts2 part.to) → Keeps r ts ts2 → Contains w.function.ops (at + length (expr_ops n (place_room r) to) + length (expr_ops i part value)) rest → Follows lir m2 c l (k p v st2) s2)
      → st.left ≤ bound → At w live at ts m st s → HasSame m same r ts → Follows lir m c l (eval program again same to (λ p. eval program again (place_of p) value (k p)) st) s
  stores_follow to value n i r part same at c l rest k ts m st s is_to is_value places room part_room part_same part_keeps code then le a around =
      let ops = w.function.ops in
      let first = expr_ops n (place_room r) to in let second = expr_ops i part value in
      let behind = contains_behind ops at first (second ++ rest) code in
      is_to.by n (place_room r) same at c c l (λ p. eval program again (place_of p) value (k p)) ts m st s (place_is_room r room) (omega arith) (contains_front ops at first (second ++ rest) code)
      (record {
        by = λ p ts1 m1 st1 s1 lt1 g1 a1 in1 kept1.
            let u = has_value m1 (address_type (type_of to)) p (temp_in ts1 (place_temp r)) (λ e. e) (subst (λ z. IsIn m1 z p (temp_in ts1 (place_temp r))) places in1) in
            is_value.by i part (place_of p) (at + length first) c c l (k p) ts1 m1 st1 s1 part_room (omega arith) (contains_front ops (at + length first) second rest behind)
            (record {
              by = λ v ts2 m2 st2 s2 lt2 g2 a2 in2 kept2.
                  let keeps = part_keeps ts1 ts2 kept2 in
                  then p v u.0 ts2 m2 st2 s2 lt2 (grows_twice m m1 m2 g1 g2) a2 (keeps.0 ∙ u.1) (stands_grown m1 m2 (address_type (type_of to)) p u.0 g2 u.2) in2
                  (λ t below other spare. keeps.1 t below other spare ∙ place_keeps r room ts ts1 kept1 t below other spare) (contains_behind ops (at + length first) second rest behind);
            })
            (omega arith) a1 (same_value_room m1 (type_of to) p u.0 part (place_temp r) ts1 part_same u.1 u.2);
      })
      le a (same_place_room m same r ts around)

  -- of a number of the type that is assigned to
  pub store_simulates : (to value : TypedExpr) (of : TypeTree) → value_type to ≡ address_type (type_of to) → IsTrue (is_integer (type_of to)) → IsTrue (is_integer (value_type value)) → same_but_const (value_type value) (type_of to) ≡ true → same_but_const (value_type value) of ≡ true
      → SimExpr program lir again bound w live to → SimExpr program lir again bound w live value → SimExpr program lir again bound w live (Store to value false of)
  unfolding eval store expr_ops
  store_simulates to value of places is_to_int is_value_int typed gives_type is_to is_value = record {
    by = λ n r same at c d l go ts m st s room cheap code t le a around.
        let i = n + expr_labels to in let type = type_of to in
        let tos = expr_ops n (place_room r) to in let values = expr_ops i (value_room r) value in let rest = store_op type (place_temp r) r.to ∷ [] in
        let below = place_below r.spare r.free (spare_below r room) in
        tick_follows lir m c l bound st s _ a.ended le (λ j lt.
        stores_follow to value n i r (value_room r) same at (c + 64) l rest (λ p v. store false type p v go) ts m (record st { left = j }) s is_to is_value places room (value_is_room r room) refl
        (λ x y kept. (kept (place_temp r) below (λ e. to_place r room (sym e)) (λ e. cc), value_keeps r room x y kept)) code
        (λ p v u ts2 m2 st2 s2 lt2 g2 a2 has_place place_stands in2 kept2 here.
        let x = has_value m2 (value_type value) v (temp_in ts2 r.to) (not_void (value_type value) is_value_int) in2 in
        weaker lir m2 (d + 5) l (c + 64) l _ s2 (omega arith) (omega arith)
        (write_follows lir w live type p v u x.0 (at + length tos + length values) (place_temp r) r.to d l (go v) ts2 m2 st2 s2 is_to_int a2 has_place place_stands x.1 (stands_same m2 (value_type value) type v x.0 is_value_int typed x.2) here.0
        (λ world g there. (takes_at program lir again bound w live (at + length (tos ++ (values ++ rest))) (suc (at + length tos + length values)) r of ts m d l go (omega (arith, length-append tos (values ++ rest), length-append values rest)) t).by v ts2 m2 (record st2 { world = world }) g lt2 g2 there
        (stands_in m2 of v x.0 (temp_in ts2 r.to) x.1 (stands_same m2 (value_type value) of v x.0 is_value_int gives_type x.2)) kept2)))
        (omega arith) (with_left w live at j ts m st s a) around);
  }

  -- a number is read, and another one written in its place
  read_then_write : (type of : TypeTree) (r : Room) (at next d l : ℕ) (go : Cont) (ts ts2 : Temps) (m m2 : Map) (st2 : State) (s2 : Flat) (p v : CValue) (u x : FlatValue) → IsTrue (is_integer type) → same_but_const type of ≡ true → IsRoom r → st2.left < bound → Grows m m2 → At w live at ts2 m2 st2 s2
      → temp_in ts2 (place_temp r) ≡ Some u → Stands m2 (address_type type) p u → temp_in ts2 (free_after_place r) ≡ Some x → Stands m2 type v x → Keeps r ts ts2 → Contains w.function.ops at (load_op type r.to (place_temp r) ∷ store_op type (place_temp r) (free_after_place r) ∷ [])
      → next ≡ at + 2 → TakesAt program lir again bound w live next r of ts m d l go → Follows lir m2 (d + 5 + 5) l (store true type p v go st2) s2
  unfolding store value_at act_of
  read_then_write type of r at next d l go ts ts2 m m2 st2 s2 (value.At place) v u x is gives_type room lt g a has_place place_stands has_x stands kept code count t =
      given_follows lir m2 (d + 5 + 5) l (read st2.world.objects place type) (λ result. onward (stored st2.world type (value.At place) v) (go result) st2) s2 (λ result e.
      let y = read_stands m2 a.sees.who st2.world.objects s2.objects place u type result a.sees.objects place_stands.1 is e in
      let later = (r.to, y.0) ∷ ts2 in
      gives_follows lir w live at r.to (d + 5 + 5) (d + 5) l y.0 ts2 m2 st2 s2 (load_op type r.to (place_temp r)) _ a code.0
      (ap (λ o. gives r.to (option_and_then (flat.value_in (is_signed type)) (option_and_then (bytes_from s2.objects (bytes_of type)) o))) has_place ∙ ap (gives r.to) y.2) (omega arith)
      (λ q kept_objects there.
      write_follows lir w live type (value.At place) v u x (suc at) (place_temp r) (free_after_place r) d l (go result) later m2 st2 q is there (temp_other ts2 r.to (place_temp r) y.0 (λ e. to_place r room (sym e)) ∙ has_place) place_stands
      (temp_other ts2 r.to (free_after_place r) y.0 (λ e. from_other r room e) ∙ has_x) stands code.2.0
      (λ world h after. (takes_at program lir again bound w live next (suc (suc at)) r of ts m d l go (omega arith) t).by result later m2 (record st2 { world = world }) h lt g after (stands_in m2 of result y.0 (temp_in later r.to) (temp_given ts2 r.to y.0) (stands_same m2 type of result y.0 is gives_type y.1)) (keeps_value r ts ts2 y.0 kept))))
    where
      from_other : (r : Room) → IsRoom r → free_after_place r ≡ r.to → ⊥
      from_other r room e = let grows = free_grows r.spare r.free in let low = room.to in omega arith
  read_then_write type of r at next d l go ts ts2 m m2 st2 s2 (value.Number z) v u x is gives_type room lt g a has_place place_stands has_x stands kept code count t = undefined_follows lir m2 (d + 5 + 5) l s2
  read_then_write type of r at next d l go ts ts2 m m2 st2 s2 (value.Code name) v u x is gives_type room lt g a has_place place_stands has_x stands kept code count t = undefined_follows lir m2 (d + 5 + 5) l s2
  read_then_write type of r at next d l go ts ts2 m m2 st2 s2 value.Null v u x is gives_type room lt g a has_place place_stands has_x stands kept code count t = undefined_follows lir m2 (d + 5 + 5) l s2

  -- the value before is given (6.5.2.4p2)
  pub postfix_simulates : (to value : TypedExpr) (of : TypeTree) → value_type to ≡ address_type (type_of to) → IsTrue (is_integer (type_of to)) → IsTrue (is_integer (value_type value)) → same_but_const (value_type value) (type_of to) ≡ true → same_but_const (type_of to) of ≡ true
      → SimExpr program lir again bound w live to → SimExpr program lir again bound w live value → SimExpr program lir again bound w live (Store to value true of)
  unfolding eval expr_ops
  postfix_simulates to value of places is_to_int is_value_int typed gives_type is_to is_value = record {
    by = λ n r same at c d l go ts m st s room cheap code t le a around.
        let i = n + expr_labels to in let type = type_of to in let from = free_after_place r in
        let tos = expr_ops n (place_room r) to in let values = expr_ops i (other_room r) value in let rest = load_op type r.to (place_temp r) ∷ store_op type (place_temp r) from ∷ [] in
        let below = place_below r.spare r.free (spare_below r room) in
        tick_follows lir m c l bound st s _ a.ended le (λ j lt.
        stores_follow to value n i r (other_room r) same at (c + 64) l rest (λ p v. store true type p v go) ts m (record st { left = j }) s is_to is_value places room (other_is_room r room) refl
        (λ x y kept. (kept (place_temp r) (omega arith) (λ e. omega arith) (λ e. cc), other_keeps r room x y kept)) code
        (λ p v u ts2 m2 st2 s2 lt2 g2 a2 has_place place_stands in2 kept2 here.
        let x = has_value m2 (value_type value) v (temp_in ts2 from) (not_void (value_type value) is_value_int) in2 in
        weaker lir m2 (d + 5 + 5) l (c + 64) l _ s2 (omega arith) (omega arith)
        (read_then_write type of r (at + length tos + length values) (at + length (tos ++ (values ++ rest))) d l go ts ts2 m m2 st2 s2 p v u x.0 is_to_int gives_type room lt2 g2 a2 has_place place_stands x.1 (stands_same m2 (value_type value) type v x.0 is_value_int typed x.2) kept2 here (omega (arith, length-append tos (values ++ rest), length-append values rest)) t))
        (omega arith) (with_left w live at j ts m st s a) around);
  }
