-- The moves of a number make it.
use Rattle.std.proofs.Common.{◌≡◌, ℕ, suc, ◌+◌, ◌-◌, ◌*◌, ◌%◌, ◌^◌, ◌<◌, Bool, true, false, cond, eqb, List, [], ◌∷◌, length, refl, sym, subst, ◌∙◌, arith}
use Rattle.std.specs.Prelude.{not, ◌||◌}
use Rattle.std.proofs.lemmas.Bool.{eqb-true}
use Rattle.pa_num.specs.Arithmetic.{not64, with_part}
use Rattle.pa_pac.specs.Signing.{Code}
use Rattle.pa_a64.specs.declared.instr.Instr.{Instr}
use Rattle.pa_a64.specs.declared.instr.Instr.TheVariants as i
use Rattle.pa_a64.specs.declared.instr.MoveWideOp.TheVariants.{Movz, Movn, Movk}
use Rattle.pa_object.specs.Machine.{Machine, register, with_register, next}
use Rattle.pa_object.specs.Run.{step}
use Rattle.pa_object.specs.Placed.{HasCode, Stands}
use Rattle.pa_object.proofs.StepsComputing.{move_wide_step}
use Rattle.pa_selected.specs.Calls.{IsRunning}
use Rattle.pa_select.specs.Constants.{part, left_by, others, first_move, more_moves, moves, is_inverted, constant}
use Rattle.pa_selected.proofs.Straight.{Goes, untouched, goes_then, goes_more, goes_none, fine_later, code_later, sets}
use Rattle.pa_selected.proofs.Accessing.{Makes, set_value}

-- ---- numbers

-- the parts below k are the value's, and the others are what the first move leaves
abbrev Made : Bool → (value k x : ℕ) → Type 0
Made false value k x = x ≡ value % 2 ^ (16 * k)
Made true value k x = x ≡ value % 2 ^ (16 * k) + (2 ^ 64 - 2 ^ (16 * k))

-- no part below k needs a move
abbrev Empty : Bool → (value k : ℕ) → Type 0
Empty false value k = value % 2 ^ (16 * k) ≡ 0
Empty true value k = value % 2 ^ (16 * k) ≡ 2 ^ (16 * k) - 1

abbrev first_value : Bool → (value k : ℕ) → ℕ
first_value false value k = part value k * 2 ^ (16 * k)
first_value true value k = not64 ((65535 - part value k) * 2 ^ (16 * k))

-- what one part does
record Part (inverted : Bool) (value k : ℕ) : Type 0 where
  put : (x : ℕ) → Made inverted value k x → Made inverted value (suc k) (with_part x k (part value k))
  skip : (x : ℕ) → part value k ≡ left_by inverted → Made inverted value k x → Made inverted value (suc k) x
  first : Empty inverted value k → Made inverted value (suc k) (first_value inverted value k)
  pass : part value k ≡ left_by inverted → Empty inverted value k → Empty inverted value (suc k)

part_0 : (inverted : Bool) (value : ℕ) → Part inverted value 0
unfolding with_part not64
part_0 false value = record { put = λ x h. omega (arith, h); skip = λ x p h. omega (arith, p, h); first = λ h. omega (arith, h); pass = λ p h. omega (arith, p, h) }
part_0 true value = record { put = λ x h. omega (arith, h); skip = λ x p h. omega (arith, p, h); first = λ h. omega (arith, h); pass = λ p h. omega (arith, p, h) }

part_1 : (inverted : Bool) (value : ℕ) → Part inverted value 1
unfolding with_part not64
part_1 false value = record { put = λ x h. omega (arith, h); skip = λ x p h. omega (arith, p, h); first = λ h. omega (arith, h); pass = λ p h. omega (arith, p, h) }
part_1 true value = record { put = λ x h. omega (arith, h); skip = λ x p h. omega (arith, p, h); first = λ h. omega (arith, h); pass = λ p h. omega (arith, p, h) }

part_2 : (inverted : Bool) (value : ℕ) → Part inverted value 2
unfolding with_part not64
part_2 false value = record { put = λ x h. omega (arith, h); skip = λ x p h. omega (arith, p, h); first = λ h. omega (arith, h); pass = λ p h. omega (arith, p, h) }
part_2 true value = record { put = λ x h. omega (arith, h); skip = λ x p h. omega (arith, p, h); first = λ h. omega (arith, h); pass = λ p h. omega (arith, p, h) }

part_3 : (inverted : Bool) (value : ℕ) → Part inverted value 3
unfolding with_part not64
part_3 false value = record { put = λ x h. omega (arith, h); skip = λ x p h. omega (arith, p, h); first = λ h. omega (arith, h); pass = λ p h. omega (arith, p, h) }
part_3 true value = record { put = λ x h. omega (arith, h); skip = λ x p h. omega (arith, p, h); first = λ h. omega (arith, h); pass = λ p h. omega (arith, p, h) }

whole : (inverted : Bool) (value x : ℕ) → value < 2 ^ 64 → Made inverted value 4 x → x ≡ value
whole false value x h made = omega (arith, h, made)
whole true value x h made = omega (arith, h, made)

none_needed : (inverted : Bool) (value : ℕ) → value < 2 ^ 64 → Empty inverted value 4 → first_value inverted value 0 ≡ value
unfolding not64
none_needed false value h empty = omega (arith, h, empty)
none_needed true value h empty = omega (arith, h, empty)

-- ---- moves

module _ (pac : Code) (inverted : Bool) (value : ℕ) (small : value < 2 ^ 64) where
  abbrev differs : ℕ → Bool
  differs k = not (eqb (part value k) (left_by inverted))

  same_part : (k : ℕ) → differs k ≡ false → part value k ≡ left_by inverted
  same_part k e = eqb-true (part value k) (left_by inverted) (not_false (eqb (part value k) (left_by inverted)) e)
    where
      not_false : (b : Bool) → not b ≡ false → b ≡ true
      not_false true e = refl
      not_false false e = cc

  abbrev touched : ℕ → Bool
  touched j = eqb j 9

  twice : (j : ℕ) → touched j ≡ false → (touched j || touched j) ≡ false
  twice j h = untouched (touched j) (touched j) h h

  -- one move and what comes behind it
  move_then : (m : Machine) (v : ℕ) (instr : Instr) (is : List Instr) → IsRunning m → m.pc + 4 < 2 ^ 64 → HasCode m.memory m.pc (instr ∷ is) → step pac m ≡ next (with_register 9 v m)
      → ((k : Machine) → IsRunning k → k.pc ≡ m.pc + 4 → register 9 k ≡ v → HasCode k.memory k.pc is → Makes pac (length is) k 9 value touched) → Makes pac (suc (length is)) m 9 value touched
  move_then m v instr is running room c done more =
      let k = next (with_register 9 v m) in
      let one : Goes pac 1 m k m.memory touched = sets pac m 9 v running.going room done in
      let rest = more k (fine_later pac 1 m k m.memory touched running one) one.pc (set_value pac m 9 v running (omega arith)) (code_later pac 1 m k m.memory touched is running one c.1) in
      let count : 1 + length is ≡ suc (length is) = omega arith in
      record {
        later = rest.later;
        goes = subst (λ n. Goes pac n m rest.later m.memory touched) count (goes_more pac (1 + length is) m rest.later m.memory _ touched twice (goes_then pac 1 (length is) m k rest.later m.memory k.memory touched touched one rest.goes));
        value = rest.value;
      }

  -- moves behind the first, from a part on
  abbrev Behind : (k : ℕ) → List ℕ → Type 0
  Behind k ks = (m : Machine) → IsRunning m → m.pc + 4 * (5 - k) < 2 ^ 64 → Made inverted value k (register 9 m) → HasCode m.memory m.pc (more_moves 9 value ks) → Makes pac (length (more_moves 9 value ks)) m 9 value touched

  behind_4 : Behind 4 []
  behind_4 m running room made c = record { later = m; goes = goes_none pac m touched running; value = whole inverted value (register 9 m) small made }

  behind : (k : ℕ) (ks : List ℕ) → k < 4 → Part inverted value k → Behind (suc k) ks → Behind k (cond (differs k) (k ∷ ks) ks)
  behind k ks low p more = by (differs k) refl
    where
      by : (b : Bool) → differs k ≡ b → Behind k (cond b (k ∷ ks) ks)
      by true e m running room made c =
          move_then m (with_part (register 9 m) k (part value k)) (i.MoveWide Movk 9 (part value k) k) (more_moves 9 value ks) running (omega (arith, room, low)) c (move_wide_step pac m Movk 9 (part value k) k c.0)
          (λ n r pc v code. more n r (omega (arith, pc, room, low)) (subst (Made inverted value (suc k)) (sym v) (p.put (register 9 m) made)) code)
      by false e m running room made c = more m running (omega (arith, room, low)) (p.skip (register 9 m) (same_part k e) made) c

  abbrev Beginning : (k : ℕ) → List ℕ → Type 0
  Beginning k ks = (m : Machine) → IsRunning m → m.pc + 4 * (6 - k) < 2 ^ 64 → Empty inverted value k → HasCode m.memory m.pc (moves inverted 9 value ks) → Makes pac (length (moves inverted 9 value ks)) m 9 value touched

  first_step : (inverted : Bool) (m : Machine) (k : ℕ) → Stands m.memory m.pc (first_move inverted 9 value k) → step pac m ≡ next (with_register 9 (first_value inverted value k) m)
  first_step false m k c = move_wide_step pac m Movz 9 (part value k) k c
  first_step true m k c = move_wide_step pac m Movn 9 (65535 - part value k) k c

  beginning_4 : Beginning 4 []
  beginning_4 m running room empty c =
      move_then m (first_value inverted value 0) (first_move inverted 9 value 0) [] running (omega (arith, room)) c (first_step inverted m 0 c.0)
      (λ n r pc v code. record { later = n; goes = goes_none pac n touched r; value = v ∙ none_needed inverted value small empty })

  beginning : (k : ℕ) (ks : List ℕ) → k < 4 → Part inverted value k → Behind (suc k) ks → Beginning (suc k) ks → Beginning k (cond (differs k) (k ∷ ks) ks)
  beginning k ks low p more other = by (differs k) refl
    where
      by : (b : Bool) → differs k ≡ b → Beginning k (cond b (k ∷ ks) ks)
      by true e m running room empty c =
          move_then m (first_value inverted value k) (first_move inverted 9 value k) (more_moves 9 value ks) running (omega (arith, room, low)) c (first_step inverted m k c.0)
          (λ n r pc v code. more n r (omega (arith, pc, room, low)) (subst (Made inverted value (suc k)) (sym v) (p.first empty)) code)
      by false e m running room empty c = other m running (omega (arith, room, low)) (p.pass (same_part k e) empty) c

  zero_parts : (inverted : Bool) → Empty inverted value 0
  zero_parts false = omega arith
  zero_parts true = omega arith

  moves_make : Beginning 0 (others inverted value)
  moves_make =
      let b3 = behind 3 [] (omega arith) (part_3 inverted value) behind_4 in
      let b2 = behind 2 _ (omega arith) (part_2 inverted value) b3 in
      let b1 = behind 1 _ (omega arith) (part_1 inverted value) b2 in
      let c3 = beginning 3 [] (omega arith) (part_3 inverted value) behind_4 beginning_4 in
      let c2 = beginning 2 _ (omega arith) (part_2 inverted value) b3 c3 in
      let c1 = beginning 1 _ (omega arith) (part_1 inverted value) b2 c2 in
      beginning 0 _ (omega arith) (part_0 inverted value) b1 c1

pub constant_makes : (pac : Code) (value : ℕ) (m : Machine) → value < 2 ^ 64 → IsRunning m → m.pc + 24 < 2 ^ 64 → HasCode m.memory m.pc (constant 9 value) → Makes pac (length (constant 9 value)) m 9 value (λ j. eqb j 9)
constant_makes pac value m small running room c = moves_make pac (is_inverted value) value small m running room (zero_parts pac (is_inverted value) value small (is_inverted value)) c
