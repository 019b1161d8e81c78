-- A written cell has its value, and no other changes.
use Rattle.std.proofs.Common.{◌≡◌, ℕ, Bool, true, false, cond, ◌==◌, ◌&&◌, ◌||◌, if◌then◌else◌, List, [], ◌∷◌, Option, Some, None, refl, ◌∙◌, ap, subst, option_map, option_and_then}
use Rattle.std.proofs.lemmas.Bool.{eqb-true, eq-eqb}
use Rattle.std.proofs.lemmas.Slice.Eq.{bytes_eq-Decides}
use Rattle.pa_ctype.specs.Types.{TypeTree}
use Rattle.pa_ctype.specs.Equality.{same_but_const}
use Rattle.pa_ctype.specs.Values.{Owner, Global, Text, Local, Place, CValue, Cell, Object, Objects, same_owner, object_of, cell_at, cell_in, cell_of, read, with_cell, with_object, with_value, written, is_constant, is_literal}

pub same_owner_is : (a b : Owner) → same_owner a b ≡ true → a ≡ b
same_owner_is (Global a) (Global b) e = ap Global ((bytes_eq-Decides a b).0 e)
same_owner_is (Global a) (Text b) e = cc
same_owner_is (Global a) (Local b) e = cc
same_owner_is (Text a) (Global b) e = cc
same_owner_is (Text a) (Text b) e = ap Text (eqb-true a b e)
same_owner_is (Text a) (Local b) e = cc
same_owner_is (Local a) (Global b) e = cc
same_owner_is (Local a) (Text b) e = cc
same_owner_is (Local a) (Local b) e = ap Local (eqb-true a b e)

pub same_owner_self : (a : Owner) → same_owner a a ≡ true
same_owner_self (Global a) = (bytes_eq-Decides a a).1 refl
same_owner_self (Text a) = eq-eqb a a refl
same_owner_self (Local a) = eq-eqb a a refl

-- a change that leaves the owner
abbrev pub KeepsOwner : (Object → Object) → Type 0
KeepsOwner change = (object : Object) → (change object).owner ≡ object.owner

pub changed_object : (change : Object → Object) → KeepsOwner change → (objects : Objects) (owner : Owner) → object_of (with_object change objects owner) owner ≡ option_map change (object_of objects owner)
unfolding object_of with_object
changed_object change h [] owner = refl
changed_object change h (object ∷ objects) owner = by_test (same_owner object.owner owner) refl (changed_object change h objects owner)
  where
    by_test : (b : Bool) → same_owner object.owner owner ≡ b → object_of (with_object change objects owner) owner ≡ option_map change (object_of objects owner)
        → object_of (cond b (change object ∷ objects) (object ∷ with_object change objects owner)) owner ≡ option_map change (cond b (Some object) (object_of objects owner))
    by_test true e more = let k : same_owner (change object).owner owner ≡ true = ap (λ o. same_owner o owner) (h object) ∙ e in rw k refl
    by_test false e more = rw e more

pub other_object : (change : Object → Object) → KeepsOwner change → (objects : Objects) (owner other : Owner) → same_owner owner other ≡ false → object_of (with_object change objects owner) other ≡ object_of objects other
unfolding object_of with_object
other_object change h [] owner other n = refl
other_object change h (object ∷ objects) owner other n = by_test (same_owner object.owner owner) refl (other_object change h objects owner other n)
  where
    by_test : (b : Bool) → same_owner object.owner owner ≡ b → object_of (with_object change objects owner) other ≡ object_of objects other
        → object_of (cond b (change object ∷ objects) (object ∷ with_object change objects owner)) other ≡ object_of (object ∷ objects) other
    by_test true e more =
        let s : object.owner ≡ owner = same_owner_is object.owner owner e in
        let k : same_owner object.owner other ≡ false = ap (λ o. same_owner o other) s ∙ n in
        let c : same_owner (change object).owner other ≡ false = ap (λ o. same_owner o other) (h object) ∙ k in
        rw (k, c) refl
    by_test false e more = ap (cond (same_owner object.owner other) (Some object)) more

abbrev with_its_value : CValue → Cell → Cell
with_its_value value cell = record cell { value = Some value }

changed_cell : (cells : List Cell) (offset : ℕ) (value : CValue) → cell_at (with_cell cells offset value) offset ≡ option_map (with_its_value value) (cell_at cells offset)
unfolding cell_at with_cell
changed_cell [] offset value = refl
changed_cell (cell ∷ cells) offset value = by_test (cell.at == offset) refl (changed_cell cells offset value)
  where
    by_test : (b : Bool) → (cell.at == offset) ≡ b → cell_at (with_cell cells offset value) offset ≡ option_map (with_its_value value) (cell_at cells offset)
        → cell_at (cond b (record cell { value = Some value } ∷ cells) (cell ∷ with_cell cells offset value)) offset ≡ option_map (with_its_value value) (cond b (Some cell) (cell_at cells offset))
    by_test true e more = rw e refl
    by_test false e more = rw e more

other_cell : (cells : List Cell) (offset other : ℕ) (value : CValue) → (offset == other) ≡ false → cell_at (with_cell cells offset value) other ≡ cell_at cells other
unfolding cell_at with_cell
other_cell [] offset other value n = refl
other_cell (cell ∷ cells) offset other value n = by_test (cell.at == offset) refl (other_cell cells offset other value n)
  where
    by_test : (b : Bool) → (cell.at == offset) ≡ b → cell_at (with_cell cells offset value) other ≡ cell_at cells other
        → cell_at (cond b (record cell { value = Some value } ∷ cells) (cell ∷ with_cell cells offset value)) other ≡ cell_at (cell ∷ cells) other
    by_test true e more =
        let s : cell.at ≡ offset = eqb-true cell.at offset e in
        let k : (cell.at == other) ≡ false = ap (λ n. n == other) s ∙ n in
        rw k refl
    by_test false e more = ap (cond (cell.at == other) (Some cell)) more

abbrev with_its_cell : ℕ → CValue → Object → Object
with_its_cell offset value object = record object { cells = with_cell object.cells offset value }

changed_in : (offset : ℕ) (t : TypeTree) (value : CValue) (object : Object) → cell_in offset t (with_its_cell offset value object) ≡ option_map (with_its_value value) (cell_in offset t object)
changed_in offset t value object = by_life object.alive
  where
    by_type : (b : Bool) (cell : Cell) → cond b (Some (with_its_value value cell)) None ≡ option_map (with_its_value value) (cond b (Some cell) None)
    by_type true cell = refl
    by_type false cell = refl

    by_cell : (o : Option Cell) → option_and_then (λ cell. if same_but_const cell.of t then Some cell else None) (option_map (with_its_value value) o)
        ≡ option_map (with_its_value value) (option_and_then (λ cell. if same_but_const cell.of t then Some cell else None) o)
    by_cell None = refl
    by_cell (Some cell) = by_type (same_but_const cell.of t) cell

    by_life : (alive : Bool) → cond alive (option_and_then (λ cell. if same_but_const cell.of t then Some cell else None) (cell_at (with_cell object.cells offset value) offset)) None
        ≡ option_map (with_its_value value) (cond alive (option_and_then (λ cell. if same_but_const cell.of t then Some cell else None) (cell_at object.cells offset)) None)
    by_life true = rw (changed_cell object.cells offset value) (by_cell (cell_at object.cells offset))
    by_life false = refl

-- the cell that is written has the value
pub changed_at : (objects : Objects) (place : Place) (t : TypeTree) (value : CValue) → cell_of (with_value objects place value) place t ≡ option_map (with_its_value value) (cell_of objects place t)
changed_at objects place t value =
    ap (option_and_then (cell_in place.offset t)) (changed_object (with_its_cell place.offset value) (λ object. refl) objects place.owner) ∙ by_object (object_of objects place.owner)
  where
    by_object : (o : Option Object) → option_and_then (cell_in place.offset t) (option_map (with_its_cell place.offset value) o) ≡ option_map (with_its_value value) (option_and_then (cell_in place.offset t) o)
    by_object None = refl
    by_object (Some object) = changed_in place.offset t value object

-- a read of what was written gives it
pub read_written : (objects new : Objects) (place : Place) (t : TypeTree) (value : CValue) → written objects place t value ≡ Some new → read new place t ≡ Some value
read_written objects new place t value e = by_cell (cell_of objects place t) refl e
  where
    by_const : (b : Bool) → cond b None (Some (with_value objects place value)) ≡ Some new → with_value objects place value ≡ new
    by_const true f = cc
    by_const false f = cc

    by_cell : (o : Option Cell) → cell_of objects place t ≡ o → option_and_then (λ cell. if is_constant cell.of || is_literal place.owner then None else Some (with_value objects place value)) o ≡ Some new → read new place t ≡ Some value
    by_cell None at f = cc
    by_cell (Some cell) at f =
        let s = by_const (is_constant cell.of || is_literal place.owner) f in
        let c : cell_of (with_value objects place value) place t ≡ Some (with_its_value value cell) = changed_at objects place t value ∙ ap (option_map (with_its_value value)) at in
        subst (λ os. read os place t ≡ Some value) s (ap (option_and_then (λ cell. cell.value)) c)

other_in : (offset other : ℕ) (t : TypeTree) (value : CValue) (object : Object) → (offset == other) ≡ false → cell_in other t (with_its_cell offset value object) ≡ cell_in other t object
other_in offset other t value object n = rw (other_cell object.cells offset other value n) refl

-- a read at another place gives what it gave
pub read_other : (objects : Objects) (place other : Place) (t : TypeTree) (value : CValue) → (same_owner place.owner other.owner && place.offset == other.offset) ≡ false → read (with_value objects place value) other t ≡ read objects other t
read_other objects place other t value n = ap (option_and_then (λ cell. cell.value)) (by_owner (same_owner place.owner other.owner) refl n)
  where
    by_object : (place.offset == other.offset) ≡ false → (o : Option Object) → option_and_then (cell_in other.offset t) (option_map (with_its_cell place.offset value) o) ≡ option_and_then (cell_in other.offset t) o
    by_object d None = refl
    by_object d (Some object) = other_in place.offset other.offset t value object d

    by_owner : (b : Bool) → same_owner place.owner other.owner ≡ b → (b && place.offset == other.offset) ≡ false → cell_of (with_value objects place value) other t ≡ cell_of objects other t
    by_owner true e d =
        let s : place.owner ≡ other.owner = same_owner_is place.owner other.owner e in
        let c : object_of (with_value objects place value) other.owner ≡ option_map (with_its_cell place.offset value) (object_of objects other.owner) =
        subst (λ o. object_of (with_value objects place value) o ≡ option_map (with_its_cell place.offset value) (object_of objects o)) s
        (changed_object (with_its_cell place.offset value) (λ object. refl) objects place.owner) in
        ap (option_and_then (cell_in other.offset t)) c ∙ by_object d (object_of objects other.owner)
    by_owner false e d = ap (option_and_then (cell_in other.offset t)) (other_object (with_its_cell place.offset value) (λ object. refl) objects place.owner other.owner e)
