-- Local objects stand at the place of their number among all objects, so who keeps objects in a list finds one by its number.
use Rattle.std.proofs.Common.{◌≡◌, ℕ, zero, suc, ◌+◌, Bool, true, false, cond, ◌==◌, if◌then◌else◌, List, [], ◌∷◌, ◌++◌, length, Option, Some, None, refl, sym, ◌∙◌, ap, subst, arith}
use Rattle.std.specs.Prelude.{slice_get, option_map, option_and_then}
use Rattle.std.proofs.lemmas.Bool.{eq-eqb, ne_eqb}
use Rattle.pa_ctype.specs.declared.ctype.Layout.{Layout}
use Rattle.pa_ctype.specs.Types.{TypeTree}
use Rattle.pa_ctype.specs.Layouts.{Table, layout_in}
use Rattle.pa_ctype.specs.Values.{Owner, Global, Text, Local, Place, Object, Objects, same_owner, object_of, cell_of, with_cell as cell_written, with_object, with_value, initialised, fresh, cells_in}
use Rattle.pa_ctype.proofs.Laws.{then_some}
use Rattle.pa_ctype.proofs.Objects.{KeepsOwner}
use Rattle.pa_typed.specs.Units.{CellTree, GlobalTree, ProgramTree}
use Rattle.pa_cmean.specs.Statics.{constant, zeroed, zeroed_globals, text_objects, with_cell, with_cells, with_globals, statics}

abbrev pub is_local : Owner → Bool
is_local (Local number) = true
is_local _ = false

-- an object that isn't local, or the local one of that number
pub data HasNumber (at : ℕ) (owner : Owner) : Type 0 where
  static : is_local owner ≡ false → HasNumber at owner
  local : owner ≡ Local at → HasNumber at owner

-- so each object, the first of these having that number
abbrev pub AreNumbered : ℕ → Objects → Type 0
AreNumbered at [] = Unit {0}
AreNumbered at (object ∷ objects) = HasNumber at object.owner × AreNumbered (suc at) objects

abbrev pub if_local : Object → Option Object
if_local object = if is_local object.owner then Some object else None

static_differs : (owner : Owner) (n : ℕ) → is_local owner ≡ false → same_owner owner (Local n) ≡ false
static_differs (Global name) n e = refl
static_differs (Text index) n e = refl
static_differs (Local number) n e = cc

-- no object before the first has a later number
absent : (at n : ℕ) (objects : Objects) → AreNumbered at objects → (d : ℕ) → at ≡ suc (n + d) → object_of objects (Local n) ≡ None
unfolding object_of
absent at n [] h d e = refl
absent at n (object ∷ objects) h d e = by_owner h.0 (absent (suc at) n objects h.1 (suc d) (omega arith))
  where
    by_owner : HasNumber at object.owner → object_of objects (Local n) ≡ None → object_of (object ∷ objects) (Local n) ≡ None
    by_owner (static s) more = let t : same_owner object.owner (Local n) ≡ false = static_differs object.owner n s in rw t more
    by_owner (local l) more =
        let f : (at == n) ≡ false = ne_eqb at n (omega arith) in
        let t : same_owner object.owner (Local n) ≡ false = ap (λ o. same_owner o (Local n)) l ∙ f in
        rw t more

-- the object of a number is the one at that place
pub numbered_at : (at k : ℕ) (objects : Objects) → AreNumbered at objects → object_of objects (Local (at + k)) ≡ option_and_then if_local (slice_get objects k)
unfolding object_of
numbered_at at k [] h = refl
numbered_at at zero (object ∷ objects) h = let z : at + 0 ≡ at = omega arith in subst (λ n. object_of (object ∷ objects) (Local n) ≡ if_local object) (sym z) (by_owner h.0)
  where
    by_owner : HasNumber at object.owner → object_of (object ∷ objects) (Local at) ≡ if_local object
    by_owner (static s) =
        let t : same_owner object.owner (Local at) ≡ false = static_differs object.owner at s in
        rw (t, s) (absent (suc at) at objects h.1 0 (omega arith))
    by_owner (local l) =
        let f : (at == at) ≡ true = eq-eqb at at refl in
        let t : same_owner object.owner (Local at) ≡ true = ap (λ o. same_owner o (Local at)) l ∙ f in
        let s : is_local object.owner ≡ true = ap is_local l in
        rw (t, s) refl
numbered_at at (suc k) (object ∷ objects) h = by_owner h.0 (let z : suc at + k ≡ at + suc k = omega arith in subst (λ n. object_of objects (Local n) ≡ option_and_then if_local (slice_get objects k)) z (numbered_at (suc at) k objects h.1))
  where
    by_owner : HasNumber at object.owner → object_of objects (Local (at + suc k)) ≡ option_and_then if_local (slice_get objects k) → object_of (object ∷ objects) (Local (at + suc k)) ≡ option_and_then if_local (slice_get objects k)
    by_owner (static s) more = let t : same_owner object.owner (Local (at + suc k)) ≡ false = static_differs object.owner (at + suc k) s in rw t more
    by_owner (local l) more =
        let f : (at == at + suc k) ≡ false = ne_eqb at (at + suc k) (omega arith) in
        let t : same_owner object.owner (Local (at + suc k)) ≡ false = ap (λ o. same_owner o (Local (at + suc k))) l ∙ f in
        rw t more

-- one more local object comes to life
pub numbered_born : (at : ℕ) (objects : Objects) (object : Object) → AreNumbered at objects → object.owner ≡ Local (at + length objects) → AreNumbered at (objects ++ object ∷ [])
numbered_born at [] object h e = let z : at + 0 ≡ at = omega arith in (local (e ∙ ap Local z), tt)
numbered_born at (first ∷ objects) object h e = let z : at + suc (length objects) ≡ suc at + length objects = omega arith in (h.0, numbered_born (suc at) objects object h.1 (e ∙ ap Local z))

-- an object changes, or dies
pub numbered_changed : (at : ℕ) (change : Object → Object) → KeepsOwner change → (objects : Objects) (owner : Owner) → AreNumbered at objects → AreNumbered at (with_object change objects owner)
unfolding with_object
numbered_changed at change k [] owner h = tt
numbered_changed at change k (object ∷ objects) owner h = by_test (same_owner object.owner owner) (numbered_changed (suc at) change k objects owner h.1)
  where
    by_test : (b : Bool) → AreNumbered (suc at) (with_object change objects owner) → AreNumbered at (cond b (change object ∷ objects) (object ∷ with_object change objects owner))
    by_test true more = (subst (HasNumber at) (sym (k object)) h.0, h.1)
    by_test false more = (h.0, more)

-- ---- the objects before `main` are not local

abbrev pub AreStatic : Objects → Type 0
AreStatic [] = Unit {0}
AreStatic (object ∷ objects) = (is_local object.owner ≡ false) × AreStatic objects

static_numbered : (at : ℕ) (objects : Objects) → AreStatic objects → AreNumbered at objects
static_numbered at [] h = tt
static_numbered at (object ∷ objects) h = (static h.0, static_numbered (suc at) objects h.1)

static_joined : (a b : Objects) → AreStatic a → AreStatic b → AreStatic (a ++ b)
static_joined [] b h k = k
static_joined (object ∷ a) b h k = (h.0, static_joined a b h.1 k)

static_changed : (change : Object → Object) → KeepsOwner change → (objects : Objects) (owner : Owner) → AreStatic objects → AreStatic (with_object change objects owner)
unfolding with_object
static_changed change k [] owner h = tt
static_changed change k (object ∷ objects) owner h = by_test (same_owner object.owner owner) (static_changed change k objects owner h.1)
  where
    by_test : (b : Bool) → AreStatic (with_object change objects owner) → AreStatic (cond b (change object ∷ objects) (object ∷ with_object change objects owner))
    by_test true more = (ap is_local (k object) ∙ h.0, h.1)
    by_test false more = (h.0, more)

map_some : {A B : Type 0} (f : A → B) (o : Option A) (b : B) → option_map f o ≡ Some b → (a : A) × (o ≡ Some a) × (f a ≡ b)
map_some f None b e = cc
map_some f (Some a) b e = let z : f a ≡ b = cc in (a, refl, z)

abbrev new_object : Table → Owner → TypeTree → Layout → Object
new_object table owner of l = record { owner = owner; size = l.size; cells = cells_in table of; alive = true }

fresh_owner : (table : Table) (owner : Owner) (of : TypeTree) (object : Object) → fresh table owner of ≡ Some object → object.owner ≡ owner
fresh_owner table owner of object e =
    let (l, p, q) = then_some (λ l. Some (new_object table owner of l)) (layout_in table of) object e in
    let z : new_object table owner of l ≡ object = cc in
    ap (λ o. o.owner) (sym z)

static_globals : (table : Table) (gs : List GlobalTree) (objects : Objects) → zeroed_globals table gs ≡ Some objects → AreStatic objects
unfolding zeroed_globals
static_globals table [] objects e = let z : [] ≡ objects = cc in subst AreStatic z tt
static_globals table (g ∷ gs) objects e =
    let (object, p, q) = then_some (λ object. option_map (λ objects. zeroed object ∷ objects) (zeroed_globals table gs)) (fresh table (Global g.name) g.of) objects e in
    let (more, r, s) = map_some (λ objects. zeroed object ∷ objects) (zeroed_globals table gs) objects q in
    subst AreStatic s (ap is_local (fresh_owner table (Global g.name) g.of object p), static_globals table gs more r)

static_texts : (index : ℕ) (texts : List (List ℕ)) → AreStatic (text_objects index texts)
unfolding text_objects
static_texts index [] = tt
static_texts index (bytes ∷ texts) = (refl, static_texts (suc index) texts)

static_cell : (table : Table) (owner : Owner) (cell : CellTree) (objects new : Objects) → with_cell table owner cell objects ≡ Some new → AreStatic objects → AreStatic new
static_cell table owner cell objects new e h =
    let place : Place = record { owner = owner; offset = cell.at } in
    let (value, p, q) = then_some (initialised objects place cell.of) (constant table objects cell.value) new e in
    let (found, r, s) = then_some (λ found. Some (with_value objects place value)) (cell_of objects place cell.of) new q in
    let z : with_value objects place value ≡ new = cc in
    subst AreStatic z (static_changed (λ object. record object { cells = cell_written object.cells cell.at value }) (λ object. refl) objects owner h)

static_cells : (table : Table) (owner : Owner) (cells : List CellTree) (objects new : Objects) → with_cells table owner cells objects ≡ Some new → AreStatic objects → AreStatic new
unfolding with_cells
static_cells table owner [] objects new e h = let z : objects ≡ new = cc in subst AreStatic z h
static_cells table owner (cell ∷ cells) objects new e h =
    let (next, p, q) = then_some (with_cells table owner cells) (with_cell table owner cell objects) new e in
    static_cells table owner cells next new q (static_cell table owner cell objects next p h)

static_initialised : (table : Table) (gs : List GlobalTree) (objects new : Objects) → with_globals table gs objects ≡ Some new → AreStatic objects → AreStatic new
unfolding with_globals
static_initialised table [] objects new e h = let z : objects ≡ new = cc in subst AreStatic z h
static_initialised table (g ∷ gs) objects new e h =
    let (next, p, q) = then_some (with_globals table gs) (with_cells table (Global g.name) g.cells objects) new e in
    static_initialised table gs next new q (static_cells table (Global g.name) g.cells objects next p h)

pub statics_numbered : (program : ProgramTree) (objects : Objects) → statics program ≡ Some objects → AreNumbered 0 objects
unfolding statics
statics_numbered program objects e =
    let (globals, p, q) = then_some (λ globals. with_globals program.structs program.globals (globals ++ text_objects 0 program.texts)) (zeroed_globals program.structs program.globals) objects e in
    static_numbered 0 objects (static_initialised program.structs program.globals (globals ++ text_objects 0 program.texts) objects q (static_joined globals (text_objects 0 program.texts) (static_globals program.structs program.globals globals p) (static_texts 0 program.texts)))
