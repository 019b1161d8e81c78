-- The cells of an object, of which only the values are kept.
use Rattle.std.proofs.Common.{◌≡◌, ℕ, ◌≤◌, ◌<◌, ◌==◌, nat_eq, Bool, true, false, cond, if◌then◌else◌, List, [], ◌∷◌, length, Option, Some, None, option_map, option_and_then, refl, sym, ap, ◌∙◌, subst, arith}
use Rattle.std.specs.Map.{lookup}
use Rattle.std.proofs.lemmas.Bool.{eqb-true, eq-eqb, ne_eqb}
use Rattle.std.proofs.lemmas.List.{length-map}
use Rattle.indexmap.specs.IndexMap.{insert_entry}
use Rattle.pa_ctype.specs.declared.ctype.Layout.{Layout}
use Rattle.pa_ctype.specs.Types.{TypeTree, Of}
use Rattle.pa_ctype.specs.Equality.{same_but_const}
use Rattle.pa_ctype.specs.Layouts.{Table, layout_in, laid}
use Rattle.pa_ctype.specs.Nodes.{at}
use Rattle.pa_ctype.specs.Tables.{TypeTable}
use Rattle.pa_ctype.specs.Values.{Object as Object'}
use Rattle.pa_ctype.specs.Values.{Owner, CValue, Cell, fresh, cell_at, cell_in, with_cell, cells_in}
use Rattle.pa_cmean.specs.Finding.{find_cell}
use Rattle.pa_cmean.proofs.Finding.{type_at, finds_cell}
use Rattle.pa_store.specs.declared.objects.Object.{Object}
use Rattle.pa_store.specs.declared.finding.Scalar.{Scalar}
use Rattle.pa_store.specs.declared.value.Value.{Value}
use Rattle.pa_store.specs.Found.{structs_in, in_constant, cell_type, HasLayoutAt}
use Rattle.pa_store.specs.Views.{value_tree}
use Rattle.pa_store.specs.Objects.{with_values, value_at, object_tree, kept_cell, IsObject}
use Rattle.pa_store.proofs.Within.{Within, cells_within}

-- ---- cells of their own

abbrev its_cell : ℕ → Option CValue → TypeTree → Cell
its_cell place value t = record { at = place; of = t; value = value }

found_within : (to place : ℕ) (cells : List Cell) → Within to cells → cell_at cells place ≡ option_map (its_cell place None) (type_at cells place)
unfolding cell_at Within
found_within to place [] h = refl
found_within to place (cell ∷ cells) h = by_test (cell.at == place) refl (found_within to place cells h.1)
  where
    by_test : (b : Bool) → (cell.at == place) ≡ b → cell_at cells place ≡ option_map (its_cell place None) (type_at cells place)
        → cond b (Some cell) (cell_at cells place) ≡ option_map (its_cell place None) (option_map (λ (x : Cell). x.of) (cond b (Some cell) (cell_at cells place)))
    by_test true e more = ap (λ n. Some (its_cell n cell.value cell.of)) (eqb-true cell.at place e) ∙ ap (λ v. Some (its_cell place v cell.of)) h.0.0
    by_test false e more = more

none_behind : (to place : ℕ) (cells : List Cell) → Within to cells → to ≤ place → cell_at cells place ≡ None
unfolding cell_at Within
none_behind to place [] h k = refl
none_behind to place (cell ∷ cells) h k =
    let before : cell.at < to = h.0.1 in
    let differs : (cell.at == place) ≡ false = ne_eqb cell.at place (λ e. omega arith) in
    rw differs (none_behind to place cells h.1 k)

-- ---- a value that is put at a place

abbrev with_its_value : CValue → Cell → Cell
with_its_value value cell = record cell { value = Some value }

cell_put : (cells : List Cell) (here place : ℕ) (value : CValue) (b : Bool) → (place == here) ≡ b → cell_at (with_cell cells here value) place ≡ cond b (option_map (with_its_value value) (cell_at cells place)) (cell_at cells place)
unfolding cell_at with_cell
cell_put [] here place value true e = refl
cell_put [] here place value false e = refl
cell_put (cell ∷ cells) here place value true e =
    let is : place ≡ here = eqb-true place here e in
    subst (λ n. cell_at (with_cell (cell ∷ cells) n value) place ≡ option_map (with_its_value value) (cell_at (cell ∷ cells) place)) is
    (by_test (cell.at == place) refl (subst (λ n. cell_at (with_cell cells n value) place ≡ option_map (with_its_value value) (cell_at cells place)) (sym is) (cell_put cells here place value true e)))
  where
    by_test : (b : Bool) → (cell.at == place) ≡ b → cell_at (with_cell cells place value) place ≡ option_map (with_its_value value) (cell_at cells place)
        → cell_at (cond b (record cell { value = Some value } ∷ cells) (cell ∷ with_cell cells place value)) place ≡ option_map (with_its_value value) (cond b (Some cell) (cell_at cells place))
    by_test true f more = rw f refl
    by_test false f more = rw f more
cell_put (cell ∷ cells) here place value false e = by_test (cell.at == here) refl (cell_put cells here place value false e)
  where
    by_test : (b : Bool) → (cell.at == here) ≡ b → cell_at (with_cell cells here value) place ≡ cell_at cells place
        → cell_at (cond b (record cell { value = Some value } ∷ cells) (cell ∷ with_cell cells here value)) place ≡ cell_at (cell ∷ cells) place
    by_test true f more =
        let is : cell.at ≡ here = eqb-true cell.at here f in
        let differs : (cell.at == place) ≡ false = ne_eqb cell.at place (λ z. let t : (place == here) ≡ true = eq-eqb place here (sym z ∙ is) in cc) in
        rw differs refl
    by_test false f more = ap (cond (cell.at == place) (Some cell)) more

-- put twice at one place
put_twice : (cells : List Cell) (here : ℕ) (v w : CValue) → with_cell (with_cell cells here v) here w ≡ with_cell cells here w
unfolding with_cell
put_twice [] here v w = refl
put_twice (cell ∷ cells) here v w = by_test (cell.at == here) refl (put_twice cells here v w)
  where
    by_test : (b : Bool) → (cell.at == here) ≡ b → with_cell (with_cell cells here v) here w ≡ with_cell cells here w
        → with_cell (cond b (record cell { value = Some v } ∷ cells) (cell ∷ with_cell cells here v)) here w ≡ cond b (record cell { value = Some w } ∷ cells) (cell ∷ with_cell cells here w)
    by_test true e more = rw e refl
    by_test false e more = rw e (ap (λ xs. cell ∷ xs) more)

-- at two places, in either order
put_swapped : (cells : List Cell) (here there : ℕ) (v w : CValue) → (here == there) ≡ false → with_cell (with_cell cells here v) there w ≡ with_cell (with_cell cells there w) here v
unfolding with_cell
put_swapped [] here there v w n = refl
put_swapped (cell ∷ cells) here there v w n = by_test (cell.at == here) (cell.at == there) refl refl (put_swapped cells here there v w n)
  where
    by_test : (b c : Bool) → (cell.at == here) ≡ b → (cell.at == there) ≡ c → with_cell (with_cell cells here v) there w ≡ with_cell (with_cell cells there w) here v
        → with_cell (cond b (record cell { value = Some v } ∷ cells) (cell ∷ with_cell cells here v)) there w ≡ with_cell (cond c (record cell { value = Some w } ∷ cells) (cell ∷ with_cell cells there w)) here v
    by_test true true e f more = let t : (here == there) ≡ true = eq-eqb here there (sym (eqb-true cell.at here e) ∙ eqb-true cell.at there f) in cc
    by_test true false e f more = rw (e, f) refl
    by_test false true e f more = rw (e, f) refl
    by_test false false e f more = rw (e, f) (ap (λ xs. cell ∷ xs) more)

-- ---- kept values

module _ (names : ℕ → List ℕ) where
  pub values_inserted : (entries : List (ℕ × Value)) (place : ℕ) (value : Value) (cells : List Cell)
      → with_values names (insert_entry nat_eq entries place value) cells ≡ with_cell (with_values names entries cells) place (value_tree names value)
  values_inserted [] place value cells = refl
  values_inserted (entry ∷ entries) place value cells = by_test (nat_eq place entry.0) refl (values_inserted entries place value cells)
    where
      by_test : (b : Bool) → nat_eq place entry.0 ≡ b → with_values names (insert_entry nat_eq entries place value) cells ≡ with_cell (with_values names entries cells) place (value_tree names value)
          → with_values names (cond b ((entry.0, value) ∷ entries) (entry ∷ insert_entry nat_eq entries place value)) cells
          ≡ with_cell (with_cell (with_values names entries cells) entry.0 (value_tree names entry.1)) place (value_tree names value)
      by_test true e more =
          let is : place ≡ entry.0 = eqb-true place entry.0 e in
          sym (ap (λ n. with_cell (with_cell (with_values names entries cells) entry.0 (value_tree names entry.1)) n (value_tree names value)) is
          ∙ put_twice (with_values names entries cells) entry.0 (value_tree names entry.1) (value_tree names value))
      by_test false e more =
          ap (λ xs. with_cell xs entry.0 (value_tree names entry.1)) more ∙ put_swapped (with_values names entries cells) place entry.0 (value_tree names value) (value_tree names entry.1) e

  -- the cell at a place where none has a value of its own
  cell_kept : (entries : List (ℕ × Value)) (cells : List Cell) (place : ℕ) (of : Option TypeTree) → cell_at cells place ≡ option_map (its_cell place None) of
      → cell_at (with_values names entries cells) place ≡ option_map (its_cell place (option_map (value_tree names) (lookup (nat_eq place) entries))) of
  cell_kept [] cells place of h = h
  cell_kept (entry ∷ entries) cells place of h = by_test (nat_eq place entry.0) refl (cell_kept entries cells place of h)
    where
      put_in : (v : CValue) (kept : Option CValue) (o : Option TypeTree) → option_map (with_its_value v) (option_map (its_cell place kept) o) ≡ option_map (its_cell place (Some v)) o
      put_in v kept None = refl
      put_in v kept (Some t) = refl

      by_test : (b : Bool) → nat_eq place entry.0 ≡ b → cell_at (with_values names entries cells) place ≡ option_map (its_cell place (option_map (value_tree names) (lookup (nat_eq place) entries))) of
          → cell_at (with_cell (with_values names entries cells) entry.0 (value_tree names entry.1)) place
          ≡ option_map (its_cell place (option_map (value_tree names) (cond b (Some entry.1) (lookup (nat_eq place) entries)))) of
      by_test true e more =
          cell_put (with_values names entries cells) entry.0 place (value_tree names entry.1) true e ∙ ap (option_map (with_its_value (value_tree names entry.1))) more
          ∙ put_in (value_tree names entry.1) (option_map (value_tree names) (lookup (nat_eq place) entries)) of
      by_test false e more = cell_put (with_values names entries cells) entry.0 place (value_tree names entry.1) false e ∙ more

-- ---- objects

sized : (o : Option Layout) (n : ℕ) → option_map (λ (l : Layout). l.size) o ≡ Some n → (l : Layout) × (o ≡ Some l) × (l.size ≡ n)
sized None n e = cc
sized (Some l) n e = (l, refl, cc)

same_in_constant : (within : Bool) (a b : TypeTree) → same_but_const (in_constant within a) b ≡ same_but_const a b
same_in_constant within (Of constant form) (Of other g) = refl

module _ (names : ℕ → List ℕ) (t : TypeTable) (o : Object) (well : IsObject t o) where
  has_layout : (l : Layout) × (layout_in (structs_in names t) (at t.nodes o.of) ≡ Some l) × (l.size ≡ o.size)
  has_layout = sized (layout_in (structs_in names t) (at t.nodes o.of)) o.size (well.laid names)

  pub has_layout_at : HasLayoutAt (length t.structs) (structs_in names t) (at t.nodes o.of)
  has_layout_at = let (l, e, s) = has_layout in (l, subst (λ n. laid n (structs_in names t) (at t.nodes o.of) ≡ Some l) (length-map t.structs _) e)

  within_it : Within o.size (cells_in (structs_in names t) (at t.nodes o.of))
  within_it = let (l, e, s) = has_layout in subst (λ n. Within n (cells_in (structs_in names t) (at t.nodes o.of))) s (cells_within (structs_in names t) (at t.nodes o.of) l e)

  abbrev of_type : TypeTree → Cell → Option Cell
  of_type of cell = if same_but_const cell.of of then Some cell else None

  pub dead_cell : (place : ℕ) (of : TypeTree) → o.alive ≡ false → cell_in place of (object_tree names t o) ≡ None
  dead_cell place of e = rw e refl

  behind_by : (of : TypeTree) (alive : Bool) (found : Option Cell) → found ≡ None → cond alive (option_and_then (of_type of) found) None ≡ None
  behind_by of true found e = rw e refl
  behind_by of false found e = refl

  pub behind_cell : (place : ℕ) (of : TypeTree) → o.size ≤ place → cell_in place of (object_tree names t o) ≡ None
  behind_cell place of h =
      let cells = cells_in (structs_in names t) (at t.nodes o.of) in
      behind_by of o.alive (cell_at (with_values names o.values.entries cells) place) (cell_kept names o.values.entries cells place None (none_behind o.size place cells within_it h))

  by_scalar : (place : ℕ) (of : TypeTree) (found : Option Scalar) → option_and_then (of_type of) (option_map (its_cell place (value_at names o place)) (option_map (cell_type t) found))
      ≡ option_and_then (λ s. of_type of (kept_cell names t o place s)) found
  by_scalar place of None = refl
  by_scalar place of (Some s) = refl

  -- the cell that is found by going down the type
  found_cell : (place : ℕ) (of : TypeTree) (found : Option Scalar) → o.alive ≡ true → place < o.size → option_map (cell_type t) found ≡ find_cell (structs_in names t) (at t.nodes o.of) place
      → cell_in place of (object_tree names t o) ≡ option_and_then (λ s. if same_but_const (cell_type t s) of then Some (kept_cell names t o place s) else None) found
  found_cell place of found a h e =
      let (l, laid, size) = has_layout in
      let cells = cells_in (structs_in names t) (at t.nodes o.of) in
      let find : type_at cells place ≡ find_cell (structs_in names t) (at t.nodes o.of) place = finds_cell (structs_in names t) (at t.nodes o.of) l place laid (omega arith) in
      let own : cell_at cells place ≡ option_map (its_cell place None) (option_map (cell_type t) found) =
      found_within o.size place cells within_it ∙ ap (option_map (its_cell place None)) (find ∙ sym e) in
      let is = cell_kept names o.values.entries cells place (option_map (cell_type t) found) own in
      ap (λ b. cond b (option_and_then (of_type of) (cell_at (with_values names o.values.entries cells) place)) None) a ∙ ap (option_and_then (of_type of)) is ∙ by_scalar place of found

  pub none_found : (place : ℕ) (of : TypeTree) (found : Option Scalar) → o.alive ≡ true → place < o.size → option_map (cell_type t) found ≡ find_cell (structs_in names t) (at t.nodes o.of) place
      → found ≡ None → cell_in place of (object_tree names t o) ≡ None
  none_found place of found a h e n = found_cell place of found a h e ∙ rw n refl

  pub some_found : (place : ℕ) (of : TypeTree) (found : Option Scalar) (s : Scalar) (same : Bool) → o.alive ≡ true → place < o.size
      → option_map (cell_type t) found ≡ find_cell (structs_in names t) (at t.nodes o.of) place → found ≡ Some s → same_but_const (at t.nodes s.of) of ≡ same
      → cell_in place of (object_tree names t o) ≡ (if same then Some (kept_cell names t o place s) else None)
  some_found place of found s same a h e is b = found_cell place of found a h e ∙ rw (is, same_in_constant s.constant (at t.nodes s.of) of ∙ b) refl

-- ---- an object that comes to life

abbrev pub living : Owner → ℕ → List Cell → Object'
living owner size cells = record { owner = owner; size = size; cells = cells; alive = true }

pub none_fresh : (table : Table) (owner : Owner) (of : TypeTree) (found : Option Layout) → found ≡ layout_in table of → found ≡ None → None ≡ fresh table owner of
none_fresh table owner of found e n = let z : layout_in table of ≡ None = sym e ∙ n in rw z refl

pub some_fresh : (table : Table) (owner : Owner) (of : TypeTree) (found : Option Layout) (l : Layout) → found ≡ layout_in table of → found ≡ Some l → Some (living owner l.size (cells_in table of)) ≡ fresh table owner of
some_fresh table owner of found l e n = let z : layout_in table of ≡ Some l = sym e ∙ n in rw z refl

-- ---- what a read gives

module _ (names : ℕ → List ℕ) (t : TypeTable) (o : Object) (place : ℕ) where
  pub none_read : (found : Option Scalar) (cell : Option Cell) → option_map (kept_cell names t o place) found ≡ cell → found ≡ None → None ≡ option_and_then (λ (x : Cell). x.value) cell
  none_read found cell e n = let z : cell ≡ None = sym e ∙ ap (option_map (kept_cell names t o place)) n in rw z refl

  pub some_read : (found : Option Scalar) (cell : Option Cell) (s : Scalar) → option_map (kept_cell names t o place) found ≡ cell → found ≡ Some s → value_at names o place ≡ option_and_then (λ (x : Cell). x.value) cell
  some_read found cell s e is = let z : cell ≡ Some (kept_cell names t o place s) = sym e ∙ ap (option_map (kept_cell names t o place)) is in rw z refl
