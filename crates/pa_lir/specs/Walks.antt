-- A walk over the places that are reached from the entry without a write of one temporary.
use Rattle.std.specs.Prelude.{◌≡◌, ◌≤◌, ◌<◌, ◌⊎◌, ℕ, ◌+◌, ◌*◌, Bool, true, false, not, ◌&&◌, ◌||◌, nat_lt, List, [], ◌∷◌, length, slice_get, slice_index_or, count_by, Some}
use Rattle.pa_lir.specs.declared.op.Op.{Op}
use Rattle.pa_lir.specs.declared.walk.Walk.{Walk}
use Rattle.pa_lir.specs.Parts.{written_by}
use Rattle.pa_lir.specs.Flow.{is_among, next_places, Follows, IsPath, Writes, Reads, WritesOn}

abbrev pub is_reached : Walk → ℕ → Bool
is_reached w at = slice_index_or w.reached.items at false

abbrev pub is_waiting : Walk → ℕ → Bool
is_waiting w at = is_among w.waiting.items at

-- what is still to be done: a place that isn't reached may yet wait
abbrev pub left : Walk → ℕ
left w = 2 * count_by not w.reached.items + length w.waiting.items

-- these places are reached, and those that weren't before wait
pub record Reaches (old new : Walk) (places : List ℕ) : Type 0 where
  pub count : length new.reached.items ≡ length old.reached.items
  pub reached : (at : ℕ) → is_reached new at ≡ (is_reached old at || (is_among places at && nat_lt at (length old.reached.items)))
  pub waiting : (at : ℕ) → is_waiting new at ≡ (is_waiting old at || (not (is_reached old at) && is_reached new at))
  pub less : left new ≤ left old

-- on some path to the place nothing writes the temporary before
abbrev pub IsUnwritten : List Op → ℕ → ℕ → Type 0
IsUnwritten ops t at = (before : List ℕ) × IsPath ops (at ∷ before) × (WritesOn ops t before → ⊥)

-- the place doesn't read the temporary, and it writes it or each place behind it is reached
pub record IsDone (ops : List Op) (t : ℕ) (w : Walk) (at : ℕ) : Type 0 where
  pub no_read : Reads ops t at → ⊥
  pub onward : Writes ops t at ⊎ ((next : ℕ) → Follows ops at next → next < length ops → is_reached w next ≡ true)

pub record IsWalk (ops : List Op) (t : ℕ) (w : Walk) : Type 0 where
  pub count : length w.reached.items ≡ length ops
  pub unwritten : (at : ℕ) → is_reached w at ≡ true → IsUnwritten ops t at
  pub waiting : (at : ℕ) → is_waiting w at ≡ true → is_reached w at ≡ true
  pub done : (at : ℕ) → is_reached w at ≡ true → (is_waiting w at ≡ true) ⊎ IsDone ops t w at
  pub entry : 0 < length ops → is_reached w 0 ≡ true

-- the places next behind one that doesn't write the temporary are reached
abbrev pub Passes : List Op → ℕ → ℕ → Walk → Walk → Type 0
Passes ops t at old new = (o : Op) × (slice_get ops at ≡ Some o) × (((written_by o ≡ Some t) × Reaches old new []) ⊎ ((written_by o ≡ Some t → ⊥) × Reaches old new (next_places ops at o)))
