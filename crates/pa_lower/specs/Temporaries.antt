-- The temporaries that the flat code of an expression may use.
use Rattle.std.specs.Prelude.{ℕ, suc, Option, Some, None, unwrap_or}
use Rattle.pa_lower.specs.declared.room.Room as room

-- Where the value of the expression goes; the first number from which on all are free; one more free one below that, if there is
-- one; and the one that has the place of the innermost store around the expression.
abbrev pub Room : Type 0
Room = room.Room

-- of a part that is evaluated while the value of the one before waits
abbrev pub next_room : Room → Room
next_room r = record { to = r.free; free = suc r.free; spare = None; same = r.same }

-- where a store keeps its place
abbrev pub place_temp : Room → ℕ
place_temp r = unwrap_or r.spare r.free

abbrev pub free_after : Option ℕ → ℕ → ℕ
free_after (Some spare) free = free
free_after None free = suc free

-- the first free one after that
abbrev pub free_after_place : Room → ℕ
free_after_place r = free_after r.spare r.free

-- of the place that is stored at: the store's own value isn't there yet
abbrev pub place_room : Room → Room
place_room r = record { to = place_temp r; free = free_after_place r; spare = Some r.to; same = r.same }

-- of the value that is stored and given
abbrev pub value_room : Room → Room
value_room r = record { to = r.to; free = free_after_place r; spare = None; same = Some (place_temp r) }

-- of the value that is stored where the one before is given
abbrev pub other_room : Room → Room
other_room r = record { to = free_after_place r; free = suc (free_after_place r); spare = None; same = Some (place_temp r) }

-- of a whole expression in a statement
abbrev pub whole_room : Room
whole_room = record { to = 0; free = 1; spare = None; same = None }
