-- What a log says. In definitions a log has its newest entry first.
use Rattle.std.specs.Prelude.{ℕ, Bool, false, ◌==◌, ◌&&◌, ◌||◌, List, [], ◌∷◌}
use Rattle.pa_pac.specs.declared.key.Key.{Key}
use Rattle.pa_pac.specs.declared.event.Event.{Event}
use Rattle.pa_pac.specs.declared.event.Event.TheVariants.{Sign, Take, Land}
use Rattle.pa_pac.specs.declared.event.Entry.{Entry}
use Rattle.pa_pac.specs.Key.{same_key}

abbrev pub Log : Type 0
Log = List Entry

-- this event signs that raw address under that key and modifier
abbrev pub is_sign : Key → ℕ → ℕ → Event → Bool
is_sign key modifier raw (Sign k m r s) = same_key key k && (modifier == m && raw == r)
is_sign key modifier raw (Take k m r b) = false
is_sign key modifier raw (Land w t) = false

-- some entry of the log signs that raw address under that key and modifier
unfoldable pub is_known : Log → Key → ℕ → ℕ → Bool
is_known [] key modifier raw = false
is_known (entry ∷ older) key modifier raw = is_sign key modifier raw entry.event || is_known older key modifier raw
