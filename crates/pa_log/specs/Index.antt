-- The index of what was signed.
use Rattle.std.specs.Prelude.{◌≡◌, Bool, false, ◌==◌, ◌&&◌, ◌||◌, List}
use Rattle.std.specs.List.{list_any}
use Rattle.pa_pac.specs.declared.event.Event.{Event}
use Rattle.pa_pac.specs.declared.event.Event.TheVariants.{Sign, Take, Land}
use Rattle.pa_pac.specs.declared.event.Entry.{Entry}
use Rattle.pa_pac.specs.Key.{key_number}
use Rattle.pa_log.specs.declared.signing.Signing.{Signing}

abbrev pub same : Signing → Signing → Bool
same a b = a.key == b.key && (a.modifier == b.modifier && a.raw == b.raw)

-- this event signs that raw address under that key and modifier
abbrev pub signs : Signing → Event → Bool
signs signing (Sign k m r s) = signing.key == key_number k && (signing.modifier == m && signing.raw == r)
signs signing (Take k m r b) = false
signs signing (Land w t) = false

-- some entry does
abbrev pub any_signs : Signing → List Entry → Bool
any_signs signing entries = list_any (λ entry. signs signing entry.event) entries

-- the new list has what the old one has, and this one
abbrev pub Notes : List Signing → Signing → List Signing → Type 0
Notes old signing new =
    (other : Signing) → list_any (same other) new ≡ (same other signing || list_any (same other) old)

-- the list has what the entries sign, and nothing else
abbrev pub IsIndex : List Signing → List Entry → Type 0
IsIndex signed entries = (signing : Signing) → list_any (same signing) signed ≡ any_signs signing entries
