-- What the second writer may do.
use Rattle.std.specs.Prelude.{ℕ, Bool, true, ◌&&◌, nat_le, nat_lt, List, [], ◌∷◌, length}
use Rattle.std.specs.List.{list_all}
use Rattle.pa_mem.specs.Memory.{Region, Read, Write, allowed}
use Rattle.pa_object.specs.declared.script.Deed.{Deed}
use Rattle.pa_object.specs.declared.script.Deed.TheVariants as deed
use Rattle.pa_object.specs.declared.script.Item.{Item}

-- what is written lies inside one region that may be written, and what is copied inside one that may be read
abbrev pub deed_fits : Deed → List Region → Bool
deed_fits (deed.Write at bytes) memory = allowed Write memory at (length bytes)
deed_fits (deed.Copy to from count) memory = allowed Read memory from count && allowed Write memory to count

-- the deed of each item fits
abbrev pub all_fit : List Item → List Region → Bool
all_fit [] memory = true
all_fit (item ∷ items) memory = deed_fits item.deed memory && all_fit items memory

-- how many bytes are written
abbrev pub size_of_deed : Deed → ℕ
size_of_deed (deed.Write at bytes) = length bytes
size_of_deed (deed.Copy to from count) = count

-- a copy of no more bytes than `Space::copy` of pa_mem moves; a write may be of any size
abbrev pub copy_is_short : Deed → Bool
copy_is_short (deed.Write at bytes) = true
copy_is_short (deed.Copy to from count) = nat_le count 4096

-- each is a number below 256
abbrev pub are_bytes : List ℕ → Bool
are_bytes bytes = list_all (λ byte. nat_lt byte 256) bytes

-- what is written is of bytes
abbrev pub writes_bytes : Deed → Bool
writes_bytes (deed.Write at bytes) = are_bytes bytes
writes_bytes (deed.Copy to from count) = true

-- a line writes or copies 1 to 4,096 bytes
abbrev pub is_line : Item → Bool
is_line item =
    nat_le 1 (size_of_deed item.deed) && (nat_le (size_of_deed item.deed) 4096 && writes_bytes item.deed)

abbrev pub all_lines : List Item → Bool
all_lines [] = true
all_lines (item ∷ items) = is_line item && all_lines items

-- the numbers of the items begin at this one or above it, and never fall
abbrev pub ordered_from : ℕ → List Item → Bool
ordered_from number [] = true
ordered_from number (item ∷ items) = nat_le number item.step && ordered_from item.step items

-- what a script is, whatever memory it is for: at most 65,536 lines, whose numbers never fall
abbrev pub is_script : List Item → Bool
is_script items = nat_le (length items) 65536 && (all_lines items && ordered_from 0 items)
