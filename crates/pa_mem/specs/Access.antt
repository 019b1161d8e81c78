-- Rights that are asked for, and the sizes of an access.
use Rattle.std.specs.Prelude.{ℕ, Bool, not, ◌&&◌, ◌||◌}
use Rattle.pa_mem.specs.declared.access.Rights.{Rights}
use Rattle.pa_mem.specs.declared.access.Size.{Size}
use Rattle.pa_mem.specs.declared.access.Size.TheVariants.{B1, B2, B4, B8}

abbrev pub byte_count : Size → ℕ
byte_count B1 = 1
byte_count B2 = 2
byte_count B4 = 4
byte_count B8 = 8

-- each right that is asked for is among those held
abbrev pub includes : Rights → Rights → Bool
includes held asked = (not asked.read || held.read) && ((not asked.write || held.write) && (not asked.run || held.run))
