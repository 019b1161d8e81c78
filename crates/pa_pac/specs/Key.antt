-- Keys and their numbers.
use Rattle.std.specs.Prelude.{ℕ, Bool, ◌==◌}
use Rattle.pa_pac.specs.declared.key.Key.{Key}
use Rattle.pa_pac.specs.declared.key.Key.TheVariants.{IA, IB, DA, DB, GA}

-- the number of a key in an image, and 4 for the generic key
abbrev pub key_number : Key → ℕ
key_number IA = 0
key_number IB = 1
key_number DA = 2
key_number DB = 3
key_number GA = 4

abbrev pub same_key : Key → Key → Bool
same_key a b = key_number a == key_number b
