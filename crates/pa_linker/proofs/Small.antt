-- Where the sections of a linked image begin.
use Rattle.std.proofs.Common.{ℕ, ◌+◌, ◌*◌, ◌≤◌, ◌<◌, ◌^◌, arith}
use Rattle.pa_macho.specs.Layout.{places_of}
use Rattle.pa_linker.specs.Layout.{header_with}
use Rattle.pa_linker.specs.Tables.{most_words, most_data}

-- each section begins below 2^23
pub record BeginLow (words imports literals variables : ℕ) : Type 0 where
  pub stubs : (places_of (header_with words imports literals variables)).stubs < 2 ^ 23
  pub consts : (places_of (header_with words imports literals variables)).consts < 2 ^ 23
  pub got : (places_of (header_with words imports literals variables)).got < 2 ^ 23
  pub cells : (places_of (header_with words imports literals variables)).cells < 2 ^ 23
  pub room : (places_of (header_with words imports literals variables)).got + 8 * imports ≤ (places_of (header_with words imports literals variables)).cells
  pub order : (places_of (header_with words imports literals variables)).got ≤ (places_of (header_with words imports literals variables)).cells

pub places_small : (words imports literals variables : ℕ) → words ≤ most_words → imports ≤ 2 → literals ≤ most_data → BeginLow words imports literals variables
unfolding places_of
places_small words imports literals variables w i l = record { stubs = omega arith; consts = omega arith; got = omega arith; cells = omega arith; room = omega arith; order = omega arith }
